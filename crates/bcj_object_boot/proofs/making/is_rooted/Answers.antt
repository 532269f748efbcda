use Rattle.std.proofs.Common.{subst}
use Rattle.bcj_elf.specs.Plain.{plain}
use Rattle.bcj_linker_objects.specs.Names.{heads_in}
use Rattle.bcj_hier_rules.specs.Heads.{IsRooted}
use Rattle.bcj_object_boot.proofs.making.is_rooted.Goals as goal

pub returns : goal.returns
returns c is = (
  record { object = plain c.in-Ok.object; classes = c.in-Ok-read_class.records.classes },
  (
    record {
      object = c.in-Ok.ensures.found.0;
      spelled = c.in-Ok.ensures.found.1;
      version = c.in-Ok-read_class.records.version;
      meets = c.in-Ok-read_class.ensures.found.0;
      recorded = c.in-Ok-read_class.ensures.found.1;
    },
    subst (λ cs. IsRooted (heads_in cs)) c.as_slice.ensures (c.are_rooted.ensures is),
  ),
)

-- Objects that fit a list of classes.
use Rattle.std.specs.Prelude.{◌≡◌, List, map, length}
use Rattle.std.specs.List.{All}
use Rattle.bcj_elf.specs.Plain.{plain}
use Rattle.bcj_elf.specs.Rules.{IsObject}
use Rattle.bcj_layout_rules.specs.Rows.{Classes}
use Rattle.bcj_linker_objects.specs.declared.gathered.GatheredObject.{GatheredObject}
use Rattle.bcj_linker_objects.specs.Gathering.{linked_in}

-- each is well formed and has as many classes as it says
pub record AreObjects (cs : Classes) (objects : List GatheredObject) : Type 0 where
  pub formed : All (λ o. IsObject (plain o.object)) objects
  pub counted : map (λ o. o.classes) objects ≡ map (λ l. length l.classes) (linked_in objects cs)

use Rattle.std.proofs.Common.{◌∙◌, ap, sym, arith, Some, map}
use Rattle.bcj_parser_trees.specs.Plain as tree
use Rattle.bcj_symbolic_trees.specs.Units.{plain_of}
use Rattle.bcj_typing.specs.declared.stop.Limited.TheVariants as limited
use Rattle.bcj_typing.proofs.Passing.{object_over, object_within}
use Rattle.bcj_typing.proofs.limits.object_past.Goals as goal

pub returns-then-measured-gt-OBJECT_LIMIT : goal.returns-then-measured-gt-OBJECT_LIMIT
returns-then-measured-gt-OBJECT_LIMIT c =
    ap (λ n. Some (record { what = limited.Object; at = n })) c.object_place.ensures
    ∙ sym (object_over (map tree.type_of c.args.decls.now) (plain_of c.args.unit.now) c.in_ok-measured.measured.object c.in_ok-measured.ensures.object (omega arith))

pub returns : goal.returns
returns c = sym (object_within (map tree.type_of c.args.decls.now) (plain_of c.args.unit.now) c.in_ok-measured.measured.object c.in_ok-measured.ensures.object (omega arith))

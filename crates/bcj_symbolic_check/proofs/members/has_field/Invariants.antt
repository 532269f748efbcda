use Rattle.std.proofs.Common.{◌≡◌, drop, map}
use Rattle.std.specs.List.{list_any}
use Rattle.bcj_symbolic_trees.specs.Units.{field_of}
use Rattle.bcj_symbolic_check.specs.Classes as spec
use Rattle.bcj_symbolic_check.proofs.members.has_field.Given as goal

abbrev pub invariant-loop-other : goal.invariant-loop-other
invariant-loop-other l = list_any (spec.same_field (field_of l.field)) (map field_of (drop l.other-index l.others)) ≡ list_any (spec.same_field (field_of l.field)) (map field_of l.others)

use Rattle.std.proofs.Common.{◌≡◌, map, length}
use Rattle.bcj_symbolic_trees.specs.Units.{field_of}
use Rattle.bcj_symbolic_check.specs.Classes as spec
use Rattle.bcj_symbolic_check.proofs.members.fields_differ.Given as goal

abbrev pub invariant-loop-rest : goal.invariant-loop-rest
invariant-loop-rest l = spec.fields_differ (map field_of l.rest) ≡ spec.fields_differ (map field_of l.fields)

abbrev pub decreases-loop-rest : goal.decreases-loop-rest
decreases-loop-rest l = length l.rest

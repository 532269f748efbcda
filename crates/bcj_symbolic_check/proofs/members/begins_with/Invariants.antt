use Rattle.std.proofs.Common.{◌≡◌, drop}
use Rattle.bcj_symbolic_check.specs.Classes as spec
use Rattle.bcj_symbolic_trees.specs.Types.{types_of}
use Rattle.bcj_symbolic_check.proofs.members.begins_with.Given as goal

abbrev pub invariant-loop-ty : goal.invariant-loop-ty
invariant-loop-ty l = spec.begins_with (types_of (drop l.ty-index l.first)) (types_of l.rest) ≡ spec.begins_with (types_of l.first) (types_of l.types)

use Rattle.std.proofs.Common.{◌≡◌, drop}
use Rattle.bcj_symbolic_trees.specs.Types.{types_of}
use Rattle.std.specs.List.{list_all}
use Rattle.bcj_symbolic_check.specs.Steps.{is_value_type}
use Rattle.bcj_symbolic_check.proofs.types.are_value_types.Given as goal

abbrev pub invariant-loop-ty : goal.invariant-loop-ty
invariant-loop-ty l = list_all is_value_type (types_of (drop l.ty-index l.types)) ≡ list_all is_value_type (types_of l.types)

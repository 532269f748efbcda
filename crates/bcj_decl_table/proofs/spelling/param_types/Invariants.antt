use Rattle.std.proofs.Common.{◌≡◌, ◌++◌, drop}
use Rattle.bcj_symbolic_trees.specs.Types.{types_of}
use Rattle.bcj_decl_rules.specs.World as spec
use Rattle.bcj_decl_table.proofs.spelling.param_types.Given as goal

abbrev pub invariant-loop-param : goal.invariant-loop-param
invariant-loop-param l = types_of l.types ++ spec.param_types (drop l.param-index l.params) ≡ spec.param_types l.params

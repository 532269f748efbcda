use Rattle.std.proofs.Common.{◌≡◌, ◌++◌, drop}
use Rattle.bcj_symbolic_trees.specs.Types.{types_of}
use Rattle.bcj_decl_rules.specs.World as world
use Rattle.bcj_typing_rules.specs.Members as spec
use Rattle.bcj_typing_member.proofs.params.first_types.Given as goal

abbrev pub invariant-loop-param : goal.invariant-loop-param
invariant-loop-param l = types_of l.types ++ world.param_types (drop l.param-index l.params) ≡ spec.first_types l.class l.is_static (world.param_types l.params)

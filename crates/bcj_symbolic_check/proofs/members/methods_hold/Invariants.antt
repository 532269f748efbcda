use Rattle.std.proofs.Common.{◌≡◌, drop, map}
use Rattle.std.specs.List.{list_all}
use Rattle.bcj_symbolic_trees.specs.Units.{method_of}
use Rattle.bcj_symbolic_check.specs.Classes as spec
use Rattle.bcj_symbolic_check.proofs.members.methods_hold.Given as goal

abbrev pub invariant-loop-method : goal.invariant-loop-method
invariant-loop-method l = list_all (spec.method_holds l.interface l.class) (map method_of (drop l.method-index l.methods)) ≡ list_all (spec.method_holds l.interface l.class) (map method_of l.methods)

use Rattle.std.proofs.Common.{◌≡◌, drop, map}
use Rattle.bcj_symbolic_trees.specs.Units.{method_of}
use Rattle.bcj_symbolic_check.specs.Classes as spec
use Rattle.bcj_symbolic_check.proofs.members.has_constructor.Given as goal

abbrev pub invariant-loop-method : goal.invariant-loop-method
invariant-loop-method l = spec.has_constructor (map method_of (drop l.method-index l.methods)) ≡ spec.has_constructor (map method_of l.methods)

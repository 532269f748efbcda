use Rattle.std.proofs.Common.{◌≡◌, drop, map}
use Rattle.bcj_symbolic_trees.specs.Units.{method_of, class_of}
use Rattle.bcj_symbolic_check.specs.Classes as spec
use Rattle.bcj_symbolic_check.specs.function.Walks.{noted}
use Rattle.bcj_symbolic_check.proofs.class.methods.Given as goal

abbrev pub invariant-loop-method : goal.invariant-loop-method
invariant-loop-method l = noted l.walk (spec.methods_marks (class_of l.class) (map method_of (drop l.method-index l.all))) ≡ noted l.fn.walk (spec.methods_marks (class_of l.class) (map method_of l.all))

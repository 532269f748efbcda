use Rattle.std.proofs.Common.{◌≡◌, ◌++◌, drop, map}
use Rattle.bcj_symbolic_trees.specs.Units.{class_of, method_of}
use Rattle.bcj_symbolic_measure.specs.Measures.{body_sizes, method_sizes}
use Rattle.bcj_symbolic_measure.proofs.sizes.body_sizes.Given as goal

abbrev pub invariant-loop-one : goal.invariant-loop-one
invariant-loop-one l = l.sizes ++ method_sizes (class_of l.class) (map method_of (drop l.one-index l.one-items)) ≡ body_sizes (class_of l.class)

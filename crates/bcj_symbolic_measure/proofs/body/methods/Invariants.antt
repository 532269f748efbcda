use Rattle.std.proofs.Common.{◌≡◌, drop, map}
use Rattle.bcj_symbolic_trees.specs.Units.{class_of, method_of}
use Rattle.bcj_symbolic_measure.specs.Bodies.{methods_pieces}
use Rattle.bcj_symbolic_measure.specs.function.Counts.{counts_of, bodies_noted}
use Rattle.bcj_symbolic_measure.proofs.body.methods.Given as goal

abbrev pub invariant-loop-one : goal.invariant-loop-one
invariant-loop-one l = bodies_noted (counts_of l.tally) (methods_pieces (class_of l.class) (map method_of (drop l.one-index l.all))) ≡ bodies_noted (counts_of l.fn.tally) (methods_pieces (class_of l.class) (map method_of l.all))

use Rattle.std.proofs.Common.{◌≡◌, drop, map}
use Rattle.bcj_symbolic_trees.specs.Units.{method_of}
use Rattle.bcj_symbolic_measure.specs.Totals.{capped, larger}
use Rattle.bcj_symbolic_measure.specs.Bodies.{methods_frame_size}
use Rattle.bcj_symbolic_measure.proofs.body.methods_frame.Given as goal

abbrev pub invariant-loop-method : goal.invariant-loop-method
invariant-loop-method l = record { fits : capped l.largest ≡ l.largest; sums : capped (larger l.largest (methods_frame_size (map method_of (drop l.method-index l.all)))) ≡ capped (methods_frame_size (map method_of l.all)) }

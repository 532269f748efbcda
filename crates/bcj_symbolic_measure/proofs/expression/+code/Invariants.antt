use Rattle.std.proofs.Common.{◌≡◌, drop}
use Rattle.bcj_symbolic_trees.specs.Plain.{exprs_of}
use Rattle.bcj_symbolic_check.specs.function.Views.{frame_of}
use Rattle.bcj_symbolic_measure.specs.Scheme.{args_pieces, exprs_pieces}
use Rattle.bcj_symbolic_measure.specs.function.Counts.{counts_of, noted}
use Rattle.bcj_symbolic_measure.proofs.expression.+code.Given as goal

abbrev pub invariant-arguments-loop-argument : goal.invariant-arguments-loop-argument
invariant-arguments-loop-argument l = noted (counts_of l.tally) (args_pieces (frame_of l.body) (exprs_of (drop l.argument-index l.args))) ≡ noted (counts_of l.fn.tally) (args_pieces (frame_of l.body) (exprs_of l.args))

abbrev pub invariant-expressions-loop-e : goal.invariant-expressions-loop-e
invariant-expressions-loop-e l = noted (counts_of l.tally) (exprs_pieces (frame_of l.body) (exprs_of (drop l.e-index l.all))) ≡ noted (counts_of l.fn.tally) (exprs_pieces (frame_of l.body) (exprs_of l.all))

use Rattle.std.proofs.Common.{◌≡◌, drop}
use Rattle.bcj_symbolic_trees.specs.Plain.{stmts_of, catches_of}
use Rattle.bcj_symbolic_check.specs.function.Views.{frame_of}
use Rattle.bcj_symbolic_measure.specs.Scheme.{stmts_pieces, catches_pieces}
use Rattle.bcj_symbolic_measure.specs.function.Counts.{counts_of, noted}
use Rattle.bcj_symbolic_measure.proofs.statement.+statement.Given as goal

abbrev pub invariant-handlers-loop-handler : goal.invariant-handlers-loop-handler
invariant-handlers-loop-handler l = noted (counts_of l.tally) (catches_pieces (frame_of l.body) (catches_of (drop l.handler-index l.catches))) ≡ noted (counts_of l.fn.tally) (catches_pieces (frame_of l.body) (catches_of l.catches))

abbrev pub invariant-statements-loop-one : goal.invariant-statements-loop-one
invariant-statements-loop-one l = noted (counts_of l.tally) (stmts_pieces (frame_of l.body) (stmts_of (drop l.one-index l.all))) ≡ noted (counts_of l.fn.tally) (stmts_pieces (frame_of l.body) (stmts_of l.all))

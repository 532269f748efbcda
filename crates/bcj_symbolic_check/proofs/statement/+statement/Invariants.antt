use Rattle.std.proofs.Common.{◌≡◌, drop}
use Rattle.bcj_symbolic_trees.specs.Plain.{stmts_of, catches_of}
use Rattle.bcj_symbolic_check.specs.Statements.{stmts_marks, catches_marks}
use Rattle.bcj_symbolic_check.specs.function.Views.{frame_of}
use Rattle.bcj_symbolic_check.specs.function.Walks.{noted}
use Rattle.bcj_symbolic_check.proofs.statement.+statement.Given as goal

abbrev pub invariant-handlers-loop-handler : goal.invariant-handlers-loop-handler
invariant-handlers-loop-handler l = noted l.walk (catches_marks (frame_of l.body) l.looped (catches_of (drop l.handler-index l.catches))) ≡ noted l.fn.walk (catches_marks (frame_of l.body) l.looped (catches_of l.catches))

abbrev pub invariant-statements-loop-one : goal.invariant-statements-loop-one
invariant-statements-loop-one l = noted l.walk (stmts_marks (frame_of l.body) l.looped (stmts_of (drop l.one-index l.all))) ≡ noted l.fn.walk (stmts_marks (frame_of l.body) l.looped (stmts_of l.all))

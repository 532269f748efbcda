use Rattle.std.proofs.Common.{◌≡◌, drop}
use Rattle.bcj_symbolic_trees.specs.Plain.{exprs_of}
use Rattle.bcj_symbolic_check.specs.Statements.{exprs_marks}
use Rattle.bcj_symbolic_check.specs.function.Views.{frame_of}
use Rattle.bcj_symbolic_check.specs.function.Walks.{noted}
use Rattle.bcj_symbolic_check.proofs.statement.expressions.Given as goal

abbrev pub invariant-loop-e : goal.invariant-loop-e
invariant-loop-e l = noted l.walk (exprs_marks (frame_of l.body) (exprs_of (drop l.e-index l.all))) ≡ noted l.fn.walk (exprs_marks (frame_of l.body) (exprs_of l.all))

use Rattle.std.proofs.Common.{◌≡◌, drop, ◌&&◌}
use Rattle.bcj_symbolic_trees.specs.Types.{types_of}
use Rattle.bcj_symbolic_trees.specs.Plain.{exprs_of}
use Rattle.bcj_symbolic_check.specs.Judgements.{arguments_step, sorts}
use Rattle.bcj_symbolic_check.specs.Statements.{exprs_marks}
use Rattle.bcj_symbolic_check.specs.function.Views.{frame_of}
use Rattle.bcj_symbolic_check.specs.function.Walks.{noted}
use Rattle.bcj_symbolic_check.proofs.expression.+expression.Given as goal

abbrev pub invariant-arguments-loop-argument : goal.invariant-arguments-loop-argument
invariant-arguments-loop-argument l = record {
  marks : noted l.walk (exprs_marks (frame_of l.body) (exprs_of (drop l.argument-index l.args))) ≡ noted l.fn.walk (exprs_marks (frame_of l.body) (exprs_of l.args));
  fit : (l.fit && arguments_step (frame_of l.body).pairs (sorts (frame_of l.body) (exprs_of (drop l.argument-index l.args))) (types_of l.rest)) ≡ arguments_step (frame_of l.body).pairs (sorts (frame_of l.body) (exprs_of l.args)) (types_of l.params);
}

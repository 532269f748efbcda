use Rattle.bcj_symbolic_measure.proofs.WalkLemmas.{args_more, args_done, exprs_more, exprs_done}
use Rattle.bcj_symbolic_measure.proofs.expression.+code.Goals as goal

pub arguments-loop-argument-preserved : goal.arguments-loop-argument-preserved
arguments-loop-argument-preserved t c = args_more _ _ _ _ _ _ _ _ c.loop-argument-test.true c.argument-item.is c.in_ok-expression.ensures c.plain.ensures c.loop-argument.invariant

pub arguments-returns : goal.arguments-returns
arguments-returns t c = args_done _ _ _ _ _ c.loop-argument-test.false c.loop-argument.invariant

pub expressions-loop-e-preserved : goal.expressions-loop-e-preserved
expressions-loop-e-preserved t c = exprs_more _ _ _ _ _ _ _ c.loop-e-test.true c.e-item.is c.in_ok-expression.ensures c.loop-e.invariant

pub expressions-returns : goal.expressions-returns
expressions-returns t c = exprs_done _ _ _ _ _ c.loop-e-test.false c.loop-e.invariant

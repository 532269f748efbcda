use Rattle.bcj_symbolic_check.proofs.StepLemmas.{exprs_more, exprs_done}
use Rattle.bcj_symbolic_check.proofs.statement.expressions.Goals as goal

pub loop-e-preserved : goal.loop-e-preserved
loop-e-preserved c = exprs_more _ _ _ _ _ _ _ c.loop-e-test.true c.e-item.is c.expression.ensures.marks c.loop-e.invariant

pub returns : goal.returns
returns c = exprs_done _ _ _ _ _ c.loop-e-test.false c.loop-e.invariant

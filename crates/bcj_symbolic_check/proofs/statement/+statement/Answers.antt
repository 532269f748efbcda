use Rattle.bcj_symbolic_check.proofs.StepLemmas.{stmts_more, stmts_done, catches_more, catches_done}
use Rattle.bcj_symbolic_check.proofs.statement.+statement.Goals as goal

pub handlers-loop-handler-preserved : goal.handlers-loop-handler-preserved
handlers-loop-handler-preserved t c = catches_more _ _ _ _ _ _ _ _ _ c.loop-handler-test.true c.handler-item.is c.as_slice.ensures c.statements.ensures c.loop-handler.invariant

pub handlers-returns : goal.handlers-returns
handlers-returns t c = catches_done _ _ _ _ _ _ c.loop-handler-test.false c.loop-handler.invariant

pub statements-loop-one-preserved : goal.statements-loop-one-preserved
statements-loop-one-preserved t c = stmts_more _ _ _ _ _ _ _ _ c.loop-one-test.true c.one-item.is c.statement.ensures c.loop-one.invariant

pub statements-returns : goal.statements-returns
statements-returns t c = stmts_done _ _ _ _ _ _ c.loop-one-test.false c.loop-one.invariant

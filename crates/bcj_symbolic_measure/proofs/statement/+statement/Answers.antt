use Rattle.bcj_symbolic_measure.proofs.WalkLemmas.{stmts_more, stmts_done, catches_more, catches_done}
use Rattle.bcj_symbolic_measure.proofs.statement.+statement.Goals as goal

pub statements-loop-one-preserved : goal.statements-loop-one-preserved
statements-loop-one-preserved t c = stmts_more _ _ _ _ _ _ _ c.loop-one-test.true c.one-item.is c.in_ok-statement.ensures c.loop-one.invariant

pub statements-returns : goal.statements-returns
statements-returns t c = stmts_done _ _ _ _ _ c.loop-one-test.false c.loop-one.invariant

pub handlers-loop-handler-preserved : goal.handlers-loop-handler-preserved
handlers-loop-handler-preserved t c = catches_more _ _ _ _ _ _ _ _ _ _ _ _ c.loop-handler-test.true c.handler-item.is c.as_str.ensures c.as_slice.ensures c.handled.ensures c.plain.ensures c.in_ok-statements.ensures c.plain-in-loop-handler.ensures c.loop-handler.invariant

pub handlers-returns : goal.handlers-returns
handlers-returns t c = catches_done _ _ _ _ _ c.loop-handler-test.false c.loop-handler.invariant

use Rattle.bcj_cli_unit.proofs.Building.{chosen, build_more, build_done}
use Rattle.bcj_cli_unit.proofs.build.+statement.Goals as goal

pub statement-returns-in_ok-otherwise-in-If : goal.statement-returns-in_ok-otherwise-in-If
statement-returns-in_ok-otherwise-in-If t c = chosen _ _ _ _ _ _ _ _ _ c.in-If.is c.in_ok-condition-in-If.ensures c.get.ensures c.in_ok-first-in-If.ensures c.in_ok-otherwise-in-If.ensures

pub statements-loop-one-preserved : goal.statements-loop-one-preserved
statements-loop-one-preserved t c = build_more _ _ _ _ _ _ _ c.loop-one-test.true c.one-item.is c.in_ok-statement.ensures c.in_ok-push.ensures.ok c.loop-one.invariant

pub statements-returns : goal.statements-returns
statements-returns t c = build_done _ _ _ _ c.loop-one-test.false c.loop-one.invariant

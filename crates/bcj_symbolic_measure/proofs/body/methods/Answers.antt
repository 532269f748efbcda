use Rattle.bcj_symbolic_measure.proofs.WalkLemmas.{methods_more, methods_done}
use Rattle.bcj_symbolic_measure.proofs.body.methods.Goals as goal

pub loop-one-preserved : goal.loop-one-preserved
loop-one-preserved c = methods_more _ _ _ _ _ _ _ _ c.loop-one-test.true c.one-item.is c.in_ok-method.ensures c.close.ensures c.loop-one.invariant

pub returns : goal.returns
returns c = methods_done _ _ _ _ _ c.loop-one-test.false c.loop-one.invariant

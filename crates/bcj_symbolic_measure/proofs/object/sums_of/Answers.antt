use Rattle.bcj_symbolic_measure.proofs.StepLemmas.{classes_more, classes_done}
use Rattle.bcj_symbolic_measure.proofs.object.sums_of.Goals as goal

pub loop-class-preserved : goal.loop-class-preserved
loop-class-preserved c = classes_more _ _ _ _ _ _ c.loop-class-test.true c.class-item.is c.in_ok-sums.ensures c.loop-class.invariant

pub returns : goal.returns
returns c = classes_done _ _ _ _ c.loop-class-test.false c.loop-class.invariant

use Rattle.bcj_symbolic_measure.proofs.SizeLemmas.{sizes-more, sizes-done}
use Rattle.bcj_symbolic_measure.proofs.sizes.body_sizes.Goals as goal

pub loop-one-preserved : goal.loop-one-preserved
loop-one-preserved c = sizes-more _ _ _ _ _ _ _ _ c.loop-one-test.true c.one-item.is c.in_ok-method_size.ensures c.in_ok-push-2.ensures.ok c.loop-one.invariant

pub returns : goal.returns
returns c = sizes-done _ _ _ _ _ c.loop-one-test.false c.loop-one.invariant

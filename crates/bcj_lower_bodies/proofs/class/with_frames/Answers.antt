use Rattle.bcj_lower_bodies.proofs.Whole.{frame_at, all_more}
use Rattle.bcj_lower_bodies.proofs.class.with_frames.Goals as goal

pub method_body-requires : goal.method_body-requires
method_body-requires c = frame_at _ _ _ _ _ _ c.requires c.as_slice-method-items.ensures c.loop-at-test.true c.method-item.is

pub loop-at-preserved : goal.loop-at-preserved
loop-at-preserved c = all_more _ _ _ _ _ _ _ _ c.loop-at-test.true c.method-item.is c.in_ok-method_body.ensures c.in_ok-push-2.ensures.items c.loop-at.invariant

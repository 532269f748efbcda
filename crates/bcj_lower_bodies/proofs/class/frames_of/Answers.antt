use Rattle.bcj_lower_bodies.proofs.Whole.{frames_made, within_made, stop_made}
use Rattle.bcj_lower_bodies.proofs.class.frames_of.Goals as goal

pub returns-clause-frames : goal.returns-clause-frames
returns-clause-frames c =
    frames_made c.long_is_measured.ensures _ _ _ c.as_slice.ensures c.in_ok-sizes.ensures _ _ c.frames_within.ensures.within c.frames_within.ensures.frames

pub returns-clause-within : goal.returns-clause-within
returns-clause-within c = within_made c.long_is_measured.ensures _ _ _ c.as_slice.ensures c.in_ok-sizes.ensures _ c.frames_within.ensures.within

pub returns-clause-too_large : goal.returns-clause-too_large
returns-clause-too_large c = stop_made c.long_is_measured.ensures _ _ _ c.as_slice.ensures c.in_ok-sizes.ensures _ c.frames_within.ensures.too_large

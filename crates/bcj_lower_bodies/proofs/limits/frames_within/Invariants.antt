use Rattle.std.proofs.Common.{◌≡◌, ◌++◌, drop}
use Rattle.bcj_lower_bodies.specs.function.Sizes.{frames_of, sizes_excess}
use Rattle.bcj_lower_bodies.proofs.limits.frames_within.Given as goal

abbrev pub invariant-loop-size : goal.invariant-loop-size
invariant-loop-size l = record {
  frames : l.frames.items ++ frames_of (drop l.size-index l.sizes) ≡ frames_of l.sizes;
  within : sizes_excess (drop l.size-index l.sizes) ≡ sizes_excess l.sizes;
}

use Rattle.std.proofs.Common.{◌≡◌, drop}
use Rattle.bcj_typing.specs.Passed.{sizes_past}
use Rattle.bcj_typing.proofs.limits.sizes_past.Given as goal

abbrev pub invariant-loop-index : goal.invariant-loop-index
invariant-loop-index l = sizes_past (drop l.index l.places) (drop l.index l.sizes) ≡ sizes_past l.places l.sizes

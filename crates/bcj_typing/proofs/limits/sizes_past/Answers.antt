use Rattle.std.proofs.Common.{◌∙◌, sym, arith}
use Rattle.bcj_typing.proofs.Passing.{sizes_end}
use Rattle.bcj_typing.proofs.limits.sizes_past.Goals as goal

pub returns-then-index-sizes : goal.returns-then-index-sizes
returns-then-index-sizes c = sym (sizes_end c.args.places.now c.args.sizes.now c.loop-index.index (omega arith)) ∙ c.loop-index.invariant

use Rattle.std.proofs.Common.{refl, map}
use Rattle.bcj_symbolic_trees.specs.Units.{pair_of}
use Rattle.bcj_symbolic_measure.specs.Objects.{pairs_size}
use Rattle.bcj_symbolic_measure.proofs.StepLemmas.{sum_done}
use Rattle.bcj_symbolic_measure.proofs.record.pairs.Goals as goal

pub returns : goal.returns
returns c = sum_done (λ l. pairs_size (map pair_of l)) refl _ _ _ _ c.loop-pair-test.false c.loop-pair.invariant.fits c.loop-pair.invariant.sums

use Rattle.std.proofs.Common.{refl, length}
use Rattle.bcj_symbolic_trees.specs.Types.{types_of}
use Rattle.bcj_symbolic_trees.specs.Descriptors.{descriptors}
use Rattle.bcj_symbolic_measure.proofs.StepLemmas.{sum_done}
use Rattle.bcj_symbolic_measure.proofs.record.all_described.Goals as goal

pub returns : goal.returns
returns c = sum_done (λ l. length (descriptors (types_of l))) refl _ _ _ _ c.loop-ty-test.false c.loop-ty.invariant.fits c.loop-ty.invariant.sums

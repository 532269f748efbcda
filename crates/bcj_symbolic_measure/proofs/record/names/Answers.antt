use Rattle.std.proofs.Common.{refl}
use Rattle.bcj_symbolic_measure.specs.Objects.{names_size}
use Rattle.bcj_symbolic_measure.proofs.StepLemmas.{sum_done}
use Rattle.bcj_symbolic_measure.proofs.record.names.Goals as goal

pub returns : goal.returns
returns c = sum_done (λ l. names_size l) refl _ _ _ _ c.loop-one-test.false c.loop-one.invariant.fits c.loop-one.invariant.sums

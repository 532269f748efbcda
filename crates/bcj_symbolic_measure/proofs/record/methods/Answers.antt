use Rattle.std.proofs.Common.{refl, map}
use Rattle.bcj_symbolic_trees.specs.Units.{method_of}
use Rattle.bcj_symbolic_measure.specs.Objects.{methods_size}
use Rattle.bcj_symbolic_measure.proofs.StepLemmas.{sum_done}
use Rattle.bcj_symbolic_measure.proofs.record.methods.Goals as goal

pub returns : goal.returns
returns c = sum_done (λ l. methods_size (map method_of l)) refl _ _ _ _ c.loop-one-test.false c.loop-one.invariant.fits c.loop-one.invariant.sums

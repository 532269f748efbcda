use Rattle.std.proofs.Common.{refl, map}
use Rattle.bcj_symbolic_trees.specs.Units.{field_of}
use Rattle.bcj_symbolic_measure.specs.Objects.{fields_size}
use Rattle.bcj_symbolic_measure.proofs.StepLemmas.{sum_done}
use Rattle.bcj_symbolic_measure.proofs.record.fields.Goals as goal

pub returns : goal.returns
returns c = sum_done (λ l. fields_size (map field_of l)) refl _ _ _ _ c.loop-one-test.false c.loop-one.invariant.fits c.loop-one.invariant.sums

use Rattle.std.proofs.Common.{refl, map}
use Rattle.bcj_symbolic_measure.specs.Entries.{entries_size}
use Rattle.bcj_symbolic_measure.specs.function.Counts.{entry_of}
use Rattle.bcj_symbolic_measure.proofs.StepLemmas.{sum_done}
use Rattle.bcj_symbolic_measure.proofs.record.table_entries.Goals as goal

pub returns : goal.returns
returns c = sum_done (λ l. entries_size (map entry_of l)) refl _ _ _ _ c.loop-one-test.false c.loop-one.invariant.fits c.loop-one.invariant.sums

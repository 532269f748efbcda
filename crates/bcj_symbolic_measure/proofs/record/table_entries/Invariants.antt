use Rattle.std.proofs.Common.{◌≡◌, map, drop}
use Rattle.bcj_symbolic_measure.specs.Entries.{entries_size}
use Rattle.bcj_symbolic_measure.specs.function.Counts.{entry_of}
use Rattle.bcj_symbolic_measure.specs.Totals.{capped, plus}
use Rattle.bcj_symbolic_measure.proofs.record.table_entries.Given as goal

abbrev pub invariant-loop-one : goal.invariant-loop-one
invariant-loop-one l = record { fits : capped l.sum ≡ l.sum; sums : plus l.sum (entries_size (map entry_of (drop l.one-index l.all))) ≡ plus l.total (entries_size (map entry_of l.all)) }

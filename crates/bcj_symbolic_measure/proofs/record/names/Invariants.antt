use Rattle.std.proofs.Common.{◌≡◌, drop}
use Rattle.bcj_symbolic_measure.specs.Objects.{names_size}
use Rattle.bcj_symbolic_measure.specs.Totals.{capped, plus}
use Rattle.bcj_symbolic_measure.proofs.record.names.Given as goal

abbrev pub invariant-loop-one : goal.invariant-loop-one
invariant-loop-one l = record { fits : capped l.sum ≡ l.sum; sums : plus l.sum (names_size (drop l.one-index l.all)) ≡ plus l.total (names_size l.all) }

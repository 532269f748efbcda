use Rattle.std.proofs.Common.{◌≡◌, map, drop}
use Rattle.bcj_symbolic_trees.specs.Units.{pair_of}
use Rattle.bcj_symbolic_measure.specs.Objects.{list_size, pairs_size}
use Rattle.bcj_symbolic_measure.specs.Totals.{capped, plus}
use Rattle.bcj_symbolic_measure.proofs.record.pairs.Given as goal

abbrev pub invariant-loop-pair : goal.invariant-loop-pair
invariant-loop-pair l = record { fits : capped l.sum ≡ l.sum; sums : plus l.sum (pairs_size (map pair_of (drop l.pair-index l.all))) ≡ plus l.total (list_size (pairs_size (map pair_of l.all))) }

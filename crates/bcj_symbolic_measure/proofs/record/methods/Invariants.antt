use Rattle.std.proofs.Common.{◌≡◌, map, drop}
use Rattle.bcj_symbolic_trees.specs.Units.{method_of}
use Rattle.bcj_symbolic_measure.specs.Objects.{list_size, methods_size, all_methods_size}
use Rattle.bcj_symbolic_measure.specs.Totals.{capped, plus}
use Rattle.bcj_symbolic_measure.proofs.record.methods.Given as goal

abbrev pub invariant-loop-one : goal.invariant-loop-one
invariant-loop-one l = record { fits : capped l.sum ≡ l.sum; sums : plus l.sum (methods_size (map method_of (drop l.one-index l.all))) ≡ plus l.total (list_size (all_methods_size (map method_of l.all))) }

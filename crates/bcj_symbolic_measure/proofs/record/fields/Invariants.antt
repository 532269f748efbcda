use Rattle.std.proofs.Common.{◌≡◌, map, drop}
use Rattle.bcj_symbolic_trees.specs.Units.{field_of}
use Rattle.bcj_symbolic_measure.specs.Objects.{list_size, fields_size}
use Rattle.bcj_symbolic_measure.specs.Totals.{capped, plus}
use Rattle.bcj_symbolic_measure.proofs.record.fields.Given as goal

abbrev pub invariant-loop-one : goal.invariant-loop-one
invariant-loop-one l = record { fits : capped l.sum ≡ l.sum; sums : plus l.sum (fields_size (map field_of (drop l.one-index l.all))) ≡ plus l.total (list_size (fields_size (map field_of l.all))) }

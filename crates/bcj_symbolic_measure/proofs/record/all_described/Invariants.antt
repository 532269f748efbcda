use Rattle.std.proofs.Common.{◌≡◌, length, drop}
use Rattle.bcj_symbolic_trees.specs.Types.{types_of}
use Rattle.bcj_symbolic_trees.specs.Descriptors.{descriptors}
use Rattle.bcj_symbolic_measure.specs.Totals.{capped, plus}
use Rattle.bcj_symbolic_measure.proofs.record.all_described.Given as goal

abbrev pub invariant-loop-ty : goal.invariant-loop-ty
invariant-loop-ty l = record { fits : capped l.sum ≡ l.sum; sums : plus l.sum (length (descriptors (types_of (drop l.ty-index l.types)))) ≡ plus l.total (length (descriptors (types_of l.types))) }

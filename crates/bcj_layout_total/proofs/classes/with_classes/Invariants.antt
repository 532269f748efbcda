use Rattle.std.proofs.Common.{◌≡◌, ◌+◌, ℕ, map, sum, take}
use Rattle.bcj_symbolic_measure.specs.Totals.{capped}
use Rattle.bcj_layout_total.specs.function.Sizes as size
use Rattle.bcj_layout_total.proofs.classes.with_classes.Given as goal

abbrev pub invariant-loop-class : goal.invariant-loop-class
invariant-loop-class l = (n : ℕ) → l.initial.words ≡ capped n → l.words ≡ capped (n + sum (map size.class_size (take l.class-index l.classes)))

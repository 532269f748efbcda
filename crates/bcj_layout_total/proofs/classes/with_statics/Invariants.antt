use Rattle.std.proofs.Common.{◌≡◌, ◌+◌, ℕ, length, take}
use Rattle.std.specs.List.{filter}
use Rattle.bcj_symbolic_measure.specs.Totals.{capped}
use Rattle.bcj_layout_total.proofs.classes.with_statics.Given as goal

abbrev pub invariant-loop-field : goal.invariant-loop-field
invariant-loop-field l = (n : ℕ) → l.initial.words ≡ capped n → l.words ≡ capped (n + length (filter (λ f. f.is_static) (take l.field-index l.fields)))

use Rattle.std.proofs.Common.{◌≡◌, ◌+◌, ℕ, map, sum, take}
use Rattle.bcj_symbolic_measure.specs.Totals.{capped}
use Rattle.bcj_layout_total.proofs.classes.with_methods.Given as goal

abbrev pub invariant-loop-method : goal.invariant-loop-method
invariant-loop-method l = (n : ℕ) → l.initial.words ≡ capped n → l.words ≡ capped (n + sum (map (λ m. m.words) (take l.method-index l.methods)))

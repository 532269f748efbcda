-- Sums and maxima that stand at the last value of their type.
use Rattle.std.proofs.Common.{◌≡◌, refl, ap, sym, ◌∙◌, ℕ, ◌+◌, ◌*◌, ◌^◌, ◌<◌, ◌≤◌, arith}
use Rattle.bcj_symbolic_measure.specs.Totals.{capped, plus, larger, narrow}

pub plus-plus : (a m n : ℕ) → plus (plus a m) n ≡ plus a (m + n)
unfolding plus capped
plus-plus a m n = omega arith

pub plus-capped : (a n : ℕ) → plus a (capped n) ≡ plus a n
unfolding plus capped
plus-capped a n = omega arith

pub plus-two : (w n : ℕ) → plus (plus w n) n ≡ plus w (2 * n)
unfolding plus capped
plus-two w n = omega arith

pub plus-three : (w n : ℕ) → plus (plus (plus w 2) n) n ≡ plus w (2 * (1 + n))
unfolding plus capped
plus-three w n = omega arith

pub capped-twice : (n : ℕ) → capped (capped n) ≡ capped n
unfolding capped
capped-twice n = omega arith

pub capped-none : capped 0 ≡ 0
unfolding capped
capped-none = refl

pub capped-result : (r n : ℕ) → r ≡ capped n → capped r ≡ r
capped-result r n e = ap capped e ∙ capped-twice n ∙ sym e

pub capped-small : (n : ℕ) → n < 2 ^ 64 → capped n ≡ n
unfolding capped
capped-small n h = omega arith

pub plus-capped-left : (a n : ℕ) → plus (capped a) n ≡ plus a n
unfolding plus capped
plus-capped-left a n = omega arith

pub plus-nothing : (a : ℕ) → capped a ≡ plus a 0
unfolding plus capped
plus-nothing a = omega arith

pub plus-none : (a n : ℕ) → plus a n ≡ plus a (0 + n)
plus-none a n = ap (plus a) (omega arith)

-- what stands at the same value is the same in a sum
pub plus-like : (t a b : ℕ) → capped a ≡ capped b → plus t a ≡ plus t b
plus-like t a b e = sym (plus-capped t a) ∙ ap (plus t) e ∙ plus-capped t b

larger-in : (t a b n : ℕ) → capped (larger (larger t (capped a)) n) ≡ capped (larger t (larger a n))
unfolding larger capped
larger-in t a b n = omega arith

larger-out : (t a n : ℕ) → capped (larger (larger t a) n) ≡ capped (larger (larger t (capped a)) n)
unfolding larger capped
larger-out t a n = omega arith

pub largest-like : (t a b n : ℕ) → capped a ≡ capped b → capped (larger (larger t a) n) ≡ capped (larger t (larger b n))
largest-like t a b n e = larger-out t a n ∙ ap (λ k. capped (larger (larger t k) n)) e ∙ larger-in t b b n

pub larger-three : (a b c : ℕ) → capped (larger (capped (larger a b)) c) ≡ capped (larger a (larger b c))
unfolding larger capped
larger-three a b c = omega arith

narrow-capped : (a : ℕ) → narrow (capped a) ≡ narrow a
unfolding capped
narrow-capped a = omega arith

pub narrow-like : (a b : ℕ) → capped a ≡ capped b → narrow a ≡ narrow b
narrow-like a b e = sym (narrow-capped a) ∙ ap narrow e ∙ narrow-capped b

pub larger-left : (m n : ℕ) → capped (larger (capped m) n) ≡ capped (larger m n)
unfolding larger capped
larger-left m n = omega arith

pub larger-right : (m n : ℕ) → capped (larger m (capped n)) ≡ capped (larger m n)
unfolding larger capped
larger-right m n = omega arith

pub larger-none : (m : ℕ) → larger m 0 ≡ m
unfolding larger
larger-none m = omega arith

pub larger-first : (m : ℕ) → larger 0 m ≡ m
unfolding larger
larger-first m = omega arith

pub plus-zero : (n : ℕ) → plus 0 n ≡ capped n
unfolding plus
plus-zero n = ap capped (omega arith)

pub larger-nothing : (m : ℕ) → capped m ≡ capped (larger m 0)
larger-nothing m = ap capped (sym (larger-none m))

pub none-reached : capped 0 ≤ 0
unfolding capped
none-reached = omega arith

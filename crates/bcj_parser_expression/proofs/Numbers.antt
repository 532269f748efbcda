-- The number that digits write, its value being capped as it grows.
use Rattle.std.proofs.Common.{◌≡◌, ℕ, zero, suc, ◌+◌, ◌-◌, ◌*◌, ◌≤◌, min, nat_le, Bool, true, false, not, ◌==◌, List, [], ◌∷◌, length, drop, take, get_or, filter, if◌then◌else◌, sym, ap, ◌∙◌, refl, arith}
use Rattle.std.proofs.Math.Seq.{take-length}
use Rattle.std.proofs.lemmas.Bool.{leb-true, leb-false}
use Rattle.std.specs.List.{fold}
use Rattle.std.specs.Prelude.{codes}
use Rattle.bcj_parser_rules.specs.Grammar.{byte_of, digit_value}

abbrev pub underscore : ℕ
underscore = byte_of (codes "_")

abbrev pub step : ℕ → ℕ → ℕ → ℕ
step radix n b = n * radix + digit_value b

abbrev pub digits_in : List ℕ → List ℕ
digits_in word = filter (λ b. not (b == underscore)) word

-- the value behind v and these bytes
abbrev pub along : ℕ → ℕ → List ℕ → ℕ
along radix v word = fold (step radix) v (digits_in word)

grows : (v radix d : ℕ) → 1 ≤ radix → v ≤ v * radix + d
grows v zero d h = absurd (omega arith)
grows v (suc r) d h = grind arith

past : (radix v c : ℕ) (ds : List ℕ) → 1 ≤ radix → c ≤ v → c ≤ fold (step radix) v ds
past radix v c [] h k = k
past radix v c (d ∷ ds) h k = let g : v ≤ v * radix + digit_value d = grows v radix (digit_value d) h in
    past radix (v * radix + digit_value d) c ds h (omega arith)

full : (n c : ℕ) → c ≤ n → min n c ≡ c
full n c h = omega arith

low : (n c : ℕ) → n ≤ c → min n c ≡ n
low n c h = omega arith

pub capped : (radix v c : ℕ) (ds : List ℕ) → 1 ≤ radix → min (fold (step radix) (min v c) ds) c ≡ min (fold (step radix) v ds) c
capped radix v c ds h = by (nat_le v c) refl where
  by : (b : Bool) → nat_le v c ≡ b → min (fold (step radix) (min v c) ds) c ≡ min (fold (step radix) v ds) c
  by true e = ap (λ n. min (fold (step radix) n ds) c) (low v c (leb-true v c e))
  by false e = let high : c ≤ v = omega (arith, leb-false v c e) in full _ c (past radix (min v c) c ds h (omega arith)) ∙ sym (full _ c (past radix v c ds h high))

-- a further byte
further : (X radix v v' b c : ℕ) (tail : List ℕ) → 1 ≤ radix → v' ≡ (if b == underscore then v else min (v * radix + digit_value b) c) → X ≡ min (along radix v (b ∷ tail)) c → X ≡ min (along radix v' tail) c
further X radix v v' b c tail h e k = by (b == underscore) refl where
  by : (u : Bool) → (b == underscore) ≡ u → X ≡ min (along radix v' tail) c
  by true s = rw (e, s) (k ∙ rw s refl)
  by false s = rw (e, s) (k ∙ rw s (sym (capped radix (v * radix + digit_value b) c (digits_in tail) h)))

whole : (s : List ℕ) → take (length s - 1) (drop 1 s) ≡ drop 1 s
whole [] = refl
whole (b ∷ r) = let e : suc (length r) - 1 ≡ length r = omega arith in ap (λ n. take n r) e ∙ take-length r

-- a turn of the loop over the bytes
pub turn : (X radix v v' c : ℕ) (s : List ℕ) → 1 ≤ radix → 1 ≤ length s → v' ≡ (if get_or s 0 0 == underscore then v else min (v * radix + digit_value (get_or s 0 0)) c) → X ≡ min (along radix v s) c
    → X ≡ min (along radix v' (take (length s - 1) (drop 1 s))) c
turn X radix v v' c [] h n e k = absurd (omega arith)
turn X radix v v' c (b ∷ r) h n e k = further X radix v v' b c r h e k ∙ ap (λ l. min (along radix v' l) c) (sym (whole (b ∷ r)))

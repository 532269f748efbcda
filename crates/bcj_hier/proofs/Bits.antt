-- Bits of words.
use Rattle.std.proofs.Common.{◌≡◌, ◌<◌, ◌*◌, ◌/◌, ◌%◌, ◌^◌, ◌==◌, ◌||◌, ℕ, zero, suc, Bool, true, max, List, get_or, set, length, bit_or, w64, refl, sym, ◌∙◌, ap, arith, inl, inr, get_or-set_same, get_or-set_other}
use Rattle.std.proofs.lemmas.Bool.{cases_eq, eq-eqb, ne_eqb}
use Rattle.std.proofs.lemmas.Nat.Bits.{bit_at_or, bit_at-lt, bit_at_set_same, bit_at_set_other}
use Rattle.std.specs.Int.{bit_at}

-- a bit of an or of words
pub or_bit : (a b i : ℕ) → (bit_at (bit_or a b) i == 1) ≡ (bit_at a i == 1 || bit_at b i == 1)
or_bit a b i =
    let e : bit_at (bit_or a b) i ≡ max (bit_at a i) (bit_at b i) = bit_at_or a b i in
    ap (λ n. n == 1) e ∙ of_two (bit_at a i) (bit_at b i) (bit_at-lt a i) (bit_at-lt b i)
  where
    of_two : (x y : ℕ) → x < 2 → y < 2 → (max x y == 1) ≡ (x == 1 || y == 1)
    of_two zero zero l k = refl
    of_two zero (suc zero) l k = refl
    of_two (suc zero) zero l k = refl
    of_two (suc zero) (suc zero) l k = refl
    of_two zero (suc (suc y)) l k = absurd (omega arith)
    of_two (suc zero) (suc (suc y)) l k = absurd (omega arith)
    of_two (suc (suc x)) y l k = absurd (omega arith)

abbrev pub bit : List ℕ → ℕ → Bool
bit ws j = bit_at (get_or ws (j / 64) 0) (j % 64) == 1

put_same : (ws : List ℕ) (i j : ℕ) → i / 64 < length ws → j ≡ i → bit (set ws (i / 64) (bit_or (get_or ws (i / 64) 0) (1 * 2 ^ (i % 64) % 2 ^ 64))) j ≡ true
put_same ws i j within same =
    let w : ℕ = bit_or (get_or ws (i / 64) 0) (1 * 2 ^ (i % 64) % 2 ^ 64) in
    let few : i % 64 < 64 = omega arith in
    ap (bit (set ws (i / 64) w)) same
    ∙ (ap (λ v. bit_at v (i % 64) == 1) (get_or-set_same ws (i / 64) w 0 within) ∙ ap (λ b. b == 1) (bit_at_set_same w64 (get_or ws (i / 64) 0) (i % 64) few))

put_other : (ws : List ℕ) (i j : ℕ) → i / 64 < length ws → (j ≡ i → ⊥) → bit (set ws (i / 64) (bit_or (get_or ws (i / 64) 0) (1 * 2 ^ (i % 64) % 2 ^ 64))) j ≡ bit ws j
put_other ws i j within other =
    let w : ℕ = bit_or (get_or ws (i / 64) 0) (1 * 2 ^ (i % 64) % 2 ^ 64) in
    let few : i % 64 < 64 = omega arith in
    elim (cases_eq (j / 64) (i / 64)) [
      | inl same ↦
          let apart : (j % 64 ≡ i % 64) → ⊥ = λ e. other (omega arith) in
          ap (λ v. bit_at v (j % 64) == 1) (ap (λ k. get_or (set ws (i / 64) w) k 0) same ∙ get_or-set_same ws (i / 64) w 0 within)
          ∙ (ap (λ b. b == 1) (bit_at_set_other w64 (get_or ws (i / 64) 0) (i % 64) few (j % 64) apart) ∙ ap (λ k. bit_at (get_or ws k 0) (j % 64) == 1) (sym same))
      | inr apart ↦ ap (λ v. bit_at v (j % 64) == 1) (get_or-set_other ws (i / 64) (j / 64) w 0 apart)
    ]

-- a number is put into a set
pub put_bit : (ws : List ℕ) (i j : ℕ) → i / 64 < length ws → bit (set ws (i / 64) (bit_or (get_or ws (i / 64) 0) (1 * 2 ^ (i % 64) % 2 ^ 64))) j ≡ (j == i || bit ws j)
put_bit ws i j within =
    elim (cases_eq j i) [
      | inl same ↦ put_same ws i j within same ∙ sym (ap (λ b. b || bit ws j) (eq-eqb j i same))
      | inr other ↦ put_other ws i j within other ∙ sym (ap (λ b. b || bit ws j) (ne_eqb j i other))
    ]

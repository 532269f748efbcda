-- The number that the digits of a word write.
use Rattle.std.proofs.Common.{◌≡◌, ◌+◌, ◌*◌, ◌/◌, ◌%◌, ◌^◌, ◌<◌, ℕ, zero, suc, false, refl, sym, ◌∙◌, ap, arith}
use Rattle.std.proofs.Math.Arith.{mod-mul}
use Rattle.std.proofs.Math.Nat.{pow-succ', mod-lt, mod-one, mod-eq_of_lt}
use Rattle.std.proofs.lemmas.Str.{digit_value-digit_char}
use Rattle.std.specs.Char.{digit_value}
use Rattle.std.specs.Fmt.{digit_glyph}
use Rattle.std.specs.Str.Parse.{digits_value_after}
use Rattle.bcj_cli_showing.specs.Lines.{hexadecimal_digits, hexadecimal}
use Rattle.bcj_cli_showing.specs.Laws as law

power_positive : (k : ℕ) → 0 < 16 ^ k
power_positive zero = omega arith
power_positive (suc k) =
    let more : 16 ^ suc k ≡ 16 * 16 ^ k = pow-succ' 16 k in
    let before : 0 < 16 ^ k = power_positive k in
    omega (arith, more, before)

digit_read : (n : ℕ) → digit_value (digit_glyph false (n % 16)) ≡ n % 16
digit_read n =
    let below : n % 16 < 16 = mod-lt n (omega arith) in
    digit_value-digit_char (n % 16) (omega (arith, below))

-- the digits behind those of a number
digits_behind : (k before n : ℕ) → digits_value_after 16 before (hexadecimal_digits k n) ≡ before * 16 ^ k + n % 16 ^ k
digits_behind zero before n =
    let none : n % 1 ≡ 0 = mod-one n in
    omega (arith, none)
digits_behind (suc k) before n =
    let digit : ℕ = n / 16 ^ k % 16 in
    let more : 16 ^ suc k ≡ 16 * 16 ^ k = pow-succ' 16 k in
    let low : n % (16 * 16 ^ k) ≡ digit * 16 ^ k + n % 16 ^ k = mod-mul n (omega arith) (power_positive k) in
    let rest : digits_value_after 16 (before * 16 + digit) (hexadecimal_digits k n) ≡ (before * 16 + digit) * 16 ^ k + n % 16 ^ k = digits_behind k (before * 16 + digit) n in
    let sum : (before * 16 + digit) * 16 ^ k + n % 16 ^ k ≡ before * (16 * 16 ^ k) + (digit * 16 ^ k + n % 16 ^ k) = omega arith in
    ap (λ d. digits_value_after 16 (before * 16 + d) (hexadecimal_digits k n)) (digit_read (n / 16 ^ k))
    ∙ (rest ∙ (sum ∙ (ap (λ r. before * (16 * 16 ^ k) + r) (sym low) ∙ ap (λ p. before * p + n % p) (sym more))))

pub digits_write_words : law.DigitsWriteWords
unfolding hexadecimal
digits_write_words word small =
    let whole : 0 * 16 ^ 8 + word % 16 ^ 8 ≡ word % 2 ^ 32 = omega arith in
    (refl, digits_behind 8 0 word ∙ (whole ∙ mod-eq_of_lt small))

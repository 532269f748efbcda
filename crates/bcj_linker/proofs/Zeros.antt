-- Words of 0 as bytes.
use Rattle.std.proofs.Common.{◌≡◌, ◌≤◌, ℕ, zero, suc, ◌+◌, ◌-◌, ◌*◌, List, ◌∷◌, ◌++◌, length, take, refl, sym, ◌∙◌, ap, arith}
use Rattle.std.proofs.lemmas.List.{take_all}
use Rattle.std.specs.Prelude.{replicate}
use Rattle.bcj_elf.specs.Spelling as elf
use Rattle.bcj_elf.specs.Spelling.{word}

four_more : (n : ℕ) → 4 * suc n ≡ suc (suc (suc (suc (4 * n))))
four_more n = omega arith

-- words of 0 are four times as many bytes of 0
pub zero_words : (n : ℕ) → elf.words (replicate n 0) ≡ replicate (4 * n) 0
unfolding word
zero_words zero = refl
zero_words (suc n) = ap (λ bytes. 0 ∷ 0 ∷ 0 ∷ 0 ∷ bytes) (zero_words n) ∙ sym (ap (λ k. replicate k 0) (four_more n))

-- where bytes are filled up to an end with 0, so many words of 0 are put behind them
pub zeros_put : (old new : List ℕ) (len end count : ℕ) → len ≡ length old → end ≡ len + 4 * count → new ≡ take end old ++ replicate (end - len) 0 → new ≡ old ++ elf.words (replicate count 0)
zeros_put old new len end count e at filled =
    let within : length old ≤ end = omega (arith, e, at) in
    let more : end - len ≡ 4 * count = omega (arith, at) in
    filled ∙ λ i. take_all end old within i ++ (ap (λ k. replicate k 0) more ∙ sym (zero_words count)) i

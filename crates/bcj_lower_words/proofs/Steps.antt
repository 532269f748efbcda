-- What one more step of a loop adds to lines, and the parts of a long piece.
use Rattle.std.proofs.Common.{◌≡◌, ℕ, zero, suc, ◌+◌, ◌<◌, List, [], ◌∷◌, ◌++◌, length, get_or, take, refl, ap, ◌∙◌, arith, add-one, add-zero, zero-add}
use Rattle.std.proofs.lemmas.List.{take_more}
use Rattle.rv_isa.specs.declared.instruction.Instr.{Instr}
use Rattle.bcj_lower_rules.specs.Lines.{word, words}
use Rattle.bcj_lower_rules.specs.Words.{copy_from, instance_test}
use Rattle.bcj_lower_rules.specs.Bodies.{zero_locals}
use Rattle.bcj_lower_words.specs.function.Pieces.{preorder_numbers, preorder_test, service_test}

-- the words of two lists behind one another
words-append : (xs ys : List Instr) → words (xs ++ ys) ≡ words xs ++ words ys
words-append [] ys = refl
words-append (x ∷ xs) ys = ap (λ ls. word x ∷ ls) (words-append xs ys)

-- the words up to one instruction more; `grind` finds it by the read of that instruction, which comes first
pub words-at_read : (xs : List Instr) (k : ℕ) (d : Instr) → k < length xs → (get_or xs k d ≡ get_or xs k d) × (words (take (k + 1) xs) ≡ words (take k xs) ++ word (get_or xs k d) ∷ [])
words-at_read xs k d h = (refl, ap words (take_more xs k d h) ∙ words-append (take k xs) (get_or xs k d ∷ []))

-- one local more, behind the others
zero_locals-suc : (frame i k : ℕ) → zero_locals frame i (suc k) ≡ zero_locals frame i k ++ zero_locals frame (i + k) 1
zero_locals-suc frame i zero = rw add-zero refl
zero_locals-suc frame i (suc k) =
    let same : i + 1 + k ≡ i + suc k = omega arith in
    ap (λ ls. zero_locals frame i 1 ++ ls) (zero_locals-suc frame (i + 1) k ∙ ap (λ j. zero_locals frame (i + 1) k ++ zero_locals frame j 1) same)

-- the same, as a loop counts
pub zero_locals-more : (frame i k : ℕ) → zero_locals frame i (k + 1) ≡ zero_locals frame i k ++ zero_locals frame (i + k) 1
zero_locals-more frame i k = ap (zero_locals frame i) (add-one k) ∙ zero_locals-suc frame i k

-- one argument more, behind the others
copy_from-suc : (d j n : ℕ) → copy_from d j (suc n) ≡ copy_from d j n ++ copy_from d (j + n) 1
copy_from-suc d j zero = rw add-zero refl
copy_from-suc d j (suc n) =
    let same : j + 1 + n ≡ j + suc n = omega arith in
    ap (λ ls. copy_from d j 1 ++ ls) (copy_from-suc d (j + 1) n ∙ ap (λ i. copy_from d (j + 1) n ++ copy_from d i 1) same)

-- the same, as a loop counts from the first argument on
pub copy_from-more : (d n : ℕ) → copy_from d 0 (n + 1) ≡ copy_from d 0 n ++ copy_from d n 1
copy_from-more d n =
    ap (copy_from d 0) (add-one n) ∙ copy_from-suc d 0 n ∙ ap (λ i. copy_from d 0 n ++ copy_from d i 1) (zero-add n)

-- the test of an object's class has three parts
pub instance_test-parts : (d : ℕ) → instance_test d ≡ preorder_numbers d ++ (preorder_test ++ service_test d)
unfolding instance_test preorder_numbers preorder_test service_test
instance_test-parts d = refl

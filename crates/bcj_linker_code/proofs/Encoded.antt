-- Words of instructions, one behind the other.
use Rattle.std.proofs.Common.{◌≡◌, ℕ, zero, suc, ◌+◌, ◌<◌, List, [], ◌∷◌, ◌++◌, length, get_or, take, refl, sym, ap, ◌∙◌, arith, append_assoc, append-nil}
use Rattle.std.proofs.lemmas.List.{map_more}
use Rattle.rv_isa.specs.declared.instruction.Instr.{Instr}
use Rattle.rv_isa.specs.Words.{InRange, word_of, fields_of}
use Rattle.bcj_linker_code.specs.Instructions.{AreInRange, encoded}

-- each of them is in range
pub each_in_range : (is : List Instr) (k : ℕ) (d : Instr) → AreInRange is → k < length is → InRange (get_or is k d)
each_in_range [] k d h lt = absurd (omega arith)
each_in_range (i ∷ is) zero d h lt = h.0
each_in_range (i ∷ is) (suc k) d h lt = each_in_range is k d h.1 (omega arith)

-- the words of one more
encoded-more : (is : List Instr) (k : ℕ) (d : Instr) → k < length is → encoded (take (k + 1) is) ≡ encoded (take k is) ++ word_of (fields_of (get_or is k d)) ∷ []
unfolding encoded
encoded-more is k d lt = map_more (λ i. word_of (fields_of i)) is k d lt

-- the words of two lists behind one another
encoded-append : (is js : List Instr) → encoded (is ++ js) ≡ encoded is ++ encoded js
unfolding encoded
encoded-append [] js = refl
encoded-append (i ∷ is) js = ap (λ ws. word_of (fields_of i) ∷ ws) (encoded-append is js)

-- what is put in two steps
pub behind : (words : List ℕ) (is js : List Instr) → (words ++ encoded is) ++ encoded js ≡ words ++ encoded (is ++ js)
behind words is js = append_assoc words (encoded is) (encoded js) ∙ ap (λ ws. words ++ ws) (sym (encoded-append is js))

-- the word of one more is put
pub one_more : (before words more : List ℕ) (is : List Instr) (k : ℕ) (d : Instr) (w : ℕ) → k < length is → w ≡ word_of (fields_of (get_or is k d)) → more ≡ words ++ w ∷ []
    → words ≡ before ++ encoded (take k is) → more ≡ before ++ encoded (take (k + 1) is)
one_more before words more is k d w lt word put h =
    put ∙ ap (λ ws. ws ++ w ∷ []) h ∙ append_assoc before (encoded (take k is)) (w ∷ [])
    ∙ ap (λ ws. before ++ ws) (ap (λ v. encoded (take k is) ++ v ∷ []) word ∙ sym (encoded-more is k d lt))

-- nothing is put
pub none : (words : List ℕ) → words ≡ words ++ encoded []
unfolding encoded
none words = sym (append-nil words)

pub ruleset encoded_rules = (behind, none)

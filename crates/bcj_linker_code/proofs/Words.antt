-- The words of a text, one behind the other.
use Rattle.std.proofs.Common.{◌≡◌, ℕ, zero, suc, ◌+◌, ◌*◌, ◌/◌, List, [], ◌∷◌, ◌++◌, length, take, Option, refl, sym, ap, subst, ◌∙◌, arith, append_assoc, append-nil, add-one, add-zero, zero-add}
use Rattle.std.specs.Prelude.{◌==◌}
use Rattle.std.specs.List.{find}
use Rattle.std.specs.Option.{option_map_or}
use Rattle.std.specs.Int.{w32, from_le_bytes}
use Rattle.byteorder.specs.Endian.{little_number}
use Rattle.bcj_elf.specs.declared.object.Relocation.{Relocation}
use Rattle.bcj_elf.specs.Plain.{PlainObject}
use Rattle.bcj_elf.specs.Rules.{IsObject, word_at}
use Rattle.bcj_hier_rules.specs.Shapes.{Named}
use Rattle.bcj_layout_rules.specs.Rows.{Classes}
use Rattle.bcj_linker_rules.specs.Relocations.{set_in, value_of, relocated_word, relocated_words}
use Rattle.bcj_linker_rules.specs.Memory.{words_within}
use Rattle.bcj_linker_code.specs.Relocating.{AreFrom, AreParted, object_code}
use Rattle.bcj_linker_code.proofs.Parted.{in_order, none_passed}

-- the first four bytes as a number, the lowest first
pub little_word : (xs : List ℕ) → little_number 4 xs ≡ from_le_bytes w32 (take 4 xs)
little_word [] = refl
little_word (a ∷ []) = omega arith
little_word (a ∷ b ∷ []) = omega arith
little_word (a ∷ b ∷ c ∷ []) = omega arith
little_word (a ∷ b ∷ c ∷ d ∷ rest) = omega arith

-- the relocated words of one more
relocated-suc : (cs : Classes) (main : Named) (first : ℕ) (rs : List Relocation) (at n : ℕ) (bytes : List ℕ)
    → relocated_words cs main first rs at (words_within (suc n) at bytes)
    ≡ relocated_words cs main first rs at (words_within n at bytes) ++ relocated_word cs main first rs (at + 4 * n) (word_at (at + 4 * n) bytes) ∷ []
relocated-suc cs main first rs at zero bytes = rw add-zero refl
relocated-suc cs main first rs at (suc n) bytes =
    let same : at + 4 + 4 * n ≡ at + 4 * suc n = omega arith in
    ap (λ ws. relocated_word cs main first rs at (word_at at bytes) ∷ ws)
    (relocated-suc cs main first rs (at + 4) n bytes
    ∙ ap (λ q. relocated_words cs main first rs (at + 4) (words_within n (at + 4) bytes) ++ relocated_word cs main first rs q (word_at q bytes) ∷ []) same)

-- the same, as a loop counts from the first word on
pub relocated-more : (cs : Classes) (main : Named) (first : ℕ) (rs : List Relocation) (n : ℕ) (bytes : List ℕ)
    → relocated_words cs main first rs 0 (words_within (n + 1) 0 bytes)
    ≡ relocated_words cs main first rs 0 (words_within n 0 bytes) ++ relocated_word cs main first rs (4 * n) (word_at (4 * n) bytes) ∷ []
relocated-more cs main first rs n bytes =
    ap (λ m. relocated_words cs main first rs 0 (words_within m 0 bytes)) (add-one n) ∙ relocated-suc cs main first rs 0 n bytes
    ∙ ap (λ q. relocated_words cs main first rs 0 (words_within n 0 bytes) ++ relocated_word cs main first rs q (word_at q bytes) ∷ []) (zero-add (4 * n))

-- The relocated words of a text up to an index are put behind words, and so many of its relocations are passed.
pub record ArePut (cs : Classes) (main : Named) (first : ℕ) (rs : List Relocation) (text before words : List ℕ) (index passed : ℕ) : Type 0 where
  pub parted : AreParted rs passed (4 * index)
  pub put : words ≡ before ++ relocated_words cs main first rs 0 (words_within index 0 text)

-- before the first
pub none_put : (cs : Classes) (main : Named) (first : ℕ) (o : PlainObject) (rs : List Relocation) (text before : List ℕ) → rs ≡ o.text_relocs → IsObject o
    → ArePut cs main first rs text before before 0 0
none_put cs main first o rs text before same h =
    record { parted = none_passed rs (subst (AreFrom 0) (sym same) (in_order _ _ _ 0 o.text_relocs h.text_relocs)); put = sym (append-nil before) }

-- one word more
pub one_put : (cs : Classes) (main : Named) (first : ℕ) (rs : List Relocation) (text before words more : List ℕ) (index passed later w set : ℕ) (r : Option Relocation)
    → (AreParted rs passed (4 * index) → r ≡ find (λ s. s.offset == 4 * index) rs) → (AreParted rs passed (4 * index) → AreParted rs later (4 * index + 4)) → w ≡ word_at (4 * index) text
    → set ≡ option_map_or (λ r. set_in r.kind w (value_of cs main first r)) r w → more ≡ words ++ set ∷ []
    → ArePut cs main first rs text before words index passed → ArePut cs main first rs text before more (index + 1) later
one_put cs main first rs text before words more index passed later w set r found parted word is push h =
    let same : 4 * index + 4 ≡ 4 * (index + 1) = omega arith in
    let at_word : ℕ → ℕ = relocated_word cs main first rs (4 * index) in
    let set_is : set ≡ at_word (word_at (4 * index) text) =
    is ∙ ap (λ s. option_map_or (λ r. set_in r.kind w (value_of cs main first r)) s w) (found h.parted) ∙ ap at_word word in
    record {
      parted = subst (AreParted rs later) same (parted h.parted);
      put =
          push ∙ ap (λ v. words ++ v ∷ []) set_is ∙ ap (λ ws. ws ++ at_word (word_at (4 * index) text) ∷ []) h.put ∙ append_assoc before _ _
          ∙ ap (λ ws. before ++ ws) (sym (relocated-more cs main first rs index text));
    }

-- all are put
pub all_put : (cs : Classes) (main : Named) (first : ℕ) (o : PlainObject) (rs : List Relocation) (text before words : List ℕ) (index passed : ℕ) → rs ≡ o.text_relocs → text ≡ o.text
    → index ≡ length text / 4 → ArePut cs main first rs text before words index passed → words ≡ before ++ object_code cs main first o
all_put cs main first o rs text before words index passed relocations same last h =
    h.put
    ∙ ap (λ n. before ++ relocated_words cs main first rs 0 (words_within n 0 text)) last
    ∙ ap (λ ts. before ++ relocated_words cs main first rs 0 (words_within (length ts / 4) 0 ts)) same
    ∙ ap (λ qs. before ++ relocated_words cs main first qs 0 (words_within (length o.text / 4) 0 o.text)) relocations

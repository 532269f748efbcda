-- One turn of the loops that judge contents.
use Rattle.std.proofs.Common.{◌≡◌, ℕ, suc, ◌+◌, ◌-◌, ◌<◌, ◌≤◌, List, [], ◌∷◌, ◌++◌, length, Option, Some, None, refl, sym, ap, ◌∙◌, add_assoc, arith, length-drop, inl, inr}
use Rattle.std.specs.Prelude.{◌==◌, codes}
use Rattle.std.proofs.lemmas.Bool.{cases_eq, eq-eqb, ne_eqb}
use Rattle.bcj_elf.specs.declared.object.Section.{Section}
use Rattle.bcj_elf.specs.declared.sizes.Sizes.{Sizes}
use Rattle.bcj_elf.specs.Elf.{relocation_size}
use Rattle.bcj_elf.specs.Rules.{word_at}
use Rattle.bcj_elf.specs.Layout.{name_len, behind_name}
use Rattle.bcj_elf.specs.Fields.{Field, first_bad, tested, word_field, byte_field, text_field}
use Rattle.bcj_elf.specs.Places.{text_fields, padding_fields, section_name_fields, class_name_fields, name_fields, Turn, next_turn, class_fields, classes_fields, relocation_fields, relocations_fields}
use Rattle.bcj_elf.proofs.FirstBad.{first_moves, first_stays}

pub section_names_listed : (bytes : List ℕ) (at : ℕ)
    → section_name_fields bytes at
    ≡ text_field bytes at (codes ".shstrtab") (codes "\0")
    ∷ text_field bytes (at + 1) (codes ".shstrtab") (codes ".text\0")
    ∷ text_field bytes (at + 7) (codes ".shstrtab") (codes ".rela.text\0")
    ∷ text_field bytes (at + 18) (codes ".shstrtab") (codes ".bcj.tab\0")
    ∷ text_field bytes (at + 27) (codes ".shstrtab") (codes ".rela.bcj.tab\0")
    ∷ text_field bytes (at + 41) (codes ".shstrtab") (codes ".bcj.rec\0")
    ∷ text_field bytes (at + 50) (codes ".shstrtab") (codes ".symtab\0")
    ∷ text_field bytes (at + 58) (codes ".shstrtab") (codes ".strtab\0")
    ∷ text_field bytes (at + 66) (codes ".shstrtab") (codes ".shstrtab\0")
    ∷ []
unfolding section_name_fields text_fields
section_names_listed bytes at = simp add_assoc

pub tested_word : (bytes : List ℕ) (at : ℕ) (name : List ℕ) (n : ℕ) → tested at name (word_at at bytes == n) ≡ word_field bytes at name n
unfolding tested word_field
tested_word bytes at name n = refl

left_one : (count i : ℕ) → i < count → count - i ≡ suc (count - (i + 1))
left_one count i lt = omega arith

-- where a loop is, it goes on with the list of which one turn's fields stand in front
goes_on : (bytes : List ℕ) (whole here rest : List Field) (total : Option (ℕ × List ℕ)) → whole ≡ here ++ rest → first_bad bytes whole ≡ total → None ≡ first_bad bytes here → first_bad bytes rest ≡ total
goes_on bytes whole here rest total e so_far none = sym (first_moves bytes here rest none) ∙ ap (first_bad bytes) (sym e) ∙ so_far

ends : (bytes : List ℕ) (whole here rest : List Field) (total : Option (ℕ × List ℕ)) (p : ℕ × List ℕ) → whole ≡ here ++ rest → first_bad bytes whole ≡ total → Some p ≡ first_bad bytes here → Some p ≡ total
ends bytes whole here rest total p e so_far bad = sym (first_stays bytes here rest p bad) ∙ ap (first_bad bytes) (sym e) ∙ so_far

-- ---- padding

padding_turn : (bytes : List ℕ) (at i count : ℕ) → i < count
    → padding_fields bytes (at + i) (count - i) ≡ (byte_field bytes (at + i) (codes "padding") 0 ∷ []) ++ padding_fields bytes (at + (i + 1)) (count - (i + 1))
unfolding padding_fields
padding_turn bytes at i count lt = rw (left_one count i lt, add_assoc at i 1) refl

pub padding_goes_on : (bytes : List ℕ) (at i count : ℕ) (total : Option (ℕ × List ℕ)) → i < count → first_bad bytes (padding_fields bytes (at + i) (count - i)) ≡ total
    → None ≡ first_bad bytes (byte_field bytes (at + i) (codes "padding") 0 ∷ []) → first_bad bytes (padding_fields bytes (at + (i + 1)) (count - (i + 1))) ≡ total
padding_goes_on bytes at i count total lt so_far none = goes_on bytes _ _ _ total (padding_turn bytes at i count lt) so_far none

pub padding_stops : (bytes : List ℕ) (at i count : ℕ) (total : Option (ℕ × List ℕ)) (p : ℕ × List ℕ) → i < count → first_bad bytes (padding_fields bytes (at + i) (count - i)) ≡ total
    → Some p ≡ first_bad bytes (byte_field bytes (at + i) (codes "padding") 0 ∷ []) → Some p ≡ total
padding_stops bytes at i count total p lt so_far bad = ends bytes _ _ _ total p (padding_turn bytes at i count lt) so_far bad

pub padding_ends : (bytes : List ℕ) (at i count : ℕ) (total : Option (ℕ × List ℕ)) → count ≤ i → first_bad bytes (padding_fields bytes (at + i) (count - i)) ≡ total → None ≡ total
unfolding padding_fields first_bad
padding_ends bytes at i count total le so_far = let e : count - i ≡ 0 = omega arith in ap (λ (n : ℕ). first_bad bytes (padding_fields bytes (at + i) n)) (sym e) ∙ so_far

-- ---- relocations

relocations_turn : (bytes : List ℕ) (at : ℕ) (section : Section) (contents : List ℕ) (symbols least i count : ℕ) → i < count
    → relocations_fields bytes at section contents symbols least (count - i)
    ≡ relocation_fields bytes at section contents symbols least ++ relocations_fields bytes (at + relocation_size) section contents symbols (word_at at bytes + 1) (count - (i + 1))
unfolding relocations_fields
relocations_turn bytes at section contents symbols least i count lt = rw (left_one count i lt) refl

pub relocations_go_on : (bytes : List ℕ) (at : ℕ) (section : Section) (contents : List ℕ) (symbols least i count next : ℕ) (total : Option (ℕ × List ℕ)) → i < count → next ≡ word_at at bytes
    → first_bad bytes (relocations_fields bytes at section contents symbols least (count - i)) ≡ total → None ≡ first_bad bytes (relocation_fields bytes at section contents symbols least)
    → first_bad bytes (relocations_fields bytes (at + relocation_size) section contents symbols (next + 1) (count - (i + 1))) ≡ total
relocations_go_on bytes at section contents symbols least i count next total lt e so_far none = rw e (goes_on bytes _ _ _ total (relocations_turn bytes at section contents symbols least i count lt) so_far none)

pub relocations_stop : (bytes : List ℕ) (at : ℕ) (section : Section) (contents : List ℕ) (symbols least i count : ℕ) (total : Option (ℕ × List ℕ)) (p : ℕ × List ℕ) → i < count
    → first_bad bytes (relocations_fields bytes at section contents symbols least (count - i)) ≡ total → Some p ≡ first_bad bytes (relocation_fields bytes at section contents symbols least) → Some p ≡ total
relocations_stop bytes at section contents symbols least i count total p lt so_far bad = ends bytes _ _ _ total p (relocations_turn bytes at section contents symbols least i count lt) so_far bad

pub relocations_end : (bytes : List ℕ) (at : ℕ) (section : Section) (contents : List ℕ) (symbols least i count : ℕ) (total : Option (ℕ × List ℕ)) → count ≤ i
    → first_bad bytes (relocations_fields bytes at section contents symbols least (count - i)) ≡ total → None ≡ total
unfolding relocations_fields first_bad
relocations_end bytes at section contents symbols least i count total le so_far =
    let e : count - i ≡ 0 = omega arith in
    ap (λ (n : ℕ). first_bad bytes (relocations_fields bytes at section contents symbols least n)) (sym e) ∙ so_far

-- ---- names

names_turn : (at : ℕ) (left : List ℕ) (i count : ℕ) → i < count
    → name_fields at left (count - i) ≡ class_name_fields at left ++ name_fields (at + name_len left + 1 + name_len (behind_name left) + 1) (behind_name (behind_name left)) (count - (i + 1))
unfolding name_fields
names_turn at left i count lt = rw (left_one count i lt) refl

pub names_go_on : (bytes : List ℕ) (at : ℕ) (left : List ℕ) (i count next : ℕ) (rest : List ℕ) (total : Option (ℕ × List ℕ)) → i < count → next ≡ at + name_len left + 1 + name_len (behind_name left) + 1 → rest ≡ behind_name (behind_name left)
    → first_bad bytes (name_fields at left (count - i)) ≡ total → None ≡ first_bad bytes (class_name_fields at left) → first_bad bytes (name_fields next rest (count - (i + 1))) ≡ total
names_go_on bytes at left i count next rest total lt place e so_far none = rw (place, e) (goes_on bytes _ _ _ total (names_turn at left i count lt) so_far none)

-- What is left ends where it did before.
pub names_room : (at : ℕ) (left : List ℕ) (next : ℕ) (rest : List ℕ) → next ≡ at + name_len left + 1 + name_len (behind_name left) + 1 → rest ≡ behind_name (behind_name left)
    → name_len left < length left → name_len (behind_name left) < length (behind_name left) → next + length rest ≡ at + length left
names_room at left next rest place e code tables =
    let behind = length-drop (name_len left + 1) left in
    let others = length-drop (name_len (behind_name left) + 1) (behind_name left) in
    rw e (omega arith)

pub names_stop : (bytes : List ℕ) (at : ℕ) (left : List ℕ) (i count : ℕ) (total : Option (ℕ × List ℕ)) (p : ℕ × List ℕ) → i < count → first_bad bytes (name_fields at left (count - i)) ≡ total
    → Some p ≡ first_bad bytes (class_name_fields at left) → Some p ≡ total
names_stop bytes at left i count total p lt so_far bad = ends bytes _ _ _ total p (names_turn at left i count lt) so_far bad

pub names_end : (bytes : List ℕ) (at : ℕ) (left : List ℕ) (i count : ℕ) (total : Option (ℕ × List ℕ)) → count ≤ i → first_bad bytes (name_fields at left (count - i)) ≡ total → first_bad bytes (name_fields at left 0) ≡ total
names_end bytes at left i count total le so_far = let e : count - i ≡ 0 = omega arith in ap (λ (n : ℕ). first_bad bytes (name_fields at left n)) (sym e) ∙ so_far

-- ---- symbols

classes_turn : (bytes : List ℕ) (s : Sizes) (t : Turn) (i count : ℕ) → i < count
    → classes_fields bytes s t (count - i) ≡ class_fields bytes s (count - (i + 1) == 0) t ++ classes_fields bytes s (next_turn bytes t) (count - (i + 1))
unfolding classes_fields
classes_turn bytes s t i count lt = rw (left_one count i lt) refl

-- No class is left behind the last one.
last_one : (i count : ℕ) → i < count → (i + 1 == count) ≡ (count - (i + 1) == 0)
last_one i count lt = elim (cases_eq (i + 1) count) [
  | inl e ↦ eq-eqb _ _ e ∙ sym (eq-eqb _ _ (omega arith))
  | inr ne ↦ ne_eqb _ _ ne ∙ sym (ne_eqb _ _ (λ z. ne (omega arith)))
]

class_turn : (bytes : List ℕ) (s : Sizes) (t : Turn) (i count : ℕ) → i < count → class_fields bytes s (i + 1 == count) t ≡ class_fields bytes s (count - (i + 1) == 0) t
class_turn bytes s t i count lt = ap (λ z. class_fields bytes s z t) (last_one i count lt)

pub classes_go_on : (bytes : List ℕ) (s : Sizes) (t next : Turn) (i count : ℕ) (total : Option (ℕ × List ℕ)) → i < count → next ≡ next_turn bytes t → first_bad bytes (classes_fields bytes s t (count - i)) ≡ total
    → None ≡ first_bad bytes (class_fields bytes s (i + 1 == count) t) → first_bad bytes (classes_fields bytes s next (count - (i + 1))) ≡ total
classes_go_on bytes s t next i count total lt e so_far none =
    rw e (goes_on bytes _ _ _ total (classes_turn bytes s t i count lt) so_far (none ∙ ap (first_bad bytes) (class_turn bytes s t i count lt)))

pub classes_stop : (bytes : List ℕ) (s : Sizes) (t : Turn) (i count : ℕ) (total : Option (ℕ × List ℕ)) (p : ℕ × List ℕ) → i < count → first_bad bytes (classes_fields bytes s t (count - i)) ≡ total
    → Some p ≡ first_bad bytes (class_fields bytes s (i + 1 == count) t) → Some p ≡ total
classes_stop bytes s t i count total p lt so_far bad = ends bytes _ _ _ total p (classes_turn bytes s t i count lt) so_far (bad ∙ ap (first_bad bytes) (class_turn bytes s t i count lt))

pub classes_end : (bytes : List ℕ) (s : Sizes) (t : Turn) (i count : ℕ) (total : Option (ℕ × List ℕ)) → count ≤ i → first_bad bytes (classes_fields bytes s t (count - i)) ≡ total → None ≡ total
unfolding classes_fields first_bad
classes_end bytes s t i count total le so_far = let e : count - i ≡ 0 = omega arith in ap (λ (n : ℕ). first_bad bytes (classes_fields bytes s t n)) (sym e) ∙ so_far

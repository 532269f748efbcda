-- Contents whose fields are good are those of an object.
use Rattle.std.proofs.Common.{◌≡◌, ℕ, zero, suc, ◌+◌, ◌*◌, ◌/◌, ◌%◌, ◌<◌, ◌≤◌, ◌^◌, Bool, true, false, List, [], ◌∷◌, ◌++◌, length, drop, map, None, refl, sym, ap, ◌∙◌, add_assoc, add-one, append_assoc, arith}
use Rattle.std.specs.Prelude.{codes, ◌==◌, nat_le, if◌then◌else◌}
use Rattle.std.specs.List.{flat_map}
use Rattle.std.proofs.lemmas.Bool.{eqb-true, eq-eqb, le-leb, lt-ltb}
use Rattle.std.proofs.lemmas.List.{append-nil, length-take-le, nil_from_length, length-append}
use Rattle.std.specs.Cmp.Derive.{both_true}
use Rattle.bcj_elf.specs.declared.object.Section.{Section}
use Rattle.bcj_elf.specs.declared.object.Section.TheVariants.{Text, Tab}
use Rattle.bcj_elf.specs.declared.object.Relocation.{Relocation}
use Rattle.bcj_elf.specs.declared.sizes.Sizes.{Sizes}
use Rattle.bcj_elf.specs.Elf.{symbol_size, relocation_size, STB_GLOBAL, STV_DEFAULT, st_info, r_info}
use Rattle.bcj_elf.specs.Plain.{PlainSymbol, type_number, kind_at}
use Rattle.bcj_elf.specs.Layout.{zero_ended, terminated, names_by_index, section_names, name_len, front_name, behind_name}
use Rattle.bcj_elf.specs.Rules.{word_at, is_in_place, is_bound, are_relocations, is_named, is_code_name, is_tables_name, is_section, is_region, are_symbols}
use Rattle.bcj_elf.specs.Spelling.{word, half, zeros, rela, symbol_type, index_of, entry, entries}
use Rattle.bcj_elf.specs.Fields.{first_bad, byte_field, text_field}
use Rattle.bcj_elf.specs.Places.{part, padding_fields, text_fields, section_name_fields, class_name_fields, name_fields, symbol_fields, null_fields, size_of_symbol, is_region_size, entry_fields, Turn, tables_at, tables_name, next_turn, class_fields, classes_fields, type_of_relocation, symbol_of_relocation, relocation_fields, relocations_fields}
use Rattle.bcj_elf.proofs.Facts.{both}
use Rattle.bcj_elf.proofs.FirstBad.{are_good, none_of}
use Rattle.bcj_elf.proofs.Good.{word_good, text_good, tested_good, class_names_end}
use Rattle.bcj_elf.proofs.Pieces.{AreBytes, word_part, word_small, part_joined, Stand, they_stand, joined}
use Rattle.bcj_elf.proofs.GoodHeaders.{word_piece, half_piece, byte_piece}

-- ---- padding and texts

pub padding_is : (bytes : List ℕ) (at n : ℕ) → None ≡ first_bad bytes (padding_fields bytes at n) → part bytes at n ≡ zeros n
unfolding padding_fields
padding_is bytes at zero e = refl
padding_is bytes at (suc n) e =
    let g = none_of bytes (byte_field bytes at (codes "padding") 0 ∷ []) (padding_fields bytes (at + 1) n) e in
    let here = byte_piece bytes at _ _ (are_good bytes _ g.0).0 in
    let size : suc n ≡ 1 + n = omega arith in
    ap (part bytes at) size ∙ part_joined bytes at 1 n ∙ ap (λ (z : List ℕ). z ++ part bytes (at + 1) n) here ∙ ap (λ (z : List ℕ). 0 ∷ z) (padding_is bytes (at + 1) n g.1)

-- texts that are joined
abbrev all_of : List (List ℕ) → List ℕ
all_of [] = []
all_of (t ∷ ts) = t ++ all_of ts

texts_are : (bytes : List ℕ) (at : ℕ) (name : List ℕ) (texts : List (List ℕ)) → None ≡ first_bad bytes (text_fields bytes at name texts) → part bytes at (length (all_of texts)) ≡ all_of texts
unfolding text_fields
texts_are bytes at name [] e = refl
texts_are bytes at name (t ∷ ts) e =
    let g = none_of bytes (text_field bytes at name t ∷ []) (text_fields bytes (at + length t) name ts) e in
    let here = (text_good bytes at name t (are_good bytes _ g.0).0).is in
    ap (part bytes at) (length-append t (all_of ts)) ∙ part_joined bytes at (length t) (length (all_of ts))
    ∙ ap (λ (z : List ℕ). z ++ part bytes (at + length t) (length (all_of ts))) here ∙ ap (λ (z : List ℕ). t ++ z) (texts_are bytes (at + length t) name ts g.1)

pub section_names_are : (bytes : List ℕ) (at : ℕ) → None ≡ first_bad bytes (section_name_fields bytes at) → part bytes at (length section_names) ≡ section_names
unfolding section_name_fields
section_names_are bytes at e = texts_are bytes at (codes ".shstrtab") (codes "\0" ∷ map zero_ended names_by_index) e

-- ---- relocations

-- the relocation at an offset
abbrev pub relocation_in : List ℕ → ℕ → Relocation
relocation_in bytes at = record { offset = word_at at bytes; symbol = symbol_of_relocation bytes at; kind = kind_at (type_of_relocation bytes at); addend = word_at (at + 8) bytes }

-- so many relocations from an offset on
unfoldable pub relocations_in : List ℕ → ℕ → ℕ → List Relocation
relocations_in bytes at zero = []
relocations_in bytes at (suc n) = relocation_in bytes at ∷ relocations_in bytes (at + relocation_size) n

pub relocations_count : (bytes : List ℕ) (at n : ℕ) → length (relocations_in bytes at n) ≡ n
unfolding relocations_in
relocations_count bytes at zero = refl
relocations_count bytes at (suc n) = ap suc (relocations_count bytes (at + relocation_size) n)

-- three words from an offset on
three_stand : (bytes : List ℕ) (at a b c : ℕ) → part bytes at 4 ≡ word a → part bytes (at + 4) 4 ≡ word b → part bytes (at + 8) 4 ≡ word c → Stand bytes at ((4, word a) ∷ (4, word b) ∷ (4, word c) ∷ [])
three_stand bytes at a b c x y z = simp add_assoc (x, (y, (z, tt)))

-- what is known of a good relocation
record IsGoodRelocation (bytes : List ℕ) (at : ℕ) (section : Section) (contents : List ℕ) (symbols least : ℕ) (r : Relocation) : Type 0 where
  spelled : part bytes at relocation_size ≡ rela r
  in_place : is_in_place contents least r ≡ true
  bound : is_bound section symbols r ≡ true

info_whole : (n : ℕ) → r_info (n / 2 ^ 8) (n % 2 ^ 8) ≡ n
info_whole n = omega arith

symbol_fits : (n : ℕ) → n < 2 ^ 32 → n / 2 ^ 8 < 2 ^ 24
symbol_fits n lt = omega arith

relocation_is : (bytes : List ℕ) (at : ℕ) (section : Section) (contents : List ℕ) (symbols least : ℕ) → AreBytes bytes → None ≡ first_bad bytes (relocation_fields bytes at section contents symbols least)
    → IsGoodRelocation bytes at section contents symbols least (relocation_in bytes at)
unfolding relocation_fields rela is_in_place is_bound
relocation_is bytes at section contents symbols least small e =
    let g = are_good bytes _ e in
    let there = tested_good bytes at _ _ g.0 in
    let info = tested_good bytes (at + 4) _ _ g.1.0 in
    let clear = tested_good bytes at _ _ g.1.1.0 in
    let last = tested_good bytes (at + 8) _ _ g.1.1.1.0 in
    let names = both _ _ info.is in
    let kinds = both _ _ names.0 in
    let type = both _ _ kinds.0 in
    let number = eqb-true (type_number (kind_at (type_of_relocation bytes at))) (type_of_relocation bytes at) type.0 in
    let whole = ap (λ (n : ℕ). r_info (symbol_of_relocation bytes at) n) number ∙ info_whole (word_at (at + 4) bytes) in
    let symbol_small = symbol_fits (word_at (at + 4) bytes) (word_small bytes (at + 4) small) in
    record {
      spelled = they_stand bytes at ((4, word (word_at at bytes)) ∷ (4, word (r_info (symbol_of_relocation bytes at) (type_number (kind_at (type_of_relocation bytes at))))) ∷ (4, word (word_at (at + 8) bytes)) ∷ [])
          (three_stand bytes at _ _ _ (word_part bytes at small there.room) (word_part bytes (at + 4) small info.room ∙ ap word (sym whole)) (word_part bytes (at + 8) small last.room));
      in_place = both_true there.is clear.is;
      bound = both_true (both_true (both_true (both_true type.1 kinds.1) names.1) (lt-ltb _ _ symbol_small)) (lt-ltb _ _ (word_small bytes (at + 8) small));
    }

pub record AreGoodRelocations (bytes : List ℕ) (at : ℕ) (section : Section) (contents : List ℕ) (symbols least n : ℕ) : Type 0 where
  pub spelled : part bytes at (relocation_size * n) ≡ flat_map rela (relocations_in bytes at n)
  pub meet : are_relocations section contents symbols least (relocations_in bytes at n) ≡ true

pub relocations_are : (bytes : List ℕ) (at : ℕ) (section : Section) (contents : List ℕ) (symbols least n : ℕ) → AreBytes bytes → None ≡ first_bad bytes (relocations_fields bytes at section contents symbols least n)
    → AreGoodRelocations bytes at section contents symbols least n
unfolding relocations_fields relocations_in
relocations_are bytes at section contents symbols least zero small e = record { spelled = refl; meet = refl }
relocations_are bytes at section contents symbols least (suc n) small e =
    let g = none_of bytes (relocation_fields bytes at section contents symbols least) (relocations_fields bytes (at + relocation_size) section contents symbols (word_at at bytes + 1) n) e in
    let here = relocation_is bytes at section contents symbols least small g.0 in
    let others = relocations_are bytes (at + relocation_size) section contents symbols (word_at at bytes + 1) n small g.1 in
    let size : relocation_size * suc n ≡ relocation_size + relocation_size * n = omega arith in
    record {
      spelled = ap (part bytes at) size ∙ part_joined bytes at relocation_size (relocation_size * n) ∙ ap (λ (z : List ℕ). z ++ part bytes (at + relocation_size) (relocation_size * n)) here.spelled
          ∙ ap (λ (z : List ℕ). rela (relocation_in bytes at) ++ z) others.spelled;
      meet = both_true (both_true here.in_place here.bound) others.meet;
    }

-- ---- names

ended_by_suc : (left : List ℕ) → name_len left < length left → front_name left ++ 0 ∷ drop (suc (name_len left)) left ≡ left
unfolding name_len
ended_by_suc [] lt = absurd (omega arith)
ended_by_suc (zero ∷ bytes) lt = refl
ended_by_suc (suc b ∷ bytes) lt = ap (λ (z : List ℕ). suc b ∷ z) (ended_by_suc bytes (omega arith))

-- A name that is ended, its zero byte and what stands behind it are what is left.
ended : (left : List ℕ) → name_len left < length left → front_name left ++ 0 ∷ behind_name left ≡ left
ended left lt = rw add-one (ended_by_suc left lt)

name_len-le : (left : List ℕ) → name_len left ≤ length left
unfolding name_len
name_len-le [] = omega arith
name_len-le (zero ∷ bytes) = omega arith
name_len-le (suc b ∷ bytes) = omega (arith, name_len-le bytes)

front_length : (left : List ℕ) → length (front_name left) ≡ name_len left
front_length left = length-take-le (name_len left) left (name_len-le left)

-- the symbols of so many classes
unfoldable pub symbols_in : List ℕ → Turn → ℕ → List PlainSymbol
symbols_in bytes t zero = []
symbols_in bytes t (suc n) =
    record { name = front_name t.left; value = word_at (t.at + 4) bytes; size = size_of_symbol bytes t.at; section = Text }
    ∷ record { name = front_name (behind_name t.left); value = word_at (tables_at t + 4) bytes; size = size_of_symbol bytes (tables_at t); section = Tab }
    ∷ symbols_in bytes (next_turn bytes t) n

pub symbols_count : (bytes : List ℕ) (t : Turn) (n : ℕ) → length (symbols_in bytes t n) ≡ 2 * n
unfolding symbols_in
symbols_count bytes t zero = refl
symbols_count bytes t (suc n) = omega (arith, symbols_count bytes (next_turn bytes t) n)

name_put : (left rest : List ℕ) → zero_ended (front_name left) ++ rest ≡ front_name left ++ 0 ∷ rest
name_put left rest = append_assoc (front_name left) (0 ∷ []) rest

pub names_are : (bytes : List ℕ) (at : ℕ) (t : Turn) (n : ℕ) → None ≡ first_bad bytes (name_fields at t.left n) → flat_map terminated (symbols_in bytes t n) ≡ t.left
unfolding name_fields symbols_in
names_are bytes at t zero e = let g = are_good bytes _ e in sym (nil_from_length t.left (eqb-true _ _ (both _ _ g.0).1))
names_are bytes at t (suc n) e =
    let g = none_of bytes (class_name_fields at t.left) (name_fields (at + name_len t.left + 1 + name_len (behind_name t.left) + 1) (behind_name (behind_name t.left)) n) e in
    let ends = class_names_end bytes at t.left g.0 in
    ap (λ (z : List ℕ). zero_ended (front_name t.left) ++ (zero_ended (front_name (behind_name t.left)) ++ z)) (names_are bytes (at + name_len t.left + 1 + name_len (behind_name t.left) + 1) (next_turn bytes t) n g.1)
    ∙ ap (λ (z : List ℕ). zero_ended (front_name t.left) ++ z) (name_put (behind_name t.left) _ ∙ ended (behind_name t.left) ends.1)
    ∙ name_put t.left (behind_name t.left) ∙ ended t.left ends.0

-- ---- symbols

-- the pieces of an entry
abbrev pieces_of : ℕ → ℕ → ℕ → ℕ → ℕ → List (ℕ × List ℕ)
pieces_of name value size info index = (4, word name) ∷ (4, word value) ∷ (4, word size) ∷ (1, info ∷ []) ∷ (1, STV_DEFAULT ∷ []) ∷ (2, half index) ∷ []

abbrev entry_pieces : List ℕ → ℕ → ℕ → ℕ → ℕ → List (ℕ × List ℕ)
entry_pieces bytes at name info index = pieces_of name (word_at (at + 4) bytes) (size_of_symbol bytes at) info index

six_stand : (bytes : List ℕ) (at name value size info index : ℕ) → part bytes at 4 ≡ word name → part bytes (at + 4) 4 ≡ word value → part bytes (at + 8) 4 ≡ word size
    → part bytes (at + 12) 1 ≡ info ∷ [] → part bytes (at + 13) 1 ≡ STV_DEFAULT ∷ [] → part bytes (at + 14) 2 ≡ half index → Stand bytes at (pieces_of name value size info index)
six_stand bytes at name value size info index a b c d e f = simp add_assoc (a, (b, (c, (d, (e, (f, tt))))))

record IsGoodSymbol (bytes : List ℕ) (at name value : ℕ) (is_size : Bool) (info index : ℕ) : Type 0 where
  stands : part bytes at symbol_size ≡ joined (entry_pieces bytes at name info index)
  value_is : word_at (at + 4) bytes ≡ value
  size_is : is_size ≡ true

symbol_is : (bytes : List ℕ) (at name value : ℕ) (is_size : Bool) (info index : ℕ) → AreBytes bytes → None ≡ first_bad bytes (symbol_fields bytes at name value is_size info index) → IsGoodSymbol bytes at name value is_size info index
unfolding symbol_fields
symbol_is bytes at name value is_size info index small e =
    let g = are_good bytes _ e in
    let value = word_good bytes (at + 4) _ _ g.1.0 in
    let size = tested_good bytes (at + 8) _ _ g.1.1.0 in
    record {
      stands = they_stand bytes at (entry_pieces bytes at name info index)
          (six_stand bytes at name (word_at (at + 4) bytes) (size_of_symbol bytes at) info index (word_piece bytes at _ _ small g.0) (word_part bytes (at + 4) small value.room) (word_part bytes (at + 8) small size.room) (byte_piece bytes (at + 12) _ _ g.1.1.1.0)
          (byte_piece bytes (at + 13) _ _ g.1.1.1.1.0) (half_piece bytes (at + 14) _ _ small g.1.1.1.1.1.0));
      value_is = value.is;
      size_is = size.is;
    }

null_joined : (bytes : List ℕ) (at : ℕ) → word_at (at + 4) bytes ≡ 0 → size_of_symbol bytes at ≡ 0 → joined (entry_pieces bytes at 0 0 0) ≡ zeros symbol_size
unfolding word half
null_joined bytes at a b = rw (a, b) refl

pub null_is : (bytes : List ℕ) (at : ℕ) → AreBytes bytes → None ≡ first_bad bytes (null_fields bytes at) → part bytes at symbol_size ≡ zeros symbol_size
unfolding null_fields
null_is bytes at small e = let s = symbol_is bytes at 0 0 _ 0 0 small e in s.stands ∙ null_joined bytes at s.value_is (eqb-true _ _ s.size_is)

-- the symbol of an entry
abbrev symbol_in : List ℕ → ℕ → List ℕ → Section → PlainSymbol
symbol_in bytes at name section = record { name = name; value = word_at (at + 4) bytes; size = size_of_symbol bytes at; section = section }

record IsGoodEntry (bytes : List ℕ) (at : ℕ) (section : Section) (is_last : Bool) («end» name from : ℕ) (text : List ℕ) : Type 0 where
  spelled : part bytes at symbol_size ≡ entry name (symbol_in bytes at text section)
  value_is : word_at (at + 4) bytes ≡ from
  size_is : is_region_size is_last «end» from (size_of_symbol bytes at) ≡ true

entry_joined : (bytes : List ℕ) (at name : ℕ) (text : List ℕ) (section : Section) → joined (entry_pieces bytes at name (st_info STB_GLOBAL (symbol_type section)) (index_of section)) ≡ entry name (symbol_in bytes at text section)
unfolding entry
entry_joined bytes at name text section = simp (append_assoc, append-nil)

entry_is : (bytes : List ℕ) (at : ℕ) (section : Section) (is_last : Bool) («end» name from : ℕ) (text : List ℕ) → AreBytes bytes → None ≡ first_bad bytes (entry_fields bytes at section is_last «end» name from)
    → IsGoodEntry bytes at section is_last «end» name from text
unfolding entry_fields
entry_is bytes at section is_last «end» name from text small e =
    let s = symbol_is bytes at name from _ _ _ small e in
    record { spelled = s.stands ∙ entry_joined bytes at name text section; value_is = s.value_is; size_is = s.size_is }

region_within : (is_last : Bool) («end» from size : ℕ) → (if is_last then from + size == «end» else nat_le (from + size) «end») ≡ true → nat_le (from + size) «end» ≡ true
region_within true «end» from size h = let e : from + size ≡ «end» = eqb-true _ _ h in le-leb _ _ (omega arith)
region_within false «end» from size h = h

region_is : (bytes : List ℕ) (at : ℕ) (section : Section) (is_last : Bool) («end» name from : ℕ) (text : List ℕ) → is_section section section ≡ true → IsGoodEntry bytes at section is_last «end» name from text
    → is_region section «end» from (symbol_in bytes at text section) ≡ true
unfolding is_region
region_is bytes at section is_last «end» name from text own good =
    let size = both _ _ good.size_is in
    both_true (both_true (both_true (both_true own (eq-eqb _ _ good.value_is)) (both _ _ size.0).0) (both _ _ size.0).1) (region_within is_last «end» from (size_of_symbol bytes at) size.1)

-- ---- the symbols of all classes

-- the names of a class fit one another
class_named : (bytes : List ℕ) (at : ℕ) (left : List ℕ) → None ≡ first_bad bytes (class_name_fields at left) → is_named (front_name left) (front_name (behind_name left)) ≡ true
unfolding class_name_fields is_named
class_named bytes at left e =
    let g = are_good bytes _ e in
    let code = (both _ _ g.0).1 in
    let tables = (both _ _ g.1.0).1 in
    let code_named : is_code_name (front_name left) ≡ true = (both _ _ code).1 in
    let tables_named : is_tables_name (front_name left) (front_name (behind_name left)) ≡ true = (both _ _ tables).1 in
    both_true code_named tables_named

-- the last region ends its section
region_last : (is_last : Bool) («end» from size : ℕ) → is_last ≡ true → is_region_size is_last «end» from size ≡ true → from + size ≡ «end»
region_last true «end» from size e h = eqb-true _ _ (both _ _ h).1
region_last false «end» from size e h = absurd cc

pub classes_are : (bytes : List ℕ) (s : Sizes) (t : Turn) (n : ℕ) → AreBytes bytes → None ≡ first_bad bytes (classes_fields bytes s t n) → part bytes t.at (2 * symbol_size * n) ≡ entries t.name (symbols_in bytes t n)
unfolding classes_fields class_fields symbols_in entries
classes_are bytes s t zero small e = refl
classes_are bytes s t (suc n) small e =
    let g = none_of bytes (class_fields bytes s (n == 0) t) (classes_fields bytes s (next_turn bytes t) n) e in
    let c = none_of bytes (entry_fields bytes t.at Text (n == 0) s.text t.name t.text) (entry_fields bytes (tables_at t) Tab (n == 0) s.tab (tables_name t) t.tab) g.0 in
    let code = entry_is bytes t.at Text (n == 0) s.text t.name t.text (front_name t.left) small c.0 in
    let tables = entry_is bytes (tables_at t) Tab (n == 0) s.tab (tables_name t) t.tab (front_name (behind_name t.left)) small c.1 in
    let others = classes_are bytes s (next_turn bytes t) n small g.1 in
    let size : 2 * symbol_size * suc n ≡ symbol_size + (symbol_size + 2 * symbol_size * n) = omega arith in
    rw (front_length t.left, front_length (behind_name t.left)) (ap (part bytes t.at) size ∙ part_joined bytes t.at symbol_size (symbol_size + 2 * symbol_size * n)
    ∙ ap (λ (z : List ℕ). z ++ part bytes (tables_at t) (symbol_size + 2 * symbol_size * n)) code.spelled
    ∙ ap (λ (z : List ℕ). entry t.name (symbol_in bytes t.at (front_name t.left) Text) ++ z)
    (part_joined bytes (tables_at t) symbol_size (2 * symbol_size * n) ∙ ap (λ (z : List ℕ). z ++ part bytes (tables_at t + symbol_size) (2 * symbol_size * n)) tables.spelled
    ∙ ap (λ (z : List ℕ). entry (tables_name t) (symbol_in bytes (tables_at t) (front_name (behind_name t.left)) Tab) ++ z) others))

pub symbols_meet : (bytes : List ℕ) (s : Sizes) (at : ℕ) (t : Turn) (n : ℕ) → AreBytes bytes → None ≡ first_bad bytes (name_fields at t.left n) → None ≡ first_bad bytes (classes_fields bytes s t n)
    → (n ≡ 0 → (t.text ≡ s.text) × (t.tab ≡ s.tab)) → are_symbols s.text s.tab t.text t.tab (symbols_in bytes t n) ≡ true
unfolding name_fields classes_fields class_fields symbols_in
symbols_meet bytes s at t zero small names e last = let l = last refl in both_true (eq-eqb _ _ l.0) (eq-eqb _ _ l.1)
symbols_meet bytes s at t (suc n) small names e last =
    let m = none_of bytes (class_name_fields at t.left) (name_fields (at + name_len t.left + 1 + name_len (behind_name t.left) + 1) (behind_name (behind_name t.left)) n) names in
    let g = none_of bytes (class_fields bytes s (n == 0) t) (classes_fields bytes s (next_turn bytes t) n) e in
    let c = none_of bytes (entry_fields bytes t.at Text (n == 0) s.text t.name t.text) (entry_fields bytes (tables_at t) Tab (n == 0) s.tab (tables_name t) t.tab) g.0 in
    let code = entry_is bytes t.at Text (n == 0) s.text t.name t.text (front_name t.left) small c.0 in
    let tables = entry_is bytes (tables_at t) Tab (n == 0) s.tab (tables_name t) t.tab (front_name (behind_name t.left)) small c.1 in
    both_true (both_true (both_true (class_named bytes at t.left m.0) (region_is bytes t.at Text (n == 0) s.text t.name t.text (front_name t.left) refl code))
    (region_is bytes (tables_at t) Tab (n == 0) s.tab (tables_name t) t.tab (front_name (behind_name t.left)) refl tables))
    (symbols_meet bytes s (at + name_len t.left + 1 + name_len (behind_name t.left) + 1) (next_turn bytes t) n small m.1 g.1 (λ z.
    (region_last (n == 0) s.text t.text _ (eq-eqb _ _ z) code.size_is, region_last (n == 0) s.tab t.tab _ (eq-eqb _ _ z) tables.size_is)))

-- A file whose fields are all good spells an object.
use Rattle.std.proofs.Common.{◌≡◌, ℕ, ◌+◌, ◌-◌, ◌*◌, ◌/◌, ◌%◌, ◌<◌, ◌^◌, Bool, true, false, List, [], ◌∷◌, ◌++◌, length, take, drop, None, refl, sym, ap, subst, ◌∙◌, add-zero, append_assoc, arith, length-drop}
use Rattle.std.specs.Prelude.{codes, zip, ◌||◌}
use Rattle.std.specs.List.{flat_map}
use Rattle.std.proofs.lemmas.Bool.{eqb-true, le-ltb}
use Rattle.std.proofs.lemmas.List.{take-append-drop, take_all}
use Rattle.std.proofs.lemmas.Slice.Eq.{bytes_eq-Decides}
use Rattle.bcj_elf.specs.declared.object.Section.TheVariants.{Text, Tab}
use Rattle.bcj_elf.specs.declared.sizes.Sizes.{Sizes}
use Rattle.bcj_elf.specs.Elf.{word_size, file_header_size, symbol_size, relocation_size}
use Rattle.bcj_elf.specs.Plain.{PlainObject}
use Rattle.bcj_elf.specs.Layout.{first_name_at, strings, section_names, padding, text_at, rela_text_at, tab_at, rela_tab_at, rec_at, symtab_at, strtab_at, shstrtab_at, headers_at, section_headers_size, file_end, sizes, headers}
use Rattle.bcj_elf.specs.Rules.{IsObject, are_relocations, are_symbols}
use Rattle.bcj_elf.specs.Spelling.{zeros, rela, entries, file_header, header_bytes, spelling}
use Rattle.bcj_elf.specs.Fields.{first_bad}
use Rattle.bcj_elf.specs.Places.{shoff_of, file_header_fields, sizes_in, is_symbol_table, are_sizes, section_headers_fields, end_fields, part, classes_in, strtab_in, names_in, zero_field, name_fields, first_turn, null_fields, classes_fields, strtab_fields, symtab_fields, rela_fields, gap_fields, padding_fields, section_name_fields, relocations_fields, contents_fields, fields}
use Rattle.bcj_elf.proofs.Facts.{both}
use Rattle.bcj_elf.proofs.FirstBad.{are_good, none_of}
use Rattle.bcj_elf.proofs.Good.{header_ends_file, end_is}
use Rattle.bcj_elf.proofs.Pieces.{AreBytes, part_length, part_joined, put_before}
use Rattle.bcj_elf.proofs.GoodHeaders.{header_is, sections_are, sizes_right}
use Rattle.bcj_elf.proofs.GoodContents.{padding_is, section_names_are, AreGoodRelocations, relocations_in, relocations_count, relocations_are, symbols_in, symbols_count, names_are, null_is, classes_are, symbols_meet}

-- ---- sizes

record HasGoodSizes (s : Sizes) : Type 0 where
  text : s.text % word_size ≡ 0
  rela_text : s.rela_text % relocation_size ≡ 0
  tab : s.tab % word_size ≡ 0
  rela_tab : s.rela_tab % relocation_size ≡ 0
  symtab : is_symbol_table s ≡ true

good_sizes : (bytes : List ℕ) (shoff : ℕ) (s : Sizes) → None ≡ first_bad bytes (section_headers_fields bytes shoff s) → HasGoodSizes s
unfolding section_headers_fields headers
good_sizes bytes shoff s e =
    let r = sizes_right bytes shoff 0 (zip (headers s) (are_sizes s)) e in
    record { text = eqb-true _ _ r.1.0; rela_text = eqb-true _ _ r.1.1.0; tab = eqb-true _ _ r.1.1.1.0; rela_tab = eqb-true _ _ r.1.1.1.1.0; symtab = r.1.1.1.1.1.1.0 }

headers_are : (bytes : List ℕ) (shoff : ℕ) (s : Sizes) → AreBytes bytes → None ≡ first_bad bytes (section_headers_fields bytes shoff s) → part bytes shoff section_headers_size ≡ flat_map header_bytes (headers s)
unfolding section_headers_fields headers
headers_are bytes shoff s small e = rw add-zero at (sections_are bytes shoff 0 (zip (headers s) (are_sizes s)) small e)

-- the fields of a file are good, part by part
record IsAllGood (bytes : List ℕ) (s : Sizes) : Type 0 where
  header : None ≡ first_bad bytes (file_header_fields bytes)
  sections : None ≡ first_bad bytes (section_headers_fields bytes (shoff_of bytes) s)
  «end» : None ≡ first_bad bytes (end_fields (shoff_of bytes) s)
  gaps : None ≡ first_bad bytes (gap_fields bytes s)
  names : None ≡ first_bad bytes (section_name_fields bytes (shstrtab_at s))
  strtab : None ≡ first_bad bytes (strtab_fields bytes s)
  symtab : None ≡ first_bad bytes (symtab_fields bytes s)
  relas : None ≡ first_bad bytes (rela_fields bytes s)

all_good : (bytes : List ℕ) → None ≡ first_bad bytes (fields bytes) → IsAllGood bytes (sizes_in bytes)
unfolding fields contents_fields
all_good bytes e =
    let p0 = none_of bytes _ _ e in
    let p1 = none_of bytes _ _ p0.1 in
    let p2 = none_of bytes _ _ p1.1 in
    let p3 = none_of bytes _ _ p2.1 in
    let p4 = none_of bytes _ _ p3.1 in
    let p5 = none_of bytes _ _ p4.1 in
    let p6 = none_of bytes _ _ p5.1 in
    record { header = p0.0; sections = p1.0; «end» = p2.0; gaps = p3.0; names = p4.0; strtab = p5.0; symtab = p6.0; relas = p6.1 }

-- what the numbers of a good file are
record HasGoodNumbers (bytes : List ℕ) (s : Sizes) : Type 0 where
  ends : file_end s ≡ length bytes
  place : headers_at s ≡ shoff_of bytes
  small : file_end s < 2 ^ 32
  are : HasGoodSizes s
  symbols : s.symtab ≡ symbol_size + 2 * symbol_size * classes_in s

symbols_fill : (symtab : ℕ) → symtab % 32 ≡ 16 → symtab ≡ 16 + 32 * ((symtab - 16) / 32)
symbols_fill symtab e = omega arith

good_numbers : (bytes : List ℕ) (s : Sizes) → IsAllGood bytes s → HasGoodNumbers bytes s
good_numbers bytes s g =
    let file = header_ends_file bytes g.header in
    let place = end_is bytes (shoff_of bytes) s g.«end» in
    let good = good_sizes bytes (shoff_of bytes) s g.sections in
    let ends : file_end s ≡ length bytes = ap (λ (n : ℕ). n + section_headers_size) place ∙ file.ends in
    record { ends = ends; place = place; small = rw ends file.small; are = good; symbols = symbols_fill s.symtab (eqb-true _ _ (both _ _ good.symtab).0) }

-- ---- the object

abbrev object_in : List ℕ → Sizes → PlainObject
object_in bytes s = record {
  text = part bytes text_at s.text;
  text_relocs = relocations_in bytes (rela_text_at s) (s.rela_text / relocation_size);
  tab = part bytes (tab_at s) s.tab;
  tab_relocs = relocations_in bytes (rela_tab_at s) (s.rela_tab / relocation_size);
  rec = part bytes (rec_at s) s.rec;
  symbols = symbols_in bytes (first_turn bytes s) (classes_in s);
}

strings_are : (bytes : List ℕ) (s : Sizes) → None ≡ first_bad bytes (strtab_fields bytes s) → strings (object_in bytes s).symbols ≡ strtab_in bytes s
unfolding strtab_fields zero_field
strings_are bytes s e =
    let p = none_of bytes (zero_field (strtab_at s) (strtab_in bytes s) ∷ []) (name_fields (strtab_at s + first_name_at) (names_in bytes s) (classes_in s)) e in
    let zero = both _ _ (are_good bytes _ p.0).0 in
    let front : take first_name_at (strtab_in bytes s) ≡ codes "\0" = (bytes_eq-Decides _ _).0 zero.1 in
    ap (λ (z : List ℕ). codes "\0" ++ z) (names_are bytes (strtab_at s + first_name_at) (first_turn bytes s) (classes_in s) p.1)
    ∙ ap (λ (z : List ℕ). z ++ names_in bytes s) (sym front) ∙ take-append-drop first_name_at (strtab_in bytes s)

-- the relocations of a section are those that stand there
relas_are : (bytes : List ℕ) (at size : ℕ) (n : ℕ) → relocation_size * n ≡ size → part bytes at (relocation_size * n) ≡ flat_map rela (relocations_in bytes at n) → flat_map rela (relocations_in bytes at n) ≡ part bytes at size
relas_are bytes at size n e h = sym h ∙ ap (part bytes at) e

entries_fill : (size : ℕ) → size % 12 ≡ 0 → 12 * (size / 12) ≡ size
entries_fill size e = omega arith

record HasGoodRelocations (bytes : List ℕ) (s : Sizes) : Type 0 where
  text : AreGoodRelocations bytes (rela_text_at s) Text (part bytes text_at s.text) (2 * classes_in s) 0 (s.rela_text / relocation_size)
  tab : AreGoodRelocations bytes (rela_tab_at s) Tab (part bytes (tab_at s) s.tab) (2 * classes_in s) 0 (s.rela_tab / relocation_size)

good_relocations : (bytes : List ℕ) (s : Sizes) → AreBytes bytes → None ≡ first_bad bytes (rela_fields bytes s) → HasGoodRelocations bytes s
unfolding rela_fields
good_relocations bytes s small e =
    let p =
    none_of bytes (relocations_fields bytes (rela_text_at s) Text (part bytes text_at s.text) (2 * classes_in s) 0 (s.rela_text / relocation_size))
    (relocations_fields bytes (rela_tab_at s) Tab (part bytes (tab_at s) s.tab) (2 * classes_in s) 0 (s.rela_tab / relocation_size)) e in
    record {
      text = relocations_are bytes (rela_text_at s) Text (part bytes text_at s.text) (2 * classes_in s) 0 (s.rela_text / relocation_size) small p.0;
      tab = relocations_are bytes (rela_tab_at s) Tab (part bytes (tab_at s) s.tab) (2 * classes_in s) 0 (s.rela_tab / relocation_size) small p.1;
    }

record HasGoodSymbols (bytes : List ℕ) (s : Sizes) : Type 0 where
  null : part bytes (symtab_at s) symbol_size ≡ zeros symbol_size
  classes : None ≡ first_bad bytes (classes_fields bytes s (first_turn bytes s) (classes_in s))

good_symbols : (bytes : List ℕ) (s : Sizes) → AreBytes bytes → None ≡ first_bad bytes (symtab_fields bytes s) → HasGoodSymbols bytes s
unfolding symtab_fields
good_symbols bytes s small e =
    let p = none_of bytes (null_fields bytes (symtab_at s)) (classes_fields bytes s (first_turn bytes s) (classes_in s)) e in
    record { null = null_is bytes (symtab_at s) small p.0; classes = p.1 }

symtab_is : (bytes : List ℕ) (s : Sizes) → AreBytes bytes → s.symtab ≡ symbol_size + 2 * symbol_size * classes_in s → HasGoodSymbols bytes s
    → zeros symbol_size ++ entries first_name_at (object_in bytes s).symbols ≡ part bytes (symtab_at s) s.symtab
symtab_is bytes s small size good =
    let more = classes_are bytes s (first_turn bytes s) (classes_in s) small good.classes in
    sym (ap (part bytes (symtab_at s)) size ∙ part_joined bytes (symtab_at s) symbol_size (2 * symbol_size * classes_in s)
    ∙ ap (λ (z : List ℕ). z ++ part bytes (symtab_at s + symbol_size) (2 * symbol_size * classes_in s)) good.null ∙ ap (λ (z : List ℕ). zeros symbol_size ++ z) more)

abbrev made_sizes : ℕ → ℕ → ℕ → ℕ → ℕ → ℕ → ℕ → Sizes
made_sizes text rela_text tab rela_tab rec symtab strtab = record { text = text; rela_text = rela_text; tab = tab; rela_tab = rela_tab; rec = rec; symtab = symtab; strtab = strtab }

of_sizes : (text rela_text tab rela_tab rec symtab strtab : ℕ) (s : Sizes) → text ≡ s.text → rela_text ≡ s.rela_text → tab ≡ s.tab → rela_tab ≡ s.rela_tab → rec ≡ s.rec → symtab ≡ s.symtab → strtab ≡ s.strtab
    → made_sizes text rela_text tab rela_tab rec symtab strtab ≡ s
of_sizes text rela_text tab rela_tab rec symtab strtab s a b c d e f g = rw (a, b, c, d, e, f, g) refl

symtab_size : (bytes : List ℕ) (s : Sizes) → s.symtab ≡ symbol_size + 2 * symbol_size * classes_in s → symbol_size * (1 + length (object_in bytes s).symbols) ≡ s.symtab
symtab_size bytes s size = let count = symbols_count bytes (first_turn bytes s) (classes_in s) in omega arith

sizes_are : (bytes : List ℕ) (s : Sizes) → HasGoodNumbers bytes s → strings (object_in bytes s).symbols ≡ strtab_in bytes s → sizes (object_in bytes s) ≡ s
sizes_are bytes s n names =
    let ends = n.ends in
    of_sizes _ _ _ _ _ _ _ s (part_length bytes text_at s.text (omega arith)) (ap (λ (k : ℕ). relocation_size * k) (relocations_count bytes (rela_text_at s) (s.rela_text / relocation_size)) ∙ entries_fill s.rela_text n.are.rela_text)
    (part_length bytes (tab_at s) s.tab (omega arith)) (ap (λ (k : ℕ). relocation_size * k) (relocations_count bytes (rela_tab_at s) (s.rela_tab / relocation_size)) ∙ entries_fill s.rela_tab n.are.rela_tab)
    (part_length bytes (rec_at s) s.rec (omega arith)) (symtab_size bytes s n.symbols) (ap length names ∙ part_length bytes (strtab_at s) s.strtab (omega arith))

or_right : (a b : Bool) → a ≡ false → (a || b) ≡ true → b ≡ true
or_right true b e h = absurd cc
or_right false b e h = h

-- Where no class has symbols, there is neither code nor a table.
no_classes : (s : Sizes) → is_symbol_table s ≡ true → s.symtab ≡ symbol_size + 2 * symbol_size * classes_in s → classes_in s ≡ 0 → (0 ≡ s.text) × (0 ≡ s.tab)
no_classes s table size none =
    let empty = both _ _ (or_right _ _ (le-ltb symbol_size s.symtab (omega arith)) (both _ _ table).1) in
    (sym (eqb-true _ _ empty.0), sym (eqb-true _ _ empty.1))

names_good : (bytes : List ℕ) (s : Sizes) → None ≡ first_bad bytes (strtab_fields bytes s) → None ≡ first_bad bytes (name_fields (strtab_at s + first_name_at) (names_in bytes s) (classes_in s))
unfolding strtab_fields
names_good bytes s e = (none_of bytes (zero_field (strtab_at s) (strtab_in bytes s) ∷ []) (name_fields (strtab_at s + first_name_at) (names_in bytes s) (classes_in s)) e).1

is_an_object : (bytes : List ℕ) (s : Sizes) → AreBytes bytes → IsAllGood bytes s → HasGoodNumbers bytes s → sizes (object_in bytes s) ≡ s → IsObject (object_in bytes s)
is_an_object bytes s small g n same =
    let relas = good_relocations bytes s small g.relas in
    let count = symbols_count bytes (first_turn bytes s) (classes_in s) in
    let meet = symbols_meet bytes s (strtab_at s + first_name_at) (first_turn bytes s) (classes_in s) small (names_good bytes s g.strtab) (good_symbols bytes s small g.symtab).classes (no_classes s n.are.symtab n.symbols) in
    record {
      text_words = ap (λ (z : Sizes). z.text % word_size) same ∙ n.are.text;
      tab_words = ap (λ (z : Sizes). z.tab % word_size) same ∙ n.are.tab;
      symbols = ap (λ (z : Sizes). are_symbols z.text z.tab 0 0 (object_in bytes s).symbols) same ∙ meet;
      text_relocs = ap (λ (k : ℕ). are_relocations Text (object_in bytes s).text k 0 (object_in bytes s).text_relocs) count ∙ relas.text.meet;
      tab_relocs = ap (λ (k : ℕ). are_relocations Tab (object_in bytes s).tab k 0 (object_in bytes s).tab_relocs) count ∙ relas.tab.meet;
      small = subst (λ (z : Sizes). file_end z < 2 ^ 32) (sym same) n.small;
    }

-- ---- its spelling

-- the parts of a file, in the order in which they are spelled
record ArePieces (bytes : List ℕ) (s : Sizes) (header text rela_text tab rela_tab rec gap null entry names gap' section_names' heads : List ℕ) : Type 0 where
  header_is : header ≡ part bytes 0 file_header_size
  text_is : text ≡ part bytes text_at s.text
  rela_text_is : rela_text ≡ part bytes (rela_text_at s) s.rela_text
  tab_is : tab ≡ part bytes (tab_at s) s.tab
  rela_tab_is : rela_tab ≡ part bytes (rela_tab_at s) s.rela_tab
  rec_is : rec ≡ part bytes (rec_at s) s.rec
  gap_is : gap ≡ part bytes (rec_at s + s.rec) (padding s.rec)
  symtab_is : null ++ entry ≡ part bytes (symtab_at s) s.symtab
  names_are : names ≡ part bytes (strtab_at s) s.strtab
  gap'_is : gap' ≡ part bytes (strtab_at s + s.strtab) (padding s.strtab)
  section_names_are : section_names' ≡ part bytes (shstrtab_at s) (length section_names)
  heads_are : heads ≡ drop (headers_at s) bytes

put_together : (bytes : List ℕ) (s : Sizes) (a b c d e f g h i j k l m : List ℕ) → ArePieces bytes s a b c d e f g h i j k l m → a ++ (b ++ (c ++ (d ++ (e ++ (f ++ (g ++ (h ++ (i ++ (j ++ (k ++ (l ++ m))))))))))) ≡ bytes
put_together bytes s a b c d e f g h i j k l m p =
    let r11 = put_before bytes l m (shstrtab_at s) (length section_names) p.section_names_are p.heads_are in
    let r10 = put_before bytes k _ (strtab_at s + s.strtab) (padding s.strtab) p.gap'_is r11 in
    let r9 = put_before bytes j _ (strtab_at s) s.strtab p.names_are r10 in
    let r8 = sym (append_assoc h i (j ++ (k ++ (l ++ m)))) ∙ put_before bytes (h ++ i) _ (symtab_at s) s.symtab p.symtab_is r9 in
    let r6 = put_before bytes g _ (rec_at s + s.rec) (padding s.rec) p.gap_is r8 in
    let r5 = put_before bytes f _ (rec_at s) s.rec p.rec_is r6 in
    let r4 = put_before bytes e _ (rela_tab_at s) s.rela_tab p.rela_tab_is r5 in
    let r3 = put_before bytes d _ (tab_at s) s.tab p.tab_is r4 in
    let r2 = put_before bytes c _ (rela_text_at s) s.rela_text p.rela_text_is r3 in
    let r1 = put_before bytes b _ text_at s.text p.text_is r2 in
    put_before bytes a _ 0 file_header_size p.header_is r1

gaps_are : (bytes : List ℕ) (s : Sizes) → None ≡ first_bad bytes (gap_fields bytes s) → (part bytes (rec_at s + s.rec) (padding s.rec) ≡ zeros (padding s.rec)) × (part bytes (strtab_at s + s.strtab) (padding s.strtab) ≡ zeros (padding s.strtab))
unfolding gap_fields
gaps_are bytes s e =
    let p = none_of bytes (padding_fields bytes (rec_at s + s.rec) (padding s.rec)) (padding_fields bytes (strtab_at s + s.strtab) (padding s.strtab)) e in
    (padding_is bytes (rec_at s + s.rec) (padding s.rec) p.0, padding_is bytes (strtab_at s + s.strtab) (padding s.strtab) p.1)

heads_end : (bytes : List ℕ) (s : Sizes) → AreBytes bytes → IsAllGood bytes s → HasGoodNumbers bytes s → flat_map header_bytes (headers s) ≡ drop (headers_at s) bytes
heads_end bytes s small g n =
    let ends = n.ends in
    let all : take section_headers_size (drop (shoff_of bytes) bytes) ≡ drop (shoff_of bytes) bytes = take_all section_headers_size (drop (shoff_of bytes) bytes) (omega (arith, length-drop (shoff_of bytes) bytes, n.place)) in
    sym (headers_are bytes (shoff_of bytes) s small g.sections) ∙ all ∙ ap (λ (k : ℕ). drop k bytes) (sym n.place)

is_spelled : (bytes : List ℕ) (s : Sizes) → AreBytes bytes → IsAllGood bytes s → HasGoodNumbers bytes s → sizes (object_in bytes s) ≡ s → spelling (object_in bytes s) ≡ bytes
unfolding spelling
is_spelled bytes s small g n same =
    let relas = good_relocations bytes s small g.relas in
    let gaps = gaps_are bytes s g.gaps in
    put_together bytes s _ _ _ _ _ _ _ (zeros symbol_size) (entries first_name_at (object_in bytes s).symbols) _ _ _ _ (record {
      header_is = ap file_header same ∙ sym (header_is bytes s small g.header n.place);
      text_is = refl;
      rela_text_is = relas_are bytes (rela_text_at s) s.rela_text (s.rela_text / relocation_size) (entries_fill s.rela_text n.are.rela_text) relas.text.spelled;
      tab_is = refl;
      rela_tab_is = relas_are bytes (rela_tab_at s) s.rela_tab (s.rela_tab / relocation_size) (entries_fill s.rela_tab n.are.rela_tab) relas.tab.spelled;
      rec_is = refl;
      gap_is = ap (λ (z : Sizes). zeros (padding z.rec)) same ∙ sym gaps.0;
      symtab_is = symtab_is bytes s small n.symbols (good_symbols bytes s small g.symtab);
      names_are = strings_are bytes s g.strtab;
      gap'_is = ap (λ (z : Sizes). zeros (padding z.strtab)) same ∙ sym gaps.1;
      section_names_are = sym (section_names_are bytes (shstrtab_at s) g.names);
      heads_are = ap (λ (z : Sizes). flat_map header_bytes (headers z)) same ∙ heads_end bytes s small g n;
    })

pub spells : (bytes : List ℕ) → AreBytes bytes → None ≡ first_bad bytes (fields bytes) → (p : PlainObject) × IsObject p × (spelling p ≡ bytes)
spells bytes small none =
    let s = sizes_in bytes in
    let g = all_good bytes none in
    let n = good_numbers bytes s g in
    let same = sizes_are bytes s n (strings_are bytes s g.strtab) in
    (object_in bytes s, is_an_object bytes s small g n same, is_spelled bytes s small g n same)

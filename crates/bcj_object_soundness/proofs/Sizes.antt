-- The parts of an object have at most the bytes that are measured, and so has the file.
use Rattle.std.proofs.Common.{◌≡◌, refl, ap, ℕ, suc, ◌+◌, ◌*◌, ◌%◌, ◌≤◌, List, [], ◌∷◌, ◌++◌, length, map, arith}
use Rattle.std.specs.List.{flat_map}
use Rattle.std.proofs.lemmas.List.{length-append, length-map, length-replicate}
use Rattle.bcj_elf.specs.declared.sizes.Sizes.{Sizes}
use Rattle.bcj_elf.specs.Layout.{headers, first_name_at, section_names, sizes, file_end, strings, terminated, padding}
use Rattle.bcj_elf.specs.Elf.{symbol_size}
use Rattle.bcj_elf.specs.Plain.{PlainObject}
use Rattle.bcj_elf.specs.Spelling as elf
use Rattle.bcj_elf.proofs.Fields.{relas_length, entries_length}
use Rattle.bcj_symbolic_trees.specs.Units.{PlainClass}
use Rattle.bcj_symbolic_measure.specs.Entries.{EntriesLaw}
use Rattle.bcj_symbolic_measure.specs.Bodies.{all_words, all_relocations, class_bodies}
use Rattle.bcj_symbolic_measure.specs.Objects.{text_words, text_relocations, records_size, class_names_size, symbol_names_size, aligned, file_size, object_size, class_entries}
use Rattle.bcj_symbolic_measure.specs.Objects as measure
use Rattle.bcj_lower_rules.specs.Laws.{LongIsMeasured}
use Rattle.bcj_lower_rules.specs.Classes.{code_of, code_of_bodies}
use Rattle.bcj_lower_soundness.specs.Laws.{ShortIsNotLonger}
use Rattle.bcj_tables_rules.specs.Spelling.{class_bytes, spelling}
use Rattle.bcj_object_rules.specs.Objects.{Placed, placed, text_size, tab_size, class_symbols, class_text, class_tab, class_text_relocations, text_relocation, tab_relocation, placed_record, object_at, object_of}
use Rattle.bcj_object_soundness.specs.Laws.{EndsAreMeasured, ObjectsAreMeasured, ObjectsAreSmall}
use Rattle.bcj_object_soundness.proofs.Words.{length-words}
use Rattle.bcj_object_soundness.proofs.Bodies.{class_matches, table-lengths}
use Rattle.bcj_object_soundness.proofs.Records.{word-length, class-record-length}

-- ---- what the classes add up to

-- the bytes of code and of tables, and the relocations of code
unfoldable pub texts : List PlainClass → ℕ
texts [] = 0
texts (c ∷ cs) = text_size (code_of c) + texts cs

unfoldable pub tabs : List PlainClass → ℕ
tabs [] = 0
tabs (c ∷ cs) = tab_size (code_of c) + tabs cs

pub text-length : (n t b : ℕ) (cs : List PlainClass) → length (flat_map class_text (placed n t b cs)) ≡ texts cs
unfolding texts
text-length n t b [] = refl
text-length n t b (c ∷ cs) =
    let rest = placed (n + 1) (t + text_size (code_of c)) (b + tab_size (code_of c)) cs in
    omega (
      arith,
      length-append (class_text (record { class = c; code = code_of c; number = n; text = t; tab = b })) (flat_map class_text rest),
      length-words (code_of c).words,
      text-length (n + 1) (t + text_size (code_of c)) (b + tab_size (code_of c)) cs,
    )

pub tab-length : (n t b : ℕ) (cs : List PlainClass) → length (flat_map class_tab (placed n t b cs)) ≡ tabs cs
unfolding tabs
tab-length n t b [] = refl
tab-length n t b (c ∷ cs) =
    let rest = placed (n + 1) (t + text_size (code_of c)) (b + tab_size (code_of c)) cs in
    omega (
      arith,
      length-append (class_tab (record { class = c; code = code_of c; number = n; text = t; tab = b })) (flat_map class_tab rest),
      length-replicate {A = ℕ} (tab_size (code_of c)) 0,
      tab-length (n + 1) (t + text_size (code_of c)) (b + tab_size (code_of c)) cs,
    )

pub symbols-length : (n t b : ℕ) (cs : List PlainClass) → length (flat_map class_symbols (placed n t b cs)) ≡ 2 * length cs
symbols-length n t b [] = refl
symbols-length n t b (c ∷ cs) = omega (arith, symbols-length (n + 1) (t + text_size (code_of c)) (b + tab_size (code_of c)) cs)

tab-relocations-length : (n t b : ℕ) (cs : List PlainClass) → length (map tab_relocation (placed n t b cs)) ≡ length cs
tab-relocations-length n t b [] = refl
tab-relocations-length n t b (c ∷ cs) = ap suc (tab-relocations-length (n + 1) (t + text_size (code_of c)) (b + tab_size (code_of c)) cs)

names-length : (n t b : ℕ) (cs : List PlainClass) → length (flat_map terminated (flat_map class_symbols (placed n t b cs))) ≡ symbol_names_size cs
names-length n t b [] = refl
names-length n t b (c ∷ cs) =
    simp length-append (omega (arith, names-length (n + 1) (t + text_size (code_of c)) (b + tab_size (code_of c)) cs))

-- the records with their version and their count
rec-length : (version : ℕ) (ps : List Placed) (k : ℕ) → length (flat_map class_bytes (map placed_record ps)) ≤ k
    → length (spelling (record { version = version; classes = map placed_record ps })) ≤ 8 + k
unfolding spelling
rec-length version ps k h = simp (length-append, word-length) (omega (arith, h))

module _ (entries : EntriesLaw) (long : LongIsMeasured) (short : ShortIsNotLonger) where
  class-text : (c : PlainClass) → length (code_of c).words ≤ all_words (class_bodies c)
  unfolding code_of_bodies
  class-text c = (class_matches entries long short c).words

  class-relocations : (c : PlainClass) → length (code_of c).relocations ≤ all_relocations (class_bodies c)
  unfolding code_of_bodies
  class-relocations c = (class_matches entries long short c).relocations _ 0

  texts-measured : (cs : List PlainClass) → texts cs ≤ 4 * text_words cs
  unfolding texts
  texts-measured [] = omega arith
  texts-measured (c ∷ cs) = omega (arith, class-text c, texts-measured cs)

  pub tabs-measured : (cs : List PlainClass) → tabs cs ≡ 4 * measure.table_words cs
  unfolding tabs
  tabs-measured [] = refl
  tabs-measured (c ∷ cs) = omega (arith, table-lengths entries long short c, tabs-measured cs)

  relocations-measured : (n t b : ℕ) (cs : List PlainClass) → length (flat_map class_text_relocations (placed n t b cs)) ≤ text_relocations cs
  relocations-measured n t b [] = omega arith
  relocations-measured n t b (c ∷ cs) =
      let here : Placed = record { class = c; code = code_of c; number = n; text = t; tab = b } in
      let rest = placed (n + 1) (t + text_size (code_of c)) (b + tab_size (code_of c)) cs in
      omega (
        arith,
        length-append (class_text_relocations here) (flat_map class_text_relocations rest),
        length-map (code_of c).relocations (text_relocation here),
        class-relocations c,
        relocations-measured (n + 1) (t + text_size (code_of c)) (b + tab_size (code_of c)) cs,
      )

  records-measured : (n t b : ℕ) (cs : List PlainClass) → length (flat_map class_bytes (map placed_record (placed n t b cs))) ≤ records_size cs
  records-measured n t b [] = omega arith
  records-measured n t b (c ∷ cs) =
      let here : Placed = record { class = c; code = code_of c; number = n; text = t; tab = b } in
      let rest = placed (n + 1) (t + text_size (code_of c)) (b + tab_size (code_of c)) cs in
      omega (
        arith,
        length-append (class_bytes (placed_record here)) (flat_map class_bytes (map placed_record rest)),
        class-record-length entries long short t b c,
        records-measured (n + 1) (t + text_size (code_of c)) (b + tab_size (code_of c)) cs,
      )

-- ---- the file

-- behind whole words nothing is left out
place_whole : (k size : ℕ) → measure.placed (4 * k) size ≡ 4 * k + size
unfolding measure.placed aligned
place_whole k size = omega arith

-- behind bytes that don't fill their last word
place_up : (k n size : ℕ) → measure.placed (4 * k + n) size ≡ 4 * k + (n + padding n) + size
unfolding measure.placed aligned
place_up k n size = omega arith

-- more bytes don't end earlier, with what fills their last word
padding-rises : (m n : ℕ) → m ≤ n → m + padding m ≤ n + padding n
padding-rises m n h = omega arith

padding-fills : (n : ℕ) → (n + padding n) % 4 ≡ 0
padding-fills n = omega arith

-- what is measured, without the places between sections that need none
file-size-is : (text relocations tables classes records names : ℕ)
    → file_size text relocations tables classes records names
    ≡ 52 + 4 * text + 12 * relocations + 4 * tables + 12 * classes + ((8 + records) + padding (8 + records)) + 16 * (1 + 2 * classes) + ((1 + names) + padding (1 + names)) + 76
    + 360
unfolding file_size measure.placed aligned
file-size-is text relocations tables classes records names = omega arith

abbrev sizes_with : (text rela_text tab rela_tab rec symtab strtab : ℕ) → Sizes
sizes_with text rela_text tab rela_tab rec symtab strtab =
    record { text = text; rela_text = rela_text; tab = tab; rela_tab = rela_tab; rec = rec; symtab = symtab; strtab = strtab }

-- a file whose parts are no larger than measured ends no later
file-measured : (text rela_text tab rela_tab rec symtab strtab words relocations tables classes records names : ℕ) → text ≤ 4 * words → rela_text ≤ 12 * relocations → tab ≤ 4 * tables
    → rela_tab ≤ 12 * classes → rec ≤ 8 + records → symtab ≤ 16 * (1 + 2 * classes) → strtab ≤ 1 + names
    → file_end (sizes_with text rela_text tab rela_tab rec symtab strtab) ≤ file_size words relocations tables classes records names
file-measured text rela_text tab rela_tab rec symtab strtab words relocations tables classes records names a b c d e f g =
    omega (
      arith,
      file-size-is words relocations tables classes records names,
      padding-rises rec (8 + records) e,
      padding-rises strtab (1 + names) g,
    )

pub ends-measured : EntriesLaw → LongIsMeasured → ShortIsNotLonger → EndsAreMeasured
unfolding object_at
ends-measured entries long short version u =
    let cs = u.classes in
    let ps = placed 0 0 0 cs in
    file-measured (length (flat_map class_text ps)) (12 * length (flat_map class_text_relocations ps)) (length (flat_map class_tab ps)) (12 * length (map tab_relocation ps))
    (length (spelling (record { version = version; classes = map placed_record ps }))) (16 * (1 + length (flat_map class_symbols ps))) (length (strings (flat_map class_symbols ps)))
    (text_words cs) (text_relocations cs) (measure.table_words cs) (length cs) (records_size cs) (symbol_names_size cs)
    (omega (arith, text-length 0 0 0 cs, texts-measured entries long short cs))
    (omega (arith, relocations-measured entries long short 0 0 0 cs))
    (omega (arith, tab-length 0 0 0 cs, tabs-measured entries long short cs))
    (omega (arith, tab-relocations-length 0 0 0 cs))
    (rec-length version ps (records_size cs) (records-measured entries long short 0 0 0 cs))
    (omega (arith, symbols-length 0 0 0 cs))
    (omega (arith, names-length 0 0 0 cs))

-- ---- its bytes

file-header-length : (s : Sizes) → length (elf.file_header s) ≡ 52
unfolding elf.file_header elf.word elf.half
file-header-length s = refl

headers-length : (s : Sizes) → length (flat_map elf.header_bytes (headers s)) ≡ 360
unfolding headers elf.header_bytes elf.word
headers-length s = refl

parts-length : (a b c d e f g h i j k l m : List ℕ)
    → length (a ++ (b ++ (c ++ (d ++ (e ++ (f ++ (g ++ (h ++ (i ++ (j ++ (k ++ (l ++ m))))))))))))
    ≡ length a + length b + length c + length d + length e + length f + length g + length h + length i + length j + length k + length l + length m
parts-length a b c d e f g h i j k l m = simp length-append (omega arith)

-- the bytes of a file end where its headers say
spelling-length : (o : PlainObject) → length (elf.spelling o) ≡ file_end (sizes o)
unfolding elf.spelling
spelling-length o =
    let name_padding : List ℕ = elf.zeros (padding (length (strings o.symbols))) in
    let all = parts-length (elf.file_header (sizes o)) o.text (flat_map elf.rela o.text_relocs) o.tab (flat_map elf.rela o.tab_relocs) o.rec (elf.zeros (padding (length o.rec)))
    (elf.zeros symbol_size) (elf.entries first_name_at o.symbols) (strings o.symbols) name_padding section_names (flat_map elf.header_bytes (headers (sizes o))) in
    omega (
      arith,
      all,
      file-header-length (sizes o),
      relas_length o.text_relocs,
      relas_length o.tab_relocs,
      length-replicate {A = ℕ} (padding (length o.rec)) 0,
      length-replicate {A = ℕ} symbol_size 0,
      entries_length first_name_at o.symbols,
      length-replicate {A = ℕ} (padding (length (strings o.symbols))) 0,
      headers-length (sizes o),
    )

pub objects-measured : EndsAreMeasured → ObjectsAreMeasured
objects-measured ends version u = omega (arith, spelling-length (object_of version u), ends version u)

pub objects-small : EndsAreMeasured → ObjectsAreSmall
objects-small ends version u small = omega (arith, ends version u, small.object)

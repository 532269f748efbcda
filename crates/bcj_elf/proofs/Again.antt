-- The spelling of an object is read as that object.
use Rattle.std.proofs.Common.{◌≡◌, ℕ, ◌+◌, ◌/◌, ◌-◌, ◌^◌, ◌<◌, ◌≤◌, List, ◌++◌, length, take, drop, Option, Some, refl, sym, ap, ◌∙◌, append_assoc, arith}
use Rattle.std.specs.List.{flat_map, AllByRecursion}
use Rattle.std.proofs.lemmas.Bool.{le-ltb}
use Rattle.std.proofs.lemmas.List.{take_at, drop_at, length-append, length-replicate, drop-drop}
use Rattle.bcj_elf.specs.declared.object.Section.TheVariants.{Text, Tab}
use Rattle.bcj_elf.specs.declared.object.Relocation.{Relocation}
use Rattle.bcj_elf.specs.declared.sizes.Sizes.{Sizes}
use Rattle.bcj_elf.specs.Elf.{file_header_size, symbol_size, relocation_size}
use Rattle.bcj_elf.specs.Plain.{PlainObject, PlainSymbol}
use Rattle.std.proofs.lemmas.Nat.{from_le_bytes-to_le_bytes_4}
use Rattle.bcj_elf.specs.Layout.{first_name_at, rec_index, section_names, section_headers_size, all_headers_size, padding, rec_at, headers, terminated, strings, sizes}
use Rattle.bcj_elf.specs.Rules.{IsObject}
use Rattle.bcj_elf.specs.Spelling.{word, half, zeros, rela, entries, file_header, header_bytes, spelling}
use Rattle.bcj_elf.specs.function.Reading.{sh_offset, header_field, Contents, sizes_at, cuts_at, contents_at, relocations_at, symbols_at, object_of}
use Rattle.bcj_elf.proofs.Facts.{HasRoom, have_room}
use Rattle.bcj_elf.proofs.Fields.{cut_again, relocations_again, relas_length, IsWritable, symbols_again, entries_length, sizes_again}
use Rattle.bcj_elf.proofs.Symbols.{are_writable}

-- the contents of an object's sections
abbrev pub contents_of : PlainObject → Contents
contents_of o = record {
  text = o.text;
  rela_text = flat_map rela o.text_relocs;
  tab = o.tab;
  rela_tab = flat_map rela o.tab_relocs;
  rec = o.rec;
  symtab = zeros symbol_size ++ entries first_name_at o.symbols;
  strtab = strings o.symbols;
}

-- the last n items are heads
record Ends (n : ℕ) (xs heads : List ℕ) : Type 0 where
  room : n ≤ length xs
  is : drop (length xs - n) xs ≡ heads

drop_behind : (a rest : List ℕ) (n : ℕ) → drop (length a + n) (a ++ rest) ≡ drop n rest
drop_behind a rest n = sym (drop-drop n (length a) (a ++ rest)) ∙ ap (drop n) (drop_at a rest (length a) refl)

ends_more : (n : ℕ) (a rest heads : List ℕ) → Ends n rest heads → Ends n (a ++ rest) heads
ends_more n a rest heads h = record {
  room = omega (arith, length-append a rest, h.room);
  is =
      let k : length (a ++ rest) - n ≡ length a + (length rest - n) = omega (arith, length-append a rest, h.room) in
      rw k (drop_behind a rest (length rest - n) ∙ h.is);
}

headers_length : (s : Sizes) → length (flat_map header_bytes (headers s)) ≡ section_headers_size
unfolding headers header_bytes word
headers_length s = refl

-- what follows on the header of the file
abbrev body : PlainObject → List ℕ
body o =
    o.text ++ (flat_map rela o.text_relocs ++ (o.tab ++ (flat_map rela o.tab_relocs
    ++ (o.rec ++ (zeros (padding (length o.rec)) ++ (zeros symbol_size ++ (entries first_name_at o.symbols
    ++ (strings o.symbols ++ (zeros (padding (length (strings o.symbols))) ++ (section_names
    ++ flat_map header_bytes (headers (sizes o))))))))))))

header_length : (s : Sizes) → length (file_header s) ≡ file_header_size
unfolding file_header word half
header_length s = refl

behind_header : (s : Sizes) (rest : List ℕ) → drop file_header_size (file_header s ++ rest) ≡ rest
unfolding file_header word half
behind_header s rest = refl

headers_end : (s : Sizes) → Ends section_headers_size (flat_map header_bytes (headers s)) (flat_map header_bytes (headers s))
headers_end s = let len = headers_length s in record { room = omega (arith, len); is = rw len refl }

body_ends : (o : PlainObject) → Ends section_headers_size (body o) (flat_map header_bytes (headers (sizes o)))
body_ends o =
    let heads = flat_map header_bytes (headers (sizes o)) in
    ends_more section_headers_size o.text _ heads (ends_more section_headers_size (flat_map rela o.text_relocs) _ heads (ends_more section_headers_size o.tab _ heads (ends_more section_headers_size (flat_map rela o.tab_relocs) _ heads
    (ends_more section_headers_size o.rec _ heads (ends_more section_headers_size (zeros (padding (length o.rec))) _ heads (ends_more section_headers_size (zeros symbol_size) _ heads (ends_more section_headers_size (entries first_name_at o.symbols) _ heads
    (ends_more section_headers_size (strings o.symbols) _ heads (ends_more section_headers_size (zeros (padding (length (strings o.symbols)))) _ heads (ends_more section_headers_size section_names heads heads (headers_end (sizes o))))))))))))

cuts_of : (s : Sizes) (text rela_text tab rela_tab rec gap symtab strtab rest : List ℕ) → length text ≡ s.text → length rela_text ≡ s.rela_text → length tab ≡ s.tab → length rela_tab ≡ s.rela_tab
    → length rec ≡ s.rec → length gap ≡ padding s.rec → length symtab ≡ s.symtab → length strtab ≡ s.strtab
    → cuts_at s (text ++ (rela_text ++ (tab ++ (rela_tab ++ (rec ++ (gap ++ (symtab ++ (strtab ++ rest))))))))
    ≡ Some (record { text = text; rela_text = rela_text; tab = tab; rela_tab = rela_tab; rec = rec; symtab = symtab; strtab = strtab })
unfolding cuts_at
cuts_of s text rela_text tab rela_tab rec gap symtab strtab rest e1 e2 e3 e4 e5 e6 e7 e8 =
    rw (
      cut_again s.text text _ e1,
      cut_again s.rela_text rela_text _ e2,
      cut_again s.tab tab _ e3,
      cut_again s.rela_tab rela_tab _ e4,
      cut_again s.rec rec _ e5,
      cut_again (padding s.rec) gap _ e6,
      cut_again s.symtab symtab _ e7,
      cut_again s.strtab strtab rest e8,
    ) refl

cuts_again : (o : PlainObject) → cuts_at (sizes o) (body o) ≡ Some (contents_of o)
cuts_again o =
    cuts_of (sizes o) o.text (flat_map rela o.text_relocs) o.tab (flat_map rela o.tab_relocs) o.rec (zeros (padding (length o.rec))) (zeros symbol_size ++ entries first_name_at o.symbols) (strings o.symbols)
    (zeros (padding (length (strings o.symbols))) ++ (section_names ++ flat_map header_bytes (headers (sizes o))))
    refl (relas_length o.text_relocs) refl (relas_length o.tab_relocs) refl (length-replicate _ _) (omega (arith, entries_length first_name_at o.symbols)) refl

contents_by : (whole heads rest : List ℕ) (s : Sizes) (r : Option Contents) → all_headers_size ≤ length whole → drop (length whole - section_headers_size) whole ≡ heads → drop file_header_size whole ≡ rest → sizes_at heads ≡ s → cuts_at s rest ≡ r
    → contents_at whole ≡ r
unfolding contents_at
contents_by whole heads rest s r long e1 e2 e3 e4 = rw (le-ltb (length whole) all_headers_size long, e1, e2, e3) e4

sizes_small : (o : PlainObject) → IsObject o → sizes_at (flat_map header_bytes (headers (sizes o))) ≡ sizes o
sizes_small o h = let small = h.small in sizes_again (sizes o) (omega arith) (omega arith) (omega arith) (omega arith) (omega arith) (omega arith) (omega arith)

pub contents_again : (o : PlainObject) → IsObject o → contents_at (spelling o) ≡ Some (contents_of o)
unfolding spelling
contents_again o h =
    let heads = flat_map header_bytes (headers (sizes o)) in
    let ends = body_ends o in
    let more = ends_more section_headers_size (file_header (sizes o)) (body o) heads ends in
    contents_by (file_header (sizes o) ++ body o) heads (body o) (sizes o) (Some (contents_of o)) (omega (arith, length-append (file_header (sizes o)) (body o), header_length (sizes o), ends.room))
    more.is (behind_header (sizes o) (body o)) (sizes_small o h) (cuts_again o)

relocations_whole : (rs : List Relocation) → AllByRecursion HasRoom rs → relocations_at (length (flat_map rela rs) / relocation_size) (flat_map rela rs) ≡ rs
relocations_whole rs room =
    let k : length (flat_map rela rs) / relocation_size ≡ length rs = omega (arith, relas_length rs) in
    ap (λ (n : ℕ). relocations_at n (flat_map rela rs)) k ∙ relocations_again rs room

symbols_whole : (ss : List PlainSymbol) → AllByRecursion IsWritable ss → symbols_at (length (entries first_name_at ss) / symbol_size) (entries first_name_at ss) (flat_map terminated ss) ≡ ss
symbols_whole ss h =
    let k : length (entries first_name_at ss) / symbol_size ≡ length ss = omega (arith, entries_length first_name_at ss) in
    ap (λ (n : ℕ). symbols_at n (entries first_name_at ss) (flat_map terminated ss)) k ∙ symbols_again ss first_name_at h

abbrev made : List ℕ → List Relocation → List ℕ → List Relocation → List ℕ → List PlainSymbol → PlainObject
made text text_relocs tab tab_relocs rec symbols = record { text = text; text_relocs = text_relocs; tab = tab; tab_relocs = tab_relocs; rec = rec; symbols = symbols }

of_parts : (a b : List Relocation) (c : List PlainSymbol) (o : PlainObject) → a ≡ o.text_relocs → b ≡ o.tab_relocs → c ≡ o.symbols → made o.text a o.tab b o.rec c ≡ o
of_parts a b c o e f g = rw (e, f, g) refl

pub object_again : (o : PlainObject) → IsObject o → object_of (contents_of o) ≡ o
unfolding object_of
object_again o h =
    let small = h.small in
    let in_text : length o.text < 2 ^ 32 = omega arith in
    let in_tab : length o.tab < 2 ^ 32 = omega arith in
    of_parts _ _ _ o (relocations_whole o.text_relocs (have_room Text o.text (length o.symbols) 0 o.text_relocs in_text h.text_relocs))
    (relocations_whole o.tab_relocs (have_room Tab o.tab (length o.symbols) 0 o.tab_relocs in_tab h.tab_relocs))
    (symbols_whole o.symbols (are_writable (length o.text) (length o.tab) 0 0 o.symbols in_text in_tab h.symbols))

-- no two objects have one spelling
pub one_spelling : (p q : PlainObject) → IsObject p → IsObject q → spelling p ≡ spelling q → p ≡ q
one_spelling p q h k e =
    let same : Some (contents_of p) ≡ Some (contents_of q) = sym (contents_again p h) ∙ ap contents_at e ∙ contents_again q k in
    let parts : contents_of p ≡ contents_of q = cc in
    sym (object_again p h) ∙ ap object_of parts ∙ object_again q k

-- what stands in the places of an object's parts, where the bytes spell one
pub object_there : (p : PlainObject) (bytes : List ℕ) → IsObject p → spelling p ≡ bytes → (c : Contents) × (contents_at bytes ≡ Some c) × (object_of c ≡ p)
object_there p bytes h e = (contents_of p, ap contents_at (sym e) ∙ contents_again p h, object_again p h)

-- sh_offset of `.bcj.rec` in the section headers
abbrev pub rec_field : List ℕ → ℕ
rec_field headers = header_field rec_index sh_offset headers

rec_offset : (s : Sizes) → rec_at s < 2 ^ 32 → rec_field (flat_map header_bytes (headers s)) ≡ rec_at s
unfolding headers header_bytes word
rec_offset s lt = from_le_bytes-to_le_bytes_4 (rec_at s) lt

pub rec_offset_there : (p : PlainObject) (bytes : List ℕ) → IsObject p → spelling p ≡ bytes → (all_headers_size ≤ length bytes) × (rec_field (drop (length bytes - section_headers_size) bytes) ≡ rec_at (sizes p))
unfolding spelling
rec_offset_there p bytes h e =
    let heads = flat_map header_bytes (headers (sizes p)) in
    let ends = body_ends p in
    let more = ends_more section_headers_size (file_header (sizes p)) (body p) heads ends in
    let small = h.small in
    let long : all_headers_size ≤ length (spelling p) = omega (arith, length-append (file_header (sizes p)) (body p), header_length (sizes p), ends.room) in
    (rw (← e) long, rw (← e) (ap (rec_field) more.is ∙ rec_offset (sizes p) (omega arith)))

-- the records stand there
pub records_there : (p : PlainObject) (bytes : List ℕ) → spelling p ≡ bytes → take (length p.rec) (drop (rec_at (sizes p)) bytes) ≡ p.rec
unfolding spelling
records_there p bytes e =
    let s = sizes p in
    let behind = zeros (padding (length p.rec)) ++ (zeros symbol_size ++ (entries first_name_at p.symbols ++ (strings p.symbols ++ (zeros (padding (length (strings p.symbols))) ++ (section_names ++ flat_map header_bytes (headers s)))))) in
    let front : file_header s ++ body p ≡ (file_header s ++ (p.text ++ (flat_map rela p.text_relocs ++ (p.tab ++ flat_map rela p.tab_relocs)))) ++ (p.rec ++ behind) = simp append_assoc in
    let len : length (file_header s ++ (p.text ++ (flat_map rela p.text_relocs ++ (p.tab ++ flat_map rela p.tab_relocs)))) ≡ rec_at s =
    omega (
      arith,
      length-append (file_header s) (p.text ++ (flat_map rela p.text_relocs ++ (p.tab ++ flat_map rela p.tab_relocs))),
      header_length s,
      length-append p.text (flat_map rela p.text_relocs ++ (p.tab ++ flat_map rela p.tab_relocs)),
      length-append (flat_map rela p.text_relocs) (p.tab ++ flat_map rela p.tab_relocs),
      length-append p.tab (flat_map rela p.tab_relocs),
      relas_length p.text_relocs,
      relas_length p.tab_relocs,
    ) in
    rw (← e, front, drop_at _ (p.rec ++ behind) (rec_at s) len) (take_at p.rec behind (length p.rec) refl)

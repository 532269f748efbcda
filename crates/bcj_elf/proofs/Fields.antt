-- A field that was written is read again, whatever follows it.
use Rattle.std.proofs.Common.{◌≡◌, ℕ, zero, suc, ◌+◌, ◌*◌, ◌/◌, ◌%◌, ◌^◌, ◌<◌, cond, eqb, get_or, List, [], ◌∷◌, ◌++◌, length, take, drop, Some, refl, ap, ◌∙◌, append_assoc, arith}
use Rattle.std.specs.List.{flat_map, AllByRecursion}
use Rattle.std.proofs.lemmas.Bool.{le-ltb}
use Rattle.std.proofs.lemmas.List.{take_at, drop_at, length-append}
use Rattle.std.proofs.lemmas.Nat.{from_le_bytes-to_le_bytes_4}
use Rattle.bcj_elf.specs.declared.object.Section.{Section}
use Rattle.bcj_elf.specs.declared.object.Section.TheVariants.{Text, Tab}
use Rattle.bcj_elf.specs.declared.object.RelocationKind.{RelocationKind}
use Rattle.bcj_elf.specs.declared.object.RelocationKind.TheVariants.{Word, Hi20, Lo12I, Lo12S}
use Rattle.bcj_elf.specs.declared.object.Relocation.{Relocation}
use Rattle.bcj_elf.specs.declared.sizes.Sizes.{Sizes}
use Rattle.bcj_elf.specs.Elf.{symbol_size, relocation_size}
use Rattle.bcj_elf.specs.Plain.{PlainSymbol, type_number, kind_at}
use Rattle.bcj_elf.specs.Layout.{headers, terminated, name_len}
use Rattle.bcj_elf.specs.Rules.{word_at}
use Rattle.bcj_elf.specs.Spelling.{word, half, rela, kind_of, entry, entries, header_bytes}
use Rattle.bcj_elf.specs.function.Reading.{cut, sizes_at, relocation_at, relocations_at, symbol_at, symbols_at}
use Rattle.bcj_elf.proofs.Facts.{HasRoom}

pub cut_again : (n : ℕ) (a rest : List ℕ) → length a ≡ n → cut n (a ++ rest) ≡ Some (a, rest)
unfolding cut
cut_again n a rest len =
    rw (le-ltb (length (a ++ rest)) n (omega (arith, length-append a rest)), take_at a rest n len, drop_at a rest n len) refl

-- ---- relocations

kind_again : (k : RelocationKind) → kind_at (type_number k) ≡ k
kind_again Word = refl
kind_again Hi20 = refl
kind_again Lo12I = refl
kind_again Lo12S = refl

type_small : (k : RelocationKind) → type_number k < 256
type_small Word = omega arith
type_small Hi20 = omega arith
type_small Lo12I = omega arith
type_small Lo12S = omega arith

info_parts : (symbol kind : ℕ) → kind < 256 → ((symbol * 256 + kind) / 256 ≡ symbol) × ((symbol * 256 + kind) % 256 ≡ kind)
info_parts symbol kind lt = (omega arith, omega arith)

abbrev made : ℕ → ℕ → RelocationKind → ℕ → Relocation
made offset symbol kind addend = record { offset = offset; symbol = symbol; kind = kind; addend = addend }

of_parts : (offset symbol : ℕ) (kind : RelocationKind) (addend : ℕ) (r : Relocation) → offset ≡ r.offset → symbol ≡ r.symbol → kind ≡ r.kind → addend ≡ r.addend
    → made offset symbol kind addend ≡ r
of_parts offset symbol kind addend r a b c d = rw (a, b, c, d) refl

behind_rela : (r : Relocation) (more : List ℕ) → drop relocation_size (rela r ++ more) ≡ more
unfolding rela word
behind_rela r more = refl

relocation_again : (r : Relocation) (more : List ℕ) → HasRoom r → relocation_at (rela r ++ more) ≡ r
unfolding relocation_at rela word
relocation_again r more room =
    let small = type_small r.kind in
    let parts = info_parts r.symbol (type_number r.kind) small in
    let fits : r.symbol * 256 + type_number r.kind < 2 ^ 32 = omega (arith, room.symbol, small) in
    let offset : word_at 0 (rela r ++ more) ≡ r.offset = from_le_bytes-to_le_bytes_4 r.offset room.offset in
    let info : word_at 4 (rela r ++ more) ≡ r.symbol * 256 + type_number r.kind = from_le_bytes-to_le_bytes_4 (r.symbol * 256 + type_number r.kind) fits in
    let addend : word_at 8 (rela r ++ more) ≡ r.addend = from_le_bytes-to_le_bytes_4 r.addend room.addend in
    let symbol : word_at 4 (rela r ++ more) / 256 ≡ r.symbol = ap (λ (n : ℕ). n / 256) info ∙ parts.0 in
    let kind : kind_at (word_at 4 (rela r ++ more) % 256) ≡ r.kind = ap (λ (n : ℕ). kind_at (n % 256)) info ∙ ap kind_at parts.1 ∙ kind_again r.kind in
    of_parts _ _ _ _ r offset symbol kind addend

pub relocations_again : (rs : List Relocation) → AllByRecursion HasRoom rs → relocations_at (length rs) (flat_map rela rs) ≡ rs
unfolding relocations_at
relocations_again [] room = refl
relocations_again (r ∷ rs) room =
    ap (λ (z : Relocation). z ∷ relocations_at (length rs) (drop relocation_size (rela r ++ flat_map rela rs))) (relocation_again r (flat_map rela rs) room.0)
    ∙ ap (λ (z : List ℕ). r ∷ relocations_at (length rs) z) (behind_rela r (flat_map rela rs)) ∙ ap (λ (z : List Relocation). r ∷ z) (relocations_again rs room.1)

rela_length : (r : Relocation) → length (rela r) ≡ relocation_size
unfolding rela word
rela_length r = refl

pub relas_length : (rs : List Relocation) → length (flat_map rela rs) ≡ relocation_size * length rs
relas_length [] = refl
relas_length (r ∷ rs) = omega (arith, length-append (rela r) (flat_map rela rs), rela_length r, relas_length rs)

-- ---- symbols

abbrev pub NoZero : List ℕ → Type 0
NoZero [] = Unit {0}
NoZero (b ∷ bs) = (0 < b) × NoZero bs

pub record IsWritable (s : PlainSymbol) : Type 0 where
  pub name : NoZero s.name
  pub value : s.value < 2 ^ 32
  pub size : s.size < 2 ^ 32

name_len_again : (name more : List ℕ) → NoZero name → name_len (name ++ 0 ∷ more) ≡ length name
unfolding name_len
name_len_again [] more h = refl
name_len_again (zero ∷ bs) more h = absurd (omega (arith, h.0))
name_len_again (suc b ∷ bs) more h = ap suc (name_len_again bs more h.1)

terminated_names : (s : PlainSymbol) (names : List ℕ) → terminated s ++ names ≡ s.name ++ 0 ∷ names
terminated_names s names = append_assoc s.name (0 ∷ []) names

name_again : (s : PlainSymbol) (names : List ℕ) → NoZero s.name → take (name_len (terminated s ++ names)) (terminated s ++ names) ≡ s.name
name_again s names h = rw (terminated_names s names, name_len_again s.name names h) (take_at s.name (0 ∷ names) (length s.name) refl)

after_again : (s : PlainSymbol) (names : List ℕ) → NoZero s.name → drop (name_len (terminated s ++ names) + 1) (terminated s ++ names) ≡ names
after_again s names h =
    let len : length (terminated s) ≡ name_len (terminated s ++ names) + 1 = omega (arith, length-append s.name (0 ∷ []), ap name_len (terminated_names s names), name_len_again s.name names h) in
    drop_at (terminated s) names (name_len (terminated s ++ names) + 1) len

abbrev made_symbol : List ℕ → ℕ → ℕ → Section → PlainSymbol
made_symbol name value size section = record { name = name; value = value; size = size; section = section }

of_symbol_parts : (name : List ℕ) (value size : ℕ) (section : Section) (s : PlainSymbol) → name ≡ s.name → value ≡ s.value → size ≡ s.size → section ≡ s.section → made_symbol name value size section ≡ s
of_symbol_parts name value size section s a b c d = rw (a, b, c, d) refl

behind_kind : (x : Section) (more : List ℕ) → drop 4 (kind_of x ++ more) ≡ more
unfolding half
behind_kind Text more = refl
behind_kind Tab more = refl

section_again : (x : Section) (more : List ℕ) → cond (eqb (get_or (kind_of x ++ more) 2 0) 1) Text Tab ≡ x
unfolding half
section_again Text more = refl
section_again Tab more = refl

kind_length : (x : Section) → length (kind_of x) ≡ 4
unfolding half
kind_length Text = refl
kind_length Tab = refl

symbol_again : (at : ℕ) (s : PlainSymbol) (more names : List ℕ) → IsWritable s → symbol_at (entry at s ++ more) (terminated s ++ names) ≡ s
unfolding symbol_at entry word
symbol_again at s more names h =
    let value : word_at 4 (entry at s ++ more) ≡ s.value = from_le_bytes-to_le_bytes_4 s.value h.value in
    let size : word_at 8 (entry at s ++ more) ≡ s.size = from_le_bytes-to_le_bytes_4 s.size h.size in
    of_symbol_parts _ _ _ _ s (name_again s names h.name) value size (section_again s.section more)

behind_entry : (at : ℕ) (s : PlainSymbol) (more : List ℕ) → drop symbol_size (entry at s ++ more) ≡ more
unfolding entry word
behind_entry at s more = behind_kind s.section more

entry_length : (at : ℕ) (s : PlainSymbol) → length (entry at s) ≡ symbol_size
unfolding entry word
entry_length at s = ap (λ (n : ℕ). suc (suc (suc (suc (suc (suc (suc (suc (suc (suc (suc (suc n)))))))))))) (kind_length s.section)

pub entries_length : (at : ℕ) (ss : List PlainSymbol) → length (entries at ss) ≡ symbol_size * length ss
unfolding entries
entries_length at [] = refl
entries_length at (s ∷ ss) = omega (arith, length-append (entry at s) (entries (at + length s.name + 1) ss), entry_length at s, entries_length (at + length s.name + 1) ss)

pub symbols_again : (ss : List PlainSymbol) (at : ℕ) → AllByRecursion IsWritable ss → symbols_at (length ss) (entries at ss) (flat_map terminated ss) ≡ ss
unfolding symbols_at entries
symbols_again [] at h = refl
symbols_again (s ∷ ss) at h =
    let more = entries (at + length s.name + 1) ss in
    let names = flat_map terminated ss in
    ap (λ (z : PlainSymbol). z ∷ symbols_at (length ss) (drop symbol_size (entry at s ++ more)) (drop (name_len (terminated s ++ names) + 1) (terminated s ++ names))) (symbol_again at s more names h.0)
    ∙ ap (λ (z : List ℕ). s ∷ symbols_at (length ss) z (drop (name_len (terminated s ++ names) + 1) (terminated s ++ names))) (behind_entry at s more)
    ∙ ap (λ (z : List ℕ). s ∷ symbols_at (length ss) more z) (after_again s names h.0.name)
    ∙ ap (λ (z : List PlainSymbol). s ∷ z) (symbols_again ss (at + length s.name + 1) h.1)

-- ---- sizes

pub sizes_again : (s : Sizes) → s.text < 2 ^ 32 → s.rela_text < 2 ^ 32 → s.tab < 2 ^ 32 → s.rela_tab < 2 ^ 32 → s.rec < 2 ^ 32 → s.symtab < 2 ^ 32 → s.strtab < 2 ^ 32
    → sizes_at (flat_map header_bytes (headers s)) ≡ s
unfolding sizes_at headers header_bytes word
sizes_again s a b c d e f g =
    rw (
      from_le_bytes-to_le_bytes_4 s.text a,
      from_le_bytes-to_le_bytes_4 s.rela_text b,
      from_le_bytes-to_le_bytes_4 s.tab c,
      from_le_bytes-to_le_bytes_4 s.rela_tab d,
      from_le_bytes-to_le_bytes_4 s.rec e,
      from_le_bytes-to_le_bytes_4 s.symtab f,
      from_le_bytes-to_le_bytes_4 s.strtab g,
    ) refl

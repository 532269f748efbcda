-- What makes the parts of an object fit one another.
use Rattle.std.specs.Prelude.{◌≡◌, ℕ, ◌+◌, ◌-◌, ◌/◌, ◌%◌, ◌^◌, ◌<◌, List, [], ◌∷◌, length, take, drop, Bool, true, false, ◌&&◌, ◌==◌, nat_lt, nat_le, codes}
use Rattle.std.specs.Int.{w32, from_le_bytes}
use Rattle.std.specs.Str.{bytes_eq}
use Rattle.bcj_names.specs.Identifiers.{is_identifier}
use Rattle.bcj_elf.specs.declared.object.Section.{Section}
use Rattle.bcj_elf.specs.declared.object.Section.TheVariants.{Text, Tab}
use Rattle.bcj_elf.specs.declared.object.RelocationKind.{RelocationKind}
use Rattle.bcj_elf.specs.declared.object.RelocationKind.TheVariants.{Word, Hi20, Lo12I, Lo12S}
use Rattle.bcj_elf.specs.declared.object.Relocation.{Relocation}
use Rattle.bcj_elf.specs.Elf.{word_size}
use Rattle.bcj_elf.specs.Plain.{PlainSymbol, PlainObject}
use Rattle.bcj_elf.specs.Layout.{sizes, file_end}

-- the little-endian word at an offset
abbrev pub word_at : ℕ → List ℕ → ℕ
word_at at bytes = from_le_bytes w32 (take word_size (drop at bytes))

-- ---- relocations

-- the relocation types of a section: code holds addresses in immediates, tables hold them in words
abbrev pub can_relocate : Section → RelocationKind → Bool
can_relocate Text Word = false
can_relocate Text Hi20 = true
can_relocate Text Lo12I = true
can_relocate Text Lo12S = true
can_relocate Tab Word = true
can_relocate Tab Hi20 = false
can_relocate Tab Lo12I = false
can_relocate Tab Lo12S = false

-- The bits that the relocation sets are zero in the word: all of them; bits 31 to 12 of a U-type instruction, 31 to 20 of an I-type one, 31 to 25 and 11 to 7 of an S-type one.
abbrev pub is_clear : RelocationKind → ℕ → Bool
is_clear Word w = w == 0
is_clear Hi20 w = nat_lt w (2 ^ 12)
is_clear Lo12I w = nat_lt w (2 ^ 20)
is_clear Lo12S w = nat_lt w (2 ^ 25) && w / 2 ^ 7 % 2 ^ 5 == 0

-- The word that a relocation changes
-- begins at `least` or behind, so that relocations stand in rising order and none changes a word twice,
-- begins at a multiple of 4, as instructions and the words of tables do,
-- lies in its section, since there is nothing to change elsewhere,
-- and is clear, so that an object has one spelling: what stands in the bits that are set would be lost.
unfoldable pub is_in_place : List ℕ → ℕ → Relocation → Bool
is_in_place bytes least r = nat_le least r.offset && r.offset % word_size == 0 && nat_le (r.offset + word_size) (length bytes) && is_clear r.kind (word_at r.offset bytes)

-- The relocation has a type of its section,
-- names a symbol and not the null symbol, which has no address,
-- names one of the symbols that are there,
-- its symbol has room in r_info, which keeps 24 bits for it,
-- and its addend has room in r_addend, a word. A file couldn't tell it from another one without these two.
unfoldable pub is_bound : Section → ℕ → Relocation → Bool
is_bound section symbols r = can_relocate section r.kind && nat_lt 0 r.symbol && nat_le r.symbol symbols && nat_lt r.symbol (2 ^ 24) && nat_lt r.addend (2 ^ 32)

-- the relocations of a section, each behind the one before
abbrev pub are_relocations : Section → List ℕ → ℕ → ℕ → List Relocation → Bool
are_relocations section bytes symbols least [] = true
are_relocations section bytes symbols least (r ∷ rs) =
    is_in_place bytes least r && is_bound section symbols r && are_relocations section bytes symbols (r.offset + 1) rs

-- ---- symbols

-- what stands behind a class's name in the names of its two symbols
abbrev pub code_ending : List ℕ
code_ending = codes ".text"

abbrev pub tables_ending : List ℕ
tables_ending = codes ".tab"

abbrev pub before_end : ℕ → List ℕ → List ℕ
before_end n name = take (length name - n) name

abbrev pub at_end : ℕ → List ℕ → List ℕ
at_end n name = drop (length name - n) name

-- the name is that of a class's code
unfoldable pub is_code_name : List ℕ → Bool
is_code_name code = is_identifier (before_end (length code_ending) code) && bytes_eq (at_end (length code_ending) code) code_ending

-- the name is that of the tables of the class whose code has this name
unfoldable pub is_tables_name : List ℕ → List ℕ → Bool
is_tables_name code tables = bytes_eq (at_end (length tables_ending) tables) tables_ending && bytes_eq (before_end (length tables_ending) tables) (before_end (length code_ending) code)

-- the names are those of one class's code and tables
unfoldable pub is_named : List ℕ → List ℕ → Bool
is_named code tables = is_code_name code && is_tables_name code tables

abbrev pub is_section : Section → Section → Bool
is_section Text Text = true
is_section Text Tab = false
is_section Tab Text = false
is_section Tab Tab = true

-- The symbol stands for a region of this section that
-- begins at `at`, where the one before it ended,
-- isn't empty, since a class has an initialiser and a word that points at it,
-- is made of words,
-- and ends in the section.
unfoldable pub is_region : Section → ℕ → ℕ → PlainSymbol → Bool
is_region section «end» at s = is_section section s.section && s.value == at && nat_lt 0 s.size && s.size % word_size == 0 && nat_le (at + s.size) «end»

-- Each class has its code and then its tables. The regions follow one another from text_at and tab_at on and fill both sections.
abbrev pub are_symbols : ℕ → ℕ → ℕ → ℕ → List PlainSymbol → Bool
are_symbols text tab text_at tab_at [] = text_at == text && tab_at == tab
are_symbols text tab text_at tab_at (x ∷ []) = false
are_symbols text tab text_at tab_at (x ∷ y ∷ ss) =
    is_named x.name y.name && is_region Text text text_at x && is_region Tab tab tab_at y && are_symbols text tab (text_at + x.size) (tab_at + y.size) ss

-- ---- objects

pub record IsObject (o : PlainObject) : Type 0 where
  -- code is made of words of 4 bytes; the section behind it needs no padding
  pub text_words : length o.text % word_size ≡ 0
  -- so are the tables
  pub tab_words : length o.tab % word_size ≡ 0
  -- each class has a symbol for its code and one for its tables, and nothing of the two sections is no class's
  pub symbols : are_symbols (length o.text) (length o.tab) 0 0 o.symbols ≡ true
  -- each relocation can be made in its section, and its entry can be read again
  pub text_relocs : are_relocations Text o.text (length o.symbols) 0 o.text_relocs ≡ true
  pub tab_relocs : are_relocations Tab o.tab (length o.symbols) 0 o.tab_relocs ≡ true
  -- the offsets and sizes in the headers are words
  pub small : file_end (sizes o) < 2 ^ 32

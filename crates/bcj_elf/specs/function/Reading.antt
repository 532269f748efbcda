-- What stands in a file at the places of an object's parts, whatever the bytes between, as a function of its bytes. The contract of `read` speaks of the spelling alone.
use Rattle.std.specs.Prelude.{ℕ, zero, suc, ◌+◌, ◌*◌, ◌-◌, ◌/◌, ◌%◌, ◌^◌, List, [], ◌∷◌, length, take, drop, slice_index, Option, Some, None, ◌==◌, nat_lt, if◌then◌else◌}
use Rattle.bcj_elf.specs.declared.object.Section.TheVariants.{Text, Tab}
use Rattle.bcj_elf.specs.declared.object.Relocation.{Relocation}
use Rattle.bcj_elf.specs.declared.sizes.Sizes.{Sizes}
use Rattle.bcj_elf.specs.declared.parts.Parts.{Parts}
use Rattle.bcj_elf.specs.Elf.{file_header_size, section_header_size, symbol_size, relocation_size}
use Rattle.bcj_elf.specs.Plain.{PlainObject, PlainSymbol, kind_at}
use Rattle.bcj_elf.specs.Layout.{first_name_at, text_index, rela_text_index, tab_index, rela_tab_index, rec_index, symtab_index, strtab_index, padding, section_headers_size, all_headers_size, name_len}
use Rattle.bcj_elf.specs.Rules.{word_at}

-- the contents of the sections
pub record Contents : Type 0 where
  pub text : List ℕ
  pub rela_text : List ℕ
  pub tab : List ℕ
  pub rela_tab : List ℕ
  pub rec : List ℕ
  pub symtab : List ℕ
  pub strtab : List ℕ

abbrev pub contents : Parts → Contents
contents p = record {
  text = p.text.now;
  rela_text = p.rela_text.now;
  tab = p.tab.now;
  rela_tab = p.rela_tab.now;
  rec = p.rec.now;
  symtab = p.symtab.now;
  strtab = p.strtab.now;
}

infixl 10 ◌>>=◌
abbrev pub ◌>>=◌ : {A B : Type 0} → Option A → (A → Option B) → Option B
(Some x) >>= f = f x
None >>= f = None

-- the first n bytes and the others
unfoldable pub cut : ℕ → List ℕ → Option (List ℕ × List ℕ)
cut n bytes = if nat_lt (length bytes) n then None else Some (take n bytes, drop n bytes)

-- ---- offsets of fields in their headers and entries

abbrev pub sh_offset : ℕ
sh_offset = 16

abbrev pub sh_size : ℕ
sh_size = 20

abbrev pub r_offset : ℕ
r_offset = 0

abbrev pub r_info : ℕ
r_info = 4

abbrev pub r_addend : ℕ
r_addend = 8

abbrev pub st_value : ℕ
st_value = 4

abbrev pub st_size : ℕ
st_size = 8

abbrev pub st_shndx : ℕ
st_shndx = 14

-- ---- sections

-- a field of the header with this index
abbrev pub header_field : ℕ → ℕ → List ℕ → ℕ
header_field index field headers = word_at (index * section_header_size + field) headers

unfoldable pub sizes_at : List ℕ → Sizes
sizes_at headers = record {
  text = header_field text_index sh_size headers;
  rela_text = header_field rela_text_index sh_size headers;
  tab = header_field tab_index sh_size headers;
  rela_tab = header_field rela_tab_index sh_size headers;
  rec = header_field rec_index sh_size headers;
  symtab = header_field symtab_index sh_size headers;
  strtab = header_field strtab_index sh_size headers;
}

unfoldable pub cuts_at : Sizes → List ℕ → Option Contents
cuts_at s bytes = do
  text ← cut s.text bytes
  rela_text ← cut s.rela_text text.1
  tab ← cut s.tab rela_text.1
  rela_tab ← cut s.rela_tab tab.1
  rec ← cut s.rec rela_tab.1
  gap ← cut (padding s.rec) rec.1
  symtab ← cut s.symtab gap.1
  strtab ← cut s.strtab symtab.1
  Some (record { text = text.0; rela_text = rela_text.0; tab = tab.0; rela_tab = rela_tab.0; rec = rec.0; symtab = symtab.0; strtab = strtab.0 })

unfoldable pub contents_at : List ℕ → Option Contents
contents_at bytes = if nat_lt (length bytes) all_headers_size then None else cuts_at (sizes_at (drop (length bytes - section_headers_size) bytes)) (drop file_header_size bytes)

-- ---- relocations and symbols

unfoldable pub relocation_at : List ℕ → Relocation
relocation_at bytes = record { offset = word_at r_offset bytes; symbol = word_at r_info bytes / 2 ^ 8; kind = kind_at (word_at r_info bytes % 2 ^ 8); addend = word_at r_addend bytes }

unfoldable pub relocations_at : ℕ → List ℕ → List Relocation
relocations_at zero bytes = []
relocations_at (suc n) bytes = relocation_at bytes ∷ relocations_at n (drop relocation_size bytes)

unfoldable pub symbol_at : List ℕ → List ℕ → PlainSymbol
symbol_at bytes names = record {
  name = take (name_len names) names;
  value = word_at st_value bytes;
  size = word_at st_size bytes;
  section = if slice_index bytes st_shndx == text_index then Text else Tab;
}

unfoldable pub symbols_at : ℕ → List ℕ → List ℕ → List PlainSymbol
symbols_at zero bytes names = []
symbols_at (suc n) bytes names = symbol_at bytes names ∷ symbols_at n (drop symbol_size bytes) (drop (name_len names + 1) names)

unfoldable pub object_of : Contents → PlainObject
object_of c = record {
  text = c.text;
  text_relocs = relocations_at (length c.rela_text / relocation_size) c.rela_text;
  tab = c.tab;
  tab_relocs = relocations_at (length c.rela_tab / relocation_size) c.rela_tab;
  rec = c.rec;
  symbols = symbols_at (length (drop symbol_size c.symtab) / symbol_size) (drop symbol_size c.symtab) (drop first_name_at c.strtab);
}

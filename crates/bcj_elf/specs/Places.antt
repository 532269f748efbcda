-- The fields of a file in the order of reading, each with what is asked of it by the fields before it, and the first one that is bad (System V ABI, "Object Files").
use Rattle.std.specs.Prelude.{◌≡◌, ℕ, zero, suc, ◌+◌, ◌*◌, ◌-◌, ◌/◌, ◌%◌, ◌^◌, List, [], ◌∷◌, ◌++◌, length, take, drop, map, zip, Bool, true, Some, ◌&&◌, ◌||◌, ◌==◌, nat_lt, nat_le, if◌then◌else◌, codes}
use Rattle.std.specs.Str.{bytes_eq}
use Rattle.bcj_elf.specs.declared.object.Section.{Section}
use Rattle.bcj_elf.specs.declared.object.Section.TheVariants.{Text, Tab}
use Rattle.bcj_elf.specs.declared.sizes.Sizes.{Sizes}
use Rattle.bcj_elf.specs.declared.sizes.SectionHeader.{SectionHeader}
use Rattle.bcj_elf.specs.Elf.{word_size, file_header_size, section_header_size, symbol_size, relocation_size, ELFMAG, ELFCLASS32, ELFDATA2LSB, EV_CURRENT, ELFOSABI_NONE, ident_padding, ET_REL, EM_RISCV, SHN_UNDEF, STB_GLOBAL, STV_DEFAULT, st_info, unused}
use Rattle.bcj_elf.specs.Plain.{type_number, kind_at}
use Rattle.bcj_elf.specs.Layout.{zero_ended, first_name_at, name_len, front_name, behind_name, text_index, rela_text_index, tab_index, rela_tab_index, rec_index, symtab_index, strtab_index, shstrtab_index, section_count, names_by_index, padding, text_at, rela_text_at, tab_at, rela_tab_at, rec_at, symtab_at, strtab_at, shstrtab_at, headers_at, section_headers_size, headers}
use Rattle.bcj_elf.specs.Spelling.{zeros, symbol_type, index_of}
use Rattle.bcj_elf.specs.Fields.{Field, first_bad, tested, byte_field, half_field, word_field, text_field}
use Rattle.bcj_elf.specs.Rules.{word_at, can_relocate, is_clear, is_code_name, is_tables_name}

-- ---- the file's header (Elf32_Ehdr)

-- The section headers begin at a multiple of 4 and end the file, whose offsets are words.
abbrev pub is_headers_offset : ℕ → ℕ → Bool
is_headers_offset file shoff = shoff % word_size == 0 && shoff + section_headers_size == file && nat_lt file (2 ^ 32)

-- the offset of the field e_shoff
abbrev pub e_shoff : ℕ
e_shoff = 32

-- its value
abbrev pub shoff_of : List ℕ → ℕ
shoff_of bytes = word_at e_shoff bytes

unfoldable pub file_header_fields : List ℕ → List Field
file_header_fields bytes =
    text_field bytes 0 (codes "EI_MAG") ELFMAG
    ∷ byte_field bytes 4 (codes "EI_CLASS") ELFCLASS32
    ∷ byte_field bytes 5 (codes "EI_DATA") ELFDATA2LSB
    ∷ byte_field bytes 6 (codes "EI_VERSION") EV_CURRENT
    ∷ byte_field bytes 7 (codes "EI_OSABI") ELFOSABI_NONE
    ∷ text_field bytes 8 (codes "EI_PAD") (zeros ident_padding)
    ∷ half_field bytes 16 (codes "e_type") ET_REL
    ∷ half_field bytes 18 (codes "e_machine") EM_RISCV
    ∷ word_field bytes 20 (codes "e_version") EV_CURRENT
    ∷ word_field bytes 24 (codes "e_entry") unused
    ∷ word_field bytes 28 (codes "e_phoff") unused
    ∷ tested e_shoff (codes "e_shoff") (is_headers_offset (length bytes) (shoff_of bytes))
    ∷ word_field bytes 36 (codes "e_flags") unused
    ∷ half_field bytes 40 (codes "e_ehsize") file_header_size
    ∷ half_field bytes 42 (codes "e_phentsize") unused
    ∷ half_field bytes 44 (codes "e_phnum") unused
    ∷ half_field bytes 46 (codes "e_shentsize") section_header_size
    ∷ half_field bytes 48 (codes "e_shnum") section_count
    ∷ half_field bytes 50 (codes "e_shstrndx") shstrtab_index
    ∷ []

-- ---- the section headers (Elf32_Shdr)

-- where the section header with an index begins
abbrev pub header_at : ℕ → ℕ → ℕ
header_at shoff index = shoff + section_header_size * index

-- The header with an index says what the layout has. The section may have this size, and ends in front of the section headers.
unfoldable pub section_fields : List ℕ → ℕ → ℕ → SectionHeader → Bool → List Field
section_fields bytes shoff index h is_size =
    let at = header_at shoff index in
    word_field bytes at (codes "sh_name") h.name
    ∷ word_field bytes (at + 4) (codes "sh_type") h.kind
    ∷ word_field bytes (at + 8) (codes "sh_flags") h.flags
    ∷ word_field bytes (at + 12) (codes "sh_addr") unused
    ∷ word_field bytes (at + 16) (codes "sh_offset") h.offset
    ∷ tested (at + 20) (codes "sh_size") (word_at (at + 20) bytes == h.size && is_size && nat_le (h.offset + h.size) shoff)
    ∷ word_field bytes (at + 24) (codes "sh_link") h.link
    ∷ word_field bytes (at + 28) (codes "sh_info") h.info
    ∷ word_field bytes (at + 32) (codes "sh_addralign") h.align
    ∷ word_field bytes (at + 36) (codes "sh_entsize") h.entsize
    ∷ []

-- sh_size of the section header with an index
abbrev pub size_in : List ℕ → ℕ → ℕ
size_in bytes index = word_at (header_at (shoff_of bytes) index + 20) bytes

unfoldable pub sizes_in : List ℕ → Sizes
sizes_in bytes = record {
  text = size_in bytes text_index;
  rela_text = size_in bytes rela_text_index;
  tab = size_in bytes tab_index;
  rela_tab = size_in bytes rela_tab_index;
  rec = size_in bytes rec_index;
  symtab = size_in bytes symtab_index;
  strtab = size_in bytes strtab_index;
}

-- the null symbol and two symbols for each class; there is a class where code or tables are
abbrev pub is_symbol_table : Sizes → Bool
is_symbol_table s = s.symtab % (2 * symbol_size) == symbol_size && (nat_lt symbol_size s.symtab || s.text == 0 && s.tab == 0)

-- what is asked of the sizes by index, besides that they are those of the layout
abbrev pub are_sizes : Sizes → List Bool
are_sizes s =
    true ∷ (s.text % word_size == 0) ∷ (s.rela_text % relocation_size == 0) ∷ (s.tab % word_size == 0) ∷ (s.rela_tab % relocation_size == 0) ∷ true ∷ is_symbol_table s ∷ true ∷ true ∷ []

abbrev pub sections_from : List ℕ → ℕ → ℕ → List (SectionHeader × Bool) → List Field
sections_from bytes shoff index [] = []
sections_from bytes shoff index (h ∷ hs) = section_fields bytes shoff index h.0 h.1 ++ sections_from bytes shoff (index + 1) hs

unfoldable pub section_headers_fields : List ℕ → ℕ → Sizes → List Field
section_headers_fields bytes shoff s = sections_from bytes shoff 0 (zip (headers s) (are_sizes s))

-- the end of the contents, at e_shoff
unfoldable pub end_fields : ℕ → Sizes → List Field
end_fields shoff s = tested e_shoff (codes "e_shoff") (headers_at s == shoff) ∷ []

-- ---- padding and the names of the sections

unfoldable pub padding_fields : List ℕ → ℕ → ℕ → List Field
padding_fields bytes at zero = []
padding_fields bytes at (suc n) = byte_field bytes at (codes "padding") 0 ∷ padding_fields bytes (at + 1) n

-- texts that follow one another
unfoldable pub text_fields : List ℕ → ℕ → List ℕ → List (List ℕ) → List Field
text_fields bytes at name [] = []
text_fields bytes at name (text ∷ texts) = text_field bytes at name text ∷ text_fields bytes (at + length text) name texts

unfoldable pub section_name_fields : List ℕ → ℕ → List Field
section_name_fields bytes at = text_fields bytes at (codes ".shstrtab") (codes "\0" ∷ map zero_ended names_by_index)

-- ---- the names of the symbols

-- the zero byte that begins `.strtab`
unfoldable pub zero_field : ℕ → List ℕ → Field
zero_field at strtab = record { name = codes ".strtab"; at = at; size = first_name_at; is_right = bytes_eq (take first_name_at strtab) (codes "\0") }

-- a name with its zero byte
abbrev pub name_field : ℕ → List ℕ → Bool → Field
name_field at left is_named = record { name = codes ".strtab"; at = at; size = name_len left + 1; is_right = nat_lt (name_len left) (length left) && is_named }

-- the names of a class's code and tables
unfoldable pub class_name_fields : ℕ → List ℕ → List Field
class_name_fields at left =
    name_field at left (is_code_name (front_name left))
    ∷ name_field (at + name_len left + 1) (behind_name left) (is_tables_name (front_name left) (front_name (behind_name left)))
    ∷ []

-- the names of so many classes in what is left of `.strtab`, with nothing behind them
unfoldable pub name_fields : ℕ → List ℕ → ℕ → List Field
name_fields at left zero = record { name = codes ".strtab"; at = at; size = 0; is_right = length left == 0 } ∷ []
name_fields at left (suc n) = class_name_fields at left ++ name_fields (at + name_len left + 1 + name_len (behind_name left) + 1) (behind_name (behind_name left)) n

-- ---- the symbols (Elf32_Sym)

unfoldable pub symbol_fields : List ℕ → ℕ → ℕ → ℕ → Bool → ℕ → ℕ → List Field
symbol_fields bytes at name value is_size info index =
    word_field bytes at (codes "st_name") name
    ∷ word_field bytes (at + 4) (codes "st_value") value
    ∷ tested (at + 8) (codes "st_size") is_size
    ∷ byte_field bytes (at + 12) (codes "st_info") info
    ∷ byte_field bytes (at + 13) (codes "st_other") STV_DEFAULT
    ∷ half_field bytes (at + 14) (codes "st_shndx") index
    ∷ []

-- st_size of the entry at an offset
abbrev pub size_of_symbol : List ℕ → ℕ → ℕ
size_of_symbol bytes at = word_at (at + 8) bytes

-- each field of the null symbol is zero
unfoldable pub null_fields : List ℕ → ℕ → List Field
null_fields bytes at = symbol_fields bytes at 0 0 (size_of_symbol bytes at == 0) 0 SHN_UNDEF

-- A region from `from` on has one or more words. It ends in its section, and the last one where the section ends.
abbrev pub is_region_size : Bool → ℕ → ℕ → ℕ → Bool
is_region_size is_last «end» from size = nat_lt 0 size && size % word_size == 0 && (if is_last then from + size == «end» else nat_le (from + size) «end»)

-- the entry of a symbol whose name stands at `name` in `.strtab` and whose region begins at `from`
unfoldable pub entry_fields : List ℕ → ℕ → Section → Bool → ℕ → ℕ → ℕ → List Field
entry_fields bytes at section is_last «end» name from =
    symbol_fields bytes at name from (is_region_size is_last «end» from (size_of_symbol bytes at)) (st_info STB_GLOBAL (symbol_type section)) (index_of section)

-- where a class is judged: the offset of its first entry, where its first name stands in `.strtab`, what stands there and behind, and where its code and its tables begin, which is where those of the class
-- before it ended
pub record Turn : Type 0 where
  pub at : ℕ
  pub name : ℕ
  pub left : List ℕ
  pub text : ℕ
  pub tab : ℕ

-- the place of the second entry and of its name
abbrev pub tables_at : Turn → ℕ
tables_at t = t.at + symbol_size

abbrev pub tables_name : Turn → ℕ
tables_name t = t.name + name_len t.left + 1

abbrev pub next_turn : List ℕ → Turn → Turn
next_turn bytes t = record {
  at = tables_at t + symbol_size;
  name = tables_name t + name_len (behind_name t.left) + 1;
  left = behind_name (behind_name t.left);
  text = t.text + size_of_symbol bytes t.at;
  tab = t.tab + size_of_symbol bytes (tables_at t);
}

-- the two symbols of a class
unfoldable pub class_fields : List ℕ → Sizes → Bool → Turn → List Field
class_fields bytes s is_last t = entry_fields bytes t.at Text is_last s.text t.name t.text ++ entry_fields bytes (tables_at t) Tab is_last s.tab (tables_name t) t.tab

-- the symbols of so many classes
unfoldable pub classes_fields : List ℕ → Sizes → Turn → ℕ → List Field
classes_fields bytes s t zero = []
classes_fields bytes s t (suc n) = class_fields bytes s (n == 0) t ++ classes_fields bytes s (next_turn bytes t) n

-- ---- relocations (Elf32_Rela)

-- the type of the relocation at an offset, and the index of its symbol
abbrev pub type_of_relocation : List ℕ → ℕ → ℕ
type_of_relocation bytes at = word_at (at + 4) bytes % 2 ^ 8

abbrev pub symbol_of_relocation : List ℕ → ℕ → ℕ
symbol_of_relocation bytes at = word_at (at + 4) bytes / 2 ^ 8

-- a type of the section
abbrev pub is_type : Section → ℕ → Bool
is_type section n = type_number (kind_at n) == n && can_relocate section (kind_at n)

-- The word that is changed lies in the contents at a multiple of 4, from `least` on. The symbol is one of those that are there, and not the null symbol. A word that isn't clear makes the entry bad at its
-- first byte. Each addend is good.
unfoldable pub relocation_fields : List ℕ → ℕ → Section → List ℕ → ℕ → ℕ → List Field
relocation_fields bytes at section contents symbols least =
    let offset = word_at at bytes in
    tested at (codes "r_offset") (nat_le least offset && offset % word_size == 0 && nat_le (offset + word_size) (length contents))
    ∷ tested (at + 4) (codes "r_info") (is_type section (type_of_relocation bytes at) && nat_lt 0 (symbol_of_relocation bytes at) && nat_le (symbol_of_relocation bytes at) symbols)
    ∷ tested at (codes "r_offset") (is_clear (kind_at (type_of_relocation bytes at)) (word_at offset contents))
    ∷ tested (at + 8) (codes "r_addend") true
    ∷ []

-- so many relocations, each behind the one before
unfoldable pub relocations_fields : List ℕ → ℕ → Section → List ℕ → ℕ → ℕ → ℕ → List Field
relocations_fields bytes at section contents symbols least zero = []
relocations_fields bytes at section contents symbols least (suc n) =
    relocation_fields bytes at section contents symbols least ++ relocations_fields bytes (at + relocation_size) section contents symbols (word_at at bytes + 1) n

-- ---- the file

abbrev pub part : List ℕ → ℕ → ℕ → List ℕ
part bytes at size = take size (drop at bytes)

-- how many classes have symbols
abbrev pub classes_in : Sizes → ℕ
classes_in s = (s.symtab - symbol_size) / (2 * symbol_size)

abbrev pub strtab_in : List ℕ → Sizes → List ℕ
strtab_in bytes s = part bytes (strtab_at s) s.strtab

-- the bytes of `.strtab` behind the zero byte that begins it
abbrev pub names_in : List ℕ → Sizes → List ℕ
names_in bytes s = drop first_name_at (strtab_in bytes s)

-- where the symbols of the first class are judged
abbrev pub first_turn : List ℕ → Sizes → Turn
first_turn bytes s = record { at = symtab_at s + symbol_size; name = first_name_at; left = names_in bytes s; text = 0; tab = 0 }

unfoldable pub strtab_fields : List ℕ → Sizes → List Field
strtab_fields bytes s = zero_field (strtab_at s) (strtab_in bytes s) ∷ name_fields (strtab_at s + first_name_at) (names_in bytes s) (classes_in s)

unfoldable pub symtab_fields : List ℕ → Sizes → List Field
symtab_fields bytes s = null_fields bytes (symtab_at s) ++ classes_fields bytes s (first_turn bytes s) (classes_in s)

unfoldable pub rela_fields : List ℕ → Sizes → List Field
rela_fields bytes s =
    relocations_fields bytes (rela_text_at s) Text (part bytes text_at s.text) (2 * classes_in s) 0 (s.rela_text / relocation_size)
    ++ relocations_fields bytes (rela_tab_at s) Tab (part bytes (tab_at s) s.tab) (2 * classes_in s) 0 (s.rela_tab / relocation_size)

-- the padding behind the records and behind the names
unfoldable pub gap_fields : List ℕ → Sizes → List Field
gap_fields bytes s = padding_fields bytes (rec_at s + s.rec) (padding s.rec) ++ padding_fields bytes (strtab_at s + s.strtab) (padding s.strtab)

unfoldable pub contents_fields : List ℕ → Sizes → List Field
contents_fields bytes s = gap_fields bytes s ++ (section_name_fields bytes (shstrtab_at s) ++ (strtab_fields bytes s ++ (symtab_fields bytes s ++ rela_fields bytes s)))

unfoldable pub fields : List ℕ → List Field
fields bytes =
    file_header_fields bytes ++ (section_headers_fields bytes (shoff_of bytes) (sizes_in bytes) ++ (end_fields (shoff_of bytes) (sizes_in bytes) ++ contents_fields bytes (sizes_in bytes)))

-- The field of this name at this offset is bad, or cut by the file's end, and all before it are good.
abbrev pub IsFirstBad : List ℕ → ℕ → List ℕ → Type 0
IsFirstBad bytes at name = first_bad bytes (fields bytes) ≡ Some (at, name)

-- The one spelling of an object: an ELF32 file, little-endian (System V ABI, "Object Files"; RISC-V ELF psABI, "ELF Object Files").
use Rattle.std.specs.Prelude.{ℕ, ◌+◌, List, [], ◌∷◌, ◌++◌, length, replicate}
use Rattle.std.specs.List.{flat_map}
use Rattle.byteorder.specs.Endian.{little_bytes}
use Rattle.bcj_elf.specs.declared.object.Section.{Section}
use Rattle.bcj_elf.specs.declared.object.Section.TheVariants.{Text, Tab}
use Rattle.bcj_elf.specs.declared.object.Relocation.{Relocation}
use Rattle.bcj_elf.specs.declared.sizes.Sizes.{Sizes}
use Rattle.bcj_elf.specs.declared.sizes.SectionHeader.{SectionHeader}
use Rattle.bcj_elf.specs.Elf.{half_size, word_size, file_header_size, section_header_size, symbol_size, ELFMAG, ELFCLASS32, ELFDATA2LSB, EV_CURRENT, ELFOSABI_NONE, ident_padding, ET_REL, EM_RISCV, STB_GLOBAL, STT_OBJECT, STT_FUNC, STV_DEFAULT, st_info, r_info, unused}
use Rattle.bcj_elf.specs.Plain.{PlainObject, PlainSymbol, type_number}
use Rattle.bcj_elf.specs.Layout.{first_name_at, strings, text_index, tab_index, shstrtab_index, section_count, section_names, padding, headers_at, sizes, headers, fields}

unfoldable pub word : ℕ → List ℕ
word n = little_bytes word_size n

unfoldable pub half : ℕ → List ℕ
half n = little_bytes half_size n

abbrev pub words : List ℕ → List ℕ
words ns = flat_map word ns

abbrev pub halves : List ℕ → List ℕ
halves ns = flat_map half ns

abbrev pub zeros : ℕ → List ℕ
zeros n = replicate n 0

-- e_ident
abbrev pub ident : List ℕ
ident = ELFMAG ++ ELFCLASS32 ∷ ELFDATA2LSB ∷ EV_CURRENT ∷ ELFOSABI_NONE ∷ zeros ident_padding

-- e_ident; e_type and e_machine; e_version, e_entry, e_phoff, e_shoff and e_flags; e_ehsize, e_phentsize, e_phnum, e_shentsize, e_shnum and e_shstrndx
unfoldable pub file_header : Sizes → List ℕ
file_header s =
    ident ++ (halves (ET_REL ∷ EM_RISCV ∷ []) ++ (words (EV_CURRENT ∷ unused ∷ unused ∷ headers_at s ∷ unused ∷ [])
    ++ halves (file_header_size ∷ unused ∷ unused ∷ section_header_size ∷ section_count ∷ shstrtab_index ∷ [])))

-- r_offset, r_info and r_addend
unfoldable pub rela : Relocation → List ℕ
rela r = words (r.offset ∷ r_info r.symbol (type_number r.kind) ∷ r.addend ∷ [])

-- code is a function, tables are data
abbrev pub symbol_type : Section → ℕ
symbol_type Text = STT_FUNC
symbol_type Tab = STT_OBJECT

abbrev pub index_of : Section → ℕ
index_of Text = text_index
index_of Tab = tab_index

-- st_info, st_other and st_shndx
abbrev pub kind_of : Section → List ℕ
kind_of x = st_info STB_GLOBAL (symbol_type x) ∷ STV_DEFAULT ∷ half (index_of x)

-- st_name, which is `at`, st_value and st_size, and the others
unfoldable pub entry : ℕ → PlainSymbol → List ℕ
entry at s = words (at ∷ s.value ∷ s.size ∷ []) ++ kind_of s.section

-- The symbols behind the null symbol. Behind a name stands its zero byte.
unfoldable pub entries : ℕ → List PlainSymbol → List ℕ
entries at [] = []
entries at (s ∷ ss) = entry at s ++ entries (at + length s.name + 1) ss

unfoldable pub header_bytes : SectionHeader → List ℕ
header_bytes h = words (fields h)

unfoldable pub spelling : PlainObject → List ℕ
spelling o =
    file_header (sizes o) ++ (o.text ++ (flat_map rela o.text_relocs ++ (o.tab ++ (flat_map rela o.tab_relocs
    ++ (o.rec ++ (zeros (padding (length o.rec)) ++ (zeros symbol_size ++ (entries first_name_at o.symbols
    ++ (strings o.symbols ++ (zeros (padding (length (strings o.symbols))) ++ (section_names
    ++ flat_map header_bytes (headers (sizes o)))))))))))))

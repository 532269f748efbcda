-- The sections of an object, which are this project's own, and where they lie in a file (ELF, "Sections"): each begins at the next multiple of 4, in the order of the headers.
use Rattle.std.specs.Prelude.{ℕ, zero, suc, ◌+◌, ◌*◌, ◌-◌, ◌%◌, List, [], ◌∷◌, ◌++◌, length, take, drop, codes}
use Rattle.std.specs.List.{flat_map}
use Rattle.bcj_elf.specs.declared.sizes.Sizes.{Sizes}
use Rattle.bcj_elf.specs.declared.sizes.SectionHeader.{SectionHeader}
use Rattle.bcj_elf.specs.Elf.{word_size, file_header_size, section_header_size, symbol_size, relocation_size, SHN_UNDEF, SHT_NULL, SHT_PROGBITS, SHT_SYMTAB, SHT_STRTAB, SHT_RELA, SHF_WRITE, SHF_ALLOC, SHF_EXECINSTR, unused}
use Rattle.bcj_elf.specs.Plain.{PlainObject, PlainSymbol}

-- ---- strings

-- a name with the zero byte that ends it
abbrev pub zero_ended : List ℕ → List ℕ
zero_ended name = name ++ codes "\0"

-- the contents of a string section: a zero byte, and the names (ELF, "String Table")
abbrev pub string_section : List (List ℕ) → List ℕ
string_section names = codes "\0" ++ flat_map zero_ended names

-- where the first of the names stands
abbrev pub first_name_at : ℕ
first_name_at = length (string_section [])

abbrev pub terminated : PlainSymbol → List ℕ
terminated s = zero_ended s.name

-- the contents of `.strtab`
abbrev pub strings : List PlainSymbol → List ℕ
strings ss = codes "\0" ++ flat_map terminated ss

-- the bytes before the first zero byte
unfoldable pub name_len : List ℕ → ℕ
name_len [] = 0
name_len (zero ∷ bytes) = 0
name_len (suc b ∷ bytes) = suc (name_len bytes)

-- the name at the front, and what stands behind its zero byte
abbrev pub front_name : List ℕ → List ℕ
front_name left = take (name_len left) left

abbrev pub behind_name : List ℕ → List ℕ
behind_name left = drop (name_len left + 1) left

-- ---- section headers

-- the indices of the sections; the null section has index 0
abbrev pub text_index : ℕ
text_index = 1

abbrev pub rela_text_index : ℕ
rela_text_index = 2

abbrev pub tab_index : ℕ
tab_index = 3

abbrev pub rela_tab_index : ℕ
rela_tab_index = 4

abbrev pub rec_index : ℕ
rec_index = 5

abbrev pub symtab_index : ℕ
symtab_index = 6

abbrev pub strtab_index : ℕ
strtab_index = 7

abbrev pub shstrtab_index : ℕ
shstrtab_index = 8

-- the section headers of a file
abbrev pub section_count : ℕ
section_count = 9

-- the names of the sections behind the null section, by index
abbrev pub names_by_index : List (List ℕ)
names_by_index = codes ".text" ∷ codes ".rela.text" ∷ codes ".bcj.tab" ∷ codes ".rela.bcj.tab" ∷ codes ".bcj.rec" ∷ codes ".symtab" ∷ codes ".strtab" ∷ codes ".shstrtab" ∷ []

-- the contents of `.shstrtab`
abbrev pub section_names : List ℕ
section_names = string_section names_by_index

-- where the name of a section stands there: behind those of the sections before it
abbrev pub name_at : ℕ → ℕ
name_at index = length (string_section (take (index - text_index) names_by_index))

-- ---- places

-- the bytes from the end of n bytes, which begin at a multiple of 4, to the next multiple of 4
abbrev pub padding : ℕ → ℕ
padding n = (word_size - n % word_size) % word_size

abbrev pub text_at : ℕ
text_at = file_header_size

-- The sizes of `.text`, `.bcj.tab` and their relocations are multiples of 4, so nothing stands between these.
abbrev pub rela_text_at : Sizes → ℕ
rela_text_at s = text_at + s.text

abbrev pub tab_at : Sizes → ℕ
tab_at s = rela_text_at s + s.rela_text

abbrev pub rela_tab_at : Sizes → ℕ
rela_tab_at s = tab_at s + s.tab

abbrev pub rec_at : Sizes → ℕ
rec_at s = rela_tab_at s + s.rela_tab

abbrev pub symtab_at : Sizes → ℕ
symtab_at s = rec_at s + s.rec + padding s.rec

abbrev pub strtab_at : Sizes → ℕ
strtab_at s = symtab_at s + s.symtab

abbrev pub shstrtab_at : Sizes → ℕ
shstrtab_at s = strtab_at s + s.strtab + padding s.strtab

-- e_shoff: `.shstrtab` has 76 bytes, a multiple of 4
abbrev pub headers_at : Sizes → ℕ
headers_at s = shstrtab_at s + length section_names

abbrev pub section_headers_size : ℕ
section_headers_size = section_count * section_header_size

-- the bytes of the file: the section headers stand last
abbrev pub file_end : Sizes → ℕ
file_end s = headers_at s + section_headers_size

-- the bytes without which a file has no sizes to read: its header and the section headers
abbrev pub all_headers_size : ℕ
all_headers_size = file_header_size + section_headers_size

-- The symbol table has the null symbol first.
abbrev pub sizes : PlainObject → Sizes
sizes o = record {
  text = length o.text;
  rela_text = relocation_size * length o.text_relocs;
  tab = length o.tab;
  rela_tab = relocation_size * length o.tab_relocs;
  rec = length o.rec;
  symtab = symbol_size * (1 + length o.symbols);
  strtab = length (strings o.symbols);
}

-- ---- the section headers

-- sh_addralign of a section that may begin anywhere
abbrev pub byte_aligned : ℕ
byte_aligned = 1

-- sh_info of a symbol table: the index of the first global symbol, behind the null symbol
abbrev pub first_global : ℕ
first_global = 1

abbrev pub null_section : SectionHeader
null_section = record { name = unused; kind = SHT_NULL; flags = unused; offset = unused; size = unused; link = SHN_UNDEF; info = unused; align = unused; entsize = unused }

-- a section that is loaded
abbrev pub loaded_section : ℕ → ℕ → ℕ → ℕ → SectionHeader
loaded_section name flags offset size = record {
  name = name;
  kind = SHT_PROGBITS;
  flags = flags;
  offset = offset;
  size = size;
  link = SHN_UNDEF;
  info = unused;
  align = word_size;
  entsize = unused;
}

-- the relocations of the section with an index, by symbols of `.symtab`
abbrev pub relocation_section : ℕ → ℕ → ℕ → ℕ → SectionHeader
relocation_section name offset size section = record {
  name = name;
  kind = SHT_RELA;
  flags = unused;
  offset = offset;
  size = size;
  link = symtab_index;
  info = section;
  align = word_size;
  entsize = relocation_size;
}

-- the symbol table, with names in `.strtab`
abbrev pub symbol_section : ℕ → ℕ → ℕ → SectionHeader
symbol_section name offset size = record {
  name = name;
  kind = SHT_SYMTAB;
  flags = unused;
  offset = offset;
  size = size;
  link = strtab_index;
  info = first_global;
  align = word_size;
  entsize = symbol_size;
}

-- records or strings
abbrev pub byte_section : ℕ → ℕ → ℕ → ℕ → SectionHeader
byte_section name kind offset size = record {
  name = name;
  kind = kind;
  flags = unused;
  offset = offset;
  size = size;
  link = SHN_UNDEF;
  info = unused;
  align = byte_aligned;
  entsize = unused;
}

unfoldable pub headers : Sizes → List SectionHeader
headers s =
    null_section
    ∷ loaded_section (name_at text_index) (SHF_ALLOC + SHF_EXECINSTR) text_at s.text
    ∷ relocation_section (name_at rela_text_index) (rela_text_at s) s.rela_text text_index
    ∷ loaded_section (name_at tab_index) (SHF_WRITE + SHF_ALLOC) (tab_at s) s.tab
    ∷ relocation_section (name_at rela_tab_index) (rela_tab_at s) s.rela_tab tab_index
    ∷ byte_section (name_at rec_index) SHT_PROGBITS (rec_at s) s.rec
    ∷ symbol_section (name_at symtab_index) (symtab_at s) s.symtab
    ∷ byte_section (name_at strtab_index) SHT_STRTAB (strtab_at s) s.strtab
    ∷ byte_section (name_at shstrtab_index) SHT_STRTAB (shstrtab_at s) (length section_names)
    ∷ []

-- sh_name, sh_type, sh_flags, sh_addr, sh_offset, sh_size, sh_link, sh_info, sh_addralign and sh_entsize
abbrev pub fields : SectionHeader → List ℕ
fields h = h.name ∷ h.kind ∷ h.flags ∷ unused ∷ h.offset ∷ h.size ∷ h.link ∷ h.info ∷ h.align ∷ h.entsize ∷ []

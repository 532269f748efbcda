-- The numbers of an ELF32 file by ELF's names (System V ABI, "Object Files"; RISC-V ELF psABI, "ELF Object Files").
use Rattle.std.specs.Prelude.{ℕ, ◌+◌, ◌*◌, ◌^◌, List, codes}

-- ---- sizes

-- the bytes of an Elf32_Half and of an Elf32_Word
abbrev pub half_size : ℕ
half_size = 2

abbrev pub word_size : ℕ
word_size = 4

-- the bytes of an Elf32_Ehdr, Elf32_Shdr, Elf32_Sym and Elf32_Rela
abbrev pub file_header_size : ℕ
file_header_size = 52

abbrev pub section_header_size : ℕ
section_header_size = 40

abbrev pub symbol_size : ℕ
symbol_size = 16

abbrev pub relocation_size : ℕ
relocation_size = 12

-- ---- the file's header

-- the first bytes of e_ident
abbrev pub ELFMAG : List ℕ
ELFMAG = codes "\u{7f}ELF"

-- EI_CLASS: objects of 32 bits
abbrev pub ELFCLASS32 : ℕ
ELFCLASS32 = 1

-- EI_DATA: the lowest byte first
abbrev pub ELFDATA2LSB : ℕ
ELFDATA2LSB = 1

-- EI_VERSION and e_version
abbrev pub EV_CURRENT : ℕ
EV_CURRENT = 1

abbrev pub ELFOSABI_NONE : ℕ
ELFOSABI_NONE = 0

-- the bytes of e_ident from EI_OSABI's end on
abbrev pub ident_padding : ℕ
ident_padding = 8

-- e_type: a relocatable file
abbrev pub ET_REL : ℕ
ET_REL = 1

abbrev pub EM_RISCV : ℕ
EM_RISCV = 243

-- ---- section headers

-- the section index that stands for none
abbrev pub SHN_UNDEF : ℕ
SHN_UNDEF = 0

abbrev pub SHT_NULL : ℕ
SHT_NULL = 0

abbrev pub SHT_PROGBITS : ℕ
SHT_PROGBITS = 1

abbrev pub SHT_SYMTAB : ℕ
SHT_SYMTAB = 2

abbrev pub SHT_STRTAB : ℕ
SHT_STRTAB = 3

abbrev pub SHT_RELA : ℕ
SHT_RELA = 4

abbrev pub SHF_WRITE : ℕ
SHF_WRITE = 1

abbrev pub SHF_ALLOC : ℕ
SHF_ALLOC = 2

abbrev pub SHF_EXECINSTR : ℕ
SHF_EXECINSTR = 4

-- ---- symbols

abbrev pub STB_GLOBAL : ℕ
STB_GLOBAL = 1

abbrev pub STT_OBJECT : ℕ
STT_OBJECT = 1

abbrev pub STT_FUNC : ℕ
STT_FUNC = 2

abbrev pub STV_DEFAULT : ℕ
STV_DEFAULT = 0

-- ELF32_ST_INFO: the type has the four low bits
abbrev pub st_info : ℕ → ℕ → ℕ
st_info binding type = binding * 2 ^ 4 + type

-- ---- relocations

abbrev pub R_RISCV_32 : ℕ
R_RISCV_32 = 1

abbrev pub R_RISCV_HI20 : ℕ
R_RISCV_HI20 = 26

abbrev pub R_RISCV_LO12_I : ℕ
R_RISCV_LO12_I = 27

abbrev pub R_RISCV_LO12_S : ℕ
R_RISCV_LO12_S = 28

-- ELF32_R_INFO: the type has the eight low bits, which leaves 24 for the symbol's index
abbrev pub r_info : ℕ → ℕ → ℕ
r_info symbol type = symbol * 2 ^ 8 + type

-- ---- both

-- the value of a field that has no use here: no entry point, no program headers, no flags, no address
abbrev pub unused : ℕ
unused = 0

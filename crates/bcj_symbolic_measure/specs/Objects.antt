-- The bytes of a unit's object file (ELF32): its sections, each at a multiple of 4, with the records of the classes.
use Rattle.std.specs.Prelude.{ℕ, ◌+◌, ◌-◌, ◌*◌, ◌/◌, suc, List, [], ◌∷◌, length, Option, None, Some, codes}
use Rattle.bcj_symbolic_trees.specs.declared.class_tree.ClassHead.{ClassHead}
use Rattle.bcj_symbolic_trees.specs.Descriptors.{descriptor, method_descriptor}
use Rattle.bcj_symbolic_trees.specs.Units.{PlainField, PlainMethod, PlainPair, PlainClass, PlainUnit}
use Rattle.bcj_symbolic_measure.specs.Entries.{PlainEntry, entries_of, entries_size, u8_size, u32_size, string_size}
use Rattle.bcj_symbolic_measure.specs.Bodies.{class_bodies, all_words, all_relocations, all_ranges_size, all_uses}

-- ---- the record of a class

-- a list begins with its count
abbrev pub list_size : ℕ → ℕ
list_size items = u32_size + items

abbrev pub names_size : List (List ℕ) → ℕ
names_size [] = 0
names_size (name ∷ rest) = string_size name + names_size rest

abbrev pub superclass_size : Option (List ℕ) → ℕ
superclass_size None = string_size []
superclass_size (Some name) = string_size name

-- name, flags, superclass and interfaces
abbrev pub head_size : ClassHead → ℕ
head_size h = string_size h.name + (u8_size + (superclass_size h.superclass + list_size (names_size h.interfaces)))

-- name, type, flags and value
abbrev pub field_size : PlainField → ℕ
field_size f = string_size f.name + (string_size (descriptor f.ty) + (u8_size + u32_size))

abbrev pub fields_size : List PlainField → ℕ
fields_size [] = 0
fields_size (f ∷ rest) = field_size f + fields_size rest

-- name and descriptor, with the kind, the entry, the words and the frame
abbrev pub code_size : List ℕ → List ℕ → ℕ
code_size name described = string_size name + (string_size described + (u8_size + 3 * u32_size))

abbrev pub method_size : PlainMethod → ℕ
method_size m = code_size m.name (method_descriptor m.params m.result)

abbrev pub methods_size : List PlainMethod → ℕ
methods_size [] = 0
methods_size (m ∷ rest) = method_size m + methods_size rest

-- method 0 is the class initialiser
abbrev pub all_methods_size : List PlainMethod → ℕ
all_methods_size ms = code_size (codes "<clinit>") (codes "()V") + methods_size ms

abbrev pub pair_size : PlainPair → ℕ
pair_size p = string_size (descriptor p.from) + string_size (descriptor p.to)

abbrev pub pairs_size : List PlainPair → ℕ
pairs_size [] = 0
pairs_size (p ∷ rest) = pair_size p + pairs_size rest

-- head, fields, methods, ranges, pairs, four lists of entries, and the place of the table region
unfoldable pub record_size : PlainClass → ℕ → List PlainEntry → ℕ
record_size c ranges entries =
    head_size c.head
    + (list_size (fields_size c.fields)
    + (list_size (all_methods_size c.methods)
    + (list_size ranges + (list_size (pairs_size c.pairs) + (4 * list_size 0 + (entries_size entries + u32_size))))))

abbrev pub class_entries : PlainClass → List PlainEntry
class_entries c = entries_of (all_uses (class_bodies c))

abbrev pub class_record_size : PlainClass → ℕ
class_record_size c = record_size c (all_ranges_size (class_bodies c)) (class_entries c)

-- ---- what the classes of a unit add up to

abbrev pub text_words : List PlainClass → ℕ
text_words [] = 0
text_words (c ∷ rest) = all_words (class_bodies c) + text_words rest

abbrev pub text_relocations : List PlainClass → ℕ
text_relocations [] = 0
text_relocations (c ∷ rest) = all_relocations (class_bodies c) + text_relocations rest

-- a region begins with the address of the class initialiser
abbrev pub initialiser_word : ℕ
initialiser_word = 1

abbrev pub table_words : List PlainClass → ℕ
table_words [] = 0
table_words (c ∷ rest) = (initialiser_word + length (class_entries c)) + table_words rest

abbrev pub records_size : List PlainClass → ℕ
records_size [] = 0
records_size (c ∷ rest) = class_record_size c + records_size rest

-- in a string section a zero byte stands at the beginning and behind each name
abbrev pub zero_size : ℕ
zero_size = 1

abbrev pub ended_size : List ℕ → List ℕ → ℕ
ended_size name suffix = length name + (length suffix + zero_size)

-- the two symbols of each class
abbrev pub class_names_size : PlainClass → ℕ
class_names_size c = ended_size c.head.name (codes ".text") + ended_size c.head.name (codes ".tab")

abbrev pub symbol_names_size : List PlainClass → ℕ
symbol_names_size [] = 0
symbol_names_size (c ∷ rest) = class_names_size c + symbol_names_size rest

-- ---- sections

-- the contents of each section and the section headers stand at multiples of this
abbrev pub alignment : ℕ
alignment = 4

-- the next such multiple
unfoldable pub aligned : ℕ → ℕ
aligned at = (at + (alignment - 1)) / alignment * alignment

-- where so many bytes end that stand at the next multiple behind a place
unfoldable pub placed : ℕ → ℕ → ℕ
placed at size = aligned at + size

-- where the contents end when these sections follow in order from a place
abbrev pub contents_end : ℕ → List ℕ → ℕ
contents_end at [] = at
contents_end at (size ∷ rest) = contents_end (placed at size) rest

-- the bytes of an Elf32_Ehdr, an Elf32_Shdr, an Elf32_Sym and an Elf32_Rela
abbrev pub header_size : ℕ
header_size = 52

abbrev pub section_header_size : ℕ
section_header_size = 40

abbrev pub symbol_size : ℕ
symbol_size = 16

abbrev pub relocation_size : ℕ
relocation_size = 12

-- the bytes of a word of code or of a table
abbrev pub word_size : ℕ
word_size = 4

abbrev pub section_names : List (List ℕ)
section_names =
    codes ".text"
    ∷ codes ".rela.text"
    ∷ codes ".bcj.tab"
    ∷ codes ".rela.bcj.tab"
    ∷ codes ".bcj.rec"
    ∷ codes ".symtab"
    ∷ codes ".strtab"
    ∷ codes ".shstrtab"
    ∷ []

abbrev pub ended_sizes : List (List ℕ) → ℕ
ended_sizes [] = 0
ended_sizes (name ∷ rest) = ended_size name [] + ended_sizes rest

abbrev pub section_names_size : ℕ
section_names_size = zero_size + ended_sizes section_names

-- section 0 is empty and has a header too
abbrev pub section_headers_size : ℕ
section_headers_size = section_header_size * suc (length section_names)

-- the records begin with their version and the number of classes
abbrev pub records_header_size : ℕ
records_header_size = 2 * u32_size

-- symbol 0 is empty; each class has one for its code and one for its table region
abbrev pub empty_symbol : ℕ
empty_symbol = 1

abbrev pub symbol_count : ℕ → ℕ
symbol_count classes = empty_symbol + 2 * classes

-- the sections' sizes, in order; of the tables' words the first of each class is relocated
abbrev pub sections : ℕ → ℕ → ℕ → ℕ → ℕ → ℕ → List ℕ
sections text relocations tables classes records names =
    word_size * text
    ∷ relocation_size * relocations
    ∷ word_size * tables
    ∷ relocation_size * classes
    ∷ (records_header_size + records)
    ∷ symbol_size * symbol_count classes
    ∷ (zero_size + names)
    ∷ section_names_size
    ∷ []

unfoldable pub file_size : ℕ → ℕ → ℕ → ℕ → ℕ → ℕ → ℕ
file_size text relocations tables classes records names =
    placed (contents_end header_size (sections text relocations tables classes records names)) section_headers_size

abbrev pub object_size : PlainUnit → ℕ
object_size u =
    file_size
    (text_words u.classes)
    (text_relocations u.classes)
    (table_words u.classes)
    (length u.classes)
    (records_size u.classes)
    (symbol_names_size u.classes)

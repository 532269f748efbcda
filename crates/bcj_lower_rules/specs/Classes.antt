-- The code of a class: the words of its bodies one behind the other, the tables with their entries numbered by first use, and
-- what stands at which offset.
use Rattle.std.specs.Prelude.{ℕ, suc, ◌+◌, ◌*◌, Bool, true, false, List, [], ◌∷◌, ◌++◌, length, Option, Some, None, if◌then◌else◌}
use Rattle.rv_isa.specs.declared.instruction.Instr.{Instr}
use Rattle.rv_isa.specs.Words.{word_of, fields_of}
use Rattle.bcj_asm.specs.Forms.{formed, places_of, target_in}
use Rattle.bcj_asm.specs.Assembly.{instructions_of}
use Rattle.bcj_symbolic_trees.specs.Units.{PlainClass}
use Rattle.bcj_symbolic_measure.specs.declared.entry.Role.{Role}
use Rattle.bcj_symbolic_measure.specs.declared.entry.Role.TheVariants as role
use Rattle.bcj_symbolic_measure.specs.Entries.{PlainEntry, same_entry, entries_of}
use Rattle.bcj_lower_rules.specs.declared.half.Half.{Half}
use Rattle.bcj_lower_rules.specs.Lines.{Address, region, entry, Relocated, Line, items_of}
use Rattle.bcj_lower_rules.specs.Words.{word_size}
use Rattle.bcj_lower_rules.specs.Ranges.{LabelRange}
use Rattle.bcj_lower_rules.specs.Bodies.{Body, without_code, with_code, bodies_of}

-- ---- words

abbrev pub instruction_words : List Instr → List ℕ
instruction_words [] = []
instruction_words (i ∷ is) = word_of (fields_of i) ∷ instruction_words is

-- the words of lines, with branches short where they reach
unfoldable pub line_words : List Line → List ℕ
line_words lines = instruction_words (instructions_of (formed (items_of lines)))

abbrev pub body_words : Body → List ℕ
body_words without_code = []
body_words (with_code frame lines ranges) = line_words lines

abbrev pub all_words : List Body → List ℕ
all_words [] = []
all_words (b ∷ rest) = body_words b ++ all_words rest

-- ---- tables

-- the four tables of a class
pub data Table : Type 0 where
  class_table : Table
  offset_table : Table
  address_table : Table
  interface_table : Table

-- the table of an entry
abbrev pub table_of : Role → Table
table_of role.Row = class_table
table_of role.New = class_table
table_of role.FieldOffset = offset_table
table_of role.MethodOffset = offset_table
table_of role.FieldAddress = address_table
table_of role.StaticMethod = address_table
table_of role.SpecialMethod = address_table
table_of role.InterfaceMethod = interface_table

abbrev pub same_table : Table → Table → Bool
same_table class_table class_table = true
same_table offset_table offset_table = true
same_table address_table address_table = true
same_table interface_table interface_table = true
same_table _ _ = false

-- the entry of an address
abbrev pub address_uses : Address → List PlainEntry
address_uses region = []
address_uses (entry e) = e ∷ []

-- the entries that lines use, in their order
abbrev pub relocated_uses : Option Relocated → List PlainEntry
relocated_uses None = []
relocated_uses (Some r) = address_uses r.address

abbrev pub line_uses : List Line → List PlainEntry
line_uses [] = []
line_uses (l ∷ ls) = relocated_uses l.relocated ++ line_uses ls

abbrev pub body_uses : Body → List PlainEntry
body_uses without_code = []
body_uses (with_code frame lines ranges) = line_uses lines

abbrev pub all_uses : List Body → List PlainEntry
all_uses [] = []
all_uses (b ∷ rest) = body_uses b ++ all_uses rest

-- the uses of one table's entries
abbrev pub uses_of : Table → List PlainEntry → List PlainEntry
uses_of t [] = []
uses_of t (e ∷ rest) = if same_table t (table_of e.role) then e ∷ uses_of t rest else uses_of t rest

-- the entries of a table, by first use
unfoldable pub table : Table → List PlainEntry → List PlainEntry
table t uses = entries_of (uses_of t uses)

-- the number of an entry in its table
abbrev pub number_in : PlainEntry → List PlainEntry → ℕ
number_in e [] = 0
number_in e (x ∷ rest) = if same_entry e x then 0 else suc (number_in e rest)

-- the words of the region before a table: one with the address of the class initialiser, and the tables before it
abbrev pub class_start : List PlainEntry → ℕ
class_start uses = 1

abbrev pub offset_start : List PlainEntry → ℕ
offset_start uses = class_start uses + length (table class_table uses)

abbrev pub address_start : List PlainEntry → ℕ
address_start uses = offset_start uses + length (table offset_table uses)

abbrev pub interface_start : List PlainEntry → ℕ
interface_start uses = address_start uses + length (table address_table uses)

abbrev pub table_start : Table → List PlainEntry → ℕ
table_start class_table uses = class_start uses
table_start offset_table uses = offset_start uses
table_start address_table uses = address_start uses
table_start interface_table uses = interface_start uses

-- how many bytes behind the region's first an address lies
abbrev pub region_offset : List PlainEntry → Address → ℕ
region_offset uses region = 0
region_offset uses (entry e) =
    word_size * (table_start (table_of e.role) uses + number_in e (table (table_of e.role) uses))

-- ---- relocations

-- the immediate of the word at `offset` becomes this half of the region's address plus `addend`
pub record PlainRelocation : Type 0 where
  pub offset : ℕ
  pub half : Half
  pub addend : ℕ

abbrev pub relocation_at : List PlainEntry → ℕ → Option Relocated → List PlainRelocation
relocation_at uses at None = []
relocation_at uses at (Some r) =
    record { offset = word_size * at; half = r.half; addend = region_offset uses r.address } ∷ []

-- those of lines at these places, in code that begins at a word of the class
abbrev pub relocations_at : List PlainEntry → ℕ → List Line → List ℕ → List PlainRelocation
relocations_at uses start [] places = []
relocations_at uses start (l ∷ ls) [] = []
relocations_at uses start (l ∷ ls) (p ∷ ps) =
    relocation_at uses (start + p) l.relocated ++ relocations_at uses start ls ps

abbrev pub body_relocations : List PlainEntry → ℕ → Body → List PlainRelocation
body_relocations uses start without_code = []
body_relocations uses start (with_code frame lines ranges) =
    relocations_at uses start lines (places_of (items_of lines))

abbrev pub all_relocations : List PlainEntry → ℕ → List Body → List PlainRelocation
all_relocations uses start [] = []
all_relocations uses start (b ∷ rest) =
    body_relocations uses start b ++ all_relocations uses (start + length (body_words b)) rest

-- ---- methods and ranges

-- the offset of a method's first word, the number of its words, and that of its frame's; 0 each without code
pub record PlainMethodCode : Type 0 where
  pub entry : ℕ
  pub words : ℕ
  pub frame : ℕ

abbrev pub method_code : ℕ → Body → PlainMethodCode
method_code start without_code = record { entry = 0; words = 0; frame = 0 }
method_code start (with_code frame lines ranges) =
    record { entry = word_size * start; words = length (line_words lines); frame = frame }

abbrev pub all_methods : ℕ → List Body → List PlainMethodCode
all_methods start [] = []
all_methods start (b ∷ rest) = method_code start b ∷ all_methods (start + length (body_words b)) rest

-- a range of the method of this number, by offsets
pub record PlainRange : Type 0 where
  pub method : ℕ
  pub start : ℕ
  pub end : ℕ
  pub target : ℕ
  pub class : Option (List ℕ)

-- the offset of a label of lines that begin at a word of the class
abbrev pub label_offset : ℕ → List Line → ℕ → ℕ
label_offset start lines l = word_size * (start + target_in (formed (items_of lines)) l)

abbrev pub ranges_at : (method start : ℕ) → List Line → List LabelRange → List PlainRange
ranges_at method start lines [] = []
ranges_at method start lines (r ∷ rest) =
    record {
      method = method;
      start = label_offset start lines r.start;
      end = label_offset start lines r.end;
      target = label_offset start lines r.target;
      class = r.class;
    }
    ∷ ranges_at method start lines rest

abbrev pub body_ranges : (method start : ℕ) → Body → List PlainRange
body_ranges method start without_code = []
body_ranges method start (with_code frame lines ranges) = ranges_at method start lines ranges

abbrev pub all_ranges : (method start : ℕ) → List Body → List PlainRange
all_ranges method start [] = []
all_ranges method start (b ∷ rest) =
    body_ranges method start b ++ all_ranges (method + 1) (start + length (body_words b)) rest

-- ---- the whole

-- offsets count from the class's own first word and from the first word of its own region
pub record PlainCode : Type 0 where
  pub words : List ℕ
  pub relocations : List PlainRelocation
  pub methods : List PlainMethodCode
  pub ranges : List PlainRange
  pub ctable : List PlainEntry
  pub otable : List PlainEntry
  pub atable : List PlainEntry
  pub itable : List PlainEntry

unfoldable pub code_of_bodies : List Body → PlainCode
code_of_bodies bodies = record {
  words = all_words bodies;
  relocations = all_relocations (all_uses bodies) 0 bodies;
  methods = all_methods 0 bodies;
  ranges = all_ranges 0 0 bodies;
  ctable = table class_table (all_uses bodies);
  otable = table offset_table (all_uses bodies);
  atable = table address_table (all_uses bodies);
  itable = table interface_table (all_uses bodies);
}

abbrev pub code_of : PlainClass → PlainCode
code_of c = code_of_bodies (bodies_of c)

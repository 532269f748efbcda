-- Worked rows: the records of small classes, and the symbols, tables and relocations of two classes in one object, written out by hand.
use Rattle.std.specs.Prelude.{◌≡◌, refl, ℕ, negsuc, true, false, List, [], ◌∷◌, length, Some, None, codes}
use Rattle.bcj_elf.specs.declared.object.Section.TheVariants as section
use Rattle.bcj_elf.specs.declared.object.RelocationKind.{RelocationKind}
use Rattle.bcj_elf.specs.declared.object.RelocationKind.TheVariants as kind
use Rattle.bcj_elf.specs.declared.object.Relocation.{Relocation}
use Rattle.bcj_elf.specs.Plain.{PlainObject, PlainSymbol}
use Rattle.bcj_elf.specs.Layout as layout
use Rattle.bcj_elf.specs.Spelling as elf
use Rattle.bcj_symbolic_trees.specs.declared.class_tree.MethodKind.TheVariants as method
use Rattle.bcj_symbolic_trees.specs.Types.{PlainMethodRef, int_type, bool_type, void_type, class_type, array_type}
use Rattle.bcj_symbolic_trees.specs.Trees.{call_static, no_exprs, evaluate, no_stmts, more_stmts}
use Rattle.bcj_symbolic_trees.specs.Units.{PlainField, PlainMethod, PlainClass, PlainUnit}
use Rattle.bcj_symbolic_measure.specs.Entries.{entries_of, type_entry, new_entry, field_offset, method_offset, field_address, special_method}
use Rattle.bcj_symbolic_measure.specs.Scheme.{is_object_class}
use Rattle.bcj_lower_rules.specs.Words.{enter, exit, region_first, region_second, service, use_entry, initialise, fetch_entry, copy, call}
use Rattle.bcj_lower_rules.specs.Bodies.{init_body, init_lines, method_body, method_lines}
use Rattle.bcj_lower_rules.specs.Classes.{code_of, code_of_bodies, line_words, table}
use Rattle.bcj_lower_rules.specs.Rows.{empty_class}
use Rattle.bcj_tables_rules.specs.declared.records.MethodRecord.{MethodRecord}
use Rattle.bcj_tables_rules.specs.declared.records.AEntryKind.TheVariants as address
use Rattle.bcj_tables_rules.specs.Spelling as records
use Rattle.bcj_object_rules.specs.Records.{field_record, method_head, method_record, class_record, centry, oentry, aentry}
use Rattle.bcj_object_rules.specs.Objects.{object_at, object_of, object, current_version}

-- ---- fields

-- static final int x = -1;
abbrev pub constant_field : PlainField
constant_field = record {
  name = codes "x";
  ty = int_type;
  is_static = true;
  is_final = true;
  is_private = false;
  constant = Some (negsuc 0);
}

pub field_row : field_record constant_field
    ≡ record { name = codes "x"; ty = codes "I"; is_static = true; is_final = true; is_private = false; is_constant = true; value = 4294967295 }
field_row = refl

pub variable_row : field_record (record constant_field { constant = None })
    ≡ record { name = codes "x"; ty = codes "I"; is_static = true; is_final = true; is_private = false; is_constant = false; value = 0 }
variable_row = refl

-- ---- methods

abbrev pub abstract_method : PlainMethod
abstract_method = record {
  name = codes "g";
  params = class_type (codes "A") ∷ [];
  result = array_type bool_type;
  kind = method.Abstract;
  is_private = false;
  locals = [];
  body = no_stmts;
}

-- abstract boolean[] g(A): it stays at 0, wherever its class's code begins
pub abstract_row : method_record 104 (method_head abstract_method) (record { entry = 0; words = 0; frame = 0 })
    ≡ record { name = codes "g"; desc = codes "(LA;)[Z"; kind = method.Abstract; is_private = false; entry = 0; words = 0; frame = 0 }
abstract_row = refl

-- ---- entries

abbrev pub named_method : PlainMethodRef
named_method = record { class = codes "A"; name = codes "f"; params = []; result = void_type }

pub type_row : centry (type_entry (class_type (codes "A"))) ≡ record { is_new = false; ty = codes "LA;" }
type_row = refl

pub new_row : centry (new_entry (codes "A")) ≡ record { is_new = true; ty = codes "LA;" }
new_row = refl

pub offset_row : oentry (field_offset (record { class = codes "A"; name = codes "x"; ty = bool_type }))
    ≡ record { is_method = false; class = codes "A"; name = codes "x"; desc = codes "Z" }
offset_row = refl

pub method_row : oentry (method_offset named_method) ≡ record { is_method = true; class = codes "A"; name = codes "f"; desc = codes "()V" }
method_row = refl

pub special_row : aentry (special_method named_method) ≡ record { kind = address.Special; class = codes "A"; name = codes "f"; desc = codes "()V" }
special_row = refl

pub static_field_row : aentry (field_address (record { class = codes "A"; name = codes "x"; ty = bool_type }))
    ≡ record { kind = address.Field; class = codes "A"; name = codes "x"; desc = codes "Z" }
static_field_row = refl

-- ---- records

abbrev pub initialiser_record : ℕ → MethodRecord
initialiser_record entry =
    record { name = codes "<clinit>"; desc = codes "()V"; kind = method.Static; is_private = false; entry = entry; words = 26; frame = 1 }

-- class M { } behind 200 bytes of code and 12 of tables
pub empty_row : class_record 200 12 empty_class (code_of empty_class)
    ≡ record {
      head = empty_class.head;
      fields = [];
      methods = initialiser_record 200 ∷ [];
      ranges = record { method = 0; start = 248; «end» = 264; target = 280; class = None } ∷ [];
      pairs = [];
      ctable = [];
      otable = [];
      atable = [];
      itable = [];
      table = 12;
    }
unfolding class_record is_object_class code_of_bodies init_body init_lines enter exit region_first region_second service line_words table entries_of
empty_row = refl

-- ---- two classes

-- class C { static void f() { C.f(); } }
abbrev pub called : PlainMethodRef
called = record { class = codes "C"; name = codes "f"; params = []; result = void_type }

abbrev pub calling : PlainMethod
calling = record {
  name = codes "f";
  params = [];
  result = void_type;
  kind = method.Static;
  is_private = false;
  locals = [];
  body = more_stmts (evaluate (call_static called no_exprs)) no_stmts;
}

abbrev pub caller : PlainClass
caller = record {
  head = record { name = codes "C"; interface = false; is_abstract = false; superclass = Some (codes "Object"); interfaces = [] };
  fields = [];
  init = record { locals = []; body = no_stmts };
  methods = calling ∷ [];
  pairs = [];
}

-- it and class M { }
abbrev pub two : PlainUnit
two = record { classes = caller ∷ empty_class ∷ [] }

abbrev pub parts : PlainObject
parts = object_of current_version two

abbrev pub code_symbol_of : List ℕ → ℕ → ℕ → PlainSymbol
code_symbol_of name value size = record { name = name; value = value; size = size; section = section.Text }

abbrev pub tables_symbol_of : List ℕ → ℕ → ℕ → PlainSymbol
tables_symbol_of name value size = record { name = name; value = value; size = size; section = section.Tab }

-- 26 words of a class initialiser and 29 of f, and a region with one entry; then 26 words, and a region with none
pub symbols_row : parts.symbols
    ≡ code_symbol_of (codes "C.text") 0 220 ∷ tables_symbol_of (codes "C.tab") 0 8
    ∷ code_symbol_of (codes "M.text") 220 104 ∷ tables_symbol_of (codes "M.tab") 8 4
    ∷ []
unfolding object_at is_object_class code_of_bodies init_body init_lines method_body method_lines enter exit region_first region_second service use_entry initialise fetch_entry copy call line_words table entries_of
symbols_row = refl

abbrev pub set_by : RelocationKind → (offset symbol addend : ℕ) → Relocation
set_by k offset symbol addend = record { offset = offset; symbol = symbol; kind = k; addend = addend }

-- two words name the region in each class initialiser, and four f's entry
pub text_relocations_row : parts.text_relocs
    ≡ set_by kind.Hi20 48 2 0 ∷ set_by kind.Lo12I 52 2 0 ∷ set_by kind.Hi20 80 2 0 ∷ set_by kind.Lo12I 84 2 0
    ∷ set_by kind.Hi20 152 2 4 ∷ set_by kind.Lo12I 156 2 4 ∷ set_by kind.Hi20 192 2 4 ∷ set_by kind.Lo12I 196 2 4
    ∷ set_by kind.Hi20 268 4 0 ∷ set_by kind.Lo12I 272 4 0 ∷ set_by kind.Hi20 300 4 0 ∷ set_by kind.Lo12I 304 4 0
    ∷ []
unfolding object_at is_object_class code_of_bodies init_body init_lines method_body method_lines enter exit region_first region_second service use_entry initialise fetch_entry copy call line_words table entries_of
text_relocations_row = refl

-- the first word of each region is the address of the class's code
pub tables_row : parts.tab ≡ 0 ∷ 0 ∷ 0 ∷ 0 ∷ 0 ∷ 0 ∷ 0 ∷ 0 ∷ 0 ∷ 0 ∷ 0 ∷ 0 ∷ []
unfolding object_at is_object_class code_of_bodies init_body init_lines method_body method_lines enter exit region_first region_second service use_entry initialise fetch_entry copy call line_words table entries_of
tables_row = refl

pub table_relocations_row : parts.tab_relocs ≡ set_by kind.Word 0 1 0 ∷ set_by kind.Word 8 3 0 ∷ []
unfolding object_at is_object_class code_of_bodies init_body init_lines method_body method_lines enter exit region_first region_second service use_entry initialise fetch_entry copy call line_words table entries_of
table_relocations_row = refl

-- ---- no class

-- a header, records without a class, symbol 0, two sections of names, and nine section headers
pub size_row : length (object (record { classes = [] })) ≡ 516
unfolding object_at elf.spelling elf.file_header elf.word elf.half elf.entries elf.header_bytes layout.headers records.spelling records.word
size_row = refl

-- The record of a class as linking reads it: the class's members with their descriptors (JVMS 4.3), and where the words, ranges and
-- entries of its code stand. Offsets in the code scheme count from the class's own first word; here they count from the object's.
use Rattle.std.specs.Prelude.{ℕ, ◌+◌, ℤ, Bool, true, false, List, [], ◌∷◌, map, Option, Some, None, codes}
use Rattle.rv_isa.specs.Registers.{xlen}
use Rattle.rv_isa.specs.Words.{bits}
use Rattle.bcj_symbolic_trees.specs.declared.class_tree.MethodKind.{MethodKind}
use Rattle.bcj_symbolic_trees.specs.declared.class_tree.MethodKind.TheVariants as kind
use Rattle.bcj_symbolic_trees.specs.Names.{class_initialiser_name}
use Rattle.bcj_symbolic_trees.specs.Descriptors.{descriptor, method_descriptor}
use Rattle.bcj_symbolic_trees.specs.Units.{PlainField, PlainMethod, PlainPair, PlainClass}
use Rattle.bcj_symbolic_measure.specs.declared.entry.Role.{Role}
use Rattle.bcj_symbolic_measure.specs.declared.entry.Role.TheVariants as role
use Rattle.bcj_symbolic_measure.specs.Entries.{PlainTarget, type_target, field_target, method_target, PlainEntry}
use Rattle.bcj_lower_rules.specs.Classes.{PlainMethodCode, PlainRange, PlainCode}
use Rattle.bcj_tables_rules.specs.declared.records.FieldRecord.{FieldRecord}
use Rattle.bcj_tables_rules.specs.declared.records.MethodRecord.{MethodRecord}
use Rattle.bcj_tables_rules.specs.declared.records.Range.{Range}
use Rattle.bcj_tables_rules.specs.declared.records.PairRecord.{PairRecord}
use Rattle.bcj_tables_rules.specs.declared.records.CEntry.{CEntry}
use Rattle.bcj_tables_rules.specs.declared.records.OEntry.{OEntry}
use Rattle.bcj_tables_rules.specs.declared.records.AEntryKind.{AEntryKind}
use Rattle.bcj_tables_rules.specs.declared.records.AEntryKind.TheVariants as address
use Rattle.bcj_tables_rules.specs.declared.records.AEntry.{AEntry}
use Rattle.bcj_tables_rules.specs.declared.records.IEntry.{IEntry}
use Rattle.bcj_tables_rules.specs.declared.records.ClassRecord.{ClassRecord}

-- ---- fields

abbrev pub is_constant : Option ℤ → Bool
is_constant None = false
is_constant (Some n) = true

-- the word that a constant is, in two's complement; 0 where there is none
abbrev pub constant_word : Option ℤ → ℕ
constant_word None = 0
constant_word (Some n) = bits xlen n

abbrev pub field_record : PlainField → FieldRecord
field_record f = record {
  name = f.name;
  ty = descriptor f.ty;
  is_static = f.is_static;
  is_final = f.is_final;
  is_private = f.is_private;
  is_constant = is_constant f.constant;
  value = constant_word f.constant;
}

-- ---- methods

-- what a method is called and how it is called, without its code
pub record Head : Type 0 where
  pub name : List ℕ
  pub desc : List ℕ
  pub kind : MethodKind
  pub is_private : Bool

abbrev pub init_head : Head
init_head = record { name = class_initialiser_name; desc = codes "()V"; kind = kind.Static; is_private = false }

abbrev pub method_head : PlainMethod → Head
method_head m = record { name = m.name; desc = method_descriptor m.params m.result; kind = m.kind; is_private = m.is_private }

-- the class initialiser is method 0
abbrev pub heads_of : PlainClass → List Head
heads_of c = init_head ∷ map method_head c.methods

-- the offset of a method's code, which begins at `text` with its class's; without code it is 0
abbrev pub entry_at : ℕ → PlainMethodCode → MethodKind → ℕ
entry_at text m kind.Abstract = 0
entry_at text m _ = text + m.entry

abbrev pub method_record : ℕ → Head → PlainMethodCode → MethodRecord
method_record text h m = record {
  name = h.name;
  desc = h.desc;
  kind = h.kind;
  is_private = h.is_private;
  entry = entry_at text m h.kind;
  words = m.words;
  frame = m.frame;
}

-- each method with its code
abbrev pub method_records : ℕ → List Head → List PlainMethodCode → List MethodRecord
method_records text (h ∷ hs) (m ∷ ms) = method_record text h m ∷ method_records text hs ms
method_records text _ _ = []

-- ---- ranges and pairs

abbrev pub range_record : ℕ → PlainRange → Range
range_record text r = record { method = r.method; start = text + r.start; «end» = text + r.end; target = text + r.target; class = r.class }

abbrev pub pair_record : PlainPair → PairRecord
pair_record p = record { from = descriptor p.from; to = descriptor p.to }

-- ---- entries

-- the class, the name and the descriptor of what an entry names; a type has its descriptor alone
abbrev pub target_class : PlainTarget → List ℕ
target_class (type_target t) = []
target_class (field_target f) = f.class
target_class (method_target m) = m.class

abbrev pub target_name : PlainTarget → List ℕ
target_name (type_target t) = []
target_name (field_target f) = f.name
target_name (method_target m) = m.name

abbrev pub target_descriptor : PlainTarget → List ℕ
target_descriptor (type_target t) = descriptor t
target_descriptor (field_target f) = descriptor f.ty
target_descriptor (method_target m) = method_descriptor m.params m.result

abbrev pub is_new : Role → Bool
is_new role.New = true
is_new _ = false

abbrev pub is_method : Role → Bool
is_method role.MethodOffset = true
is_method _ = false

abbrev pub address_kind : Role → AEntryKind
address_kind role.FieldAddress = address.Field
address_kind role.StaticMethod = address.StaticMethod
address_kind _ = address.Special

abbrev pub centry : PlainEntry → CEntry
centry e = record { is_new = is_new e.role; ty = target_descriptor e.target }

abbrev pub oentry : PlainEntry → OEntry
oentry e = record { is_method = is_method e.role; class = target_class e.target; name = target_name e.target; desc = target_descriptor e.target }

abbrev pub aentry : PlainEntry → AEntry
aentry e = record { kind = address_kind e.role; class = target_class e.target; name = target_name e.target; desc = target_descriptor e.target }

abbrev pub ientry : PlainEntry → IEntry
ientry e = record { class = target_class e.target; name = target_name e.target; desc = target_descriptor e.target }

-- ---- the whole

-- the record of a class whose code begins at `text` and whose tables begin at `tab`
unfoldable pub class_record : (text tab : ℕ) → PlainClass → PlainCode → ClassRecord
class_record text tab c code = record {
  head = c.head;
  fields = map field_record c.fields;
  methods = method_records text (heads_of c) code.methods;
  ranges = map (range_record text) code.ranges;
  pairs = map pair_record c.pairs;
  ctable = map centry code.ctable;
  otable = map oentry code.otable;
  atable = map aentry code.atable;
  itable = map ientry code.itable;
  table = tab;
}

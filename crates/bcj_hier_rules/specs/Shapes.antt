-- What linking sees of a class: its head, its members without their bodies, and its pairs. Symbolic classes have a shape, and so have the
-- records of objects.
use Prim.Native.Char.{code}
use Rattle.std.specs.Prelude.{ℕ, ◌-◌, Bool, not, ◌&&◌, ◌==◌, List, [], ◌∷◌, length, take, map, Option, if◌then◌else◌}
use Rattle.std.specs.List.{find}
use Rattle.std.specs.Str.{bytes_eq}
use Rattle.bcj_symbolic_trees.specs.declared.class_tree.ClassHead.{ClassHead}
use Rattle.bcj_symbolic_trees.specs.declared.class_tree.MethodKind.{MethodKind}
use Rattle.bcj_symbolic_trees.specs.Types.{PlainTy, int_type, bool_type, void_type, class_type, array_type, PlainFieldRef, PlainMethodRef}
use Rattle.bcj_symbolic_trees.specs.Descriptors.{descriptor, method_descriptor}
use Rattle.bcj_symbolic_trees.specs.Units.{PlainField, PlainMethod, PlainPair, PlainClass}
use Rattle.bcj_tables_rules.specs.declared.records.FieldRecord.{FieldRecord}
use Rattle.bcj_tables_rules.specs.declared.records.MethodRecord.{MethodRecord}
use Rattle.bcj_tables_rules.specs.declared.records.PairRecord.{PairRecord}
use Rattle.bcj_tables_rules.specs.declared.records.ClassRecord.{ClassRecord}
use Rattle.bcj_tables_rules.specs.Codes as codes_of

abbrev pub Named : Type 0
Named = List ℕ

-- a field is told by its name and its descriptor (JVMS 4.5)
pub record Field : Type 0 where
  pub name : Named
  pub desc : List ℕ
  pub is_static : Bool
  pub is_private : Bool

-- and so is a method (JVMS 4.6)
pub record Method : Type 0 where
  pub name : Named
  pub desc : List ℕ
  pub kind : MethodKind
  pub is_private : Bool

pub record Shape : Type 0 where
  pub head : ClassHead
  pub fields : List Field
  pub methods : List Method
  pub pairs : List PlainPair

-- the boot unit's classes and then those of the objects, in order
abbrev pub Mixture : Type 0
Mixture = List Shape

-- the type of a name
abbrev pub found : Mixture → Named → Option Shape
found m name = find (λ s. bytes_eq s.head.name name) m

-- ---- symbolic classes

abbrev pub field_shape : PlainField → Field
field_shape f = record { name = f.name; desc = descriptor f.ty; is_static = f.is_static; is_private = f.is_private }

abbrev pub method_shape : PlainMethod → Method
method_shape m = record { name = m.name; desc = method_descriptor m.params m.result; kind = m.kind; is_private = m.is_private }

-- the class initialiser is no method that a name could reach
abbrev pub class_shape : PlainClass → Shape
class_shape c = record { head = c.head; fields = map field_shape c.fields; methods = map method_shape c.methods; pairs = c.pairs }

-- ---- records

-- the type that a descriptor spells (JVMS 4.3.2)
abbrev pub type_of_text : List ℕ → PlainTy
type_of_text [] = void_type
type_of_text (b ∷ rest) =
    if b == code "["
    then array_type (type_of_text rest)
    else if b == code "L"
    then class_type (take (length rest - 1) rest)
    else if b == code "I" then int_type else if b == code "Z" then bool_type else void_type

abbrev pub field_of_record : FieldRecord → Field
field_of_record f = record { name = f.name; desc = f.ty; is_static = f.is_static; is_private = f.is_private }

abbrev pub method_of_record : MethodRecord → Method
method_of_record m = record { name = m.name; desc = m.desc; kind = m.kind; is_private = m.is_private }

abbrev pub pair_of_record : PairRecord → PlainPair
pair_of_record p = record { from = type_of_text p.from; to = type_of_text p.to }

abbrev pub behind_first : {A : Type 0} → List A → List A
behind_first [] = []
behind_first (x ∷ xs) = xs

-- the first method of a record is the class initialiser
abbrev pub record_shape : ClassRecord → Shape
record_shape c = record {
  head = c.head;
  fields = map field_of_record c.fields;
  methods = map method_of_record (behind_first c.methods);
  pairs = map pair_of_record c.pairs;
}

-- ---- members

abbrev pub is_constructor : Method → Bool
is_constructor m = codes_of.is_constructor m.kind

abbrev pub is_static : Method → Bool
is_static m = codes_of.is_static m.kind

abbrev pub is_abstract : Method → Bool
is_abstract m = codes_of.is_abstract m.kind

abbrev pub is_field : Named → List ℕ → Field → Bool
is_field name desc f = bytes_eq f.name name && bytes_eq f.desc desc

-- a constructor is no method here
abbrev pub is_method : Named → List ℕ → Method → Bool
is_method name desc m = not (is_constructor m) && (bytes_eq m.name name && bytes_eq m.desc desc)

abbrev pub is_constructor_of : List ℕ → Method → Bool
is_constructor_of desc m = is_constructor m && bytes_eq m.desc desc

-- ---- references, by descriptors

pub record Reference : Type 0 where
  pub class : Named
  pub name : Named
  pub desc : List ℕ

abbrev pub field_reference : PlainFieldRef → Reference
field_reference f = record { class = f.class; name = f.name; desc = descriptor f.ty }

abbrev pub method_reference : PlainMethodRef → Reference
method_reference m = record { class = m.class; name = m.name; desc = method_descriptor m.params m.result }

-- Words of the members of one class, by where its code and its static fields begin, and a list of words for each class.
use Rattle.std.specs.Prelude.{◌≡◌, ℕ, suc, ◌+◌, ◌-◌, ◌*◌, Bool, true, false, ◌&&◌, List, [], ◌∷◌, map, slice_get, Some, if◌then◌else◌}
use Rattle.std.specs.List.{find, filter, position}
use Rattle.std.specs.Option.{option_map_or}
use Rattle.std.specs.Str.{bytes_eq}
use Rattle.bcj_tables_rules.specs.declared.records.FieldRecord.{FieldRecord}
use Rattle.bcj_tables_rules.specs.declared.records.MethodRecord.{MethodRecord}
use Rattle.bcj_tables_rules.specs.declared.records.ClassRecord.{ClassRecord}
use Rattle.bcj_hier_rules.specs.declared.class_id.ClassId.{ClassId}
use Rattle.bcj_hier_rules.specs.Shapes.{Named, Field, field_of_record}
use Rattle.bcj_hier_rules.specs.Trees.{loads}
use Rattle.bcj_layout_rules.specs.Rows.{Classes, mixture_of}
use Rattle.bcj_layout_rules.specs.Members.{field_number}
use Rattle.bcj_layout_rules.specs.Places.{word_size}
use Rattle.bcj_layout_rules.specs.Entries.{field_offset}

-- ---- methods

abbrev pub is_same_method : Named → List ℕ → MethodRecord → Bool
is_same_method name desc m = if bytes_eq m.name name then bytes_eq m.desc desc else false

abbrev pub first_entry : List MethodRecord → ℕ
first_entry methods = option_map_or (λ first. first.entry) (find (λ m. true) methods) 0

-- where a method is
abbrev pub code_at : ℕ → List MethodRecord → MethodRecord → ℕ
code_at text methods m = text + (m.entry - first_entry methods)

-- where the first method of the same name and descriptor is
abbrev pub found_at : ℕ → List MethodRecord → MethodRecord → ℕ
found_at text methods m = option_map_or (code_at text methods) (find (is_same_method m.name m.desc) methods) 0

-- ---- fields

abbrev pub is_same_field : Named → List ℕ → FieldRecord → Bool
is_same_field name desc f = bytes_eq f.name name && bytes_eq f.ty desc

-- where a static field is: the first static one of its name and type
abbrev pub static_place : ℕ → List FieldRecord → FieldRecord → ℕ
static_place statics fields f = statics + word_size * option_map_or (λ n. n) (position (is_same_field f.name f.ty) (filter (λ f. f.is_static) fields)) 0

-- where a field is, by its number in objects of a class that loads
abbrev pub place_in : ℕ → Bool → (Field → ℕ) → List FieldRecord → FieldRecord → ℕ
place_in statics is_loaded number fields f =
    if f.is_static then static_place statics fields f else if is_loaded then field_offset (number (field_of_record f)) else 0

-- where the fields of a class are
abbrev pub fields_by : ℕ → Classes → ClassRecord → List ℕ
fields_by statics cs c = map (place_in statics (loads (mixture_of cs) c.head.name) (field_number (mixture_of cs) c.head.name) c.fields) c.fields

-- the fields of a class, by its number
pub record AreFieldsOf (cs : Classes) (c : ClassId) (fields : List FieldRecord) : Type 0 where
  pub class : ClassRecord
  pub record_of : slice_get cs c.0 ≡ Some class
  pub all : fields ≡ class.fields

-- ---- classes

-- a list for each class, by its number from here on and its record
abbrev pub by_number : (ℕ → ClassRecord → List ℕ) → ℕ → Classes → List (List ℕ)
by_number words k [] = []
by_number words k (c ∷ cs) = words k c ∷ by_number words (suc k) cs

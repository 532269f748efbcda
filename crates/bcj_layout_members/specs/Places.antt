-- Slots by the methods that they are of: a slot is kept as the first of the methods that share it.
use Rattle.std.specs.Prelude.{◌≡◌, ℕ, List, [], map, slice_get, Option, None, Some, if◌then◌else◌}
use Rattle.std.specs.Option.{option_map, option_map_or}
use Rattle.bcj_symbolic_trees.specs.declared.class_tree.ClassHead.{ClassHead}
use Rattle.bcj_tables_rules.specs.declared.records.FieldRecord.{FieldRecord}
use Rattle.bcj_tables_rules.specs.declared.records.MethodRecord.{MethodRecord}
use Rattle.bcj_tables_rules.specs.declared.records.ClassRecord.{ClassRecord}
use Rattle.bcj_hier_rules.specs.declared.class_id.ClassId.{ClassId}
use Rattle.bcj_hier_rules.specs.Shapes.{Named, method_of_record}
use Rattle.bcj_layout_rules.specs.Members.{Slot, open_slot, private_slot}
use Rattle.bcj_layout_rules.specs.Rows.{Classes}
use Rattle.bcj_layout_members.specs.declared.place.Place.{Place}

abbrev pub heads_in : Classes → List ClassHead
heads_in cs = map (λ c. c.head) cs

abbrev pub name_at : Classes → ℕ → Named
name_at cs k = option_map_or (λ c. c.head.name) (slice_get cs k) []

abbrev pub superclass_at : Classes → ℕ → Option Named
superclass_at cs k = elim (slice_get cs k) [ None ↦ None | Some c ↦ c.head.superclass ]

-- the slot that a class's method has
abbrev pub slot_by : Named → MethodRecord → Slot
slot_by class m = if m.is_private then private_slot class (method_of_record m) else open_slot (method_of_record m)

-- the method with this number in the record of its class
pub record IsPlace (cs : Classes) (p : Place) : Type 0 where
  pub class : ClassRecord
  pub record_of : slice_get cs p.class.0 ≡ Some class
  pub method : MethodRecord
  pub there : slice_get class.methods p.method ≡ Some method

abbrev pub ArePlaces : Classes → List Place → Type 0
ArePlaces cs places = (k : ℕ) (p : Place) → slice_get places k ≡ Some p → IsPlace cs p

abbrev pub no_slot : Slot
no_slot = record { name = []; desc = []; owner = None }

abbrev pub slot_at : Classes → Place → Slot
slot_at cs p = elim (slice_get cs p.class.0) [ None ↦ no_slot | Some c ↦ option_map_or (slot_by c.head.name) (slice_get c.methods p.method) no_slot ]

-- a slot by its name, its descriptor and the type to which it is private
abbrev pub wanted : Classes → Named → List ℕ → Option ClassId → Slot
wanted cs name desc owner = record { name = name; desc = desc; owner = option_map (λ o. name_at cs o.0) owner }

-- the record of the method at a place
pub record IsMethodAt (cs : Classes) (p : Place) (m : MethodRecord) : Type 0 where
  pub class : ClassRecord
  pub record_of : slice_get cs p.class.0 ≡ Some class
  pub there : slice_get class.methods p.method ≡ Some m

-- the methods of a class, by its number
pub record AreMethodsOf (cs : Classes) (c : ClassId) (methods : List MethodRecord) : Type 0 where
  pub class : ClassRecord
  pub record_of : slice_get cs c.0 ≡ Some class
  pub all : methods ≡ class.methods

-- the field with this number in the record of its class
pub record IsFieldAt (cs : Classes) (c : ClassId) (k : ℕ) (f : FieldRecord) : Type 0 where
  pub class : ClassRecord
  pub record_of : slice_get cs c.0 ≡ Some class
  pub there : slice_get class.fields k ≡ Some f

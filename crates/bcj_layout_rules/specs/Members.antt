-- Slots and fields: the numbers by which code finds a method in the row of an object's class, and a field in an object. A superclass's stand
-- first, so a number means the same in each class below.
use Rattle.std.specs.Prelude.{ℕ, zero, suc, ◌+◌, Bool, true, false, not, ◌&&◌, ◌||◌, List, [], ◌∷◌, ◌++◌, length, Option, None, Some, if◌then◌else◌}
use Rattle.std.specs.List.{fold, filter, list_any, position}
use Rattle.std.specs.Option.{option_map_or}
use Rattle.std.specs.Str.{bytes_eq}
use Rattle.bcj_hier_rules.specs.Shapes.{Named, Field, Method, Shape, Mixture, found, is_static, is_constructor, is_field}
use Rattle.bcj_hier_rules.specs.Loading.{turns}

-- ---- slots

-- a private method's slot is its type's own
pub record Slot : Type 0 where
  pub name : Named
  pub desc : List ℕ
  pub owner : Option Named

abbrev pub open_slot : Method → Slot
open_slot m = record { name = m.name; desc = m.desc; owner = None }

abbrev pub private_slot : Named → Method → Slot
private_slot class m = record { name = m.name; desc = m.desc; owner = Some class }

abbrev pub same_owner : Option Named → Option Named → Bool
same_owner None None = true
same_owner (Some a) (Some b) = bytes_eq a b
same_owner _ _ = false

abbrev pub same_slot : Slot → Slot → Bool
same_slot a b = bytes_eq a.name b.name && (bytes_eq a.desc b.desc && same_owner a.owner b.owner)

-- a slot behind the others, where it isn't there
abbrev pub with_slot : List Slot → Slot → List Slot
with_slot slots s = if list_any (same_slot s) slots then slots else slots ++ s ∷ []

-- static methods and constructors have none
abbrev pub with_method : Named → List Slot → Method → List Slot
with_method class slots m =
    if is_static m || is_constructor m then slots else with_slot slots (if m.is_private then private_slot class m else open_slot m)

abbrev pub with_own : List Slot → Shape → List Slot
with_own slots s = fold (with_method s.head.name) slots s.methods

module _ (m : Mixture) where
  -- those of an interface, and then those of its superinterfaces, each with its own at once
  abbrev pub with_interface : ℕ → List Slot → Named → List Slot
  with_interface zero slots name = slots
  with_interface (suc n) slots name = elim (found m name) [ None ↦ slots | Some s ↦ fold (with_interface n) (with_own slots s) s.head.interfaces ]

  -- the superclass's, the type's own, and those of its superinterfaces
  abbrev pub slots_within : ℕ → Named → List Slot
  slots_within zero name = []
  slots_within (suc n) name = elim (found m name) [
    | None ↦ []
    | Some s ↦ fold (with_interface n) (with_own (option_map_or (slots_within n) s.head.superclass []) s) s.head.interfaces
  ]

  abbrev pub slots : Named → List Slot
  slots = slots_within (turns m)

  -- the number of a slot in the rows of a type and of all below it
  abbrev pub slot_number : Named → Slot → Option ℕ
  slot_number class s = position (same_slot s) (slots class)

  -- ---- fields

  abbrev pub own_fields : Shape → List Field
  own_fields s = filter (λ f. not f.is_static) s.fields

  -- how many fields an object of a class has
  abbrev pub fields_within : ℕ → Named → ℕ
  fields_within zero name = 0
  fields_within (suc n) name = elim (found m name) [ None ↦ 0 | Some s ↦ option_map_or (fields_within n) s.head.superclass 0 + length (own_fields s) ]

  abbrev pub field_count : Named → ℕ
  field_count = fields_within (turns m)

  -- those of the superclass
  abbrev pub inherited_count : Shape → ℕ
  inherited_count s = option_map_or field_count s.head.superclass 0

  -- the number of a field that a type declares
  abbrev pub field_number : Named → Field → ℕ
  field_number class f = elim (found m class) [
    | None ↦ 0
    | Some s ↦ inherited_count s + option_map_or (λ k. k) (position (is_field f.name f.desc) (own_fields s)) 0
  ]

-- What is kept of the types of a mixture: a row for each, and in one list the slots that each has beside its superclass's.
use Rattle.std.specs.Prelude.{◌≡◌, ◌+◌, ◌-◌, ◌<◌, ◌≤◌, ℕ, true, false, List, [], ◌++◌, length, map, drop, slice_get, slice_range, Option, None, Some, IfSome}
use Rattle.std.specs.Option.{option_map, option_map_or}
use Rattle.std.specs.List.{fold}
use Rattle.bcj_tables_rules.specs.declared.records.ClassRecord.{ClassRecord}
use Rattle.bcj_hier_rules.specs.Heads.{number_of, AreDistinct, IsRooted}
use Rattle.bcj_hier_rules.specs.declared.class_id.ClassId.{ClassId}
use Rattle.bcj_hier_rules.specs.Shapes.{Named}
use Rattle.bcj_hier_rules.specs.Loading.{load_within, load_error}
use Rattle.bcj_layout_rules.specs.Members.{Slot, slots, field_count, with_slot}
use Rattle.bcj_layout_rules.specs.Rows.{Classes, mixture_of}
use Rattle.bcj_layout_members.specs.declared.place.Place.{Place}
use Rattle.bcj_layout_members.specs.declared.row.Row.{Row}
use Rattle.bcj_layout_members.specs.declared.row.Above.{Above}
use Rattle.bcj_layout_members.specs.Places.{heads_in, name_at, superclass_at, slot_at, ArePlaces}

-- the slots of a type by its number, none of no type
abbrev pub slots_above : Classes → Option ClassId → List Slot
slots_above cs up = option_map_or (λ p. slots (mixture_of cs) (name_at cs p.0)) up []

abbrev pub fields_above : Classes → Option ClassId → ℕ
fields_above cs up = option_map_or (λ p. field_count (mixture_of cs) (name_at cs p.0)) up 0

abbrev pub own_slots : Classes → List Place → Row → List Slot
own_slots cs places r = map (slot_at cs) (slice_range places r.start r.end)

-- a row that is done
pub record IsDone (rows : List Row) (k : ℕ) : Type 0 where
  pub row : Row
  pub there : slice_get rows k ≡ Some row
  pub done : row.done ≡ true

-- and whose type is so many steps below the top at most
pub record IsAbove (rows : List Row) (depth : ℕ) (p : ClassId) : Type 0 where
  pub row : Row
  pub there : slice_get rows p.0 ≡ Some row
  pub done : row.done ≡ true
  pub nearer : row.depth < depth

-- what a row that is done says of its type
pub record IsRow (cs : Classes) (rows : List Row) (places : List Place) (k : ℕ) (r : Row) : Type 0 where
  pub up : superclass_at cs k ≡ option_map (λ p. name_at cs p.0) r.parent
  pub above : IfSome r.parent (IsAbove rows r.depth)
  pub slots : slots (mixture_of cs) (name_at cs k) ≡ slots_above cs r.parent ++ own_slots cs places r
  pub before : r.before ≡ length (slots_above cs r.parent)
  pub start : r.start ≤ r.end
  pub end : r.end ≤ length places
  pub total : r.total ≡ r.before + (r.end - r.start)
  pub fields_before : r.fields_before ≡ fields_above cs r.parent
  pub fields : r.fields ≡ field_count (mixture_of cs) (name_at cs k)

pub record IsTable (cs : Classes) (rows : List Row) (places : List Place) : Type 0 where
  pub each_has_one : length rows ≡ length cs
  pub are_places : ArePlaces cs places
  pub are_rows : (k : ℕ) (r : Row) → slice_get rows k ≡ Some r → r.done ≡ true → IsRow cs rows places k r

-- the steps that are left of a walk up from here
abbrev pub steps_left : List Row → Option ClassId → ℕ
steps_left rows None = 0
steps_left rows (Some c) = option_map_or (λ r. r.depth) (slice_get rows c.0) 0 + 1

-- the slots of a type so far: those of its superclass, and those that were put behind
abbrev pub current : Classes → Option ClassId → ℕ → List Place → List Slot
current cs up start places = slots_above cs up ++ map (slot_at cs) (drop start places)

-- what stands behind the slots of a superclass whose row is done
pub record IsGoing (cs : Classes) (rows : List Row) (up : Option ClassId) (start : ℕ) (places : List Place) : Type 0 where
  pub table : IsTable cs rows places
  pub above : IfSome up (λ p. IsDone rows p.0)
  pub within : start ≤ length places

-- and how it goes on: the table is as before, and the slots are these
pub record GoesOn (cs : Classes) (rows : List Row) (up : Option ClassId) (start : ℕ) (places : List Place) (slots : List Slot) : Type 0 where
  pub going : IsGoing cs rows up start places
  pub slots_are : current cs up start places ≡ slots

-- a name of a type whose row is done
pub record IsPrepared (cs : Classes) (rows : List Row) (name : Named) : Type 0 where
  pub at : ℕ
  pub number : number_of (heads_in cs) name ≡ Some at
  pub done : IsDone rows at

-- and which has no superclass
pub record IsInterface (cs : Classes) (rows : List Row) (name : Named) : Type 0 where
  pub prepared : IsPrepared cs rows name
  pub top : superclass_at cs prepared.at ≡ None

abbrev pub AreInterfaces : Classes → List Row → List Named → Type 0
AreInterfaces cs rows names = (k : ℕ) (name : Named) → slice_get names k ≡ Some name → IsInterface cs rows name

-- the slots of an interface behind others
abbrev pub with_slots_of : Classes → List Slot → Named → List Slot
with_slots_of cs xs name = fold with_slot xs (slots (mixture_of cs) name)

-- each name stands once, and exactly Object and the interfaces have no superclass
pub record AreLinked (cs : Classes) : Type 0 where
  pub distinct : AreDistinct (heads_in cs)
  pub rooted : IsRooted (heads_in cs)

-- a type that loads, of which all above it are done
pub record IsReady (cs : Classes) (rows : List Row) (c : ClassId) : Type 0 where
  pub class : ClassRecord
  pub record_of : slice_get cs c.0 ≡ Some class
  pub loads : load_error (mixture_of cs) (name_at cs c.0) ≡ None
  pub superclass : IfSome class.head.superclass (IsPrepared cs rows)
  pub interfaces : (k : ℕ) (name : Named) → slice_get class.head.interfaces k ≡ Some name → IsPrepared cs rows name

-- what a type has of its superclass
pub record IsAboveOf (cs : Classes) (rows : List Row) (up : Option ClassId) (a : Above) : Type 0 where
  pub above : IfSome up (IsAbove rows a.depth)
  pub slots : a.slots ≡ length (slots_above cs up)
  pub fields : a.fields ≡ fields_above cs up

-- the superclass of a type, whose row is done
pub record IsParent (cs : Classes) (rows : List Row) (superclass : Option Named) (up : Option ClassId) : Type 0 where
  pub named : superclass ≡ option_map (λ p. name_at cs p.0) up
  pub done : IfSome up (λ p. IsDone rows p.0)

-- all above a type are done
pub record ArePartsDone (cs : Classes) (rows : List Row) (class : ClassRecord) : Type 0 where
  pub superclass : IfSome class.head.superclass (IsPrepared cs rows)
  pub interfaces : (k : ℕ) (name : Named) → slice_get class.head.interfaces k ≡ Some name → IsPrepared cs rows name

-- what stays done from one list of rows to another
abbrev pub Keeps : List Row → List Row → Type 0
Keeps before after = (k : ℕ) → IsDone before k → IsDone after k

-- a type that loads is done where all above it were
abbrev pub Fills : Classes → List Row → List Row → ℕ → Type 0
Fills cs before after k =
    (class : ClassRecord) → slice_get cs k ≡ Some class → load_error (mixture_of cs) (name_at cs k) ≡ None → ArePartsDone cs before class → IsDone after k

-- a row that isn't done
abbrev pub IsOpen : List Row → ℕ → Type 0
IsOpen rows k = (r : Row) → slice_get rows k ≡ Some r → r.done ≡ false

-- all types that load are done
abbrev pub IsFull : Classes → List Row → Type 0
IsFull cs rows = (k : ℕ) → k < length cs → load_error (mixture_of cs) (name_at cs k) ≡ None → IsDone rows k

-- what loads within so many turns is done
abbrev pub Reached : Classes → List Row → ℕ → Type 0
Reached cs rows n =
    (k : ℕ) (class : ClassRecord) (way : List Named) → slice_get cs k ≡ Some class → load_within (mixture_of cs) n way (name_at cs k) ≡ None → IsDone rows k

-- rows of which each that its type asks for is done
pub record AreMembers (cs : Classes) (rows : List Row) (places : List Place) : Type 0 where
  pub linked : AreLinked cs
  pub table : IsTable cs rows places
  pub full : IsFull cs rows

-- the slots that a type has beside its superclass's
pub record AreAdded (cs : Classes) (c : ClassId) (places : List Place) : Type 0 where
  pub slots_are : slots (mixture_of cs) (name_at cs c.0) ≡ option_map_or (slots (mixture_of cs)) (superclass_at cs c.0) [] ++ map (slot_at cs) places
  pub are_places : ArePlaces cs places

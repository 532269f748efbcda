-- What is known of the loading of types while it is found out.
use Rattle.std.specs.Prelude.{◌≡◌, ◌<◌, ◌≤◌, ◌==◌, ◌&&◌, ◌||◌, ℕ, Bool, true, false, not, List, [], ◌∷◌, map, length, take, slice_get, count_by, Option, None, Some}
use Rattle.std.specs.List.{list_any}
use Rattle.std.specs.Option.{option_or}
use Rattle.bcj_symbolic_trees.specs.declared.class_tree.ClassHead.{ClassHead}
use Rattle.bcj_hier_rules.specs.declared.link_error.LinkError.{LinkError}
use Rattle.bcj_hier_rules.specs.declared.link_error.LinkError.TheVariants as error
use Rattle.bcj_hier_rules.specs.Heads.{of_heads}
use Rattle.bcj_hier_rules.specs.Loading.{load_error, error_where, implements}
use Rattle.bcj_hier_rules.specs.Resolution.{same_bool}
use Rattle.bcj_hier.specs.declared.parts.Part.{Part}
use Rattle.bcj_hier.specs.declared.rows.Row.{Row}
use Rattle.bcj_hier.specs.declared.loading.Progress.{Progress}
use Rattle.bcj_hier.specs.declared.loading.Progress.TheVariants.{Open, Known}
use Rattle.bcj_hier.specs.declared.loading.Outcome.{Outcome}
use Rattle.bcj_hier.specs.declared.loading.Outcome.TheVariants.{Passes, Waits, Fails}
use Rattle.bcj_hier.specs.Numbers.{names_of, name_at, parts_of, interface_at}
use Rattle.bcj_hier.specs.Rows.{has_at, part_has}

abbrev pub loading_error : List ClassHead → ℕ → Option LinkError
loading_error heads k = load_error (of_heads heads) (name_at heads k)

-- ---- parts

-- it loads, and is of the kind that is asked for
abbrev pub part_error : List ClassHead → Part → Option LinkError
part_error heads p = elim p.place [
  | None ↦ Some error.NoClassDefFound
  | Some k ↦ option_or (loading_error heads k) (error_where (not (same_bool p.interface (interface_at heads k))) error.IncompatibleClassChange)
]

abbrev pub parts_error : List ClassHead → List Part → Option LinkError
parts_error heads [] = None
parts_error heads (p ∷ ps) = option_or (part_error heads p) (parts_error heads ps)

-- a part that is known to load, and is of its kind
pub record IsPassing (heads : List ClassHead) (states : List Progress) (p : Part) : Type 0 where
  pub place : ℕ
  pub is_there : p.place ≡ Some place
  pub loaded : slice_get states place ≡ Some (Known None)
  pub kind : same_bool p.interface (interface_at heads place) ≡ true

abbrev pub ArePassing : List ClassHead → List Progress → List Part → Type 0
ArePassing heads states [] = Unit {0}
ArePassing heads states (p ∷ ps) = IsPassing heads states p × ArePassing heads states ps

-- ---- types that are open

abbrev pub is_open : Progress → Bool
is_open (Open at) = true
is_open (Known r) = false

abbrev pub opens_of : List Progress → List Bool
opens_of states = map is_open states

abbrev pub open_at : List Bool → ℕ → Bool
open_at opens k = elim (slice_get opens k) [ None ↦ true | Some b ↦ b ]

pub record IsWaiting (opens : List Bool) (p : Part) : Type 0 where
  pub place : ℕ
  pub is_there : p.place ≡ Some place
  pub not_known : open_at opens place ≡ true

-- the first part that does not load without error is one that is open
pub record IsStuck (heads : List ClassHead) (opens : List Bool) (ps : List Part) : Type 0 where
  pub at : ℕ
  pub part : Part
  pub is_there : slice_get ps at ≡ Some part
  pub passed : parts_error heads (take at ps) ≡ None
  pub waits : IsWaiting opens part

-- ---- steps

abbrev pub Steps : List ClassHead → List Progress → Part → Outcome → Type 0
Steps heads states p Passes = IsPassing heads states p
Steps heads states p Waits = IsWaiting (opens_of states) p
Steps heads states p (Fails e) = part_error heads p ≡ Some e

abbrev pub Progresses : List ClassHead → List Progress → List Part → Progress → Type 0
Progresses heads states ps (Known None) = ArePassing heads states ps
Progresses heads states ps (Known (Some e)) = parts_error heads ps ≡ Some e
Progresses heads states ps (Open at) = ArePassing heads states (take at ps) × (at ≤ length ps) × IsStuck heads (opens_of states) ps

-- an open type is stuck
abbrev pub IsSettled : List ClassHead → List Bool → ℕ → Type 0
IsSettled heads opens k = (h : ClassHead) → slice_get heads k ≡ Some h → open_at opens k ≡ true → IsStuck heads opens (parts_of (names_of heads) h)

-- ---- what is known

pub record IsSound (heads : List ClassHead) (states : List Progress) (rows : List Row) : Type 0 where
  pub count : length states ≡ length heads
  pub row_count : length rows ≡ length heads
  pub known : (k : ℕ) (r : Option LinkError) → slice_get states k ≡ Some (Known r) → loading_error heads k ≡ r
  pub passed : (k at : ℕ) (h : ClassHead) → slice_get states k ≡ Some (Open at) → slice_get heads k ≡ Some h
      → ArePassing heads states (take at (parts_of (names_of heads) h)) × (at ≤ length (parts_of (names_of heads) h))
  pub row : (k i : ℕ) → slice_get states k ≡ Some (Known None) → i < length heads
      → has_at rows k i ≡ implements (of_heads heads) (name_at heads k) (name_at heads i)

-- all is known
pub record IsLoaded (heads : List ClassHead) (errors : List (Option LinkError)) (rows : List Row) : Type 0 where
  pub count : length errors ≡ length heads
  pub error : (k : ℕ) → k < length heads → slice_get errors k ≡ Some (loading_error heads k)
  pub row : (k i : ℕ) → k < length heads → i < length heads → loading_error heads k ≡ None
      → has_at rows k i ≡ implements (of_heads heads) (name_at heads k) (name_at heads i)

abbrev pub AreKnown : List ClassHead → List Progress → Type 0
AreKnown heads states = (k : ℕ) (r : Option LinkError) → slice_get states k ≡ Some (Known r) → loading_error heads k ≡ r

abbrev pub outcome_of_kind : Bool → Bool → Outcome
outcome_of_kind is wanted = elim (same_bool wanted is) [ true ↦ Passes | false ↦ Fails error.IncompatibleClassChange ]

abbrev pub outcome_at : Bool → Bool → Option Progress → Outcome
outcome_at is wanted None = Waits
outcome_at is wanted (Some (Open at)) = Waits
outcome_at is wanted (Some (Known (Some e))) = Fails e
outcome_at is wanted (Some (Known None)) = outcome_of_kind is wanted

abbrev pub outcome : List ClassHead → List Progress → Part → Outcome
outcome heads states p = elim p.place [ None ↦ Fails error.NoClassDefFound | Some k ↦ outcome_at (interface_at heads k) p.interface (slice_get states k) ]

abbrev pub final_error : Progress → Option LinkError
final_error (Open at) = Some error.ClassCircularity
final_error (Known r) = r

abbrev pub is_loaded : Progress → Bool
is_loaded (Open at) = false
is_loaded (Known None) = true
is_loaded (Known (Some e)) = false

-- the rows after a type was taken on
pub record AreRows (heads : List ClassHead) (rows after : List Row) (number : ℕ) (h : ClassHead) (next : Progress) : Type 0 where
  pub count : length after ≡ length rows
  pub other : (k i : ℕ) → (k ≡ number → ⊥) → has_at after k i ≡ has_at rows k i
  pub own : is_loaded next ≡ true → (i : ℕ) → i < length heads → has_at after number i ≡ (h.interface && i == number || list_any (part_has rows i) (parts_of (names_of heads) h))

abbrev pub passed_by : Option Progress → Option ℕ
passed_by None = None
passed_by (Some (Open at)) = Some at
passed_by (Some (Known r)) = None

-- what a visit of a type does to the states: one that became known is open no longer, and otherwise it is settled
pub record IsVisited (heads : List ClassHead) (old new : List Progress) (number : ℕ) (changed : Bool) : Type 0 where
  pub same : changed ≡ false → opens_of new ≡ opens_of old
  pub settled : changed ≡ false → IsSettled heads (opens_of old) number
  pub fewer : changed ≡ true → count_by is_open new < count_by is_open old

-- what visits of the types before a number did
pub record IsRound (heads : List ClassHead) (old new : List Progress) (number : ℕ) (changed : Bool) : Type 0 where
  pub same : changed ≡ false → opens_of new ≡ opens_of old
  pub settled : changed ≡ false → (k : ℕ) → k < number → IsSettled heads (opens_of old) k
  pub fewer : changed ≡ true → count_by is_open new < count_by is_open old

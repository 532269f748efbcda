-- A walk over the tree of the classes that load, by numbers: a class is entered, then the classes below it, and then it is left.
use Rattle.std.specs.Prelude.{◌≡◌, ◌≢◌, ◌<◌, ◌+◌, ◌*◌, ◌==◌, ◌&&◌, ◌||◌, ℕ, suc, Bool, true, false, not, List, [], ◌∷◌, ◌++◌, map, length, drop, slice_get, slice_index, count_by, filter, is_none, Option, None, Some, if◌then◌else◌}
use Rattle.std.specs.List.{flat_map, list_any}
use Rattle.std.specs.Option.{option_map_or}
use Rattle.std.specs.Str.{bytes_eq}
use Rattle.bcj_symbolic_trees.specs.declared.class_tree.ClassHead.{ClassHead}
use Rattle.bcj_hier_rules.specs.declared.link_error.LinkError.{LinkError}
use Rattle.bcj_hier_rules.specs.Shapes.{Named}
use Rattle.bcj_hier_rules.specs.Heads.{of_heads}
use Rattle.bcj_hier_rules.specs.Trees as tree
use Rattle.bcj_hier.specs.declared.visits.Visit.{Visit}
use Rattle.bcj_hier.specs.declared.visits.Visit.TheVariants.{Enter, Leave}
use Rattle.bcj_hier.specs.declared.parts.Part.{Part}
use Rattle.bcj_hier.specs.Numbers.{name_at, interface_at, parts_at, superclass_place}
use Rattle.bcj_hier.specs.Loads.{loading_error}

abbrev pub is_child_by : Bool → Option LinkError → Option ℕ → ℕ → Bool
is_child_by interface error place parent = not interface && (is_none error && option_map_or (λ p. p == parent) place false)

-- of each type why it doesn't load
abbrev pub AreErrors : List ClassHead → List (Option LinkError) → Type 0
AreErrors heads errors = (k : ℕ) → k < length heads → slice_get errors k ≡ Some (loading_error heads k)

abbrev pub names_at : List ClassHead → List ℕ → List Named
names_at heads numbers = map (name_at heads) numbers

pub record IsClassAt (heads : List ClassHead) (k : ℕ) : Type 0 where
  pub within : k < length heads
  pub loads : loading_error heads k ≡ None
  pub class : interface_at heads k ≡ false

abbrev pub AreClassesAt : List ClassHead → List ℕ → Type 0
AreClassesAt heads [] = Unit {0}
AreClassesAt heads (k ∷ ks) = IsClassAt heads k × AreClassesAt heads ks

-- the stack after the children of a class from a number on were put on it
pub record HasChildrenFrom (heads : List ClassHead) (from parent : ℕ) (old new : List Visit) : Type 0 where
  pub numbers : List ℕ
  pub stack : new ≡ map Enter numbers ++ old
  pub names : names_at heads numbers
      ≡ map (λ s. s.head.name) (filter (tree.is_child (of_heads heads) (name_at heads parent)) (drop from (of_heads heads)))
  pub classes : AreClassesAt heads numbers

-- ---- visits that are still to be made

abbrev pub visit_names : List ClassHead → Visit → List Named
visit_names heads (Enter k) = tree.preorder_of (of_heads heads) (name_at heads k)
visit_names heads (Leave k) = []

abbrev pub rest_names : List ClassHead → List Visit → List Named
rest_names heads stack = flat_map (visit_names heads) stack

abbrev pub is_leave : Visit → Bool
is_leave (Enter k) = false
is_leave (Leave k) = true

abbrev pub work : List ClassHead → List Visit → ℕ
work heads stack = 2 * length (rest_names heads stack) + count_by is_leave stack

-- whether a class is still to be left
abbrev pub leaves : ℕ → List Visit → Bool
leaves k [] = false
leaves k (Enter j ∷ stack) = leaves k stack
leaves k (Leave j ∷ stack) = j == k || leaves k stack

-- each class is left behind the classes below it
abbrev pub Closes : List ClassHead → ℕ → List Visit → Type 0
Closes heads n [] = Unit {0}
Closes heads n (Enter k ∷ stack) = Closes heads (n + length (tree.preorder_of (of_heads heads) (name_at heads k))) stack
Closes heads n (Leave k ∷ stack) = (tree.high (of_heads heads) (name_at heads k) ≡ suc n) × Closes heads n stack

abbrev pub IsVisit : List ClassHead → Visit → Type 0
IsVisit heads (Enter k) = IsClassAt heads k
IsVisit heads (Leave k) = k < length heads

abbrev pub AreVisits : List ClassHead → List Visit → Type 0
AreVisits heads [] = Unit {0}
AreVisits heads (v ∷ stack) = IsVisit heads v × AreVisits heads stack

-- ---- what was met

pub record IsWalk (heads : List ClassHead) (order lows highs : List ℕ) (stack : List Visit) : Type 0 where
  pub whole : tree.preorder (of_heads heads) ≡ names_at heads order ++ rest_names heads stack
  pub classes : AreClassesAt heads order
  pub low_count : length lows ≡ length heads
  pub high_count : length highs ≡ length heads
  pub low : (k : ℕ) → k < length heads
      → slice_index lows k ≡ (if list_any (bytes_eq (name_at heads k)) (names_at heads order) then tree.low (of_heads heads) (name_at heads k) else 0)
  pub closes : Closes heads (length order) stack
  pub high : (k : ℕ) → k < length heads → leaves k stack ≡ false → slice_index lows k ≢ 0 → slice_index highs k ≡ tree.high (of_heads heads) (name_at heads k)
  pub visits : AreVisits heads stack

-- the numbers of all classes
pub record IsTree (heads : List ClassHead) (order lows highs : List ℕ) : Type 0 where
  pub whole : names_at heads order ≡ tree.preorder (of_heads heads)
  pub classes : AreClassesAt heads order
  pub low_count : length lows ≡ length heads
  pub high_count : length highs ≡ length heads
  pub low : (k : ℕ) → k < length heads → slice_index lows k ≡ tree.low (of_heads heads) (name_at heads k)
  pub high : (k : ℕ) → IsClassAt heads k → slice_index highs k ≡ tree.high (of_heads heads) (name_at heads k)

abbrev pub AreNoNumbers : ℕ → List ℕ → Type 0
AreNoNumbers count lows = (length lows ≡ count) × ((k : ℕ) → slice_index lows k ≡ 0)

-- the numbers after that behind the last was noted for a class
abbrev pub IsNoted : List ℕ → ℕ → ℕ → List ℕ → Type 0
IsNoted old k n new = (length new ≡ length old) × (slice_index new k ≡ suc n) × ((j : ℕ) → j ≢ k → slice_index new j ≡ slice_index old j)

abbrev pub error_at : List (Option LinkError) → ℕ → Option LinkError
error_at errors k = elim (slice_get errors k) [ None ↦ None | Some e ↦ e ]

abbrev pub is_child_at : List ClassHead → List (List Part) → List (Option LinkError) → ℕ → ℕ → Bool
is_child_at heads parts errors parent k =
    elim (slice_get heads k) [ None ↦ false | Some h ↦ is_child_by h.interface (error_at errors k) (superclass_place (parts_at parts k)) parent ]

-- The heads of a mixture alone: by them types load, pairs hold and classes are numbered. Code tells a type by its number in their list.
use Rattle.std.specs.Prelude.{◌≡◌, ◌↔◌, ◌<◌, ℕ, Bool, true, false, not, ◌||◌, List, [], ◌∷◌, ◌++◌, length, map, take, is_none, slice_get, Option, None, Some, Result, Ok, Err}
use Rattle.std.specs.List.{list_all, position}
use Rattle.std.specs.Option.{option_map_or}
use Rattle.std.specs.Str.{bytes_eq}
use Rattle.bcj_symbolic_trees.specs.declared.class_tree.ClassHead.{ClassHead}
use Rattle.bcj_symbolic_trees.specs.Names.{object_name}
use Rattle.bcj_hier_rules.specs.declared.class_id.ClassId.{ClassId}
use Rattle.bcj_hier_rules.specs.declared.link_error.LinkError.{LinkError}
use Rattle.bcj_hier_rules.specs.Shapes.{Named, Shape, Mixture}
use Rattle.bcj_hier_rules.specs.Resolution.{same_bool}

-- a class of which the head alone is known
abbrev pub head_shape : ClassHead → Shape
head_shape h = record { head = h; fields = []; methods = []; pairs = [] }

abbrev pub of_heads : List ClassHead → Mixture
of_heads heads = map head_shape heads

abbrev pub heads_of : Mixture → List ClassHead
heads_of m = map (λ s. s.head) m

-- ---- numbers of types

abbrev pub is_called : Named → ClassHead → Bool
is_called name h = bytes_eq h.name name

abbrev pub number_of : List ClassHead → Named → Option ℕ
number_of heads name = position (is_called name) heads

-- a number of one of these types
abbrev pub IsIn : List ClassHead → ClassId → Type 0
IsIn heads c = c.0 < length heads

abbrev pub name_of : List ClassHead → ClassId → Named
name_of heads c = option_map_or (λ h. h.name) (slice_get heads c.0) []

abbrev pub superclass_of : List ClassHead → ClassId → Option Named
superclass_of heads c = elim (slice_get heads c.0) [ None ↦ None | Some h ↦ h.superclass ]

-- ---- lists of heads

-- the most types of a run
abbrev pub max_types : ℕ
max_types = 4096

-- no name stands twice
abbrev pub AreDistinct : List ClassHead → Type 0
AreDistinct heads = (before : List ClassHead) (h : ClassHead) (behind : List ClassHead) → heads ≡ before ++ h ∷ behind → number_of before h.name ≡ None

-- the first head whose name an earlier one has, and that one
pub record IsFirstRepeat (heads : List ClassHead) (first second : ℕ) (name : Named) : Type 0 where
  pub head : ClassHead
  pub later : slice_get heads second ≡ Some head
  pub named : head.name ≡ name
  pub earlier : number_of heads name ≡ Some first
  pub apart : first < second
  pub distinct : AreDistinct (take second heads)

-- exactly Object and the interfaces have no superclass
abbrev pub is_placed : ClassHead → Bool
is_placed h = same_bool (is_none h.superclass) (h.interface || bytes_eq h.name object_name)

-- Object stands first, and is a class without superinterfaces
pub record IsRooted (heads : List ClassHead) : Type 0 where
  pub top : ClassHead
  pub others : List ClassHead
  pub first : heads ≡ top ∷ others
  pub named : top.name ≡ object_name
  pub class : top.interface ≡ false
  pub alone : top.interfaces ≡ []
  pub placed : list_all is_placed heads ≡ true

-- ---- answers

abbrev pub error_of : {A : Type 0} → Result A LinkError → Option LinkError
error_of (Ok x) = None
error_of (Err e) = Some e

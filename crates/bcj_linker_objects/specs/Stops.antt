-- When a mixture is refused. Objects are counted from 1, and boot is 0. They are taken in order, and each is tested for damage before its names.
use Rattle.std.specs.Prelude.{◌≡◌, ◌<◌, ℕ, List, [], ◌∷◌, ◌++◌, length, take, slice_get, Some, ⊤}
use Rattle.bcj_tables_rules.specs.declared.records.ClassRecord.{ClassRecord}
use Rattle.bcj_hier_rules.specs.Shapes.{Named}
use Rattle.bcj_hier_rules.specs.Heads.{AreDistinct, max_types}
use Rattle.bcj_layout_rules.specs.Rows.{Classes}
use Rattle.bcj_linker_rules.specs.Memory.{Linked, classes_of}
use Rattle.bcj_linker_objects.specs.Objects.{IsLinked, AreLinked, IsBadObject}
use Rattle.bcj_linker_objects.specs.Names.{heads_in, classes_each, owner}
use Rattle.bcj_linker_objects.specs.declared.stop.LinkTotal.{LinkTotal}
use Rattle.bcj_linker_objects.specs.declared.stop.LinkTotal.TheVariants.{Types, Image}
use Rattle.bcj_linker_objects.specs.declared.stop.LinkStop.{LinkStop}
use Rattle.bcj_linker_objects.specs.declared.stop.LinkStop.TheVariants.{Malformed, Duplicate, TooLarge, NoMemory}

-- the first `count` of these are objects, in which no name stands twice
pub record ArePlainBefore (all : List (List ℕ)) (count : ℕ) : Type 0 where
  pub objects : List Linked
  pub linked : AreLinked (take count all) objects
  pub distinct : AreDistinct (heads_in (classes_of objects))

-- the object is damaged at this offset, and those before it are neither damaged nor have a name twice
pub record IsMalformed (all : List (List ℕ)) (object at : ℕ) : Type 0 where
  pub before : ArePlainBefore all object
  pub bytes : List ℕ
  pub there : slice_get all object ≡ Some bytes
  pub bad : IsBadObject bytes at

-- A class of the object `second` has the name, and `first` is the first object with a class of that name before it. All classes before have
-- different names.
pub record IsDuplicate (all : List (List ℕ)) (name : Named) (first second : ℕ) : Type 0 where
  pub before : List Linked
  pub linked : AreLinked (take second all) before
  pub bytes : List ℕ
  pub there : slice_get all second ≡ Some bytes
  pub last : Linked
  pub is : IsLinked bytes last
  pub front : Classes
  pub class : ClassRecord
  pub behind : Classes
  pub classes : last.classes ≡ front ++ class ∷ behind
  pub named : class.head.name ≡ name
  pub distinct : AreDistinct (heads_in (classes_of before ++ front))
  pub earlier : owner (classes_each before ++ front ∷ []) name ≡ Some first

-- all are objects, no name stands twice, and there are more classes than a run may have
pub record HasTooManyTypes (all : List (List ℕ)) : Type 0 where
  pub objects : List Linked
  pub linked : AreLinked all objects
  pub distinct : AreDistinct (heads_in (classes_of objects))
  pub many : max_types < length (classes_of objects)

-- no object is too large by its image, which is laid out later
abbrev pub IsTooLarge : List (List ℕ) → LinkTotal → Type 0
IsTooLarge all Types = HasTooManyTypes all
IsTooLarge all Image = ⊥

abbrev pub IsStopOf : List (List ℕ) → LinkStop → Type 0
IsStopOf all (Malformed object at) = IsMalformed all object at
IsStopOf all (Duplicate name first second) = IsDuplicate all name first second
IsStopOf all (TooLarge what) = IsTooLarge all what
IsStopOf all NoMemory = ⊤

-- boot isn't damaged
abbrev pub IsStop : List ℕ → List (List ℕ) → LinkStop → Type 0
IsStop boot objects (Malformed object at) = (0 < object) × IsMalformed (boot ∷ objects) object at
IsStop boot objects e = IsStopOf (boot ∷ objects) e

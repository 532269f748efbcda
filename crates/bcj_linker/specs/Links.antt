-- What linking gives, and when it is refused.
use Rattle.std.specs.Prelude.{◌≡◌, ◌<◌, ◌≤◌, ℕ, List, ◌∷◌, length, ⊤}
use Rattle.bcj_hier_rules.specs.Shapes.{Named}
use Rattle.bcj_hier_rules.specs.Heads.{AreDistinct, max_types}
use Rattle.bcj_layout_rules.specs.Places.{heap_at, max_image}
use Rattle.bcj_linker_rules.specs.Memory.{Linked, classes_of, image}
use Rattle.bcj_linker_objects.specs.Objects.{AreLinked}
use Rattle.bcj_linker_objects.specs.Names.{heads_in}
use Rattle.bcj_linker_objects.specs.declared.stop.LinkTotal.{LinkTotal}
use Rattle.bcj_linker_objects.specs.declared.stop.LinkTotal.TheVariants.{Types, Image as ImageTotal}
use Rattle.bcj_linker_objects.specs.declared.stop.LinkStop.{LinkStop}
use Rattle.bcj_linker_objects.specs.declared.stop.LinkStop.TheVariants.{Malformed, Duplicate, TooLarge, NoMemory}
use Rattle.bcj_linker_objects.specs.Stops.{IsMalformed, IsDuplicate, HasTooManyTypes}
use Rattle.bcj_linker.specs.declared.image.Image.{Image}

-- the bytes are objects that can be linked: no name stands twice, and there are few enough types
pub record IsMixture (all : List (List ℕ)) (ls : List Linked) : Type 0 where
  pub linked : AreLinked all ls
  pub distinct : AreDistinct (heads_in (classes_of ls))
  pub few : length (classes_of ls) ≤ max_types

-- the image of the objects, boot first
pub record IsImage (boot : List ℕ) (objects : List (List ℕ)) (main : Named) (heap depth : ℕ) (i : Image) : Type 0 where
  pub objects_are : List Linked
  pub mixture : IsMixture (boot ∷ objects) objects_are
  pub fits : heap_at (classes_of objects_are) main ≤ max_image
  pub memory : i.memory ≡ (image objects_are main heap depth).memory
  pub start : i.start ≡ (image objects_are main heap depth).start
  pub read_only : i.read_only ≡ (image objects_are main heap depth).read_only
  pub words : i.words ≡ (image objects_are main heap depth).words
  pub heap_at : i.heap_at ≡ (image objects_are main heap depth).heap_at
  pub heap_words : i.heap_words ≡ (image objects_are main heap depth).heap_words
  pub depth_is : i.depth ≡ (image objects_are main heap depth).depth
  pub classes : i.layout.classes ≡ classes_of objects_are
  pub main_is : i.layout.main ≡ main

-- the image before its heap is too large
pub record HasLargeImage (all : List (List ℕ)) (main : Named) : Type 0 where
  pub objects : List Linked
  pub mixture : IsMixture all objects
  pub large : max_image < heap_at (classes_of objects) main

abbrev pub IsTooLarge : List (List ℕ) → Named → LinkTotal → Type 0
IsTooLarge all main Types = HasTooManyTypes all
IsTooLarge all main ImageTotal = HasLargeImage all main

-- boot isn't damaged
abbrev pub IsLinkStop : List ℕ → List (List ℕ) → Named → LinkStop → Type 0
IsLinkStop boot objects main (Malformed object at) = (0 < object) × IsMalformed (boot ∷ objects) object at
IsLinkStop boot objects main (Duplicate name first second) = IsDuplicate (boot ∷ objects) name first second
IsLinkStop boot objects main (TooLarge what) = IsTooLarge (boot ∷ objects) main what
IsLinkStop boot objects main NoMemory = ⊤

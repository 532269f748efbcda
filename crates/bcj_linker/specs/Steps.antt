-- What the steps of linking give.
use Rattle.std.specs.Prelude.{◌≡◌, ◌<◌, ◌≤◌, ℕ, List, ⊤}
use Rattle.bcj_hier_rules.specs.Shapes.{Named}
use Rattle.bcj_layout_rules.specs.Rows.{Classes}
use Rattle.bcj_layout_rules.specs.Places as places
use Rattle.bcj_layout_rules.specs.Places.{max_image}
use Rattle.bcj_linker_rules.specs.Memory.{Linked, classes_of, image_of, image}
use Rattle.bcj_linker_objects.specs.declared.stop.LinkTotal.{LinkTotal}
use Rattle.bcj_linker_objects.specs.declared.stop.LinkTotal.TheVariants.{Types, Image as ImageTotal}
use Rattle.bcj_linker_objects.specs.declared.stop.LinkStop.{LinkStop}
use Rattle.bcj_linker_objects.specs.declared.stop.LinkStop.TheVariants.{Malformed, Duplicate, TooLarge, NoMemory}
use Rattle.bcj_linker.specs.declared.image_words.ImageWords.{ImageWords}
use Rattle.bcj_linker.specs.declared.image.Image.{Image}

-- the words before the heap, and what a run must know of them
pub record AreImageWords (ls : List Linked) (main : Named) (i : ImageWords) : Type 0 where
  pub words : i.words ≡ image_of ls main
  pub read_only : i.read_only ≡ places.read_only_end (classes_of ls) main
  pub code_words : i.code_words ≡ places.image_words (classes_of ls) main
  pub heap_at : i.heap_at ≡ places.heap_at (classes_of ls) main

-- the image of objects that are gathered already
pub record IsImageOf (ls : List Linked) (main : Named) (heap depth : ℕ) (i : Image) : Type 0 where
  pub fits : places.heap_at (classes_of ls) main ≤ max_image
  pub memory : i.memory ≡ (image ls main heap depth).memory
  pub start : i.start ≡ (image ls main heap depth).start
  pub read_only : i.read_only ≡ (image ls main heap depth).read_only
  pub words : i.words ≡ (image ls main heap depth).words
  pub heap_at : i.heap_at ≡ (image ls main heap depth).heap_at
  pub heap_words : i.heap_words ≡ (image ls main heap depth).heap_words
  pub depth_is : i.depth ≡ (image ls main heap depth).depth
  pub classes : i.layout.classes ≡ classes_of ls
  pub main_is : i.layout.main ≡ main

-- objects that are gathered are refused for the image alone
abbrev pub IsImageTotal : Classes → Named → LinkTotal → Type 0
IsImageTotal cs main Types = ⊥
IsImageTotal cs main ImageTotal = max_image < places.heap_at cs main

abbrev pub IsImageStop : Classes → Named → LinkStop → Type 0
IsImageStop cs main (Malformed object at) = ⊥
IsImageStop cs main (Duplicate name first second) = ⊥
IsImageStop cs main (TooLarge what) = IsImageTotal cs main what
IsImageStop cs main NoMemory = ⊤

-- What linking says of boot and one object.
use Rattle.std.specs.Prelude.{◌≡◌, ◌<◌, ◌≤◌, ℕ, List, [], ◌∷◌, length, ⊤}
use Rattle.bcj_layout_rules.specs.Places.{max_image}
use Rattle.bcj_hier_rules.specs.Heads.{AreDistinct, max_types}
use Rattle.bcj_linker_rules.specs.Memory.{Linked, classes_of}
use Rattle.bcj_layout_rules.specs.Rows.{Classes}
use Rattle.bcj_linker_objects.specs.declared.gathered.Gathered.{Gathered}
use Rattle.bcj_linker_objects.specs.declared.gathered.GatheredObject.{GatheredObject}
use Rattle.bcj_linker_objects.specs.Objects.{AreLinked}
use Rattle.bcj_linker_objects.specs.Names.{heads_in}
use Rattle.bcj_linker_objects.specs.Gathering.{linked_in}
use Rattle.bcj_linker_objects.specs.declared.stop.LinkTotal.{LinkTotal}
use Rattle.bcj_linker_objects.specs.declared.stop.LinkTotal.TheVariants.{Types, Image}
use Rattle.bcj_linker_objects.specs.declared.stop.LinkStop.{LinkStop}
use Rattle.bcj_linker_objects.specs.declared.stop.LinkStop.TheVariants.{Malformed, Duplicate, TooLarge, NoMemory}
use Rattle.bcj_linker_objects.specs.Stops.{IsMalformed, IsDuplicate, HasTooManyTypes}
use Rattle.bcj_object_boot.specs.Boot.{boot_object}
use Rattle.bcj_cli_shown.specs.Shows.{IsMixed, image_size}

-- the image of boot and the object is too large
pub record HasLargeImage (bytes : List ℕ) : Type 0 where
  pub boot : Linked
  pub own : Linked
  pub mixed : IsMixed bytes boot own
  pub large : max_image < image_size boot own

abbrev pub IsTooLarge : List ℕ → LinkTotal → Type 0
IsTooLarge bytes Types = HasTooManyTypes (boot_object ∷ bytes ∷ [])
IsTooLarge bytes Image = HasLargeImage bytes

abbrev pub IsCause : List ℕ → LinkStop → Type 0
IsCause bytes (Malformed object at) = IsMalformed (boot_object ∷ bytes ∷ []) 1 at
IsCause bytes (Duplicate name first second) = IsDuplicate (boot_object ∷ bytes ∷ []) name first second
IsCause bytes (TooLarge what) = IsTooLarge bytes what
IsCause bytes NoMemory = ⊤

-- two objects, of which the second one's classes are the last
pub record AreTwo (linked : List Linked) (own : Linked) : Type 0 where
  pub boot : Linked
  pub are : linked ≡ boot ∷ own ∷ []

-- boot and the object, with all their classes in one list
pub record AreGathered (bytes : List ℕ) (objects : List GatheredObject) (classes : Classes) : Type 0 where
  pub linked : AreLinked (boot_object ∷ bytes ∷ []) (linked_in objects classes)
  pub whole : classes ≡ classes_of (linked_in objects classes)
  pub distinct : AreDistinct (heads_in classes)
  pub few : length classes ≤ max_types

-- with the hierarchy of these classes
pub record IsGathered (bytes : List ℕ) (g : Gathered) : Type 0 where
  pub gathered : AreGathered bytes g.objects g.records.classes
  pub hierarchy : g.hier ≡ heads_in g.records.classes

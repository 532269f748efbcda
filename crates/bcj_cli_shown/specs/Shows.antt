-- What showing an object gives, what it says, and why an object has no text.
use Rattle.std.specs.Prelude.{◌≡◌, ◌<◌, ◌≤◌, ◌⊎◌, ℕ, zero, suc, List, [], ◌∷◌, ◌++◌, length, codes, decimal, Option}
use Rattle.bcj_edge.specs.Store.{Store, Has, HasMore, Lacks}
use Rattle.bcj_edge.specs.Causes.{Rose, Appends, AppendsFront}
use Rattle.bcj_hier_rules.specs.Heads.{AreDistinct, max_types}
use Rattle.bcj_hier_rules.specs.Shapes.{Named}
use Rattle.bcj_layout_rules.specs.Places.{heap_at, max_image}
use Rattle.bcj_linker_rules.specs.Memory.{Linked}
use Rattle.bcj_linker_objects.specs.Objects.{IsLinked}
use Rattle.bcj_linker_objects.specs.Names.{heads_in}
use Rattle.bcj_linker_objects.specs.Stops.{IsMalformed, IsDuplicate, HasTooManyTypes}
use Rattle.bcj_object_boot.specs.Boot.{boot_object}
use Rattle.bcj_cli_showing.specs.Text.{show_text}
use Rattle.bcj_cli_telling.specs.Faults.{Counts, Said}
use Rattle.bcj_cli_telling.specs.Lines.{line_of}
use Rattle.bcj_cli_telling.specs.Statuses.{status_done, status_unread, status_write_fault, status_no_memory}
use Rattle.bcj_cli_shown.specs.Form.{max_object_bytes}

-- an object isn't well formed, a name stands twice, or a total passes its limit
abbrev pub status_unlinked : ℕ
status_unlinked = 7

abbrev pub show_statuses : List ℕ
show_statuses = status_done ∷ status_unlinked ∷ status_unread ∷ status_write_fault ∷ status_no_memory ∷ []

-- ---- the object

-- a file has these bytes, within the limit
pub record HasObject (held : Option Store) (file bytes : List ℕ) : Type 0 where
  pub has : Has held file bytes
  pub short : length bytes ≤ max_object_bytes

-- the classes of boot and of an object, in which no name stands twice and which aren't too many
pub record IsMixed (bytes : List ℕ) (boot own : Linked) : Type 0 where
  pub boot_is : IsLinked boot_object boot
  pub own_is : IsLinked bytes own
  pub distinct : AreDistinct (heads_in (boot.classes ++ own.classes))
  pub few : length (boot.classes ++ own.classes) ≤ max_types

-- the size of their image; nothing is run, so the name of the main class is empty
abbrev pub image_size : Linked → Linked → ℕ
image_size boot own = heap_at (boot.classes ++ own.classes) []

-- ---- what is shown

pub record IsShown (bytes text : List ℕ) : Type 0 where
  pub boot : Linked
  pub own : Linked
  pub mixed : IsMixed bytes boot own
  pub fits : image_size boot own ≤ max_image
  pub is : text ≡ show_text (heads_in (boot.classes ++ own.classes)) own.classes own.object.text

-- ---- why nothing is shown

-- boot is object 0
abbrev pub called : List ℕ → ℕ → List ℕ
called file zero = codes "boot"
called file (suc n) = file

abbrev pub duplicate_text : List ℕ → Named → ℕ → ℕ → List ℕ
duplicate_text file name first second = codes "duplicate " ++ (name ++ (codes " in " ++ (called file first ++ (codes " and " ++ called file second))))

-- the text that tells the cause
pub data IsRefusal (file bytes : List ℕ) : List ℕ → Type 0 where
  malformed : {at : ℕ} → IsMalformed (boot_object ∷ bytes ∷ []) 1 at → IsRefusal file bytes (file ++ (codes ": malformed at " ++ decimal at))
  duplicate : {name : Named} {first second : ℕ} → IsDuplicate (boot_object ∷ bytes ∷ []) name first second
      → IsRefusal file bytes (duplicate_text file name first second)
  too_many_types : HasTooManyTypes (boot_object ∷ bytes ∷ []) → IsRefusal file bytes (codes "too large: types")
  too_large : (boot own : Linked) → IsMixed bytes boot own → max_image < image_size boot own → IsRefusal file bytes (codes "too large: image")

-- ---- what the command gives

-- the file's object was shown whole
pub record Shown (held : Option Store) (file : List ℕ) (old new : Option (List ℕ)) : Type 0 where
  pub bytes : List ℕ
  pub text : List ℕ
  pub has : HasObject held file bytes
  pub shown : IsShown bytes text
  pub put : Appends old new text

-- the file's object has no text, and a sink took so much of the reason
pub record Unshown (held : Option Store) (file : List ℕ) (Took : List ℕ → Type 0) : Type 0 where
  pub bytes : List ℕ
  pub told : List ℕ
  pub has : HasObject held file bytes
  pub cause : IsRefusal file bytes told
  pub said : Took (line_of told [])

-- why the file wasn't read, which was said
abbrev pub ObjectUnread : Option Store → List ℕ → Counts → Counts → Option (List ℕ) → Option (List ℕ) → Type 0
ObjectUnread held file before now old new =
    (Rose before.read_faults now.read_faults × Appends old new (line_of (codes "cannot read ") file))
    ⊎ ((Rose before.absents now.absents × Lacks held file × Appends old new (line_of (codes "cannot open ") file))
    ⊎ (Rose before.overs now.overs × HasMore held file max_object_bytes × Appends old new (line_of (codes "too long ") file)))

-- the output took a front of the text and failed, which was said as far as it went
pub record ShownInPart (held : Option Store) (file : List ℕ) (out_old out_new err_old err_new : Option (List ℕ)) : Type 0 where
  pub bytes : List ℕ
  pub text : List ℕ
  pub has : HasObject held file bytes
  pub shown : IsShown bytes text
  pub put : AppendsFront out_old out_new text
  pub said : Said err_old err_new (codes "write fault") []

-- a front of the text that is due where nothing is shown
abbrev pub RefusalSaidInPart : Option Store → List ℕ → Option (List ℕ) → Option (List ℕ) → Type 0
RefusalSaidInPart held file old new =
    Said old new (codes "out of memory") []
    ⊎ (Unshown held file (AppendsFront old new)
    ⊎ (Said old new (codes "cannot read ") file ⊎ (Said old new (codes "cannot open ") file ⊎ Said old new (codes "too long ") file)))

-- the output failed; or the sink for errors did, and then the output was left alone
abbrev pub ShowFault : Option Store → List ℕ → Type 0 → Type 0 → Type 0 → Option (List ℕ) → Option (List ℕ) → Option (List ℕ) → Option (List ℕ) → Type 0
ShowFault held file out_fault out_same err_fault out_old out_new err_old err_new =
    (out_fault × ShownInPart held file out_old out_new err_old err_new) ⊎ (err_fault × out_same × RefusalSaidInPart held file err_old err_new)

-- What is said of an object that isn't shown.
use Rattle.std.specs.Prelude.{◌⊎◌, ℕ, Bool, true, false, List, [], ◌++◌, codes, decimal, Option}
use Rattle.bcj_edge.specs.Causes.{Appends, AppendsFront}
use Rattle.bcj_cli_telling.specs.Faults.{Said}
use Rattle.bcj_cli_telling.specs.Lines.{line_of}
use Rattle.bcj_linker_objects.specs.declared.stop.LinkTotal.TheVariants.{Types, Image}
use Rattle.bcj_linker_objects.specs.declared.stop.LinkStop.{LinkStop}
use Rattle.bcj_linker_objects.specs.declared.stop.LinkStop.TheVariants.{Malformed, Duplicate, TooLarge, NoMemory}
use Rattle.bcj_cli_shown.specs.Shows.{IsRefusal, duplicate_text}

-- the text of a stop
abbrev pub told_of : List ℕ → LinkStop → List ℕ
told_of file (Malformed object at) = file ++ (codes ": malformed at " ++ decimal at)
told_of file (Duplicate name first second) = duplicate_text file name first second
told_of file (TooLarge Types) = codes "too large: types"
told_of file (TooLarge Image) = codes "too large: image"
told_of file NoMemory = []

abbrev pub has_text : LinkStop → Bool
has_text NoMemory = false
has_text _ = true

-- a cause was told
pub record IsSaid (file bytes : List ℕ) (old new : Option (List ℕ)) : Type 0 where
  pub told : List ℕ
  pub cause : IsRefusal file bytes told
  pub said : Appends old new (line_of told [])

pub record IsSaidInPart (file bytes : List ℕ) (old new : Option (List ℕ)) : Type 0 where
  pub told : List ℕ
  pub cause : IsRefusal file bytes told
  pub said : AppendsFront old new (line_of told [])

-- a front of a cause, or of what is said for want of memory
abbrev pub SaidInPart : List ℕ → List ℕ → Option (List ℕ) → Option (List ℕ) → Type 0
SaidInPart file bytes old new = IsSaidInPart file bytes old new ⊎ Said old new (codes "out of memory") []

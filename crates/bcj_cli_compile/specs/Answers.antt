-- What the answers of a compilation say of the sources.
use Rattle.std.specs.Prelude.{◌≡◌, ℕ, ◌<◌, List, length, string_bytes}
use Rattle.bcj_symbolic_trees.specs.Units.{PlainUnit}
use Rattle.bcj_object_rules.specs.Objects.{object}
use Rattle.bcj_cli_compile.specs.declared.stop.CompileStop.{CompileStop}
use Rattle.bcj_cli_compile.specs.declared.stop.CompileStop.TheVariants.{Refused, NoMemory}
use Rattle.bcj_cli_compile.specs.Accepted.{Accepted, AcceptsNone}
use Rattle.bcj_cli_compile.specs.Refusals.{IsRefusal}
use Rattle.bcj_cli_compile.specs.Texts.{IsNoUnit, IsTextRefusal}

-- the bytes are the object of what the sources become
pub record IsCompiled (sources : List (List ℕ)) (own : ℕ) (bytes : List ℕ) : Type 0 where
  pub unit : PlainUnit
  pub accepted : Accepted sources own unit
  pub are : bytes ≡ object unit

-- the sources become nothing, and this is the first cause: in one of them, at this place, of this kind
pub record GiveNone (sources : List (List ℕ)) (own file at : ℕ) (kind : List ℕ) : Type 0 where
  pub there : file < length sources
  pub none : AcceptsNone sources own
  pub cause : IsRefusal sources own file at kind

-- why there are no bytes
abbrev pub IsStop : List (List ℕ) → ℕ → CompileStop → Type 0
IsStop sources own (Refused file at kind) = GiveNone sources own file at (string_bytes kind)
IsStop sources own NoMemory = Unit {0}

-- the same of the text of the source with this number
abbrev pub IsTextStop : List ℕ → ℕ → CompileStop → Type 0
IsTextStop text number (Refused file at kind) = (file ≡ number) × (IsNoUnit text × IsTextRefusal text at (string_bytes kind))
IsTextStop text number NoMemory = Unit {0}

-- a refusal of a source at a place, of a kind
abbrev pub IsRefusalOf : ℕ → ℕ → List ℕ → CompileStop → Type 0
IsRefusalOf number place told (Refused file at kind) = (file ≡ number) × ((at ≡ place) × (string_bytes kind ≡ told))
IsRefusalOf number place told NoMemory = Unit {0}

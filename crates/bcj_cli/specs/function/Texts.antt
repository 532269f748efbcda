-- The status and the text of each refusal, by what the functions of the code answer.
use Rattle.std.specs.Prelude.{◌≡◌, ℕ, List, codes, string_bytes}
use Rattle.bcj_cli.specs.declared.source.SourceStop.{SourceStop}
use Rattle.bcj_cli.specs.declared.source.SourceStop.TheVariants as source
use Rattle.bcj_cli.specs.Sources.{SpellsNone, IsTold}
use Rattle.bcj_cli_telling.specs.Lines.{line_of, no_memory_text, place_and_kind}
use Rattle.bcj_cli_telling.specs.Statuses.{status_refused, status_no_memory}

abbrev pub source_status : SourceStop → ℕ
source_status (source.Refused told) = status_refused
source_status source.NoMemory = status_no_memory

abbrev pub source_text : SourceStop → List ℕ → List ℕ
source_text (source.Refused told) file = line_of file (string_bytes told)
source_text source.NoMemory file = no_memory_text

-- what is known of a source that didn't run
abbrev pub IsSourceStop : List ℕ → List ℕ → SourceStop → Type 0
IsSourceStop main text (source.Refused told) = SpellsNone main text × IsTold main text (string_bytes told)
IsSourceStop main text source.NoMemory = Unit {0}

-- a refusal of this kind
abbrev pub IsRefusalText : ℕ → List ℕ → SourceStop → Type 0
IsRefusalText at kind (source.Refused told) = string_bytes told ≡ place_and_kind at kind
IsRefusalText at kind source.NoMemory = Unit {0}

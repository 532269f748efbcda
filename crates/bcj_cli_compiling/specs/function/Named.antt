-- What the functions of the code read of the words of a compilation, and what they know of a source that wasn't read.
use Rattle.std.specs.Prelude.{◌≡◌, ℕ, ◌≤◌, List, [], ◌∷◌, ◌++◌, length, take, drop, Option, Some, slice_get}
use Rattle.std.proofs.Common.{get_or}
use Rattle.bcj_edge.specs.Store.{Store, HasMore, Lacks}
use Rattle.bcj_edge.specs.Causes.{Rose}
use Rattle.bcj_edge.specs.declared.store.ReadStop.{ReadStop}
use Rattle.bcj_edge.specs.declared.store.ReadStop.TheVariants as read
use Rattle.bcj_lexer.specs.Answers.{max_source_bytes}
use Rattle.bcj_cli_telling.specs.Faults.{Counts}
use Rattle.bcj_cli_compiling.specs.Form.{Compilation}
use Rattle.bcj_cli_compiling.specs.Compilations.{HasText, HaveTexts}

-- the files that the words name where they ask for a compilation
abbrev pub named_in : List (List ℕ) → Compilation
named_in words = record { out = get_or words 1 []; files = drop 2 words }

-- no count fell
pub record Later (before now : Counts) : Type 0 where
  pub read_faults : before.read_faults ≤ now.read_faults
  pub absents : before.absents ≤ now.absents
  pub overs : before.overs ≤ now.overs

-- why a file wasn't read
abbrev pub WhyUnread : Option Store → List ℕ → Counts → Counts → ReadStop → Type 0
WhyUnread held file before now read.Failed = Rose before.read_faults now.read_faults
WhyUnread held file before now read.Absent = Rose before.absents now.absents × Lacks held file
WhyUnread held file before now read.TooLong = Rose before.overs now.overs × HasMore held file max_source_bytes
WhyUnread held file before now read.NoMemory = Unit {0}

-- the text of a file was put behind others
pub record IsPushed (held : Option Store) (file : List ℕ) (old new : List (List ℕ)) : Type 0 where
  pub text : List ℕ
  pub has : HasText held file text
  pub is : new ≡ old ++ text ∷ []

-- a file wasn't read, and those before it were
pub record StopsAt (held : Option Store) (files : List (List ℕ)) (before now : Counts) (file : List ℕ) (stop : ReadStop) : Type 0 where
  pub number : ℕ
  pub texts : List (List ℕ)
  pub named : slice_get files number ≡ Some file
  pub earlier : HaveTexts held (take number files) texts
  pub why : WhyUnread held file before now stop

-- Faults of files and sinks, and what is said of them.
use Rattle.std.specs.Prelude.{◌≡◌, ℕ, ◌⊎◌, List, codes, Option}
use Rattle.bcj_edge.specs.Store.{Store, HasMore, Lacks}
use Rattle.bcj_edge.specs.Causes.{Rose, Appends, AppendsFront}
use Rattle.bcj_lexer.specs.Answers.{max_source_bytes}
use Rattle.bcj_cli_telling.specs.Lines.{line_of}
use Rattle.bcj_cli_telling.specs.Statuses.{status_write_fault, status_no_memory}

-- the counts of the reads that failed, of the names that couldn't be opened and of the files that were too long
pub record Counts : Type 0 where
  pub read_faults : ℕ
  pub absents : ℕ
  pub overs : ℕ

abbrev pub counts : ℕ → ℕ → ℕ → Counts
counts read_faults absents overs = record { read_faults = read_faults; absents = absents; overs = overs }

-- why a file wasn't read, which was said
abbrev pub Unread : Option Store → List ℕ → Counts → Counts → Option (List ℕ) → Option (List ℕ) → Type 0
Unread held file before now old new =
    (Rose before.read_faults now.read_faults × Appends old new (line_of (codes "cannot read ") file))
    ⊎ ((Rose before.absents now.absents × Lacks held file × Appends old new (line_of (codes "cannot open ") file))
    ⊎ (Rose before.overs now.overs × HasMore held file max_source_bytes × Appends old new (line_of (codes "too long ") file)))

-- a front of a text that was due was said
abbrev pub Said : Option (List ℕ) → Option (List ℕ) → List ℕ → List ℕ → Type 0
Said old new front back = AppendsFront old new (line_of front back)

-- something failed that takes what is due, or there was no memory
abbrev pub Fails : ℕ → Type 0
Fails status = (status ≡ status_write_fault) ⊎ (status ≡ status_no_memory)

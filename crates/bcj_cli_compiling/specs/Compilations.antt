-- What a compilation of files gives, what it says, and what it leaves.
use Rattle.std.specs.Prelude.{◌≡◌, ℕ, ◌≤◌, ◌⊎◌, List, [], length, codes, take, slice_get, Any, Option, Some}
use Rattle.std.specs.List.{AllZip}
use Rattle.bcj_edge.specs.Store.{Store, Has, HasMore, Lacks, Sets}
use Rattle.bcj_edge.specs.Causes.{AppendsFront}
use Rattle.bcj_symbolic_trees.specs.Units.{PlainUnit}
use Rattle.bcj_object_rules.specs.Objects.{object}
use Rattle.bcj_cli_compile.specs.Accepted.{Accepted, AcceptsNone}
use Rattle.bcj_cli_compile.specs.Refusals.{IsRefusal}
use Rattle.bcj_cli_compiling.specs.Form.{Compilation, own_source}
use Rattle.bcj_cli_telling.specs.Faults.{Counts, Unread, Fails, Said}
use Rattle.bcj_cli_telling.specs.Lines.{line_of, place_and_kind}
use Rattle.bcj_cli_telling.specs.Statuses.{status_done, status_refused, status_unread}
use Rattle.bcj_lexer.specs.Answers.{max_source_bytes}

-- ---- the sources

-- a file has this text, within the limit
pub record HasText (held : Option Store) (file text : List ℕ) : Type 0 where
  pub has : Has held file text
  pub short : length text ≤ max_source_bytes

-- the files have these texts
abbrev pub HaveTexts : Option Store → List (List ℕ) → List (List ℕ) → Type 0
HaveTexts held files texts = AllZip (HasText held) files texts

-- one of the files is missing or too long
abbrev pub AreUnreadable : Option Store → List (List ℕ) → Type 0
AreUnreadable held files = Any (λ file. Lacks held file ⊎ HasMore held file max_source_bytes) files

-- ---- what comes of them

-- the texts of the files are accepted for a unit, whose object is held under the name for it now; nothing else changed
pub record Compiled (held : Option Store) (asked : Compilation) (now : Option Store) : Type 0 where
  pub texts : List (List ℕ)
  pub unit : PlainUnit
  pub have : HaveTexts held asked.files texts
  pub accepted : Accepted texts own_source unit
  pub written : Sets held now asked.out (object unit)

-- the texts of the files are accepted for no unit, and a sink took so much of the place and the kind of the first cause
pub record Uncompiled (held : Option Store) (asked : Compilation) (Took : List ℕ → Type 0) : Type 0 where
  pub texts : List (List ℕ)
  pub number : ℕ
  pub file : List ℕ
  pub at : ℕ
  pub kind : List ℕ
  pub have : HaveTexts held asked.files texts
  pub none : AcceptsNone texts own_source
  pub cause : IsRefusal texts own_source number at kind
  pub named : slice_get asked.files number ≡ Some file
  pub said : Took (line_of file (place_and_kind at kind))

-- a file wasn't read, which was said with the reason; those before it were
pub record SourceUnread (held : Option Store) (asked : Compilation) (before now : Counts) (old new : Option (List ℕ)) : Type 0 where
  pub number : ℕ
  pub file : List ℕ
  pub texts : List (List ℕ)
  pub named : slice_get asked.files number ≡ Some file
  pub earlier : HaveTexts held (take number asked.files) texts
  pub cause : Unread held file before now old new

-- ---- faults

-- a front of the text that is due where nothing was written
abbrev pub CompileSaidInPart : Option Store → Compilation → Option (List ℕ) → Option (List ℕ) → Type 0
CompileSaidInPart held asked old new =
    Said old new (codes "out of memory") []
    ⊎ (Uncompiled held asked (AppendsFront old new)
    ⊎ Any (λ file. Said old new (codes "cannot read ") file ⊎ (Said old new (codes "cannot open ") file ⊎ Said old new (codes "too long ") file)) asked.files)

-- the object was complete and couldn't be written, which was said as far as it went
pub record Unwritten (held : Option Store) (asked : Compilation) (old new : Option (List ℕ)) : Type 0 where
  pub texts : List (List ℕ)
  pub unit : PlainUnit
  pub have : HaveTexts held asked.files texts
  pub accepted : Accepted texts own_source unit
  pub said : Said old new (codes "write fault") []

-- the write failed; or the sink for errors did, and then nothing was written
abbrev pub CompileFault : Option Store → Compilation → Option Store → Type 0 → Type 0 → Option (List ℕ) → Option (List ℕ) → Type 0
CompileFault held asked now file_fault err_fault old new =
    (file_fault × Unwritten held asked old new) ⊎ (err_fault × (now ≡ held) × CompileSaidInPart held asked old new)

-- ---- the status where the files tell what they hold

-- of these texts
abbrev pub StatusOfTexts : List (List ℕ) → ℕ → Type 0 → Type 0
StatusOfTexts texts status fault =
    ((u : PlainUnit) → Accepted texts own_source u → (status ≡ status_done) ⊎ (((status ≡ status_unread) × fault) ⊎ Fails status))
    × (AcceptsNone texts own_source → (status ≡ status_refused) ⊎ (((status ≡ status_unread) × fault) ⊎ Fails status))

-- of the files
abbrev pub CompileStatus : Store → List (List ℕ) → ℕ → Type 0 → Type 0
CompileStatus m files status fault =
    ((texts : List (List ℕ)) → HaveTexts (Some m) files texts → StatusOfTexts texts status fault)
    × (AreUnreadable (Some m) files → (status ≡ status_unread) ⊎ Fails status)

-- What a run of `try` is due, and the texts that a command may put on the sink for errors.
use Rattle.std.specs.Prelude.{◌≡◌, ℕ, ◌≤◌, ◌<◌, ◌⊎◌, Bool, List, [], length, codes, Option, Some, None, IfSome, IsSomeAnd, if◌then◌else◌}
use Rattle.std.specs.FinMap as map
use Rattle.bcj_edge.specs.Store.{Store, Has}
use Rattle.bcj_edge.specs.Causes.{Appends, AppendsFront}
use Rattle.bcj_cli_language.specs.Tree.{Acts}
use Rattle.bcj_cli_language.specs.Meaning.{meaning, is_finished}
use Rattle.bcj_cli.specs.Command.{Try, request_of}
use Rattle.bcj_cli_telling.specs.Faults.{Counts, Unread, Fails, Said}
use Rattle.bcj_cli_telling.specs.Lines.{line_of}
use Rattle.bcj_cli_telling.specs.Statuses.{status_done, status_turns_spent, status_refused, status_unread}
use Rattle.bcj_lexer.specs.Answers.{max_source_bytes}
use Rattle.bcj_cli.specs.Sources.{Spells, SpellsNone, IsRun, IsTold}

-- the words ask for a run of a file with this text
pub record Reads (held : Option Store) (words : List (List ℕ)) (asked : Try) (text : List ℕ) : Type 0 where
  pub asks : request_of words ≡ Some asked
  pub has : Has held asked.file text
  pub short : length text ≤ max_source_bytes

-- a program ran to its end or until its turns were spent, and the sink took all that it printed; where it printed nothing,
-- the sink was left alone
pub record Ran (held : Option Store) (words : List (List ℕ)) (finished : Bool) (old new : Option (List ℕ)) (unput : Type 0) : Type 0 where
  pub asked : Try
  pub text : List ℕ
  pub out : List ℕ
  pub reads : Reads held words asked text
  pub run : IsRun asked.main text asked.turns finished out
  pub prints : Appends old new out
  pub nothing : out ≡ [] → unput

-- a program ran, and the sink took a front of what it printed
pub record RanInPart (held : Option Store) (words : List (List ℕ)) (old new : Option (List ℕ)) : Type 0 where
  pub asked : Try
  pub text : List ℕ
  pub out : List ℕ
  pub finished : Bool
  pub reads : Reads held words asked text
  pub run : IsRun asked.main text asked.turns finished out
  pub prints : AppendsFront old new out

-- the file's text spells no program, and the first cause was said with its place
pub record Refused (held : Option Store) (words : List (List ℕ)) (old new : Option (List ℕ)) : Type 0 where
  pub asked : Try
  pub text : List ℕ
  pub told : List ℕ
  pub reads : Reads held words asked text
  pub none : SpellsNone asked.main text
  pub cause : IsTold asked.main text told
  pub said : Appends old new (line_of asked.file told)

-- the same, where the sink took a front of what is due
pub record RefusedInPart (held : Option Store) (words : List (List ℕ)) (old new : Option (List ℕ)) : Type 0 where
  pub asked : Try
  pub text : List ℕ
  pub told : List ℕ
  pub reads : Reads held words asked text
  pub none : SpellsNone asked.main text
  pub cause : IsTold asked.main text told
  pub said : AppendsFront old new (line_of asked.file told)

-- why the file wasn't read, which was said
abbrev pub UnreadOf : Option Store → List (List ℕ) → Counts → Counts → Option (List ℕ) → Option (List ℕ) → Type 0
UnreadOf held words before now old new = IsSomeAnd (request_of words) (λ asked. Unread held asked.file before now old new)

-- the status where the files tell what they hold: of a file whose text spells a program, of one with another text, and of one
-- that is missing or too long
abbrev pub StatusOfText : List ℕ → Try → ℕ → Type 0 → Type 0
StatusOfText text asked status fault =
    ((program : Acts) → Spells asked.main text program
    → (status ≡ (if is_finished (meaning program asked.turns) then status_done else status_turns_spent)) ⊎ (((status ≡ status_unread) × fault) ⊎ Fails status))
    × (SpellsNone asked.main text → (status ≡ status_refused) ⊎ (((status ≡ status_unread) × fault) ⊎ Fails status))

abbrev pub StatusOfFile : Option (List ℕ) → Try → ℕ → Type 0 → Type 0
StatusOfFile None asked status fault = (status ≡ status_unread) ⊎ Fails status
StatusOfFile (Some text) asked status fault = (length text ≤ max_source_bytes → StatusOfText text asked status fault) × (max_source_bytes < length text → (status ≡ status_unread) ⊎ Fails status)

abbrev pub StatusOf : Option Store → List (List ℕ) → ℕ → Type 0 → Type 0
StatusOf held words status fault =
    IfSome held (λ m. IfSome (request_of words) (λ asked. StatusOfFile (map.get m asked.file) asked status fault))

-- a front of the text of a refusal
abbrev pub SaidInPart : Option Store → List (List ℕ) → Option (List ℕ) → Option (List ℕ) → Type 0
SaidInPart held words old new =
    Said old new (codes "bad words") []
    ⊎ (Said old new (codes "out of memory") []
    ⊎ (Said old new (codes "turns spent") []
    ⊎ (RefusedInPart held words old new
    ⊎ IsSomeAnd (request_of words) (λ asked.
    Said old new (codes "cannot read ") asked.file ⊎ (Said old new (codes "cannot open ") asked.file ⊎ Said old new (codes "too long ") asked.file)))))

-- a sink failed: that of the output, which was said as far as it went, or the one for errors
abbrev pub WriteFault : Option Store → List (List ℕ) → Type 0 → Type 0 → Option (List ℕ) → Option (List ℕ) → Type 0
WriteFault held words out_fault err_fault old new = (out_fault × Said old new (codes "write fault") []) ⊎ (err_fault × SaidInPart held words old new)

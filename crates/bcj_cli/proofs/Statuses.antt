-- The status of a run where the files tell what they hold.
use Rattle.std.proofs.Common.{◌≡◌, ◌≢◌, ℕ, ◌≤◌, ◌⊎◌, inl, inr, Bool, List, length, Option, Some, None, Err, IfSome, if◌then◌else◌, sym, ◌∙◌, ap, subst, refl, arith}
use Rattle.std.specs.Prelude.{string_bytes}
use Rattle.std.specs.FinMap as map
use Rattle.bcj_edge.specs.Causes.{Appends, AppendsFront}
use Rattle.bcj_edge.specs.Store.{Store, Has}
use Rattle.bcj_cli_language.specs.Meaning.{meaning, is_finished}
use Rattle.bcj_cli.specs.declared.source.SourceStop.{SourceStop}
use Rattle.bcj_cli.specs.declared.source.SourceStop.TheVariants.{Refused as Refuses, NoMemory}
use Rattle.bcj_cli.specs.Command.{Try, request_of}
use Rattle.bcj_lexer.specs.Answers.{max_source_bytes}
use Rattle.bcj_cli.specs.Runs.{Reads, Refused, RefusedInPart, StatusOfText, StatusOfFile, StatusOf}
use Rattle.bcj_cli.specs.Sources.{IsRun, SpellsNone, IsTold}
use Rattle.bcj_cli.specs.function.Texts.{source_status, source_text, IsSourceStop}
use Rattle.bcj_cli_telling.specs.Lines.{no_memory_text}
use Rattle.bcj_cli_telling.specs.Statuses.{status_done, status_turns_spent, status_refused, status_write_fault}

-- what is known of the text says the status where the store is told
status_of : (held : Option Store) (words : List (List ℕ)) (asked : Try) (text : List ℕ) (status : ℕ) (fault : Type 0)
    → request_of words ≡ Some asked → Has held asked.file text → length text ≤ max_source_bytes → StatusOfText text asked status fault → StatusOf held words status fault
status_of None words asked text status fault asks has short known = tt
status_of (Some m) words asked text status fault asks has short known =
    let P : Option Try → Type 0 = λ o. IfSome o (λ a. StatusOfFile (map.get m a.file) a status fault) in
    let Q : Option (List ℕ) → Type 0 = λ f. StatusOfFile f asked status fault in
    subst P (sym asks) (subst Q (sym has) ((λ _. known), (λ long. absurd (omega arith))))

run_text : (asked : Try) (text out : List ℕ) (finished : Bool) (status : ℕ) (fault : Type 0)
    → IsRun asked.main text asked.turns finished out → (status ≡ (if finished then status_done else status_turns_spent)) ⊎ (status ≡ status_write_fault) → StatusOfText text asked status fault
run_text asked text out finished status fault run (inl e) = (
  (λ program reads.
      inl (e ∙ ap (λ b. if b then status_done else status_turns_spent) (sym run.ends) ∙ ap (λ p. if is_finished (meaning p asked.turns) then status_done else status_turns_spent) (run.one program reads))),
  (λ none. absurd (none run.program run.spells)),
)
run_text asked text out finished status fault run (inr e) = ((λ program reads. inr (inr (inl e))), (λ none. absurd (none run.program run.spells)))

pub run_status : (held : Option Store) (words : List (List ℕ)) (asked : Try) (text out : List ℕ) (finished : Bool) (status : ℕ) (fault : Type 0)
    → request_of words ≡ Some asked → Has held asked.file text → length text ≤ max_source_bytes → IsRun asked.main text asked.turns finished out
    → (status ≡ (if finished then status_done else status_turns_spent)) ⊎ (status ≡ status_write_fault) → StatusOf held words status fault
run_status held words asked text out finished status fault asks has short run e =
    status_of held words asked text status fault asks has short (run_text asked text out finished status fault run e)

stop_text : (asked : Try) (text : List ℕ) (stop : SourceStop) (status : ℕ) (fault : Type 0)
    → IsSourceStop asked.main text stop → (status ≡ source_status stop) ⊎ (status ≡ status_write_fault) → StatusOfText text asked status fault
stop_text asked text (Refuses told) status fault none (inl e) = ((λ program spells. absurd (none.0 program spells)), (λ _. inl e))
stop_text asked text NoMemory status fault none (inl e) = ((λ program reads. inr (inr (inr e))), (λ _. inr (inr (inr e))))
stop_text asked text stop status fault none (inr e) = ((λ program reads. inr (inr (inl e))), (λ _. inr (inr (inl e))))

pub stop_status : (held : Option Store) (words : List (List ℕ)) (asked : Try) (text : List ℕ) (stop : SourceStop) (status : ℕ) (fault : Type 0)
    → request_of words ≡ Some asked → Has held asked.file text → length text ≤ max_source_bytes → IsSourceStop asked.main text stop
    → (status ≡ source_status stop) ⊎ (status ≡ status_write_fault) → StatusOf held words status fault
stop_status held words asked text stop status fault asks has short none e =
    status_of held words asked text status fault asks has short (stop_text asked text stop status fault none e)

-- a refusal says that the text spells no program
pub stop_refused : (held : Option Store) (words : List (List ℕ)) (asked : Try) (text : List ℕ) (stop : SourceStop) (status : ℕ) (old new : Option (List ℕ))
    → Reads held words asked text → IsSourceStop asked.main text stop
    → (status ≡ source_status stop) ⊎ (status ≡ status_write_fault) → (status ≢ status_write_fault → Appends old new (source_text stop asked.file)) → status ≡ status_refused → Refused held words old new
stop_refused held words asked text (Refuses told) status old new reads none e said is_refused = record {
  asked = asked;
  text = text;
  reads = reads;
  told = string_bytes told;
  none = none.0;
  cause = none.1;
  said = said (λ is_fault. omega arith);
}
stop_refused held words asked text NoMemory status old new reads none (inl e) told is_refused = absurd (omega arith)
stop_refused held words asked text NoMemory status old new reads none (inr e) told is_refused = absurd (omega arith)

-- where the text of a refusal was put in part
pub stop_in_part : (held : Option Store) (words : List (List ℕ)) (asked : Try) (text : List ℕ) (stop : SourceStop) (old new : Option (List ℕ))
    → Reads held words asked text → IsSourceStop asked.main text stop → AppendsFront old new (source_text stop asked.file) → AppendsFront old new no_memory_text ⊎ RefusedInPart held words old new
stop_in_part held words asked text (Refuses told) old new reads is part = inr (record {
  asked = asked;
  text = text;
  told = string_bytes told;
  reads = reads;
  none = is.0;
  cause = is.1;
  said = part;
})
stop_in_part held words asked text NoMemory old new reads is part = inl part

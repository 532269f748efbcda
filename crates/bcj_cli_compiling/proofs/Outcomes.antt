-- What a compilation comes to is what is said of its files and its status.
use Rattle.std.proofs.Common.{◌≡◌, ◌≢◌, refl, sym, ap, ◌∙◌, subst, ℕ, ◌+◌, ◌-◌, ◌<◌, ◌≤◌, ◌⊎◌, inl, inr, List, [], drop, length, Option, None, Some, IfSome, codes, arith}
use Rattle.std.specs.Prelude.{slice_get, Any}
use Rattle.std.proofs.lemmas.Option.{slice_get-get_or, slice_get_within, get_or_from_slice_get}
use Rattle.bcj_edge.specs.Store.{Store, HasMore, Lacks}
use Rattle.bcj_edge.specs.Causes.{Rose, Appends, AppendsFront}
use Rattle.bcj_edge.specs.declared.store.ReadStop.{ReadStop}
use Rattle.bcj_edge.specs.declared.store.ReadStop.TheVariants.{Failed, TooLong, NoMemory, Absent}
use Rattle.bcj_symbolic_trees.specs.Units.{PlainUnit}
use Rattle.bcj_lexer.specs.Answers.{max_source_bytes}
use Rattle.std.proofs.lemmas.List.{length-drop}
use Rattle.bcj_cli_compile.specs.Accepted.{Accepted, AcceptsNone}
use Rattle.bcj_cli_compile.specs.Answers.{GiveNone, IsCompiled}
use Rattle.bcj_cli_telling.specs.Faults.{Counts, Unread, Fails, Said}
use Rattle.bcj_cli_telling.specs.Lines.{line_of, no_memory_text, place_and_kind}
use Rattle.bcj_cli_telling.specs.Statuses.{status_done, status_refused, status_unread, status_write_fault, status_no_memory}
use Rattle.bcj_cli_telling.specs.function.Texts.{read_status, read_text}
use Rattle.bcj_cli_compiling.specs.Form.{Compilation, compilation_of, own_source}
use Rattle.bcj_cli_compiling.specs.Compilations.{HaveTexts, HasText, AreUnreadable, SourceUnread, Uncompiled, CompileSaidInPart, CompileFault, CompileStatus, StatusOfTexts}
use Rattle.bcj_cli_compiling.specs.function.Named.{named_in, StopsAt}
use Rattle.bcj_cli_compiling.proofs.Named.{for_asked, file_at}
use Rattle.bcj_cli_compiling.proofs.TextsRead.{are_many, same_texts, has_one, not_lacking, not_more}

-- ---- the status

-- something failed
fails : (m : Store) (files : List (List ℕ)) (status : ℕ) (fault : Type 0) → Fails status → CompileStatus m files status fault
fails m files status fault f = ((λ texts have. ((λ u a. inr (inr f)), (λ none. inr (inr f)))), (λ unreadable. inr f))

-- files that have texts aren't unreadable
readable : (m : Store) (files texts : List (List ℕ)) → HaveTexts (Some m) files texts → AreUnreadable (Some m) files → ⊥
readable m files texts have u =
    let is : slice_get files u.0 ≡ Some u.1 = slice_get-get_or files u.0 u.1 u.2 ∙ ap (λ y. Some y) u.3 in
    let one = has_one (Some m) files texts u.0 u.1 have is in
    elim u.4 [ inl lacks ↦ not_lacking m u.1 one.0 one.1 lacks | inr more ↦ not_more m u.1 one.0 one.1 more ]

-- the texts became something
accepted_status : (m : Store) (files texts : List (List ℕ)) (u : PlainUnit) (status : ℕ) (fault : Type 0) → HaveTexts (Some m) files texts → Accepted texts own_source u
    → (status ≡ status_done) ⊎ Fails status → CompileStatus m files status fault
accepted_status m files texts u status fault have a (inr f) = fails m files status fault f
accepted_status m files texts u status fault have a (inl e) = (
  (λ others h. ((λ v b. inl e), (λ none. absurd (none u (subst (λ ts. Accepted ts own_source u) (same_texts m files texts others have h) a))))),
  (λ unreadable. absurd (readable m files texts have unreadable)),
)

-- they became nothing
refused_status : (m : Store) (files texts : List (List ℕ)) (status : ℕ) (fault : Type 0) → HaveTexts (Some m) files texts → AcceptsNone texts own_source
    → (status ≡ status_refused) ⊎ Fails status → CompileStatus m files status fault
refused_status m files texts status fault have none (inr f) = fails m files status fault f
refused_status m files texts status fault have none (inl e) = (
  (λ others h. ((λ v b. absurd (none v (subst (λ ts. Accepted ts own_source v) (same_texts m files others texts h have) b))), (λ _. inl e))),
  (λ unreadable. absurd (readable m files texts have unreadable)),
)

-- a file wasn't read
module _ (m : Store) (files : List (List ℕ)) (before now : Counts) (file : List ℕ) (status : ℕ) where
  unread_none : (stop : ReadStop) → StopsAt (Some m) files before now file stop → ((text : List ℕ) → HasText (Some m) file text → ⊥) → status ≡ status_unread
      → CompileStatus m files status (Rose before.read_faults now.read_faults)
  unread_none stop s none e = (
    (λ texts have. let one = has_one (Some m) files texts s.number file have s.named in absurd (none one.0 one.1)),
    (λ unreadable. inl e),
  )

  unread_status : (stop : ReadStop) → StopsAt (Some m) files before now file stop → (status ≡ read_status stop) ⊎ (status ≡ status_write_fault)
      → CompileStatus m files status (Rose before.read_faults now.read_faults)
  unread_status stop s (inr e) = fails m files status (Rose before.read_faults now.read_faults) (inl e)
  unread_status Failed s (inl e) = ((λ texts have. ((λ u a. inr (inl (e, s.why))), (λ none. inr (inl (e, s.why))))), (λ unreadable. inl e))
  unread_status Absent s (inl e) = unread_none Absent s (λ text h. not_lacking m file text h s.why.1) e
  unread_status TooLong s (inl e) = unread_none TooLong s (λ text h. not_more m file text h s.why.1) e
  unread_status NoMemory s (inl e) = fails m files status (Rose before.read_faults now.read_faults) (inr e)

-- the same by the words, where the files tell what they hold
abbrev Known : Option Store → List (List ℕ) → ℕ → Type 0 → Type 0
Known held words status fault = IfSome held (λ m. IfSome (compilation_of words) (λ asked. CompileStatus m asked.files status fault))

pub unread_known : (held : Option Store) (words : List (List ℕ)) (before now : Counts) (file : List ℕ) (status : ℕ) (stop : ReadStop) → StopsAt held (named_in words).files before now file stop
    → (status ≡ read_status stop) ⊎ (status ≡ status_write_fault) → Known held words status (Rose before.read_faults now.read_faults)
unread_known None words before now file status stop s e = tt
unread_known (Some m) words before now file status stop s e =
    for_asked words (λ asked. CompileStatus m asked.files status (Rose before.read_faults now.read_faults)) (unread_status m (named_in words).files before now file status stop s e)

pub accepted_known : (held : Option Store) (words texts : List (List ℕ)) (u : PlainUnit) (status : ℕ) (fault : Type 0) → HaveTexts held (named_in words).files texts → Accepted texts own_source u
    → (status ≡ status_done) ⊎ Fails status → Known held words status fault
accepted_known None words texts u status fault have a e = tt
accepted_known (Some m) words texts u status fault have a e =
    for_asked words (λ asked. CompileStatus m asked.files status fault) (accepted_status m (named_in words).files texts u status fault have a e)

pub refused_known : (held : Option Store) (words texts : List (List ℕ)) (status : ℕ) (fault : Type 0) → HaveTexts held (named_in words).files texts → AcceptsNone texts own_source
    → (status ≡ status_refused) ⊎ Fails status → Known held words status fault
refused_known None words texts status fault have none e = tt
refused_known (Some m) words texts status fault have none e =
    for_asked words (λ asked. CompileStatus m asked.files status fault) (refused_status m (named_in words).files texts status fault have none e)

-- ---- what was said of a file that wasn't read

module _ (held : Option Store) (asked : Compilation) (before now : Counts) (file : List ℕ) (old new : Option (List ℕ)) where
  unread_for : (stop : ReadStop) → StopsAt held asked.files before now file stop → Unread held file before now old new → SourceUnread held asked before now old new
  unread_for stop s cause = record { number = s.number; file = file; texts = s.texts; named = s.named; earlier = s.earlier; cause = cause }

  pub unread_said : (stop : ReadStop) (status : ℕ) → StopsAt held asked.files before now file stop → (status ≡ read_status stop) ⊎ (status ≡ status_write_fault)
      → (status ≢ status_write_fault → Appends old new (read_text stop file)) → status ≡ status_unread → SourceUnread held asked before now old new
  unread_said stop status s (inr e) told is = absurd (omega (arith, e, is))
  unread_said Failed status s (inl e) told is = unread_for Failed s (inl (s.why, told (λ other. omega (arith, other, is))))
  unread_said Absent status s (inl e) told is = unread_for Absent s (inr (inl (s.why.0, s.why.1, told (λ other. omega (arith, other, is)))))
  unread_said TooLong status s (inl e) told is = unread_for TooLong s (inr (inr (s.why.0, s.why.1, told (λ other. omega (arith, other, is)))))
  unread_said NoMemory status s (inl e) told is = absurd (omega (arith, e, is))

  abbrev SaidOf : List ℕ → Type 0
  SaidOf f = Said old new (codes "cannot read ") f ⊎ (Said old new (codes "cannot open ") f ⊎ Said old new (codes "too long ") f)

  said_of : (stop : ReadStop) → StopsAt held asked.files before now file stop → SaidOf file → Any SaidOf asked.files
  said_of stop s said = (s.number, file, slice_get_within asked.files s.number file s.named, get_or_from_slice_get asked.files s.number file file s.named, said)

  pub unread_in_part : (stop : ReadStop) → StopsAt held asked.files before now file stop → AppendsFront old new (read_text stop file) → CompileSaidInPart held asked old new
  unread_in_part Failed s part = inr (inr (said_of Failed s (inl part)))
  unread_in_part Absent s part = inr (inr (said_of Absent s (inr (inl part))))
  unread_in_part TooLong s part = inr (inr (said_of TooLong s (inr (inr part))))
  unread_in_part NoMemory s part = inl part

-- ---- what was said of sources that become nothing

pub uncompiled : (held : Option Store) (words texts : List (List ℕ)) (number at : ℕ) (file kind : List ℕ) (Took : List ℕ → Type 0) → HaveTexts held (named_in words).files texts
    → GiveNone texts own_source number at kind → slice_get words (number + 2) ≡ Some file → Took (line_of file (place_and_kind at kind)) → Uncompiled held (named_in words) Took
uncompiled held words texts number at file kind Took have gives is took =
    let same : number + 2 - 2 ≡ number = omega arith in
    record {
      texts = texts;
      number = number;
      file = file;
      at = at;
      kind = kind;
      have = have;
      none = gives.none;
      cause = gives.cause;
      named = subst (λ n. slice_get (drop 2 words) n ≡ Some file) same (file_at words (number + 2) file (omega arith) is);
      said = took;
    }

-- a front of it, or of what is said for want of memory
pub uncompiled_in_part : (held : Option Store) (words texts : List (List ℕ)) (number at : ℕ) (file kind : List ℕ) (old new : Option (List ℕ)) → HaveTexts held (named_in words).files texts
    → GiveNone texts own_source number at kind → slice_get words (number + 2) ≡ Some file → AppendsFront old new (line_of file (place_and_kind at kind)) ⊎ AppendsFront old new no_memory_text
    → CompileSaidInPart held (named_in words) old new
uncompiled_in_part held words texts number at file kind old new have gives is (inl part) = inr (inl (uncompiled held words texts number at file kind (AppendsFront old new) have gives is part))
uncompiled_in_part held words texts number at file kind old new have gives is (inr part) = inl part

-- there is a word with the name of the file
pub word_is_there : (held : Option Store) (words texts : List (List ℕ)) (number at : ℕ) (kind : List ℕ) → HaveTexts held (named_in words).files texts → GiveNone texts own_source number at kind → number + 2 < length words
word_is_there held words texts number at kind have gives =
    let there : number < length texts = gives.there in
    omega (arith, are_many held (drop 2 words) texts have, length-drop 2 words)

-- ---- the object

-- a count that rose behind a later one rose behind the earlier one
rose_before : (a b c : ℕ) → a ≤ b → Rose b c → Rose a c
rose_before a b c low rose = omega (arith, low, rose)

pub unwritten : (held read now : Option Store) (words texts : List (List ℕ)) (object : List ℕ) (before behind last : ℕ) (err_fault : Type 0) (old new : Option (List ℕ)) → HaveTexts held (named_in words).files texts
    → IsCompiled texts own_source object → read ≡ held → before ≤ behind
    → (Rose behind last × Said old new (codes "write fault") []) ⊎ (err_fault × (now ≡ read) × Said old new (codes "out of memory") [])
    → CompileFault held (named_in words) now (Rose before last) err_fault old new
unwritten held read now words texts object before behind last err_fault old new have is same low (inl f) =
    inl (rose_before before behind last low f.0, record { texts = texts; unit = is.unit; have = have; accepted = is.accepted; said = f.1 })
unwritten held read now words texts object before behind last err_fault old new have is same low (inr f) = inr (f.0, f.1 ∙ same, inl f.2)

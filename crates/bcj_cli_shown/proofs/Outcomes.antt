-- What showing comes to, by what was read and said.
use Rattle.std.proofs.Common.{◌≡◌, refl, ℕ, inl, inr, List, Option}
use Rattle.bcj_edge.specs.Store.{Store, HasMore, Lacks}
use Rattle.bcj_edge.specs.Causes.{Rose, Appends}
use Rattle.bcj_edge.specs.declared.store.ReadStop.{ReadStop}
use Rattle.bcj_edge.specs.declared.store.ReadStop.TheVariants.{Failed, TooLong, NoMemory, Absent}
use Rattle.bcj_cli_telling.specs.Faults.{Counts}
use Rattle.bcj_cli_telling.specs.Statuses.{status_unread}
use Rattle.bcj_cli_telling.specs.function.Texts.{read_status, read_text}
use Rattle.bcj_cli_shown.specs.Form.{max_object_bytes}
use Rattle.bcj_cli_shown.specs.Shows.{HasObject, ObjectUnread, Unshown, RefusalSaidInPart}
use Rattle.bcj_cli_shown.specs.Sayings.{IsSaid, SaidInPart}

-- a read that stopped was told with its reason
pub unread : (held : Option Store) (file : List ℕ) (before now : Counts) (old new : Option (List ℕ)) (stop : ReadStop)
    → (stop ≡ Failed → Rose before.read_faults now.read_faults)
    → (stop ≡ TooLong → Rose before.overs now.overs × HasMore held file max_object_bytes)
    → (stop ≡ Absent → Rose before.absents now.absents × Lacks held file)
    → read_status stop ≡ status_unread → Appends old new (read_text stop file) → ObjectUnread held file before now old new
unread held file before now old new Failed failed long absent is told = inl (failed refl, told)
unread held file before now old new Absent failed long absent is told = let why = absent refl in inr (inl (why.0, why.1, told))
unread held file before now old new TooLong failed long absent is told = let why = long refl in inr (inr (why.0, why.1, told))
unread held file before now old new NoMemory failed long absent is told = absurd cc

-- the object was refused with its reason
pub unshown : (held : Option Store) (file bytes : List ℕ) (old new : Option (List ℕ)) → HasObject held file bytes → IsSaid file bytes old new → Unshown held file (Appends old new)
unshown held file bytes old new has s = record { bytes = bytes; told = s.told; has = has; cause = s.cause; said = s.said }

-- and so far as it was said
pub said_in_part : (held : Option Store) (file bytes : List ℕ) (old new : Option (List ℕ)) → HasObject held file bytes → SaidInPart file bytes old new → RefusalSaidInPart held file old new
said_in_part held file bytes old new has (inl s) = inr (inl (record { bytes = bytes; told = s.told; has = has; cause = s.cause; said = s.said }))
said_in_part held file bytes old new has (inr s) = inl s

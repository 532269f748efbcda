-- Why an object isn't shown, and what is said of it.
use Rattle.std.proofs.Common.{◌≡◌, ℕ, List, true}
use Rattle.bcj_linker_objects.specs.declared.stop.LinkStop.{LinkStop}
use Rattle.bcj_linker_objects.specs.declared.stop.LinkStop.TheVariants.{Malformed, Duplicate, TooLarge, NoMemory}
use Rattle.bcj_linker_objects.specs.declared.stop.LinkTotal.TheVariants.{Types, Image}
use Rattle.bcj_cli_shown.specs.Causes.{IsCause}
use Rattle.bcj_cli_shown.specs.Shows.{IsRefusal, malformed, duplicate, too_many_types, too_large}
use Rattle.bcj_cli_shown.specs.Sayings.{told_of, has_text}

-- the text of a stop tells its cause
pub cause_is_told : (file bytes : List ℕ) (stop : LinkStop) → has_text stop ≡ true → IsCause bytes stop → IsRefusal file bytes (told_of file stop)
cause_is_told file bytes (Malformed object at) some cause = malformed cause
cause_is_told file bytes (Duplicate name first second) some cause = duplicate cause
cause_is_told file bytes (TooLarge Types) some cause = too_many_types cause
cause_is_told file bytes (TooLarge Image) some cause = too_large cause.boot cause.own cause.mixed cause.large
cause_is_told file bytes NoMemory some cause = cc

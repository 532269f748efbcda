-- Whether a run came to the program's end.
use Rattle.std.specs.Prelude.{Bool, true, false}
use Rattle.bcj_cli_code.specs.declared.ending.Cause.{Cause}
use Rattle.bcj_cli_code.specs.declared.ending.Cause.TheVariants.{Ended, Faulted, OutOfInstructions}
use Rattle.bcj_cli_code.specs.declared.ending.Ending.TheVariants.{Done, TurnsSpent}

abbrev pub is_done : Cause → Bool
is_done (Ended Done) = true
is_done (Ended TurnsSpent) = false
is_done (Faulted kind) = false
is_done OutOfInstructions = false

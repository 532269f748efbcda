-- What the functions that run words answer.
use Rattle.std.specs.Prelude.{◌≡◌, ℕ, suc, List, Option, Some, None}
use Rattle.rv_machine.specs.Machine.{State}
use Rattle.rv_steps.specs.MachineRun.{Answer, Outcome, MachineRun}
use Rattle.rv_steps.specs.MachineRun as machine
use Rattle.bcj_cli_code.specs.declared.ending.Ending.{Ending}
use Rattle.bcj_cli_code.specs.declared.ending.Cause.{Cause}
use Rattle.bcj_cli_code.specs.declared.ending.Cause.TheVariants.{Ended, Faulted, OutOfInstructions}
use Rattle.bcj_cli_code.specs.declared.ending.Ran.{Ran}
use Rattle.bcj_cli_code.specs.declared.ending.Answered.{Answered}
use Rattle.bcj_cli_code.specs.declared.ending.Answered.TheVariants as answered
use Rattle.bcj_cli_code.specs.Correct.{answer, Runs}

-- an answer, with the machine and the output behind it
abbrev pub IsAnswered : Answer (List ℕ) Ending → Answered → State → (old new : List ℕ) → Type 0
IsAnswered a answered.Resumed s old new = a ≡ machine.Resumed s new
IsAnswered a (answered.Ended e) s old new = a ≡ machine.Ended e new
IsAnswered a answered.Refused s old new = (a ≡ machine.Refused) × (new ≡ old)

-- the cause of an outcome
abbrev pub cause_of : Cause → machine.Cause Ending
cause_of (Ended e) = machine.ByService e
cause_of (Faulted kind) = machine.ByFault kind
cause_of OutOfInstructions = machine.Spent

-- a run comes to an outcome of this cause, with this output
pub record Comes (limit : ℕ) (s : State) (out : List ℕ) (cause : Cause) (all : List ℕ) : Type 0 where
  pub outcome : Outcome (List ℕ) Ending
  pub runs : MachineRun answer limit s out outcome
  pub cause_is : outcome.cause ≡ cause_of cause
  pub output : outcome.world ≡ all

-- One instruction further a run from here is a run from there, or the run is over.
abbrev pub IsAdvanced : State → List ℕ → Option Cause → State → List ℕ → Type 0
IsAdvanced s out None s1 out1 = (limit : ℕ) (o : Outcome (List ℕ) Ending) → MachineRun answer limit s1 out1 o → MachineRun answer (suc limit) s out o
IsAdvanced s out (Some cause) s1 out1 = (limit : ℕ) → Comes (suc limit) s out cause out1

-- the end and the output of a run of these words
pub record IsRun (words : List ℕ) (turns : ℕ) (r : Ran) : Type 0 where
  pub outcome : Outcome (List ℕ) Ending
  pub runs : Runs words turns outcome
  pub cause_is : outcome.cause ≡ cause_of r.cause
  pub output : outcome.world ≡ r.out.items

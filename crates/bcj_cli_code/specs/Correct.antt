-- The words of a program do what its meaning says, on the RV32IM machine.
use Rattle.std.specs.Prelude.{◌≡◌, ℕ, ◌+◌, ◌*◌, ◌<◌, ◌≤◌, ◌==◌, if◌then◌else◌, List, [], ◌∷◌, ◌++◌, length, replicate, flat_map}
use Rattle.std.specs.Int.{w32, cast_signed}
use Rattle.std.specs.Fmt.{signed_decimal}
use Rattle.byteorder.specs.Endian.{little_bytes}
use Rattle.rv_isa.specs.Registers.{sp, a0, a7, s11}
use Rattle.rv_isa.specs.Words.{instruction_size}
use Rattle.rv_machine.specs.Machine.{State, register, registers_with}
use Rattle.rv_steps.specs.Services as services
use Rattle.rv_steps.specs.MachineRun.{Answer, Resumed, Ended, Refused, Outcome, ByService, MachineRun}
use Rattle.bcj_cli_language.specs.Tree.{Acts}
use Rattle.bcj_cli_language.specs.Bounds.{IsBounded, max_turns}
use Rattle.bcj_cli_language.specs.Meaning.{End, Goes, Stops, meaning, printed, line_end}
use Rattle.bcj_cli_code.specs.function.Code.{program_words}
use Rattle.bcj_cli_code.specs.Sizes.{max_words, count_words}
pub use Rattle.bcj_cli_code.specs.declared.ending.Ending.{Ending}
pub use Rattle.bcj_cli_code.specs.declared.ending.Ending.TheVariants.{Done, TurnsSpent}
use Rattle.bcj_cli_code.specs.Frames.{frame_bytes}

-- the end of a run whose meaning ends so
abbrev pub ending : End → Ending
ending (Goes env w) = Done
ending (Stops w) = TurnsSpent

-- What an ECALL does, by the number in a7: a0 is printed as a signed number, or a line end is, or the run ends for want of turns or
-- as done.
abbrev pub answer : State → List ℕ → Answer (List ℕ) Ending
answer s out =
    if register s a7 == services.print_int then Resumed s (out ++ signed_decimal (cast_signed w32 (register s a0)))
    else if register s a7 == services.print_line_end then Resumed s (out ++ line_end)
    else if register s a7 == services.stop then Ended TurnsSpent out
    else if register s a7 == services.exit then Ended Done out
    else Refused

-- the bytes of the words, and one frame
abbrev pub memory_of : List ℕ → List ℕ
memory_of words = flat_map (λ w. little_bytes instruction_size w) words ++ replicate frame_bytes 0

-- sp begins at the frame, s11 has the turns, all other registers are 0
abbrev pub start_state : List ℕ → ℕ → State
start_state words turns = record {
  registers = registers_with ((sp, instruction_size * length words) ∷ (s11, turns) ∷ []);
  memory = memory_of words;
  read_only = instruction_size * length words;
  pc = 0;
  retired = 0;
}

-- the most instructions that a run takes
abbrev pub limit : List ℕ → ℕ → ℕ
limit words turns = (turns + 1) * length words

-- a run of these words comes to this outcome
abbrev pub Runs : List ℕ → ℕ → Outcome (List ℕ) Ending → Type 0
Runs words turns o = MachineRun answer (limit words turns) (start_state words turns) [] o

-- it is the end of the meaning, with its output, within the limit
pub record IsMeant (p : Acts) (turns : ℕ) (o : Outcome (List ℕ) Ending) : Type 0 where
  pub cause : o.cause ≡ ByService (ending (meaning p turns))
  pub output : o.world ≡ printed (meaning p turns)
  pub retired : o.state.retired ≤ limit (program_words p) turns

-- Every run of these words is as the meaning says, and there is one.
pub record RunsAsMeant (p : Acts) (turns : ℕ) : Type 0 where
  pub each : (o : Outcome (List ℕ) Ending) → Runs (program_words p) turns o → IsMeant p turns o
  pub one : (o : Outcome (List ℕ) Ending) × Runs (program_words p) turns o

-- For every bounded program that isn't too long and every number of turns, a run of its words ends as its meaning does: never with a
-- fault, and never for want of instructions.
abbrev pub Correct : Type 0
Correct = (p : Acts) (turns : ℕ) → IsBounded p → length (program_words p) ≤ max_words → turns < max_turns + 1 → RunsAsMeant p turns

-- how many words a program has, by its nodes
abbrev pub Sizes : Type 0
Sizes = (p : Acts) → length (program_words p) ≡ count_words p

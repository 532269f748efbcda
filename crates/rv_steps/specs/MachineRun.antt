-- Runs of the RV32IM machine: one step as its contract tells it, and steps and services in turn until an end or a limit.
use Rattle.std.specs.Prelude.{◌≡◌, ◌≢◌, ℕ, zero, suc, ◌+◌, ◌%◌, ◌<◌}
use Rattle.rv_isa.specs.Words.{Spells, instruction_size}
use Rattle.rv_isa.specs.declared.instruction.Instr.{Instr}
use Rattle.rv_machine.specs.Machine.{State, IsFetched, word_at_pc, fault, exec}
use Rattle.rv_machine.specs.declared.answers.FaultKind.{FaultKind}
use Rattle.rv_machine.specs.declared.answers.FaultKind.TheVariants.{Illegal, Unaligned, Outside, BadCall}
use Rattle.rv_machine.specs.declared.answers.Step.{Step}
use Rattle.rv_machine.specs.declared.answers.Step.TheVariants.{Went, Call, Fault}

-- What the clauses of the machine's `step` say of a state, the answer and the state behind it.
pub record IsStep (before : State) (answer : Step) (behind : State) : Type 0 where
  pub unaligned : before.pc % instruction_size ≢ 0 → fault Unaligned before ≡ (answer, behind)
  pub outside : before.pc % instruction_size ≡ 0 → before.read_only < before.pc + instruction_size → fault Outside before ≡ (answer, behind)
  pub illegal : IsFetched before → ((i : Instr) → Spells i (word_at_pc before) → ⊥) → fault Illegal before ≡ (answer, behind)
  pub does : (i : Instr) → IsFetched before → Spells i (word_at_pc before) → exec i before ≡ (answer, behind)

-- What a service answers to an ECALL, from the state with the pc behind it: the run goes on, or ends, or the call is bad.
pub data Answer (W E : Type 0) : Type 0 where
  Resumed : State → W → Answer W E
  Ended : E → W → Answer W E
  Refused : Answer W E

-- Why a run is over: a service ended it, a step was a fault, or as many instructions retired as it may take.
pub data Cause (E : Type 0) : Type 0 where
  ByService : E → Cause E
  ByFault : FaultKind → Cause E
  Spent : Cause E

-- The state in which a run is over. It is that behind the ECALL that ended the run, and that before a bad call. A fault leaves
-- the state as it was.
pub record Outcome (W E : Type 0) : Type 0 where
  pub cause : Cause E
  pub state : State
  pub world : W

-- what holds behind an ECALL with this answer, where `more` is said of the state that goes on
abbrev pub AfterCall : {W E : Type 0} → (State → W → Type 0) → (before behind : State) → W → Outcome W E → Answer W E → Type 0
AfterCall more before behind world o (Resumed s w) = more s w
AfterCall more before behind world o (Ended e w) = o ≡ record { cause = ByService e; state = behind; world = w }
AfterCall more before behind world o Refused = o ≡ record { cause = ByFault BadCall; state = before; world = world }

-- what holds behind a step that answered so
abbrev pub AfterStep : {W E : Type 0} → (State → W → Type 0) → (State → W → Answer W E) → (before behind : State) → W
    → Outcome W E → Step → Type 0
AfterStep more answer before behind world o Went = more behind world
AfterStep more answer before behind world o Call = AfterCall more before behind world o (answer behind world)
AfterStep more answer before behind world o (Fault kind) = o ≡ record { cause = ByFault kind; state = behind; world = world }

-- A run that may take `limit` instructions more comes to this outcome. `answer` are the services, and `world` what they keep.
-- An ECALL retires, also one that ends the run; one that is refused doesn't, and no fault does.
unfoldable pub MachineRun : {W E : Type 0} → (State → W → Answer W E) → (limit : ℕ) → State → W → Outcome W E → Type 0
MachineRun answer zero s world o = o ≡ record { cause = Spent; state = s; world = world }
MachineRun answer (suc limit) s world o =
    (told : Step) × (behind : State) × IsStep s told behind × AfterStep (λ s1 w. MachineRun answer limit s1 w o) answer s behind world o told

-- each run comes to one outcome
abbrev pub OneOutcome : Type 0 → Type 0 → Type 0
OneOutcome W E = (answer : State → W → Answer W E) (limit : ℕ) (s : State) (world : W)
    → (o : Outcome W E) × MachineRun answer limit s world o × ((p : Outcome W E) → MachineRun answer limit s world p → p ≡ o)

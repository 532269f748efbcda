-- The machine with named registers is the RV32IM machine, as long as its code stands in memory.
use Rattle.std.specs.Prelude.{◌≡◌, ◌≢◌, ℕ, ◌+◌, ◌≤◌, min, [], ◌∷◌, Some}
use Rattle.rv_isa.specs.Registers as register
use Rattle.rv_machine.specs.Machine.{State, registers_with, max_retired}
use Rattle.rv_machine.specs.declared.answers.Step.{Step}
use Rattle.rv_machine.specs.declared.answers.Step.TheVariants.{Went, Call}
use Rattle.rv_steps.specs.Machine.{Config, Image, Go, Resumes, Ends, Ecall, next, step, Ending, Over, Runaway, Faulted, run}
use Rattle.rv_steps.specs.Lower.{CodeIn}
use Rattle.rv_steps.specs.MachineRun.{IsStep, Answer, Resumed, Ended, Outcome, ByService, Spent, MachineRun}

-- the RV32IM machine that has these registers, and 0 in all others, behind so many retired instructions
abbrev pub up : {W E : Type 0} → Image W E → ℕ → Config W → State
up im retired c = record {
  registers = registers_with
      ((register.ra, c.ra) ∷ (register.sp, c.sp) ∷ (register.t1, c.t1) ∷ (register.a0, c.a0) ∷ (register.a1, c.a1)
      ∷ (register.a7, c.a7) ∷ (register.s10, c.s10) ∷ (register.s11, c.s11) ∷ []);
  memory = c.mem;
  read_only = im.low;
  pc = c.pc;
  retired = retired;
}

-- one instruction more has retired
abbrev pub bump : ℕ → ℕ
bump retired = min (retired + 1) max_retired

-- The step of the RV32IM machine that goes where the upper machine went: it is one, it is the only one, the code still
-- stands in memory, and what the services keep is the same.
pub record Stepped {W E : Type 0} (im : Image W E) (n : ℕ) (c d : Config W) : Type 0 where
  pub is : IsStep (up im n c) Went (up im (bump n) d)
  pub only : (told : Step) (s : State) → IsStep (up im n c) told s → (told ≡ Went) × (s ≡ up im (bump n) d)
  pub code : CodeIn im d.mem
  pub world : d.world ≡ c.world

-- a step of an instruction other than ECALL
abbrev pub StepUp : Type 0 → Type 0 → Type 0
StepUp W E = (im : Image W E) (n : ℕ) (c d : Config W)
    → CodeIn im c.mem → im.fetch c.pc ≢ Some Ecall → step im c ≡ Go d → Stepped im n c d

-- At an ECALL the RV32IM machine calls its services, with the pc behind it.
pub record Called {W E : Type 0} (im : Image W E) (n : ℕ) (c : Config W) : Type 0 where
  pub is : IsStep (up im n c) Call (up im (bump n) (next c))
  pub only : (told : Step) (s : State) → IsStep (up im n c) told s → (told ≡ Call) × (s ≡ up im (bump n) (next c))

abbrev pub CallUp : Type 0 → Type 0 → Type 0
CallUp W E = (im : Image W E) (n : ℕ) (c : Config W) → CodeIn im c.mem → im.fetch c.pc ≡ Some Ecall → Called im n c

-- The services of the image do what these services of the RV32IM machine do, and leave the code where it stands.
pub record Mirrors {W E : Type 0} (im : Image W E) (answer : State → W → Answer W E) : Type 0 where
  pub resumes : (n : ℕ) (c d : Config W) → CodeIn im c.mem → im.serve c ≡ Resumes d
      → (answer (up im n c) c.world ≡ Resumed (up im n d) d.world) × CodeIn im d.mem
  pub ends : (n : ℕ) (c : Config W) (e : E) (w : W) → CodeIn im c.mem → im.serve c ≡ Ends e w
      → answer (up im n c) c.world ≡ Ended e w

-- what an ending of the machine with named registers says of the other's outcome
abbrev pub Agrees : {W E : Type 0} → Image W E → ℕ → Ending W E → Outcome W E → Type 0
Agrees im spent (Over e w k) o = (o.cause ≡ ByService e) × (o.world ≡ w) × (o.state.retired ≡ k)
Agrees im spent (Runaway d) o = o ≡ record { cause = Spent; state = up im spent d; world = d.world }
Agrees im spent Faulted o = Unit {0}

-- A run that may take `limit` instructions more, behind n of them, comes to the same end on both machines.
abbrev pub RunUp : Type 0 → Type 0 → Type 0
RunUp W E = (im : Image W E) (answer : State → W → Answer W E) (limit n : ℕ) (c : Config W) (o : Outcome W E)
    → CodeIn im c.mem → Mirrors im answer → n + limit ≤ max_retired → MachineRun answer limit (up im n c) c.world o
    → Agrees im (n + limit) (run im limit n c) o

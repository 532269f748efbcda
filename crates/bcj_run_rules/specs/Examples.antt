-- Services that compute, on a machine with no classes.
use Rattle.std.specs.Prelude.{◌≡◌, refl, ℕ, ◌-◌, ◌^◌, List, [], ◌∷◌, codes}
use Rattle.std.specs.Fmt.{digits}
use Rattle.rv_isa.specs.Registers.{a0, a7, s11}
use Rattle.rv_machine.specs.Machine.{State, registers_with, with_register}
use Rattle.rv_steps.specs.MachineRun.{Resumed, Ended, Refused}
use Rattle.rv_steps.specs.Services as services
use Rattle.bcj_run_rules.specs.World.{Program, World, done, turns_spent, depth_spent}
use Rattle.bcj_run_rules.specs.Services.{Answered, serve}

abbrev pub nothing : Program
nothing = record { classes = []; main = codes "Main"; heap = 1 }

-- behind an ECALL, with these registers
abbrev pub called : List (ℕ × ℕ) → State
called registers = record { registers = registers_with registers; memory = []; read_only = 0; pc = 20; retired = 1 }

abbrev pub with_reserve : ℕ → World
with_reserve n = record { states = []; allocated = 0; reserve = n; output = []; resolved = 0; thrown = [] }

abbrev pub says : List ℕ → World
says text = record { states = []; allocated = 0; reserve = 0; output = text; resolved = 0; thrown = [] }

-- a service with a number in a0, where no turn is held back
abbrev pub answer_to : ℕ → ℕ → Answered
answer_to number n = serve nothing (called ((a7, number) ∷ (a0, n) ∷ [])) (with_reserve 0)

abbrev pub prints : ℕ → ℕ → List ℕ → Type 0
prints number n text = answer_to number n ≡ Resumed (called ((a7, number) ∷ (a0, n) ∷ [])) (says text)

pub negative_row : prints services.print_int (2 ^ 32 - 7) (codes "-7")
unfolding serve digits
negative_row = refl

pub least_row : prints services.print_int (2 ^ 31) (codes "-2147483648")
unfolding serve digits
least_row = refl

pub true_row : prints services.print_boolean 2 (codes "true")
unfolding serve
true_row = refl

pub false_row : prints services.print_boolean 0 (codes "false")
unfolding serve
false_row = refl

pub line_end_row : prints services.print_line_end 5 (10 ∷ [])
unfolding serve
line_end_row = refl

pub byte_row : prints services.print_byte 321 (codes "A")
unfolding serve
byte_row = refl

pub exit_row : answer_to services.exit 0 ≡ Ended done (with_reserve 0)
unfolding serve
exit_row = refl

pub depth_row : answer_to services.stop 1 ≡ Ended depth_spent (with_reserve 0)
unfolding serve
depth_row = refl

pub turns_row : answer_to services.refill 0 ≡ Ended turns_spent (with_reserve 0)
unfolding serve
turns_row = refl

-- stopping with 0 asks for turns
pub stop_row : answer_to services.stop 0 ≡ Ended turns_spent (with_reserve 0)
unfolding serve
stop_row = refl

pub no_stop_row : answer_to services.stop 2 ≡ Refused
unfolding serve
no_stop_row = refl

pub no_service_row : answer_to 9 0 ≡ Refused
unfolding serve
no_service_row = refl

-- as many turns as are taken at once
pub refilled_row : serve nothing (called ((a7, services.refill) ∷ [])) (with_reserve 1048579)
    ≡ Resumed (with_register (called ((a7, services.refill) ∷ [])) s11 1048576) (with_reserve 3)
unfolding serve
refilled_row = refl

-- turns are left
pub unspent_row : serve nothing (called ((a7, services.refill) ∷ (s11, 1) ∷ [])) (with_reserve 3) ≡ Refused
unfolding serve
unspent_row = refl

-- The run of a program's code on the machine with named registers.
use Rattle.std.specs.Prelude.{ℕ, ◌+◌, ◌-◌, ◌*◌, ◌==◌, ℤ, pos, negsuc, List, [], ◌∷◌, ◌++◌, length, if◌then◌else◌}
use Rattle.std.specs.Int.{w32, cast_signed}
use Rattle.std.specs.Fmt.{signed_decimal}
use Rattle.rv_isa.specs.declared.instruction.Instr.{Instr}
use Rattle.rv_isa.specs.declared.instruction.Instr.TheVariants as instr
use Rattle.bcj_cli_language.specs.Meaning.{line_end}
use Rattle.rv_isa.specs.Registers.{sp, a0, a1, a7, s11}
use Rattle.rv_isa.specs.Words.{instruction_size}
use Rattle.rv_steps.specs.Services as services
use Rattle.rv_steps.specs.Machine.{Reg, X0, Ra, Sp, T1, A0, A1, A7, S10, S11, Op, Config, Served, Resumes, Ends, Fails, Image}
use Rattle.rv_steps.specs.Machine as op
pub use Rattle.bcj_cli_code.specs.declared.ending.Ending.{Ending}
pub use Rattle.bcj_cli_code.specs.declared.ending.Ending.TheVariants.{Done, TurnsSpent}

-- the services of `answer`, on the machine with named registers
abbrev pub serve : Config (List ℕ) → Served (List ℕ) Ending
serve c =
    if c.a7 == services.print_int then Resumes (record c { world = c.world ++ signed_decimal (cast_signed w32 c.a0) })
    else if c.a7 == services.print_line_end then Resumes (record c { world = c.world ++ line_end })
    else if c.a7 == services.stop then Ends TurnsSpent c.world
    else if c.a7 == services.exit then Ends Done c.world
    else Fails

-- the registers that the code uses
abbrev pub reg : ℕ → Reg
reg n =
    if n == sp then Sp else if n == a0 then A0 else if n == a1 then A1 else if n == a7 then A7 else if n == s11 then S11 else X0

-- where a jump at p leads
abbrev pub target : ℕ → ℤ → ℕ
target p (pos n) = p + n
target p (negsuc n) = p - (n + 1)

abbrev pub upper_immediate : ℤ → ℕ
upper_immediate (pos n) = n
upper_immediate (negsuc n) = 0

-- an instruction at p, with names for registers and addresses for targets; of those that the code has
abbrev pub named : ℕ → Instr → Op
named p (instr.Lui rd n) = op.Lui (reg rd) (upper_immediate n)
named p (instr.Addi rd rs n) = op.Addi (reg rd) (reg rs) n
named p (instr.Xori rd rs n) = op.Xori (reg rd) (reg rs) n
named p (instr.Sltiu rd rs n) = op.Sltiu (reg rd) (reg rs) n
named p (instr.Add rd r s) = op.Add (reg rd) (reg r) (reg s)
named p (instr.Sub rd r s) = op.Sub (reg rd) (reg r) (reg s)
named p (instr.Mul rd r s) = op.Mul (reg rd) (reg r) (reg s)
named p (instr.Slt rd r s) = op.Slt (reg rd) (reg r) (reg s)
named p (instr.Sltu rd r s) = op.Sltu (reg rd) (reg r) (reg s)
named p (instr.Lw rd base n) = op.Lw (reg rd) (reg base) n
named p (instr.Sw base rs n) = op.Sw (reg rs) (reg base) n
named p (instr.Bne r s n) = op.Bne (reg r) (reg s) (target p n)
named p (instr.Jal rd n) = op.Jal (reg rd) (target p n)
named p _ = op.Ecall

-- instructions from p on
abbrev pub all_named : ℕ → List Instr → List Op
all_named p [] = []
all_named p (i ∷ is) = named p i ∷ all_named (p + instruction_size) is

-- code from address 0, with its end as the read-only end
abbrev pub image : List Instr → Image (List ℕ) Ending
image code = record { fetch = op.place 0 (all_named 0 code); low = instruction_size * length code; serve = serve }

-- the frame lies behind the code
abbrev pub start : List Instr → List ℕ → ℕ → Config (List ℕ)
start code mem turns = record { pc = 0; ra = 0; sp = instruction_size * length code; t1 = 0; a0 = 0; a1 = 0; a7 = 0; s10 = 0; s11 = turns; mem = mem; world = [] }

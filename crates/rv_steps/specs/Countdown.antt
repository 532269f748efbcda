-- A small program: it stores 5, counts down to 4, loads the 5 again, branches since they differ, prints the 4 and ends.
use Rattle.std.specs.Prelude.{◌≡◌, ℕ, ◌==◌, pos, negsuc, if◌then◌else◌, List, [], ◌∷◌, ◌++◌, replicate, flat_map}
use Rattle.byteorder.specs.Endian.{little_bytes}
use Rattle.rv_isa.specs.Registers.{register_count, a0, a7}
use Rattle.rv_machine.specs.Machine.{State, register, word_size}
use Rattle.rv_steps.specs.Services as service
use Rattle.rv_steps.specs.Machine.{X0, Sp, A0, A1, A7, Op, Addi, Lw, Sw, Bne, Ecall, Config, Served, Resumes, Ends, Fails, Image, place, Over, run}
use Rattle.rv_steps.specs.MachineRun.{Answer, Resumed, Ended, Refused, ByService, Outcome, MachineRun}

abbrev pub program : List Op
program =
    Addi A0 X0 (pos 5) ∷ Addi Sp X0 (pos 64) ∷ Sw A0 Sp (pos 0) ∷ Addi A0 A0 (negsuc 0) ∷ Lw A1 Sp (pos 0)
    ∷ Bne A0 A1 44 ∷ Addi A0 X0 (pos 0) ∷ Addi A7 X0 (pos service.print_int) ∷ Ecall ∷ Addi A7 X0 (pos service.exit) ∷ Ecall ∷ []

-- its words, as an assembler writes them
abbrev pub words : List ℕ
words =
    0x00500513 ∷ 0x04000113 ∷ 0x00A12023 ∷ 0xFFF50513 ∷ 0x00012583
    ∷ 0x00B51463 ∷ 0x00000513 ∷ 0x00B00893 ∷ 0x00000073 ∷ 0x00F00893 ∷ 0x00000073 ∷ []

-- where the words stand
abbrev pub code_start : ℕ
code_start = 16

abbrev pub code_end : ℕ
code_end = 60

-- there are two words behind them
abbrev pub memory : List ℕ
memory = replicate code_start 0 ++ (flat_map (λ w. little_bytes word_size w) words ++ replicate 8 0)

-- one service prints a0, and one ends the run
abbrev pub serve : Config (List ℕ) → Served (List ℕ) ℕ
serve c =
    if c.a7 == service.print_int then Resumes (record c { world = c.world ++ c.a0 ∷ [] }) else if c.a7 == service.exit then Ends c.a7 c.world else Fails

abbrev pub image : Image (List ℕ) ℕ
image = record { fetch = place code_start program; low = code_end; serve = serve }

abbrev pub start : Config (List ℕ)
start = record { pc = code_start; ra = 0; sp = 0; t1 = 0; a0 = 0; a1 = 0; a7 = 0; s10 = 0; s11 = 0; mem = memory; world = [] }

-- how many instructions it may take
abbrev pub limit : ℕ
limit = 100

-- ten instructions retire: one is branched over
abbrev pub Row : Type 0
Row = run image limit 0 start ≡ Over service.exit (4 ∷ []) 10

-- the same services for the RV32IM machine
abbrev pub answer : State → List ℕ → Answer (List ℕ) ℕ
answer s out =
    if register s a7 == service.print_int then Resumed s (out ++ register s a0 ∷ []) else if register s a7 == service.exit then Ended (register s a7) out else Refused

-- the RV32IM machine with this memory, as it is made
abbrev pub made : State
made = record { registers = replicate register_count 0; memory = memory; read_only = code_end; pc = code_start; retired = 0 }

-- it does the same
abbrev pub RowBelow : Type 0
RowBelow =
    (o : Outcome (List ℕ) ℕ) × MachineRun answer limit made [] o × (o.cause ≡ ByService service.exit) × (o.world ≡ 4 ∷ []) × (o.state.retired ≡ 10)

-- When a conditional branch is taken: RISC-V Instruction Set Manual, volume I, "Conditional Branches".
use Rattle.std.specs.Prelude.{ℕ, ◌==◌, nat_lt, int_lt, Bool, false, not}
use Rattle.std.specs.Int.{w32, cast_signed}
use Rattle.rv_isa.specs.declared.instruction.Instr.{Instr}
use Rattle.rv_isa.specs.declared.instruction.Instr.TheVariants.{Beq, Bne, Blt, Bge, Bltu, Bgeu}

-- whether a number of 32 bits is below another one, both in two's complement
abbrev pub is_below : ℕ → ℕ → Bool
is_below a b = int_lt (cast_signed w32 a) (cast_signed w32 b)

-- whether a branch is taken at the values a of rs1 and b of rs2
abbrev pub is_taken : Instr → ℕ → ℕ → Bool
is_taken (Beq rs1 rs2 imm) a b = a == b
is_taken (Bne rs1 rs2 imm) a b = not (a == b)
is_taken (Blt rs1 rs2 imm) a b = is_below a b
is_taken (Bge rs1 rs2 imm) a b = not (is_below a b)
is_taken (Bltu rs1 rs2 imm) a b = nat_lt a b
is_taken (Bgeu rs1 rs2 imm) a b = not (nat_lt a b)
is_taken _ a b = false

-- The field funct7 of the opcodes OP and OP-IMM: RISC-V Instruction Set Manual, volume I, "RV32/64G Instruction Set
-- Listings".
use Rattle.std.specs.Prelude.{ℕ}

-- each instruction but those below
abbrev pub base : ℕ
base = 0

-- SUB, SRA and SRAI
abbrev pub alternate : ℕ
alternate = 0x20

-- the M extension
abbrev pub muldiv : ℕ
muldiv = 1

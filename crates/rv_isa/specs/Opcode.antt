-- The opcodes of RV32I: RISC-V Instruction Set Manual, volume I, "RISC-V base opcode map".
use Rattle.std.specs.Prelude.{ℕ}

abbrev pub load : ℕ
load = 0x03

abbrev pub misc_mem : ℕ
misc_mem = 0x0F

abbrev pub op_imm : ℕ
op_imm = 0x13

abbrev pub auipc : ℕ
auipc = 0x17

abbrev pub store : ℕ
store = 0x23

abbrev pub op : ℕ
op = 0x33

abbrev pub lui : ℕ
lui = 0x37

abbrev pub branch : ℕ
branch = 0x63

abbrev pub jalr : ℕ
jalr = 0x67

abbrev pub jal : ℕ
jal = 0x6F

abbrev pub system : ℕ
system = 0x73

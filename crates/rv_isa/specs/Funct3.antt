-- The field funct3 by the instruction that it tells from others of its opcode: RISC-V Instruction Set Manual, volume I,
-- "RV32/64G Instruction Set Listings".
use Rattle.std.specs.Prelude.{ℕ}

-- opcode JALR
abbrev pub jalr : ℕ
jalr = 0

-- opcode BRANCH
abbrev pub beq : ℕ
beq = 0

abbrev pub bne : ℕ
bne = 1

abbrev pub blt : ℕ
blt = 4

abbrev pub bge : ℕ
bge = 5

abbrev pub bltu : ℕ
bltu = 6

abbrev pub bgeu : ℕ
bgeu = 7

-- opcode LOAD
abbrev pub lb : ℕ
lb = 0

abbrev pub lh : ℕ
lh = 1

abbrev pub lw : ℕ
lw = 2

abbrev pub lbu : ℕ
lbu = 4

abbrev pub lhu : ℕ
lhu = 5

-- opcode STORE
abbrev pub sb : ℕ
sb = 0

abbrev pub sh : ℕ
sh = 1

abbrev pub sw : ℕ
sw = 2

-- opcodes OP-IMM and OP: ADD, SUB and ADDI; SLL and SLLI; SLT and SLTI; SLTU and SLTIU; XOR and XORI; SRL, SRA, SRLI and
-- SRAI; OR and ORI; AND and ANDI
abbrev pub add : ℕ
add = 0

abbrev pub sll : ℕ
sll = 1

abbrev pub slt : ℕ
slt = 2

abbrev pub sltu : ℕ
sltu = 3

abbrev pub xor : ℕ
xor = 4

abbrev pub srl : ℕ
srl = 5

abbrev pub or : ℕ
or = 6

abbrev pub and : ℕ
and = 7

-- opcode OP with the funct7 of the M extension
abbrev pub mul : ℕ
mul = 0

abbrev pub mulh : ℕ
mulh = 1

abbrev pub mulhsu : ℕ
mulhsu = 2

abbrev pub mulhu : ℕ
mulhu = 3

abbrev pub div : ℕ
div = 4

abbrev pub divu : ℕ
divu = 5

abbrev pub rem : ℕ
rem = 6

abbrev pub remu : ℕ
remu = 7

-- opcode MISC-MEM
abbrev pub fence : ℕ
fence = 0

-- opcode SYSTEM: ECALL and EBREAK
abbrev pub priv : ℕ
priv = 0

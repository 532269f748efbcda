-- `decode` as a function: the tables of `Words` read from the fields to the instruction. The clauses of `decode` speak of
-- `Spells` alone.
use Rattle.std.specs.Prelude.{◌≡◌, ◌+◌, ◌*◌, ◌/◌, ◌%◌, ◌^◌, ◌==◌, ◌&&◌, if◌then◌else◌, Option, Some, None, ℤ, pos}
use Rattle.rv_isa.specs.Registers as register
use Rattle.rv_isa.specs.Opcode as opcode
use Rattle.rv_isa.specs.Funct3 as funct3
use Rattle.rv_isa.specs.Funct7 as funct7
use Rattle.rv_isa.specs.Funct12 as funct12
use Rattle.rv_isa.specs.declared.fields.Fields.{Fields}
use Rattle.rv_isa.specs.declared.instruction.Instr.{Instr}
use Rattle.rv_isa.specs.declared.instruction.Instr.TheVariants.{
  Lui,
  Auipc,
  Jal,
  Jalr,
  Beq,
  Bne,
  Blt,
  Bge,
  Bltu,
  Bgeu,
  Lb,
  Lh,
  Lw,
  Lbu,
  Lhu,
  Sb,
  Sh,
  Sw,
  Addi,
  Slti,
  Sltiu,
  Xori,
  Ori,
  Andi,
  Slli,
  Srli,
  Srai,
  Add,
  Sub,
  Sll,
  Slt,
  Sltu,
  Xor,
  Srl,
  Sra,
  Or,
  And,
  Mul,
  Mulh,
  Mulhsu,
  Mulhu,
  Div,
  Divu,
  Rem,
  Remu,
  Fence,
  Ecall,
  Ebreak,
}
use Rattle.rv_isa.specs.Words.{signed, fields_of, InRange, immediate_bits, branch_bits, jump_bits}

-- an instruction that has these fields
pub record Has (f : Fields) (i : Instr) : Type 0 where
  pub in_range : InRange i
  pub fields : f ≡ fields_of i

-- the immediates of the I, S, B, U and J formats
abbrev pub immediate_of : Fields → ℤ
immediate_of f = signed immediate_bits (f.rs2 + 2 ^ 5 * f.funct7)

abbrev pub store_immediate_of : Fields → ℤ
store_immediate_of f = signed immediate_bits (f.rd + 2 ^ 5 * f.funct7)

abbrev pub branch_immediate_of : Fields → ℤ
branch_immediate_of f = signed branch_bits
    (f.rd / 2 * 2 + 2 ^ 5 * (f.funct7 % 2 ^ 6) + 2 ^ 11 * (f.rd % 2) + 2 ^ 12 * (f.funct7 / 2 ^ 6))

abbrev pub upper_immediate_of : Fields → ℤ
upper_immediate_of f = pos (f.funct3 + 2 ^ 3 * f.rs1 + 2 ^ 8 * f.rs2 + 2 ^ 13 * f.funct7)

abbrev pub jump_immediate_of : Fields → ℤ
jump_immediate_of f = signed jump_bits
    (f.rs2 / 2 * 2 + 2 ^ 5 * (f.funct7 % 2 ^ 6) + 2 ^ 11 * (f.rs2 % 2) + 2 ^ 12 * f.funct3 + 2 ^ 15 * f.rs1
    + 2 ^ 20 * (f.funct7 / 2 ^ 6))

-- opcode JALR
unfoldable pub jump_register_of : Fields → Option Instr
jump_register_of f = if f.funct3 == funct3.jalr then Some (Jalr f.rd f.rs1 (immediate_of f)) else None

-- opcode BRANCH
unfoldable pub branch_of : Fields → Option Instr
branch_of f =
    if f.funct3 == funct3.beq then Some (Beq f.rs1 f.rs2 (branch_immediate_of f))
    else if f.funct3 == funct3.bne then Some (Bne f.rs1 f.rs2 (branch_immediate_of f))
    else if f.funct3 == funct3.blt then Some (Blt f.rs1 f.rs2 (branch_immediate_of f))
    else if f.funct3 == funct3.bge then Some (Bge f.rs1 f.rs2 (branch_immediate_of f))
    else if f.funct3 == funct3.bltu then Some (Bltu f.rs1 f.rs2 (branch_immediate_of f))
    else if f.funct3 == funct3.bgeu then Some (Bgeu f.rs1 f.rs2 (branch_immediate_of f))
    else None

-- opcode LOAD
unfoldable pub load_of : Fields → Option Instr
load_of f =
    if f.funct3 == funct3.lb then Some (Lb f.rd f.rs1 (immediate_of f))
    else if f.funct3 == funct3.lh then Some (Lh f.rd f.rs1 (immediate_of f))
    else if f.funct3 == funct3.lw then Some (Lw f.rd f.rs1 (immediate_of f))
    else if f.funct3 == funct3.lbu then Some (Lbu f.rd f.rs1 (immediate_of f))
    else if f.funct3 == funct3.lhu then Some (Lhu f.rd f.rs1 (immediate_of f))
    else None

-- opcode STORE
unfoldable pub store_of : Fields → Option Instr
store_of f =
    if f.funct3 == funct3.sb then Some (Sb f.rs1 f.rs2 (store_immediate_of f))
    else if f.funct3 == funct3.sh then Some (Sh f.rs1 f.rs2 (store_immediate_of f))
    else if f.funct3 == funct3.sw then Some (Sw f.rs1 f.rs2 (store_immediate_of f))
    else None

-- opcode OP-IMM: the shifts
unfoldable pub shift_of : Fields → Option Instr
shift_of f =
    if f.funct3 == funct3.sll then (if f.funct7 == funct7.base then Some (Slli f.rd f.rs1 (pos f.rs2)) else None)
    else if f.funct7 == funct7.base then Some (Srli f.rd f.rs1 (pos f.rs2))
    else if f.funct7 == funct7.alternate then Some (Srai f.rd f.rs1 (pos f.rs2))
    else None

-- opcode OP-IMM
unfoldable pub operation_immediate_of : Fields → Option Instr
operation_immediate_of f =
    if f.funct3 == funct3.add then Some (Addi f.rd f.rs1 (immediate_of f))
    else if f.funct3 == funct3.slt then Some (Slti f.rd f.rs1 (immediate_of f))
    else if f.funct3 == funct3.sltu then Some (Sltiu f.rd f.rs1 (immediate_of f))
    else if f.funct3 == funct3.xor then Some (Xori f.rd f.rs1 (immediate_of f))
    else if f.funct3 == funct3.or then Some (Ori f.rd f.rs1 (immediate_of f))
    else if f.funct3 == funct3.and then Some (Andi f.rd f.rs1 (immediate_of f))
    else shift_of f

-- opcode OP: the operations of RV32I but SUB and SRA
unfoldable pub base_operation_of : Fields → Option Instr
base_operation_of f =
    if f.funct3 == funct3.add then Some (Add f.rd f.rs1 f.rs2)
    else if f.funct3 == funct3.sll then Some (Sll f.rd f.rs1 f.rs2)
    else if f.funct3 == funct3.slt then Some (Slt f.rd f.rs1 f.rs2)
    else if f.funct3 == funct3.sltu then Some (Sltu f.rd f.rs1 f.rs2)
    else if f.funct3 == funct3.xor then Some (Xor f.rd f.rs1 f.rs2)
    else if f.funct3 == funct3.srl then Some (Srl f.rd f.rs1 f.rs2)
    else if f.funct3 == funct3.or then Some (Or f.rd f.rs1 f.rs2)
    else Some (And f.rd f.rs1 f.rs2)

-- opcode OP: SUB and SRA
unfoldable pub other_operation_of : Fields → Option Instr
other_operation_of f =
    if f.funct3 == funct3.add then Some (Sub f.rd f.rs1 f.rs2)
    else if f.funct3 == funct3.srl then Some (Sra f.rd f.rs1 f.rs2)
    else None

-- opcode OP: the M extension
unfoldable pub multiplication_of : Fields → Option Instr
multiplication_of f =
    if f.funct3 == funct3.mul then Some (Mul f.rd f.rs1 f.rs2)
    else if f.funct3 == funct3.mulh then Some (Mulh f.rd f.rs1 f.rs2)
    else if f.funct3 == funct3.mulhsu then Some (Mulhsu f.rd f.rs1 f.rs2)
    else if f.funct3 == funct3.mulhu then Some (Mulhu f.rd f.rs1 f.rs2)
    else if f.funct3 == funct3.div then Some (Div f.rd f.rs1 f.rs2)
    else if f.funct3 == funct3.divu then Some (Divu f.rd f.rs1 f.rs2)
    else if f.funct3 == funct3.rem then Some (Rem f.rd f.rs1 f.rs2)
    else Some (Remu f.rd f.rs1 f.rs2)

-- opcode OP
unfoldable pub operation_of : Fields → Option Instr
operation_of f =
    if f.funct7 == funct7.base then base_operation_of f
    else if f.funct7 == funct7.alternate then other_operation_of f
    else if f.funct7 == funct7.muldiv then multiplication_of f
    else None

-- opcode MISC-MEM
unfoldable pub fence_of : Fields → Option Instr
fence_of f = if f.funct3 == funct3.fence then Some (Fence f.rd f.rs1 (immediate_of f)) else None

-- opcode SYSTEM
unfoldable pub system_of : Fields → Option Instr
system_of f =
    if f.funct3 == funct3.priv && f.rd == register.zero && f.rs1 == register.zero then
    (if f.rs2 + 2 ^ 5 * f.funct7 == funct12.ecall then Some Ecall
    else if f.rs2 + 2 ^ 5 * f.funct7 == funct12.ebreak then Some Ebreak
    else None)
    else None

unfoldable pub instr_of : Fields → Option Instr
instr_of f =
    if f.opcode == opcode.lui then Some (Lui f.rd (upper_immediate_of f))
    else if f.opcode == opcode.auipc then Some (Auipc f.rd (upper_immediate_of f))
    else if f.opcode == opcode.jal then Some (Jal f.rd (jump_immediate_of f))
    else if f.opcode == opcode.jalr then jump_register_of f
    else if f.opcode == opcode.branch then branch_of f
    else if f.opcode == opcode.load then load_of f
    else if f.opcode == opcode.store then store_of f
    else if f.opcode == opcode.op_imm then operation_immediate_of f
    else if f.opcode == opcode.op then operation_of f
    else if f.opcode == opcode.misc_mem then fence_of f
    else if f.opcode == opcode.system then system_of f
    else None

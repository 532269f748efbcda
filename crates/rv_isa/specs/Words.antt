-- The words of RV32I and of the M extension: RISC-V Instruction Set Manual, volume I, chapters "RV32I", "M" and
-- "RV32/64G Instruction Set Listings".
use Rattle.std.specs.Prelude.{◌≡◌, ℕ, ◌+◌, ◌-◌, ◌*◌, ◌/◌, ◌%◌, ◌^◌, ◌<◌, nat_lt, if◌then◌else◌, ℤ, pos, negsuc}
use Rattle.rv_isa.specs.Registers.{IsRegister}
use Rattle.rv_isa.specs.Registers as register
use Rattle.rv_isa.specs.Opcode as opcode
use Rattle.rv_isa.specs.Funct3 as funct3
use Rattle.rv_isa.specs.Funct7 as funct7
use Rattle.rv_isa.specs.Funct12 as funct12
use Rattle.rv_isa.specs.declared.fields.Fields.{Fields}
use Rattle.rv_isa.specs.declared.instruction.Instr.{Instr}
use Rattle.rv_isa.specs.declared.instruction.Instr.TheVariants.{
  Lui,
  Auipc,
  Jal,
  Jalr,
  Beq,
  Bne,
  Blt,
  Bge,
  Bltu,
  Bgeu,
  Lb,
  Lh,
  Lw,
  Lbu,
  Lhu,
  Sb,
  Sh,
  Sw,
  Addi,
  Slti,
  Sltiu,
  Xori,
  Ori,
  Andi,
  Slli,
  Srli,
  Srai,
  Add,
  Sub,
  Sll,
  Slt,
  Sltu,
  Xor,
  Srl,
  Sra,
  Or,
  And,
  Mul,
  Mulh,
  Mulhsu,
  Mulhu,
  Div,
  Divu,
  Rem,
  Remu,
  Fence,
  Ecall,
  Ebreak,
}

-- the word that has these fields: opcode from bit 0, rd from 7, funct3 from 12, rs1 from 15, rs2 from 20, funct7 from 25
abbrev pub word_of : Fields → ℕ
word_of f = f.opcode + 2 ^ 7 * f.rd + 2 ^ 12 * f.funct3 + 2 ^ 15 * f.rs1 + 2 ^ 20 * f.rs2 + 2 ^ 25 * f.funct7

-- each field fits its bits
pub record InBits (f : Fields) : Type 0 where
  pub opcode : f.opcode < 2 ^ 7
  pub rd : f.rd < 2 ^ 5
  pub funct3 : f.funct3 < 2 ^ 3
  pub rs1 : f.rs1 < 2 ^ 5
  pub rs2 : f.rs2 < 2 ^ 5
  pub funct7 : f.funct7 < 2 ^ 7

-- the k bits of a number in two's complement, as a number from 0
abbrev pub bits : ℕ → ℤ → ℕ
bits k (pos n) = n
bits k (negsuc n) = 2 ^ k - 1 - n

-- the number that has these k bits
abbrev pub signed : ℕ → ℕ → ℤ
signed k n = if nat_lt n (2 ^ (k - 1)) then pos n else negsuc (2 ^ k - 1 - n)

-- a number from -(2 ^ (k - 1)) to 2 ^ (k - 1) - 1
abbrev pub HasBits : ℕ → ℤ → Type 0
HasBits k (pos n) = n < 2 ^ (k - 1)
HasBits k (negsuc n) = n < 2 ^ (k - 1)

-- a number from 0 to 2 ^ k - 1
abbrev pub HasUnsignedBits : ℕ → ℤ → Type 0
HasUnsignedBits k (pos n) = n < 2 ^ k
HasUnsignedBits k (negsuc n) = ⊥

abbrev pub IsEven : ℤ → Type 0
IsEven (pos n) = n % 2 ≡ 0
IsEven (negsuc n) = n % 2 ≡ 1

-- the bytes of a word
abbrev pub instruction_size : ℕ
instruction_size = 4

-- how many bits the immediate of a format has: I and S, B, J (the lowest bit of these two is 0 and has no place), U, and the
-- amount of a shift
abbrev pub immediate_bits : ℕ
immediate_bits = 12

abbrev pub branch_bits : ℕ
branch_bits = 13

abbrev pub jump_bits : ℕ
jump_bits = 21

abbrev pub upper_bits : ℕ
upper_bits = 20

abbrev pub amount_bits : ℕ
amount_bits = 5

-- the R format
abbrev pub register_form : (opcode funct3 funct7 rd rs1 rs2 : ℕ) → Fields
register_form opcode funct3 funct7 rd rs1 rs2 =
    record { opcode = opcode; rd = rd; funct3 = funct3; rs1 = rs1; rs2 = rs2; funct7 = funct7 }

-- the I format: the 12 bits of the immediate stand in bits 31 to 20
abbrev pub immediate_form : (opcode funct3 rd rs1 immediate : ℕ) → Fields
immediate_form opcode funct3 rd rs1 immediate =
    record { opcode = opcode; rd = rd; funct3 = funct3; rs1 = rs1; rs2 = immediate % 2 ^ 5; funct7 = immediate / 2 ^ 5 }

-- the S format: bits 11 to 5 of the immediate stand in 31 to 25, and bits 4 to 0 in 11 to 7
abbrev pub store_form : (opcode funct3 rs1 rs2 immediate : ℕ) → Fields
store_form opcode funct3 rs1 rs2 immediate =
    record { opcode = opcode; rd = immediate % 2 ^ 5; funct3 = funct3; rs1 = rs1; rs2 = rs2; funct7 = immediate / 2 ^ 5 }

-- the B format: bits 12 and 10 to 5 of the immediate stand in 31 to 25, and bits 4 to 1 and 11 in 11 to 7
abbrev pub branch_form : (opcode funct3 rs1 rs2 immediate : ℕ) → Fields
branch_form opcode funct3 rs1 rs2 immediate = record {
  opcode = opcode;
  rd = immediate / 2 % 2 ^ 4 * 2 + immediate / 2 ^ 11 % 2;
  funct3 = funct3;
  rs1 = rs1;
  rs2 = rs2;
  funct7 = immediate / 2 ^ 12 * 2 ^ 6 + immediate / 2 ^ 5 % 2 ^ 6;
}

-- the U format: the 20 bits of the immediate stand in bits 31 to 12
abbrev pub upper_form : (opcode rd immediate : ℕ) → Fields
upper_form opcode rd immediate = record {
  opcode = opcode;
  rd = rd;
  funct3 = immediate % 2 ^ 3;
  rs1 = immediate / 2 ^ 3 % 2 ^ 5;
  rs2 = immediate / 2 ^ 8 % 2 ^ 5;
  funct7 = immediate / 2 ^ 13;
}

-- the J format: bits 20, 10 to 1, 11 and 19 to 12 of the immediate stand in this order in bits 31 to 12
abbrev pub jump_form : (opcode rd immediate : ℕ) → Fields
jump_form opcode rd immediate = record {
  opcode = opcode;
  rd = rd;
  funct3 = immediate / 2 ^ 12 % 2 ^ 3;
  rs1 = immediate / 2 ^ 15 % 2 ^ 5;
  rs2 = immediate / 2 % 2 ^ 4 * 2 + immediate / 2 ^ 11 % 2;
  funct7 = immediate / 2 ^ 20 * 2 ^ 6 + immediate / 2 ^ 5 % 2 ^ 6;
}

-- the table of the instructions: format, opcode, funct3, funct7 and operands of each
abbrev pub fields_of : Instr → Fields
fields_of (Lui rd imm) = upper_form opcode.lui rd (bits upper_bits imm)
fields_of (Auipc rd imm) = upper_form opcode.auipc rd (bits upper_bits imm)
fields_of (Jal rd imm) = jump_form opcode.jal rd (bits jump_bits imm)
fields_of (Jalr rd rs1 imm) = immediate_form opcode.jalr funct3.jalr rd rs1 (bits immediate_bits imm)
fields_of (Beq rs1 rs2 imm) = branch_form opcode.branch funct3.beq rs1 rs2 (bits branch_bits imm)
fields_of (Bne rs1 rs2 imm) = branch_form opcode.branch funct3.bne rs1 rs2 (bits branch_bits imm)
fields_of (Blt rs1 rs2 imm) = branch_form opcode.branch funct3.blt rs1 rs2 (bits branch_bits imm)
fields_of (Bge rs1 rs2 imm) = branch_form opcode.branch funct3.bge rs1 rs2 (bits branch_bits imm)
fields_of (Bltu rs1 rs2 imm) = branch_form opcode.branch funct3.bltu rs1 rs2 (bits branch_bits imm)
fields_of (Bgeu rs1 rs2 imm) = branch_form opcode.branch funct3.bgeu rs1 rs2 (bits branch_bits imm)
fields_of (Lb rd rs1 imm) = immediate_form opcode.load funct3.lb rd rs1 (bits immediate_bits imm)
fields_of (Lh rd rs1 imm) = immediate_form opcode.load funct3.lh rd rs1 (bits immediate_bits imm)
fields_of (Lw rd rs1 imm) = immediate_form opcode.load funct3.lw rd rs1 (bits immediate_bits imm)
fields_of (Lbu rd rs1 imm) = immediate_form opcode.load funct3.lbu rd rs1 (bits immediate_bits imm)
fields_of (Lhu rd rs1 imm) = immediate_form opcode.load funct3.lhu rd rs1 (bits immediate_bits imm)
fields_of (Sb rs1 rs2 imm) = store_form opcode.store funct3.sb rs1 rs2 (bits immediate_bits imm)
fields_of (Sh rs1 rs2 imm) = store_form opcode.store funct3.sh rs1 rs2 (bits immediate_bits imm)
fields_of (Sw rs1 rs2 imm) = store_form opcode.store funct3.sw rs1 rs2 (bits immediate_bits imm)
fields_of (Addi rd rs1 imm) = immediate_form opcode.op_imm funct3.add rd rs1 (bits immediate_bits imm)
fields_of (Slti rd rs1 imm) = immediate_form opcode.op_imm funct3.slt rd rs1 (bits immediate_bits imm)
fields_of (Sltiu rd rs1 imm) = immediate_form opcode.op_imm funct3.sltu rd rs1 (bits immediate_bits imm)
fields_of (Xori rd rs1 imm) = immediate_form opcode.op_imm funct3.xor rd rs1 (bits immediate_bits imm)
fields_of (Ori rd rs1 imm) = immediate_form opcode.op_imm funct3.or rd rs1 (bits immediate_bits imm)
fields_of (Andi rd rs1 imm) = immediate_form opcode.op_imm funct3.and rd rs1 (bits immediate_bits imm)
fields_of (Slli rd rs1 imm) = register_form opcode.op_imm funct3.sll funct7.base rd rs1 (bits amount_bits imm)
fields_of (Srli rd rs1 imm) = register_form opcode.op_imm funct3.srl funct7.base rd rs1 (bits amount_bits imm)
fields_of (Srai rd rs1 imm) = register_form opcode.op_imm funct3.srl funct7.alternate rd rs1 (bits amount_bits imm)
fields_of (Add rd rs1 rs2) = register_form opcode.op funct3.add funct7.base rd rs1 rs2
fields_of (Sub rd rs1 rs2) = register_form opcode.op funct3.add funct7.alternate rd rs1 rs2
fields_of (Sll rd rs1 rs2) = register_form opcode.op funct3.sll funct7.base rd rs1 rs2
fields_of (Slt rd rs1 rs2) = register_form opcode.op funct3.slt funct7.base rd rs1 rs2
fields_of (Sltu rd rs1 rs2) = register_form opcode.op funct3.sltu funct7.base rd rs1 rs2
fields_of (Xor rd rs1 rs2) = register_form opcode.op funct3.xor funct7.base rd rs1 rs2
fields_of (Srl rd rs1 rs2) = register_form opcode.op funct3.srl funct7.base rd rs1 rs2
fields_of (Sra rd rs1 rs2) = register_form opcode.op funct3.srl funct7.alternate rd rs1 rs2
fields_of (Or rd rs1 rs2) = register_form opcode.op funct3.or funct7.base rd rs1 rs2
fields_of (And rd rs1 rs2) = register_form opcode.op funct3.and funct7.base rd rs1 rs2
fields_of (Mul rd rs1 rs2) = register_form opcode.op funct3.mul funct7.muldiv rd rs1 rs2
fields_of (Mulh rd rs1 rs2) = register_form opcode.op funct3.mulh funct7.muldiv rd rs1 rs2
fields_of (Mulhsu rd rs1 rs2) = register_form opcode.op funct3.mulhsu funct7.muldiv rd rs1 rs2
fields_of (Mulhu rd rs1 rs2) = register_form opcode.op funct3.mulhu funct7.muldiv rd rs1 rs2
fields_of (Div rd rs1 rs2) = register_form opcode.op funct3.div funct7.muldiv rd rs1 rs2
fields_of (Divu rd rs1 rs2) = register_form opcode.op funct3.divu funct7.muldiv rd rs1 rs2
fields_of (Rem rd rs1 rs2) = register_form opcode.op funct3.rem funct7.muldiv rd rs1 rs2
fields_of (Remu rd rs1 rs2) = register_form opcode.op funct3.remu funct7.muldiv rd rs1 rs2
fields_of (Fence rd rs1 imm) = immediate_form opcode.misc_mem funct3.fence rd rs1 (bits immediate_bits imm)
fields_of Ecall = immediate_form opcode.system funct3.priv register.zero register.zero funct12.ecall
fields_of Ebreak = immediate_form opcode.system funct3.priv register.zero register.zero funct12.ebreak

-- registers are below 32, and an immediate is one that the format has room for
abbrev pub InRange : Instr → Type 0
InRange (Lui rd imm) = IsRegister rd × HasUnsignedBits upper_bits imm
InRange (Auipc rd imm) = IsRegister rd × HasUnsignedBits upper_bits imm
InRange (Jal rd imm) = IsRegister rd × HasBits jump_bits imm × IsEven imm
InRange (Jalr rd rs1 imm) = IsRegister rd × IsRegister rs1 × HasBits immediate_bits imm
InRange (Beq rs1 rs2 imm) = IsRegister rs1 × IsRegister rs2 × HasBits branch_bits imm × IsEven imm
InRange (Bne rs1 rs2 imm) = IsRegister rs1 × IsRegister rs2 × HasBits branch_bits imm × IsEven imm
InRange (Blt rs1 rs2 imm) = IsRegister rs1 × IsRegister rs2 × HasBits branch_bits imm × IsEven imm
InRange (Bge rs1 rs2 imm) = IsRegister rs1 × IsRegister rs2 × HasBits branch_bits imm × IsEven imm
InRange (Bltu rs1 rs2 imm) = IsRegister rs1 × IsRegister rs2 × HasBits branch_bits imm × IsEven imm
InRange (Bgeu rs1 rs2 imm) = IsRegister rs1 × IsRegister rs2 × HasBits branch_bits imm × IsEven imm
InRange (Lb rd rs1 imm) = IsRegister rd × IsRegister rs1 × HasBits immediate_bits imm
InRange (Lh rd rs1 imm) = IsRegister rd × IsRegister rs1 × HasBits immediate_bits imm
InRange (Lw rd rs1 imm) = IsRegister rd × IsRegister rs1 × HasBits immediate_bits imm
InRange (Lbu rd rs1 imm) = IsRegister rd × IsRegister rs1 × HasBits immediate_bits imm
InRange (Lhu rd rs1 imm) = IsRegister rd × IsRegister rs1 × HasBits immediate_bits imm
InRange (Sb rs1 rs2 imm) = IsRegister rs1 × IsRegister rs2 × HasBits immediate_bits imm
InRange (Sh rs1 rs2 imm) = IsRegister rs1 × IsRegister rs2 × HasBits immediate_bits imm
InRange (Sw rs1 rs2 imm) = IsRegister rs1 × IsRegister rs2 × HasBits immediate_bits imm
InRange (Addi rd rs1 imm) = IsRegister rd × IsRegister rs1 × HasBits immediate_bits imm
InRange (Slti rd rs1 imm) = IsRegister rd × IsRegister rs1 × HasBits immediate_bits imm
InRange (Sltiu rd rs1 imm) = IsRegister rd × IsRegister rs1 × HasBits immediate_bits imm
InRange (Xori rd rs1 imm) = IsRegister rd × IsRegister rs1 × HasBits immediate_bits imm
InRange (Ori rd rs1 imm) = IsRegister rd × IsRegister rs1 × HasBits immediate_bits imm
InRange (Andi rd rs1 imm) = IsRegister rd × IsRegister rs1 × HasBits immediate_bits imm
InRange (Slli rd rs1 imm) = IsRegister rd × IsRegister rs1 × HasUnsignedBits amount_bits imm
InRange (Srli rd rs1 imm) = IsRegister rd × IsRegister rs1 × HasUnsignedBits amount_bits imm
InRange (Srai rd rs1 imm) = IsRegister rd × IsRegister rs1 × HasUnsignedBits amount_bits imm
InRange (Add rd rs1 rs2) = IsRegister rd × IsRegister rs1 × IsRegister rs2
InRange (Sub rd rs1 rs2) = IsRegister rd × IsRegister rs1 × IsRegister rs2
InRange (Sll rd rs1 rs2) = IsRegister rd × IsRegister rs1 × IsRegister rs2
InRange (Slt rd rs1 rs2) = IsRegister rd × IsRegister rs1 × IsRegister rs2
InRange (Sltu rd rs1 rs2) = IsRegister rd × IsRegister rs1 × IsRegister rs2
InRange (Xor rd rs1 rs2) = IsRegister rd × IsRegister rs1 × IsRegister rs2
InRange (Srl rd rs1 rs2) = IsRegister rd × IsRegister rs1 × IsRegister rs2
InRange (Sra rd rs1 rs2) = IsRegister rd × IsRegister rs1 × IsRegister rs2
InRange (Or rd rs1 rs2) = IsRegister rd × IsRegister rs1 × IsRegister rs2
InRange (And rd rs1 rs2) = IsRegister rd × IsRegister rs1 × IsRegister rs2
InRange (Mul rd rs1 rs2) = IsRegister rd × IsRegister rs1 × IsRegister rs2
InRange (Mulh rd rs1 rs2) = IsRegister rd × IsRegister rs1 × IsRegister rs2
InRange (Mulhsu rd rs1 rs2) = IsRegister rd × IsRegister rs1 × IsRegister rs2
InRange (Mulhu rd rs1 rs2) = IsRegister rd × IsRegister rs1 × IsRegister rs2
InRange (Div rd rs1 rs2) = IsRegister rd × IsRegister rs1 × IsRegister rs2
InRange (Divu rd rs1 rs2) = IsRegister rd × IsRegister rs1 × IsRegister rs2
InRange (Rem rd rs1 rs2) = IsRegister rd × IsRegister rs1 × IsRegister rs2
InRange (Remu rd rs1 rs2) = IsRegister rd × IsRegister rs1 × IsRegister rs2
InRange (Fence rd rs1 imm) = IsRegister rd × IsRegister rs1 × HasBits immediate_bits imm
InRange Ecall = Unit {0}
InRange Ebreak = Unit {0}

-- the word of an instruction
pub record Spells (i : Instr) (w : ℕ) : Type 0 where
  pub in_range : InRange i
  pub word : w ≡ word_of (fields_of i)

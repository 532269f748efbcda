-- An instruction is read again from the fields of its word, and no two lists of fields have one word.
use Rattle.std.proofs.Common.{◌≡◌, ℕ, ◌+◌, ◌-◌, ◌*◌, ◌/◌, ◌%◌, ◌^◌, ◌<◌, Option, Some, None, refl, ap, ◌∙◌, sym, arith, lit<}
use Rattle.std.specs.Prelude.{ℤ, pos, negsuc, nat_lt, if◌then◌else◌, IfNone}
use Rattle.std.proofs.lemmas.Bool.Decides.{nat_tests}
use Rattle.rv_isa.specs.declared.fields.Fields.{Fields}
use Rattle.rv_isa.specs.declared.instruction.Instr.{Instr}
use Rattle.rv_isa.specs.declared.instruction.Instr.TheVariants.{
  Lui,
  Auipc,
  Jal,
  Jalr,
  Beq,
  Bne,
  Blt,
  Bge,
  Bltu,
  Bgeu,
  Lb,
  Lh,
  Lw,
  Lbu,
  Lhu,
  Sb,
  Sh,
  Sw,
  Addi,
  Slti,
  Sltiu,
  Xori,
  Ori,
  Andi,
  Slli,
  Srli,
  Srai,
  Add,
  Sub,
  Sll,
  Slt,
  Sltu,
  Xor,
  Srl,
  Sra,
  Or,
  And,
  Mul,
  Mulh,
  Mulhsu,
  Mulhu,
  Div,
  Divu,
  Rem,
  Remu,
  Fence,
  Ecall,
  Ebreak,
}
use Rattle.rv_isa.specs.Words.{
  word_of,
  InBits,
  bits,
  signed,
  HasBits,
  HasUnsignedBits,
  IsEven,
  register_form,
  immediate_form,
  store_form,
  branch_form,
  upper_form,
  jump_form,
  fields_of,
  InRange,
  Spells,
}
use Rattle.rv_isa.specs.function.Reading.{
  instr_of,
  jump_register_of,
  branch_of,
  load_of,
  store_of,
  operation_immediate_of,
  shift_of,
  operation_of,
  base_operation_of,
  other_operation_of,
  multiplication_of,
  fence_of,
  system_of,
}

-- the bits of an immediate are below 2 ^ 12, 2 ^ 13, 2 ^ 21, 2 ^ 5 and 2 ^ 20
bits_bound_12 : (z : ℤ) → HasBits 12 z → bits 12 z < 2 ^ 12
bits_bound_12 (pos n) h = omega arith
bits_bound_12 (negsuc n) h = omega arith

bits_bound_13 : (z : ℤ) → HasBits 13 z → bits 13 z < 2 ^ 13
bits_bound_13 (pos n) h = omega arith
bits_bound_13 (negsuc n) h = omega arith

bits_bound_21 : (z : ℤ) → HasBits 21 z → bits 21 z < 2 ^ 21
bits_bound_21 (pos n) h = omega arith
bits_bound_21 (negsuc n) h = omega arith

amount_bound : (z : ℤ) → HasUnsignedBits 5 z → bits 5 z < 2 ^ 5
amount_bound (pos n) h = h
amount_bound (negsuc n) h = absurd h

upper_bound : (z : ℤ) → HasUnsignedBits 20 z → bits 20 z < 2 ^ 20
upper_bound (pos n) h = h
upper_bound (negsuc n) h = absurd h

-- a number is read again from its bits
signed_low : (half n : ℕ) → n < half → (if nat_lt n half then pos n else negsuc (half * 2 - 1 - n)) ≡ pos n
signed_low half n h = grind (arith, nat_tests)

signed_high : (half n : ℕ) → n < half
    → (if nat_lt (half * 2 - 1 - n) half then pos (half * 2 - 1 - n) else negsuc (half * 2 - 1 - (half * 2 - 1 - n)))
    ≡ negsuc n
signed_high half n h = grind (arith, nat_tests)

signed_again_12 : (z : ℤ) → HasBits 12 z → signed 12 (bits 12 z) ≡ z
signed_again_12 (pos n) h = signed_low 2048 n h
signed_again_12 (negsuc n) h = signed_high 2048 n h

signed_again_13 : (z : ℤ) → HasBits 13 z → signed 13 (bits 13 z) ≡ z
signed_again_13 (pos n) h = signed_low 4096 n h
signed_again_13 (negsuc n) h = signed_high 4096 n h

signed_again_21 : (z : ℤ) → HasBits 21 z → signed 21 (bits 21 z) ≡ z
signed_again_21 (pos n) h = signed_low 1048576 n h
signed_again_21 (negsuc n) h = signed_high 1048576 n h

even_bits_13 : (z : ℤ) → HasBits 13 z → IsEven z → bits 13 z % 2 ≡ 0
even_bits_13 (pos n) h e = e
even_bits_13 (negsuc n) h e = omega arith

even_bits_21 : (z : ℤ) → HasBits 21 z → IsEven z → bits 21 z % 2 ≡ 0
even_bits_21 (pos n) h e = e
even_bits_21 (negsuc n) h e = omega arith

-- the parts of the bits, put together again
immediate_parts : (n : ℕ) → n % 32 + 32 * (n / 32) ≡ n
immediate_parts n = omega arith

branch_parts : (n : ℕ) → n < 2 ^ 13 → n % 2 ≡ 0
    → (n / 2 % 16 * 2 + n / 2 ^ 11 % 2) / 2 * 2 + 32 * ((n / 2 ^ 12 * 64 + n / 32 % 64) % 64)
    + 2 ^ 11 * ((n / 2 % 16 * 2 + n / 2 ^ 11 % 2) % 2) + 2 ^ 12 * ((n / 2 ^ 12 * 64 + n / 32 % 64) / 64)
    ≡ n
branch_parts n b e = omega arith

upper_parts : (n : ℕ) → n < 2 ^ 20 → n % 8 + 8 * (n / 8 % 32) + 2 ^ 8 * (n / 2 ^ 8 % 32) + 2 ^ 13 * (n / 2 ^ 13) ≡ n
upper_parts n b = omega arith

jump_parts : (n : ℕ) → n < 2 ^ 21 → n % 2 ≡ 0
    → (n / 2 % 16 * 2 + n / 2 ^ 11 % 2) / 2 * 2 + 32 * ((n / 2 ^ 20 * 64 + n / 32 % 64) % 64)
    + 2 ^ 11 * ((n / 2 % 16 * 2 + n / 2 ^ 11 % 2) % 2) + 2 ^ 12 * (n / 2 ^ 12 % 8) + 2 ^ 15 * (n / 2 ^ 15 % 32)
    + 2 ^ 20 * ((n / 2 ^ 20 * 64 + n / 32 % 64) / 64)
    ≡ n
jump_parts n b e = omega arith

immediate_again : (z : ℤ) → HasBits 12 z → signed 12 (bits 12 z % 32 + 32 * (bits 12 z / 32)) ≡ z
immediate_again z h = ap (λ n. signed 12 n) (immediate_parts (bits 12 z)) ∙ signed_again_12 z h

branch_again : (z : ℤ) → HasBits 13 z → IsEven z
    → signed 13
    ((bits 13 z / 2 % 16 * 2 + bits 13 z / 2 ^ 11 % 2) / 2 * 2
    + 32 * ((bits 13 z / 2 ^ 12 * 64 + bits 13 z / 32 % 64) % 64)
    + 2 ^ 11 * ((bits 13 z / 2 % 16 * 2 + bits 13 z / 2 ^ 11 % 2) % 2)
    + 2 ^ 12 * ((bits 13 z / 2 ^ 12 * 64 + bits 13 z / 32 % 64) / 64))
    ≡ z
branch_again z h e =
    ap (λ n. signed 13 n) (branch_parts (bits 13 z) (bits_bound_13 z h) (even_bits_13 z h e)) ∙ signed_again_13 z h

jump_again : (z : ℤ) → HasBits 21 z → IsEven z
    → signed 21
    ((bits 21 z / 2 % 16 * 2 + bits 21 z / 2 ^ 11 % 2) / 2 * 2
    + 32 * ((bits 21 z / 2 ^ 20 * 64 + bits 21 z / 32 % 64) % 64)
    + 2 ^ 11 * ((bits 21 z / 2 % 16 * 2 + bits 21 z / 2 ^ 11 % 2) % 2)
    + 2 ^ 12 * (bits 21 z / 2 ^ 12 % 8) + 2 ^ 15 * (bits 21 z / 2 ^ 15 % 32)
    + 2 ^ 20 * ((bits 21 z / 2 ^ 20 * 64 + bits 21 z / 32 % 64) / 64))
    ≡ z
jump_again z h e =
    ap (λ n. signed 21 n) (jump_parts (bits 21 z) (bits_bound_21 z h) (even_bits_21 z h e)) ∙ signed_again_21 z h

amount_again : (z : ℤ) → HasUnsignedBits 5 z → pos (bits 5 z) ≡ z
amount_again (pos n) h = refl
amount_again (negsuc n) h = absurd h

upper_again : (z : ℤ) → HasUnsignedBits 20 z
    → pos (bits 20 z % 8 + 8 * (bits 20 z / 8 % 32) + 2 ^ 8 * (bits 20 z / 2 ^ 8 % 32) + 2 ^ 13 * (bits 20 z / 2 ^ 13)) ≡ z
upper_again (pos n) h = ap pos (upper_parts n h)
upper_again (negsuc n) h = absurd h

read_again : (i : Instr) → InRange i → instr_of (fields_of i) ≡ Some i
unfolding instr_of jump_register_of branch_of load_of store_of operation_immediate_of shift_of operation_of base_operation_of other_operation_of multiplication_of fence_of system_of
read_again (Lui rd imm) h = ap (λ z. Some (Lui rd z)) (upper_again imm h.1)
read_again (Auipc rd imm) h = ap (λ z. Some (Auipc rd z)) (upper_again imm h.1)
read_again (Jal rd imm) h = ap (λ z. Some (Jal rd z)) (jump_again imm h.1 h.2)
read_again (Jalr rd rs1 imm) h = ap (λ z. Some (Jalr rd rs1 z)) (immediate_again imm h.2)
read_again (Beq rs1 rs2 imm) h = ap (λ z. Some (Beq rs1 rs2 z)) (branch_again imm h.2 h.3)
read_again (Bne rs1 rs2 imm) h = ap (λ z. Some (Bne rs1 rs2 z)) (branch_again imm h.2 h.3)
read_again (Blt rs1 rs2 imm) h = ap (λ z. Some (Blt rs1 rs2 z)) (branch_again imm h.2 h.3)
read_again (Bge rs1 rs2 imm) h = ap (λ z. Some (Bge rs1 rs2 z)) (branch_again imm h.2 h.3)
read_again (Bltu rs1 rs2 imm) h = ap (λ z. Some (Bltu rs1 rs2 z)) (branch_again imm h.2 h.3)
read_again (Bgeu rs1 rs2 imm) h = ap (λ z. Some (Bgeu rs1 rs2 z)) (branch_again imm h.2 h.3)
read_again (Lb rd rs1 imm) h = ap (λ z. Some (Lb rd rs1 z)) (immediate_again imm h.2)
read_again (Lh rd rs1 imm) h = ap (λ z. Some (Lh rd rs1 z)) (immediate_again imm h.2)
read_again (Lw rd rs1 imm) h = ap (λ z. Some (Lw rd rs1 z)) (immediate_again imm h.2)
read_again (Lbu rd rs1 imm) h = ap (λ z. Some (Lbu rd rs1 z)) (immediate_again imm h.2)
read_again (Lhu rd rs1 imm) h = ap (λ z. Some (Lhu rd rs1 z)) (immediate_again imm h.2)
read_again (Sb rs1 rs2 imm) h = ap (λ z. Some (Sb rs1 rs2 z)) (immediate_again imm h.2)
read_again (Sh rs1 rs2 imm) h = ap (λ z. Some (Sh rs1 rs2 z)) (immediate_again imm h.2)
read_again (Sw rs1 rs2 imm) h = ap (λ z. Some (Sw rs1 rs2 z)) (immediate_again imm h.2)
read_again (Addi rd rs1 imm) h = ap (λ z. Some (Addi rd rs1 z)) (immediate_again imm h.2)
read_again (Slti rd rs1 imm) h = ap (λ z. Some (Slti rd rs1 z)) (immediate_again imm h.2)
read_again (Sltiu rd rs1 imm) h = ap (λ z. Some (Sltiu rd rs1 z)) (immediate_again imm h.2)
read_again (Xori rd rs1 imm) h = ap (λ z. Some (Xori rd rs1 z)) (immediate_again imm h.2)
read_again (Ori rd rs1 imm) h = ap (λ z. Some (Ori rd rs1 z)) (immediate_again imm h.2)
read_again (Andi rd rs1 imm) h = ap (λ z. Some (Andi rd rs1 z)) (immediate_again imm h.2)
read_again (Slli rd rs1 imm) h = ap (λ z. Some (Slli rd rs1 z)) (amount_again imm h.2)
read_again (Srli rd rs1 imm) h = ap (λ z. Some (Srli rd rs1 z)) (amount_again imm h.2)
read_again (Srai rd rs1 imm) h = ap (λ z. Some (Srai rd rs1 z)) (amount_again imm h.2)
read_again (Add rd rs1 rs2) h = refl
read_again (Sub rd rs1 rs2) h = refl
read_again (Sll rd rs1 rs2) h = refl
read_again (Slt rd rs1 rs2) h = refl
read_again (Sltu rd rs1 rs2) h = refl
read_again (Xor rd rs1 rs2) h = refl
read_again (Srl rd rs1 rs2) h = refl
read_again (Sra rd rs1 rs2) h = refl
read_again (Or rd rs1 rs2) h = refl
read_again (And rd rs1 rs2) h = refl
read_again (Mul rd rs1 rs2) h = refl
read_again (Mulh rd rs1 rs2) h = refl
read_again (Mulhsu rd rs1 rs2) h = refl
read_again (Mulhu rd rs1 rs2) h = refl
read_again (Div rd rs1 rs2) h = refl
read_again (Divu rd rs1 rs2) h = refl
read_again (Rem rd rs1 rs2) h = refl
read_again (Remu rd rs1 rs2) h = refl
read_again (Fence rd rs1 imm) h = ap (λ z. Some (Fence rd rs1 z)) (immediate_again imm h.2)
read_again Ecall h = refl
read_again Ebreak h = refl

-- each format's fields fit their bits
register_in_bits : (opcode funct3 funct7 rd rs1 rs2 : ℕ) → opcode < 2 ^ 7 → funct3 < 2 ^ 3 → funct7 < 2 ^ 7 → rd < 32 → rs1 < 32
    → rs2 < 32 → InBits (register_form opcode funct3 funct7 rd rs1 rs2)
register_in_bits opcode funct3 funct7 rd rs1 rs2 a b c d e f =
    record { opcode = a; rd = d; funct3 = b; rs1 = e; rs2 = f; funct7 = c }

immediate_in_bits : (opcode funct3 rd rs1 n : ℕ) → opcode < 2 ^ 7 → funct3 < 2 ^ 3 → rd < 32 → rs1 < 32 → n < 2 ^ 12
    → InBits (immediate_form opcode funct3 rd rs1 n)
immediate_in_bits opcode funct3 rd rs1 n a b c d e =
    record { opcode = a; rd = c; funct3 = b; rs1 = d; rs2 = omega arith; funct7 = omega arith }

store_in_bits : (opcode funct3 rs1 rs2 n : ℕ) → opcode < 2 ^ 7 → funct3 < 2 ^ 3 → rs1 < 32 → rs2 < 32 → n < 2 ^ 12
    → InBits (store_form opcode funct3 rs1 rs2 n)
store_in_bits opcode funct3 rs1 rs2 n a b c d e =
    record { opcode = a; rd = omega arith; funct3 = b; rs1 = c; rs2 = d; funct7 = omega arith }

branch_in_bits : (opcode funct3 rs1 rs2 n : ℕ) → opcode < 2 ^ 7 → funct3 < 2 ^ 3 → rs1 < 32 → rs2 < 32 → n < 2 ^ 13
    → InBits (branch_form opcode funct3 rs1 rs2 n)
branch_in_bits opcode funct3 rs1 rs2 n a b c d e =
    record { opcode = a; rd = omega arith; funct3 = b; rs1 = c; rs2 = d; funct7 = omega arith }

upper_in_bits : (opcode rd n : ℕ) → opcode < 2 ^ 7 → rd < 32 → n < 2 ^ 20 → InBits (upper_form opcode rd n)
upper_in_bits opcode rd n a b c =
    record { opcode = a; rd = b; funct3 = omega arith; rs1 = omega arith; rs2 = omega arith; funct7 = omega arith }

jump_in_bits : (opcode rd n : ℕ) → opcode < 2 ^ 7 → rd < 32 → n < 2 ^ 21 → InBits (jump_form opcode rd n)
jump_in_bits opcode rd n a b c =
    record { opcode = a; rd = b; funct3 = omega arith; rs1 = omega arith; rs2 = omega arith; funct7 = omega arith }

pub in_bits : (i : Instr) → InRange i → InBits (fields_of i)
in_bits (Lui rd imm) h = upper_in_bits _ _ _ (lit< tt) h.0 (upper_bound imm h.1)
in_bits (Auipc rd imm) h = upper_in_bits _ _ _ (lit< tt) h.0 (upper_bound imm h.1)
in_bits (Jal rd imm) h = jump_in_bits _ _ _ (lit< tt) h.0 (bits_bound_21 imm h.1)
in_bits (Jalr rd rs1 imm) h = immediate_in_bits _ _ _ _ _ (lit< tt) (lit< tt) h.0 h.1 (bits_bound_12 imm h.2)
in_bits (Beq rs1 rs2 imm) h = branch_in_bits _ _ _ _ _ (lit< tt) (lit< tt) h.0 h.1 (bits_bound_13 imm h.2)
in_bits (Bne rs1 rs2 imm) h = branch_in_bits _ _ _ _ _ (lit< tt) (lit< tt) h.0 h.1 (bits_bound_13 imm h.2)
in_bits (Blt rs1 rs2 imm) h = branch_in_bits _ _ _ _ _ (lit< tt) (lit< tt) h.0 h.1 (bits_bound_13 imm h.2)
in_bits (Bge rs1 rs2 imm) h = branch_in_bits _ _ _ _ _ (lit< tt) (lit< tt) h.0 h.1 (bits_bound_13 imm h.2)
in_bits (Bltu rs1 rs2 imm) h = branch_in_bits _ _ _ _ _ (lit< tt) (lit< tt) h.0 h.1 (bits_bound_13 imm h.2)
in_bits (Bgeu rs1 rs2 imm) h = branch_in_bits _ _ _ _ _ (lit< tt) (lit< tt) h.0 h.1 (bits_bound_13 imm h.2)
in_bits (Lb rd rs1 imm) h = immediate_in_bits _ _ _ _ _ (lit< tt) (lit< tt) h.0 h.1 (bits_bound_12 imm h.2)
in_bits (Lh rd rs1 imm) h = immediate_in_bits _ _ _ _ _ (lit< tt) (lit< tt) h.0 h.1 (bits_bound_12 imm h.2)
in_bits (Lw rd rs1 imm) h = immediate_in_bits _ _ _ _ _ (lit< tt) (lit< tt) h.0 h.1 (bits_bound_12 imm h.2)
in_bits (Lbu rd rs1 imm) h = immediate_in_bits _ _ _ _ _ (lit< tt) (lit< tt) h.0 h.1 (bits_bound_12 imm h.2)
in_bits (Lhu rd rs1 imm) h = immediate_in_bits _ _ _ _ _ (lit< tt) (lit< tt) h.0 h.1 (bits_bound_12 imm h.2)
in_bits (Sb rs1 rs2 imm) h = store_in_bits _ _ _ _ _ (lit< tt) (lit< tt) h.0 h.1 (bits_bound_12 imm h.2)
in_bits (Sh rs1 rs2 imm) h = store_in_bits _ _ _ _ _ (lit< tt) (lit< tt) h.0 h.1 (bits_bound_12 imm h.2)
in_bits (Sw rs1 rs2 imm) h = store_in_bits _ _ _ _ _ (lit< tt) (lit< tt) h.0 h.1 (bits_bound_12 imm h.2)
in_bits (Addi rd rs1 imm) h = immediate_in_bits _ _ _ _ _ (lit< tt) (lit< tt) h.0 h.1 (bits_bound_12 imm h.2)
in_bits (Slti rd rs1 imm) h = immediate_in_bits _ _ _ _ _ (lit< tt) (lit< tt) h.0 h.1 (bits_bound_12 imm h.2)
in_bits (Sltiu rd rs1 imm) h = immediate_in_bits _ _ _ _ _ (lit< tt) (lit< tt) h.0 h.1 (bits_bound_12 imm h.2)
in_bits (Xori rd rs1 imm) h = immediate_in_bits _ _ _ _ _ (lit< tt) (lit< tt) h.0 h.1 (bits_bound_12 imm h.2)
in_bits (Ori rd rs1 imm) h = immediate_in_bits _ _ _ _ _ (lit< tt) (lit< tt) h.0 h.1 (bits_bound_12 imm h.2)
in_bits (Andi rd rs1 imm) h = immediate_in_bits _ _ _ _ _ (lit< tt) (lit< tt) h.0 h.1 (bits_bound_12 imm h.2)
in_bits (Slli rd rs1 imm) h = register_in_bits _ _ _ _ _ _ (lit< tt) (lit< tt) (lit< tt) h.0 h.1 (amount_bound imm h.2)
in_bits (Srli rd rs1 imm) h = register_in_bits _ _ _ _ _ _ (lit< tt) (lit< tt) (lit< tt) h.0 h.1 (amount_bound imm h.2)
in_bits (Srai rd rs1 imm) h = register_in_bits _ _ _ _ _ _ (lit< tt) (lit< tt) (lit< tt) h.0 h.1 (amount_bound imm h.2)
in_bits (Add rd rs1 rs2) h = register_in_bits _ _ _ _ _ _ (lit< tt) (lit< tt) (lit< tt) h.0 h.1 h.2
in_bits (Sub rd rs1 rs2) h = register_in_bits _ _ _ _ _ _ (lit< tt) (lit< tt) (lit< tt) h.0 h.1 h.2
in_bits (Sll rd rs1 rs2) h = register_in_bits _ _ _ _ _ _ (lit< tt) (lit< tt) (lit< tt) h.0 h.1 h.2
in_bits (Slt rd rs1 rs2) h = register_in_bits _ _ _ _ _ _ (lit< tt) (lit< tt) (lit< tt) h.0 h.1 h.2
in_bits (Sltu rd rs1 rs2) h = register_in_bits _ _ _ _ _ _ (lit< tt) (lit< tt) (lit< tt) h.0 h.1 h.2
in_bits (Xor rd rs1 rs2) h = register_in_bits _ _ _ _ _ _ (lit< tt) (lit< tt) (lit< tt) h.0 h.1 h.2
in_bits (Srl rd rs1 rs2) h = register_in_bits _ _ _ _ _ _ (lit< tt) (lit< tt) (lit< tt) h.0 h.1 h.2
in_bits (Sra rd rs1 rs2) h = register_in_bits _ _ _ _ _ _ (lit< tt) (lit< tt) (lit< tt) h.0 h.1 h.2
in_bits (Or rd rs1 rs2) h = register_in_bits _ _ _ _ _ _ (lit< tt) (lit< tt) (lit< tt) h.0 h.1 h.2
in_bits (And rd rs1 rs2) h = register_in_bits _ _ _ _ _ _ (lit< tt) (lit< tt) (lit< tt) h.0 h.1 h.2
in_bits (Mul rd rs1 rs2) h = register_in_bits _ _ _ _ _ _ (lit< tt) (lit< tt) (lit< tt) h.0 h.1 h.2
in_bits (Mulh rd rs1 rs2) h = register_in_bits _ _ _ _ _ _ (lit< tt) (lit< tt) (lit< tt) h.0 h.1 h.2
in_bits (Mulhsu rd rs1 rs2) h = register_in_bits _ _ _ _ _ _ (lit< tt) (lit< tt) (lit< tt) h.0 h.1 h.2
in_bits (Mulhu rd rs1 rs2) h = register_in_bits _ _ _ _ _ _ (lit< tt) (lit< tt) (lit< tt) h.0 h.1 h.2
in_bits (Div rd rs1 rs2) h = register_in_bits _ _ _ _ _ _ (lit< tt) (lit< tt) (lit< tt) h.0 h.1 h.2
in_bits (Divu rd rs1 rs2) h = register_in_bits _ _ _ _ _ _ (lit< tt) (lit< tt) (lit< tt) h.0 h.1 h.2
in_bits (Rem rd rs1 rs2) h = register_in_bits _ _ _ _ _ _ (lit< tt) (lit< tt) (lit< tt) h.0 h.1 h.2
in_bits (Remu rd rs1 rs2) h = register_in_bits _ _ _ _ _ _ (lit< tt) (lit< tt) (lit< tt) h.0 h.1 h.2
in_bits (Fence rd rs1 imm) h = immediate_in_bits _ _ _ _ _ (lit< tt) (lit< tt) h.0 h.1 (bits_bound_12 imm h.2)
in_bits Ecall h = immediate_in_bits 0x73 0 0 0 0 (lit< tt) (lit< tt) (lit< tt) (lit< tt) (lit< tt)
in_bits Ebreak h = immediate_in_bits 0x73 0 0 0 1 (lit< tt) (lit< tt) (lit< tt) (lit< tt) (lit< tt)

-- two lists of fields with one word are one
same_parts : (f g : Fields) → f.opcode ≡ g.opcode → f.rd ≡ g.rd → f.funct3 ≡ g.funct3 → f.rs1 ≡ g.rs1 → f.rs2 ≡ g.rs2
    → f.funct7 ≡ g.funct7 → f ≡ g
same_parts f g a b c d e h i = record { opcode = a i; rd = b i; funct3 = c i; rs1 = d i; rs2 = e i; funct7 = h i }

same_fields : (f g : Fields) → InBits f → InBits g → word_of f ≡ word_of g → f ≡ g
same_fields f g a b e =
    same_parts f g (omega arith) (omega arith) (omega arith) (omega arith) (omega arith) (omega arith)

-- the fields of a word give the one instruction that it spells
pub read_only_one : (f : Fields) (w : ℕ) (i : Instr) → InBits f → w ≡ word_of f → Spells i w → instr_of f ≡ Some i
read_only_one f w i b e s =
    ap instr_of (same_fields f (fields_of i) b (in_bits i s.in_range) (sym e ∙ s.word)) ∙ read_again i s.in_range

-- where every instruction that spells the word would be the answer, no answer means that none does
pub spelled_by_none : (r : Option Instr) (w : ℕ) → ((i : Instr) → Spells i w → r ≡ Some i)
    → IfNone r ((i : Instr) → Spells i w → ⊥)
spelled_by_none (Some x) w only = tt
spelled_by_none None w only = λ i s. absurd_none i (only i s)
  where
    absurd_none : (i : Instr) → None ≡ Some i → ⊥
    absurd_none i e = cc

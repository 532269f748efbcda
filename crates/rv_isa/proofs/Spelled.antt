-- Whether a word is that of an instruction can be told, and it is that of one at most.
use Rattle.std.proofs.Common.{◌≡◌, ℕ, ◌-◌, ◌/◌, ◌%◌, ◌^◌, ◌<◌, ℤ, pos, negsuc, Bool, true, false, ◌==◌, ◌⊎◌, inl, inr, Option, Some, None, refl, sym, ◌∙◌, subst, arith, eqb-true}
use Rattle.std.proofs.lemmas.Bool.{cases_lt, eqb-false}
use Rattle.rv_isa.specs.Registers.{register_count}
use Rattle.rv_isa.specs.Words.{Spells, InRange, InBits, HasBits, HasUnsignedBits, IsEven, fields_of, word_of, immediate_bits, branch_bits, jump_bits, upper_bits, amount_bits}
use Rattle.rv_isa.specs.function.Reading.{instr_of}
use Rattle.rv_isa.specs.declared.fields.Fields.{Fields}
use Rattle.rv_isa.specs.declared.instruction.Instr.{Instr}
use Rattle.rv_isa.specs.declared.instruction.Instr.TheVariants as isa
use Rattle.rv_isa.proofs.ReadAgain.{in_bits, read_only_one}

-- a fact that holds or doesn't
abbrev pub Told : Type 0 → Type 0
Told P = P ⊎ (P → ⊥)

below_or : (a b : ℕ) → Told (a < b)
below_or a b = elim (cases_lt a b) [
  | inl below ↦ inl below
  | inr at ↦ inr (λ below. omega arith)
]

pub equal_or : (a b : ℕ) → Told (a ≡ b)
equal_or a b = by (a == b) refl
  where
    by : (t : Bool) → (a == b) ≡ t → Told (a ≡ b)
    by true e = inl (eqb-true a b e)
    by false e = inr (eqb-false a b e)

bits_or : (k : ℕ) (z : ℤ) → Told (HasBits k z)
bits_or k (pos n) = below_or n (2 ^ (k - 1))
bits_or k (negsuc n) = below_or n (2 ^ (k - 1))

unsigned_or : (k : ℕ) (z : ℤ) → Told (HasUnsignedBits k z)
unsigned_or k (pos n) = below_or n (2 ^ k)
unsigned_or k (negsuc n) = inr (λ h. h)

even_or : (z : ℤ) → Told (IsEven z)
even_or (pos n) = equal_or (n % 2) 0
even_or (negsuc n) = equal_or (n % 2) 1

two_or : {P Q : Type 0} → Told P → Told Q → Told (P × Q)
two_or (inl p) (inl q) = inl (p, q)
two_or (inl p) (inr n) = inr (λ h. n h.1)
two_or (inr n) q = inr (λ h. n h.0)

three_or : {P Q R : Type 0} → Told P → Told Q → Told R → Told (P × Q × R)
three_or (inl p) (inl q) (inl r) = inl (p, q, r)
three_or (inl p) (inl q) (inr n) = inr (λ h. n h.2)
three_or (inl p) (inr n) r = inr (λ h. n h.1)
three_or (inr n) q r = inr (λ h. n h.0)

four_or : {P Q R S : Type 0} → Told P → Told Q → Told R → Told S → Told (P × Q × R × S)
four_or (inl p) (inl q) (inl r) (inl s) = inl (p, q, r, s)
four_or (inl p) (inl q) (inl r) (inr n) = inr (λ h. n h.3)
four_or (inl p) (inl q) (inr n) s = inr (λ h. n h.2)
four_or (inl p) (inr n) r s = inr (λ h. n h.1)
four_or (inr n) q r s = inr (λ h. n h.0)

in_range_or : (i : Instr) → Told (InRange i)
in_range_or (isa.Lui rd imm) = two_or (below_or rd register_count) (unsigned_or upper_bits imm)
in_range_or (isa.Auipc rd imm) = two_or (below_or rd register_count) (unsigned_or upper_bits imm)
in_range_or (isa.Jal rd imm) = three_or (below_or rd register_count) (bits_or jump_bits imm) (even_or imm)
in_range_or (isa.Jalr rd rs1 imm) = three_or (below_or rd register_count) (below_or rs1 register_count) (bits_or immediate_bits imm)
in_range_or (isa.Beq rs1 rs2 imm) = four_or (below_or rs1 register_count) (below_or rs2 register_count) (bits_or branch_bits imm) (even_or imm)
in_range_or (isa.Bne rs1 rs2 imm) = four_or (below_or rs1 register_count) (below_or rs2 register_count) (bits_or branch_bits imm) (even_or imm)
in_range_or (isa.Blt rs1 rs2 imm) = four_or (below_or rs1 register_count) (below_or rs2 register_count) (bits_or branch_bits imm) (even_or imm)
in_range_or (isa.Bge rs1 rs2 imm) = four_or (below_or rs1 register_count) (below_or rs2 register_count) (bits_or branch_bits imm) (even_or imm)
in_range_or (isa.Bltu rs1 rs2 imm) = four_or (below_or rs1 register_count) (below_or rs2 register_count) (bits_or branch_bits imm) (even_or imm)
in_range_or (isa.Bgeu rs1 rs2 imm) = four_or (below_or rs1 register_count) (below_or rs2 register_count) (bits_or branch_bits imm) (even_or imm)
in_range_or (isa.Lb rd rs1 imm) = three_or (below_or rd register_count) (below_or rs1 register_count) (bits_or immediate_bits imm)
in_range_or (isa.Lh rd rs1 imm) = three_or (below_or rd register_count) (below_or rs1 register_count) (bits_or immediate_bits imm)
in_range_or (isa.Lw rd rs1 imm) = three_or (below_or rd register_count) (below_or rs1 register_count) (bits_or immediate_bits imm)
in_range_or (isa.Lbu rd rs1 imm) = three_or (below_or rd register_count) (below_or rs1 register_count) (bits_or immediate_bits imm)
in_range_or (isa.Lhu rd rs1 imm) = three_or (below_or rd register_count) (below_or rs1 register_count) (bits_or immediate_bits imm)
in_range_or (isa.Sb rs1 rs2 imm) = three_or (below_or rs1 register_count) (below_or rs2 register_count) (bits_or immediate_bits imm)
in_range_or (isa.Sh rs1 rs2 imm) = three_or (below_or rs1 register_count) (below_or rs2 register_count) (bits_or immediate_bits imm)
in_range_or (isa.Sw rs1 rs2 imm) = three_or (below_or rs1 register_count) (below_or rs2 register_count) (bits_or immediate_bits imm)
in_range_or (isa.Addi rd rs1 imm) = three_or (below_or rd register_count) (below_or rs1 register_count) (bits_or immediate_bits imm)
in_range_or (isa.Slti rd rs1 imm) = three_or (below_or rd register_count) (below_or rs1 register_count) (bits_or immediate_bits imm)
in_range_or (isa.Sltiu rd rs1 imm) = three_or (below_or rd register_count) (below_or rs1 register_count) (bits_or immediate_bits imm)
in_range_or (isa.Xori rd rs1 imm) = three_or (below_or rd register_count) (below_or rs1 register_count) (bits_or immediate_bits imm)
in_range_or (isa.Ori rd rs1 imm) = three_or (below_or rd register_count) (below_or rs1 register_count) (bits_or immediate_bits imm)
in_range_or (isa.Andi rd rs1 imm) = three_or (below_or rd register_count) (below_or rs1 register_count) (bits_or immediate_bits imm)
in_range_or (isa.Slli rd rs1 imm) = three_or (below_or rd register_count) (below_or rs1 register_count) (unsigned_or amount_bits imm)
in_range_or (isa.Srli rd rs1 imm) = three_or (below_or rd register_count) (below_or rs1 register_count) (unsigned_or amount_bits imm)
in_range_or (isa.Srai rd rs1 imm) = three_or (below_or rd register_count) (below_or rs1 register_count) (unsigned_or amount_bits imm)
in_range_or (isa.Add rd rs1 rs2) = three_or (below_or rd register_count) (below_or rs1 register_count) (below_or rs2 register_count)
in_range_or (isa.Sub rd rs1 rs2) = three_or (below_or rd register_count) (below_or rs1 register_count) (below_or rs2 register_count)
in_range_or (isa.Sll rd rs1 rs2) = three_or (below_or rd register_count) (below_or rs1 register_count) (below_or rs2 register_count)
in_range_or (isa.Slt rd rs1 rs2) = three_or (below_or rd register_count) (below_or rs1 register_count) (below_or rs2 register_count)
in_range_or (isa.Sltu rd rs1 rs2) = three_or (below_or rd register_count) (below_or rs1 register_count) (below_or rs2 register_count)
in_range_or (isa.Xor rd rs1 rs2) = three_or (below_or rd register_count) (below_or rs1 register_count) (below_or rs2 register_count)
in_range_or (isa.Srl rd rs1 rs2) = three_or (below_or rd register_count) (below_or rs1 register_count) (below_or rs2 register_count)
in_range_or (isa.Sra rd rs1 rs2) = three_or (below_or rd register_count) (below_or rs1 register_count) (below_or rs2 register_count)
in_range_or (isa.Or rd rs1 rs2) = three_or (below_or rd register_count) (below_or rs1 register_count) (below_or rs2 register_count)
in_range_or (isa.And rd rs1 rs2) = three_or (below_or rd register_count) (below_or rs1 register_count) (below_or rs2 register_count)
in_range_or (isa.Mul rd rs1 rs2) = three_or (below_or rd register_count) (below_or rs1 register_count) (below_or rs2 register_count)
in_range_or (isa.Mulh rd rs1 rs2) = three_or (below_or rd register_count) (below_or rs1 register_count) (below_or rs2 register_count)
in_range_or (isa.Mulhsu rd rs1 rs2) = three_or (below_or rd register_count) (below_or rs1 register_count) (below_or rs2 register_count)
in_range_or (isa.Mulhu rd rs1 rs2) = three_or (below_or rd register_count) (below_or rs1 register_count) (below_or rs2 register_count)
in_range_or (isa.Div rd rs1 rs2) = three_or (below_or rd register_count) (below_or rs1 register_count) (below_or rs2 register_count)
in_range_or (isa.Divu rd rs1 rs2) = three_or (below_or rd register_count) (below_or rs1 register_count) (below_or rs2 register_count)
in_range_or (isa.Rem rd rs1 rs2) = three_or (below_or rd register_count) (below_or rs1 register_count) (below_or rs2 register_count)
in_range_or (isa.Remu rd rs1 rs2) = three_or (below_or rd register_count) (below_or rs1 register_count) (below_or rs2 register_count)
in_range_or (isa.Fence rd rs1 imm) = three_or (below_or rd register_count) (below_or rs1 register_count) (bits_or immediate_bits imm)
in_range_or isa.Ecall = inl tt
in_range_or isa.Ebreak = inl tt

spells_or : (i : Instr) (w : ℕ) → Told (Spells i w)
spells_or i w = by (in_range_or i) (equal_or w (word_of (fields_of i)))
  where
    by : Told (InRange i) → Told (w ≡ word_of (fields_of i)) → Told (Spells i w)
    by (inl range) (inl word) = inl (record { in_range = range; word = word })
    by (inl range) (inr n) = inr (λ s. n s.word)
    by (inr n) word = inr (λ s. n s.in_range)

spelled_fits : (i : Instr) (w : ℕ) → Spells i w → w < 2 ^ 32
spelled_fits i w s = let b = in_bits i s.in_range in let e = s.word in omega arith

-- the fields of a word
abbrev split : ℕ → Fields
split w =
    record { opcode = w % 2 ^ 7; rd = w / 2 ^ 7 % 2 ^ 5; funct3 = w / 2 ^ 12 % 2 ^ 3; rs1 = w / 2 ^ 15 % 2 ^ 5; rs2 = w / 2 ^ 20 % 2 ^ 5; funct7 = w / 2 ^ 25 }

split_fits : (w : ℕ) → w < 2 ^ 32 → InBits (split w)
split_fits w fits =
    record { opcode = omega arith; rd = omega arith; funct3 = omega arith; rs1 = omega arith; rs2 = omega arith; funct7 = omega arith }

split_joins : (w : ℕ) → w < 2 ^ 32 → w ≡ word_of (split w)
split_joins w fits = omega arith

same_read : (o : Option Instr) (i j : Instr) → o ≡ Some i → o ≡ Some j → i ≡ j
same_read o i j p q = cc

no_read : (i : Instr) → None ≡ Some i → ⊥
no_read i e = cc

-- an instruction that has the word, or that there is none
pub spelled_or : (w : ℕ) → ((i : Instr) × Spells i w) ⊎ ((i : Instr) → Spells i w → ⊥)
spelled_or w = elim (cases_lt w (2 ^ 32)) [
  | inl fits ↦ by fits (instr_of (split w)) refl
  | inr past ↦ inr (λ i s. let fits = spelled_fits i w s in omega arith)
]
  where
    read : (fits : w < 2 ^ 32) (i : Instr) → Spells i w → instr_of (split w) ≡ Some i
    read fits i s = read_only_one (split w) w i (split_fits w fits) (split_joins w fits) s

    one : (fits : w < 2 ^ 32) (i : Instr) → instr_of (split w) ≡ Some i → Told (Spells i w)
        → ((j : Instr) × Spells j w) ⊎ ((j : Instr) → Spells j w → ⊥)
    one fits i e (inl s) = inl (i, s)
    one fits i e (inr n) = inr (λ j s. n (subst (λ k. Spells k w) (same_read (instr_of (split w)) j i (read fits j s) e) s))

    by : (fits : w < 2 ^ 32) (o : Option Instr) → instr_of (split w) ≡ o
        → ((i : Instr) × Spells i w) ⊎ ((i : Instr) → Spells i w → ⊥)
    by fits None e = inr (λ i s. no_read i (sym e ∙ read fits i s))
    by fits (Some i) e = one fits i e (spells_or i w)

-- a word is that of one instruction
pub spelled_once : (i j : Instr) (w : ℕ) → Spells i w → Spells j w → i ≡ j
spelled_once i j w s t =
    let b = in_bits i s.in_range in
    same_read _ i j (read_only_one (fields_of i) w i b s.word s) (read_only_one (fields_of i) w j b s.word t)

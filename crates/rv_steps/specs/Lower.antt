-- The instructions of the machine with named registers as instructions of RV32IM, and their words in memory.
use Rattle.std.specs.Prelude.{◌≡◌, ℕ, ◌+◌, ◌%◌, ◌^◌, ◌<◌, ◌≤◌, ◌-ℤ◌, pos, ℤ, List, [], ◌∷◌, Some}
use Rattle.rv_isa.specs.Registers as register
use Rattle.rv_isa.specs.Registers.{xlen}
use Rattle.rv_isa.specs.Words.{Spells, instruction_size}
use Rattle.rv_isa.specs.declared.instruction.Instr.{Instr}
use Rattle.rv_isa.specs.declared.instruction.Instr.TheVariants as isa
use Rattle.rv_steps.specs.Memory.{read}
use Rattle.rv_steps.specs.Machine.{Reg, X0, Ra, Sp, T1, A0, A1, A7, S10, S11, Op, Lui, Addi, Xori, Sltiu, Slli, Add, Sub, Mul, Div, Rem, And, Or, Xor, Sll, Srl, Sra, Slt, Sltu, Lw, Sw, Beq, Bne, Bltu, Bgeu, Jal, Jalr, Ecall, Image}

-- a register's number
abbrev pub number : Reg → ℕ
number X0 = register.zero
number Ra = register.ra
number Sp = register.sp
number T1 = register.t1
number A0 = register.a0
number A1 = register.a1
number A7 = register.a7
number S10 = register.s10
number S11 = register.s11

-- how far it is from one address to another
abbrev pub distance : ℕ → ℕ → ℤ
distance from to = pos to -ℤ pos from

-- the instruction that stands at an address p
abbrev pub lower : ℕ → Op → Instr
lower p (Lui rd n) = isa.Lui (number rd) (pos n)
lower p (Addi rd rs n) = isa.Addi (number rd) (number rs) n
lower p (Xori rd rs n) = isa.Xori (number rd) (number rs) n
lower p (Sltiu rd rs n) = isa.Sltiu (number rd) (number rs) n
lower p (Slli rd rs n) = isa.Slli (number rd) (number rs) (pos n)
lower p (Add rd r s) = isa.Add (number rd) (number r) (number s)
lower p (Sub rd r s) = isa.Sub (number rd) (number r) (number s)
lower p (Mul rd r s) = isa.Mul (number rd) (number r) (number s)
lower p (Div rd r s) = isa.Div (number rd) (number r) (number s)
lower p (Rem rd r s) = isa.Rem (number rd) (number r) (number s)
lower p (And rd r s) = isa.And (number rd) (number r) (number s)
lower p (Or rd r s) = isa.Or (number rd) (number r) (number s)
lower p (Xor rd r s) = isa.Xor (number rd) (number r) (number s)
lower p (Sll rd r s) = isa.Sll (number rd) (number r) (number s)
lower p (Srl rd r s) = isa.Srl (number rd) (number r) (number s)
lower p (Sra rd r s) = isa.Sra (number rd) (number r) (number s)
lower p (Slt rd r s) = isa.Slt (number rd) (number r) (number s)
lower p (Sltu rd r s) = isa.Sltu (number rd) (number r) (number s)
lower p (Lw rd base n) = isa.Lw (number rd) (number base) n
lower p (Sw r base n) = isa.Sw (number base) (number r) n
lower p (Beq r s target) = isa.Beq (number r) (number s) (distance p target)
lower p (Bne r s target) = isa.Bne (number r) (number s) (distance p target)
lower p (Bltu r s target) = isa.Bltu (number r) (number s) (distance p target)
lower p (Bgeu r s target) = isa.Bgeu (number r) (number s) (distance p target)
lower p (Jal rd target) = isa.Jal (number rd) (distance p target)
lower p (Jalr rd rs n) = isa.Jalr (number rd) (number rs) n
lower p Ecall = isa.Ecall

-- a place that a branch or a jump can go to
abbrev pub IsPlace : ℕ → Type 0
IsPlace target = (target % instruction_size ≡ 0) × (target < 2 ^ xlen)

abbrev pub Reaches : Op → Type 0
Reaches (Beq r s target) = IsPlace target
Reaches (Bne r s target) = IsPlace target
Reaches (Bltu r s target) = IsPlace target
Reaches (Bgeu r s target) = IsPlace target
Reaches (Jal rd target) = IsPlace target
Reaches _ = Unit {0}

-- the word at p is that of this instruction
pub record Stands (mem : List ℕ) (low p : ℕ) (op : Op) : Type 0 where
  pub aligned : p % instruction_size ≡ 0
  pub inside : p + instruction_size ≤ low
  pub spells : Spells (lower p op) (read mem p)
  pub reaches : Reaches op

-- The code of the image stands in memory, below the read-only end.
pub record CodeIn {W E : Type 0} (im : Image W E) (mem : List ℕ) : Type 0 where
  pub stands : (p : ℕ) (op : Op) → im.fetch p ≡ Some op → Stands mem im.low p op
  pub low_fits : im.low < 2 ^ xlen

-- these words spell these instructions, the first at an address p
abbrev pub SpellsAll : ℕ → List Op → List ℕ → Type 0
SpellsAll p [] [] = Unit {0}
SpellsAll p [] (w ∷ ws) = ⊥
SpellsAll p (op ∷ ops) [] = ⊥
SpellsAll p (op ∷ ops) (w ∷ ws) = Spells (lower p op) w × Reaches op × SpellsAll (p + instruction_size) ops ws

-- these words stand in memory from an address on
abbrev pub WordsIn : List ℕ → ℕ → List ℕ → Type 0
WordsIn mem p [] = Unit {0}
WordsIn mem p (w ∷ ws) = (read mem p ≡ w) × WordsIn mem (p + instruction_size) ws

-- Which words stand where, for items in given forms.
use Rattle.std.specs.Prelude.{ℕ, ◌+◌, ◌*◌, ℤ, pos, List, [], ◌∷◌, ◌++◌}
use Rattle.std.specs.List.{All, AllZip}
use Rattle.rv_isa.specs.declared.instruction.Instr.{Instr}
use Rattle.rv_isa.specs.declared.instruction.Instr.TheVariants.{Jal, Beq, Bne, Blt, Bge, Bltu, Bgeu}
use Rattle.rv_isa.specs.Registers.{IsRegister, zero}
use Rattle.rv_isa.specs.Words.{InRange, instruction_size, Spells}
use Rattle.bcj_asm.specs.declared.item.Item.{Item}
use Rattle.bcj_asm.specs.declared.item.Item.TheVariants.{Word, Jump, Branch, Place}
use Rattle.bcj_asm.specs.declared.forms.Form.{Form}
use Rattle.bcj_asm.specs.declared.forms.Form.TheVariants.{Short, Long}
use Rattle.bcj_asm.specs.declared.forms.Formed.{Formed}
use Rattle.bcj_asm.specs.Forms.{formed, size, target_in, distance}

-- the most words that code may have: a JAL reaches each from each
abbrev pub max_words : ℕ
max_words = 200000

-- ---- conditions

abbrev pub IsBranch : Instr → Type 0
IsBranch (Beq a b imm) = Unit {0}
IsBranch (Bne a b imm) = Unit {0}
IsBranch (Blt a b imm) = Unit {0}
IsBranch (Bge a b imm) = Unit {0}
IsBranch (Bltu a b imm) = Unit {0}
IsBranch (Bgeu a b imm) = Unit {0}
IsBranch _ = ⊥

-- the registers and immediates of an item are in range, and what branches is a conditional branch
abbrev pub IsItem : Item → Type 0
IsItem (Word i) = InRange i
IsItem (Jump rd to) = IsRegister rd
IsItem (Branch i to) = IsBranch i × InRange i
IsItem (Place l) = Unit {0}

abbrev pub AreItems : List Item → Type 0
AreItems items = All IsItem items

-- ---- words

-- over the next instruction, in bytes
abbrev pub over_next : ℤ
over_next = pos (2 * instruction_size)

-- a branch with another immediate
abbrev pub aimed : Instr → ℤ → Instr
aimed (Beq a b imm) z = Beq a b z
aimed (Bne a b imm) z = Bne a b z
aimed (Blt a b imm) z = Blt a b z
aimed (Bge a b imm) z = Bge a b z
aimed (Bltu a b imm) z = Bltu a b z
aimed (Bgeu a b imm) z = Bgeu a b z
aimed i z = i

-- the branch that is taken exactly where this one isn't
abbrev pub opposite : Instr → Instr
opposite (Beq a b imm) = Bne a b imm
opposite (Bne a b imm) = Beq a b imm
opposite (Blt a b imm) = Bge a b imm
opposite (Bge a b imm) = Blt a b imm
opposite (Bltu a b imm) = Bgeu a b imm
opposite (Bgeu a b imm) = Bltu a b imm
opposite i = i

abbrev pub branch_by : Form → Instr → ℕ → ℕ → List Instr
branch_by Short i here to = aimed i (distance here to) ∷ []
branch_by Long i here to = aimed (opposite i) over_next ∷ Jal zero (distance (here + 1) to) ∷ []

-- the instructions of an item at a place, where labels lead to these places
abbrev pub emitted : (ℕ → ℕ) → ℕ → Form → Item → List Instr
emitted target here f (Word i) = i ∷ []
emitted target here f (Jump rd to) = Jal rd (distance here (target to.0)) ∷ []
emitted target here f (Branch i to) = branch_by f i here (target to.0)
emitted target here f (Place l) = []

abbrev pub all_emitted : (ℕ → ℕ) → ℕ → List Formed → List Instr
all_emitted target here [] = []
all_emitted target here (x ∷ xs) =
    emitted target here x.form x.item ++ all_emitted target (here + size x.form x.item) xs

abbrev pub instructions_of : List Formed → List Instr
instructions_of xs = all_emitted (target_in xs) 0 xs

-- word by word, the code spells the instructions of the items
abbrev pub Assembles : List Item → List ℕ → Type 0
Assembles items code = AllZip Spells (instructions_of (formed items)) code

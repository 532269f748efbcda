-- Each jump and branch of assembled code reaches its label.
use Rattle.std.specs.Prelude.{◌≡◌, ℕ, ◌+◌, ◌*◌, ◌<◌, ◌≤◌, ◌↔◌, ℤ, pos, ◌+ℤ◌, ◌<ℤ◌, ◌≤ℤ◌, List, [], ◌∷◌, ◌++◌, length, Some, slice_get, IsTrue}
use Rattle.std.specs.Int.{w32, cast_signed}
use Rattle.rv_isa.specs.declared.instruction.Instr.{Instr}
use Rattle.rv_isa.specs.declared.instruction.Instr.TheVariants.{Jal, Beq, Bne, Blt, Bge, Bltu, Bgeu}
use Rattle.rv_isa.specs.Branches.{is_taken}
use Rattle.rv_isa.specs.Registers.{zero}
use Rattle.rv_isa.specs.Words.{instruction_size, Spells}
use Rattle.bcj_asm.specs.declared.item.Item.{Item}
use Rattle.bcj_asm.specs.declared.item.Item.TheVariants.{Word, Jump, Branch, Place}
use Rattle.bcj_asm.specs.declared.item.Label.{Label}
use Rattle.bcj_asm.specs.declared.forms.Form.{Form}
use Rattle.bcj_asm.specs.declared.forms.Form.TheVariants.{Short, Long}
use Rattle.bcj_asm.specs.declared.forms.Formed.{Formed}
use Rattle.bcj_asm.specs.Forms.{in_form, formed, sizes, places_of}
use Rattle.bcj_asm.specs.Assembly.{Assembles, IsBranch, aimed, opposite, over_next}

-- the word at a place is that of an instruction
pub record Stands (code : List ℕ) (place : ℕ) (i : Instr) : Type 0 where
  pub w : ℕ
  pub there : slice_get code place ≡ Some w
  pub spells : Spells i w

-- the word at a place is that of a JAL whose target address is that of another place
pub record JumpsTo (code : List ℕ) (rd here to : ℕ) : Type 0 where
  pub imm : ℤ
  pub stands : Stands code here (Jal rd imm)
  pub target : pos (instruction_size * here) +ℤ imm ≡ pos (instruction_size * to)

-- the word at a place is that of a branch whose target address is that of another place
pub record BranchesAtOnce (code : List ℕ) (i : Instr) (here to : ℕ) : Type 0 where
  pub imm : ℤ
  pub stands : Stands code here (aimed i imm)
  pub target : pos (instruction_size * here) +ℤ imm ≡ pos (instruction_size * to)

-- at a place stands the opposite branch to the instruction behind the next, which is a JAL to another place
pub record BranchesOver (code : List ℕ) (i : Instr) (here to : ℕ) : Type 0 where
  pub passes : Stands code here (aimed (opposite i) over_next)
  pub jumps : JumpsTo code zero (here + 1) to

-- a short branch goes to the other place itself, and a long one by a jump
abbrev pub BranchesTo : Form → List ℕ → Instr → ℕ → ℕ → Type 0
BranchesTo Short code i here to = BranchesAtOnce code i here to
BranchesTo Long code i here to = BranchesOver code i here to

abbrev pub PlacesNot : ℕ → Item → Type 0
PlacesNot l (Word i) = Unit {0}
PlacesNot l (Jump rd to) = Unit {0}
PlacesNot l (Branch i to) = Unit {0}
PlacesNot l (Place m) = l ≡ m.0 → ⊥

-- no item places the label
abbrev pub Unplaced : ℕ → List Formed → Type 0
Unplaced l [] = Unit {0}
Unplaced l (x ∷ xs) = PlacesNot l x.item × Unplaced l xs

-- the items without their forms
abbrev pub items_in : List Formed → List Item
items_in [] = []
items_in (x ∷ xs) = x.item ∷ items_in xs

-- what stands at the place of an item, where a label stands behind some of the items and isn't placed again
pub record Reaches (items : List Item) (code : List ℕ) : Type 0 where
  pub same : items_in (formed items) ≡ items
  pub len : length code ≡ sizes (formed items)
  pub place : (front back : List Formed) (x : Formed) → formed items ≡ front ++ x ∷ back
      → slice_get (places_of items) (length front) ≡ Some (sizes front)
  pub word : (front back : List Formed) (f : Form) (i : Instr) → formed items ≡ front ++ in_form f (Word i) ∷ back
      → Stands code (sizes front) i
  pub jump : (front back before behind : List Formed) (f g : Form) (rd : ℕ) (to : Label)
      → formed items ≡ front ++ in_form f (Jump rd to) ∷ back → formed items ≡ before ++ in_form g (Place to) ∷ behind
      → Unplaced to.0 behind → JumpsTo code rd (sizes front) (sizes before)
  pub branch : (front back before behind : List Formed) (f g : Form) (i : Instr) (to : Label)
      → formed items ≡ front ++ in_form f (Branch i to) ∷ back → formed items ≡ before ++ in_form g (Place to) ∷ behind
      → Unplaced to.0 behind → BranchesTo f code i (sizes front) (sizes before)

abbrev pub LabelsAreReached : Type 0
LabelsAreReached = (items : List Item) (code : List ℕ) → Assembles items code → Reaches items code

-- whether a branch is taken at the values of its two registers: RISC-V Instruction Set Manual, volume I, "Conditional Branches"
abbrev pub Taken : Instr → ℕ → ℕ → Type 0
Taken (Beq r s imm) a b = a ≡ b
Taken (Bne r s imm) a b = a ≡ b → ⊥
Taken (Blt r s imm) a b = cast_signed w32 a <ℤ cast_signed w32 b
Taken (Bge r s imm) a b = cast_signed w32 b ≤ℤ cast_signed w32 a
Taken (Bltu r s imm) a b = a < b
Taken (Bgeu r s imm) a b = b ≤ a
Taken _ a b = ⊥

-- the registers that a branch compares
abbrev pub compared : Instr → ℕ × ℕ
compared (Beq r s imm) = (r, s)
compared (Bne r s imm) = (r, s)
compared (Blt r s imm) = (r, s)
compared (Bge r s imm) = (r, s)
compared (Bltu r s imm) = (r, s)
compared (Bgeu r s imm) = (r, s)
compared _ = (0, 0)

-- a branch and its opposite
pub record Opposes (j i : Instr) : Type 0 where
  pub registers : compared j ≡ compared i
  pub taken : (a b : ℕ) → Taken j a b ↔ (Taken i a b → ⊥)

-- a branch is taken where the machine's test of its two registers says so
abbrev pub TakenIsTested : Type 0
TakenIsTested = (i : Instr) → IsBranch i → (a b : ℕ) → IsTrue (is_taken i a b) ↔ Taken i a b

abbrev pub OppositeIsTakenElse : Type 0
OppositeIsTakenElse = (i : Instr) → IsBranch i → (z : ℤ) → Opposes (aimed (opposite i) z) i

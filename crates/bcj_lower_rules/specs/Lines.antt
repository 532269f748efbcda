-- The lines of a method's code: items for the assembler, with the addresses in their immediates that aren't known before linking.
use Rattle.std.specs.Prelude.{ℕ, pos, List, [], ◌∷◌, Option, Some, None}
use Rattle.rv_isa.specs.declared.instruction.Instr.{Instr}
use Rattle.rv_isa.specs.declared.instruction.Instr.TheVariants as instr
use Rattle.rv_isa.specs.Registers.{zero, a0}
use Rattle.bcj_asm.specs.declared.item.Item.{Item}
use Rattle.bcj_asm.specs.declared.item.Item.TheVariants as item
use Rattle.bcj_asm.specs.declared.item.Label.{Label}
use Rattle.bcj_symbolic_measure.specs.Entries.{PlainEntry}
use Rattle.bcj_lower_rules.specs.declared.half.Half.{Half}

-- the first address of the class's own table region, and that of an entry in it
pub data Address : Type 0 where
  region : Address
  entry : PlainEntry → Address

-- the immediate becomes this half of this address (RISC-V psABI, "Relocations")
pub record Relocated : Type 0 where
  pub half : Half
  pub address : Address

pub record Line : Type 0 where
  pub item : Item
  pub relocated : Option Relocated

-- the items alone
abbrev pub items_of : List Line → List Item
items_of [] = []
items_of (l ∷ ls) = l.item ∷ items_of ls

-- ---- lines of one item each

-- an instruction as it stands
abbrev pub word : Instr → Line
word i = record { item = item.Word i; relocated = None }

-- instructions as they stand
abbrev pub words : List Instr → List Line
words [] = []
words (i ∷ is) = word i ∷ words is

-- an instruction whose immediate is the half of an address
abbrev pub with_half : Half → Address → Instr → Line
with_half h a i = record { item = item.Word i; relocated = Some (record { half = h; address = a }) }

-- the label of this number
abbrev pub label : ℕ → Label
label l = record { 0 = l }

-- a label stands here
abbrev pub place : ℕ → List Line
place l = record { item = item.Place (label l); relocated = None } ∷ []

-- a jump to a label
abbrev pub jump : ℕ → List Line
jump l = record { item = item.Jump zero (label l); relocated = None } ∷ []

-- a branch to a label where a0 is 0
abbrev pub jump_if_zero : ℕ → List Line
jump_if_zero l = record { item = item.Branch (instr.Beq a0 zero (pos 0)) (label l); relocated = None } ∷ []

-- a branch to a label where a0 isn't 0
abbrev pub jump_unless_zero : ℕ → List Line
jump_unless_zero l = record { item = item.Branch (instr.Bne a0 zero (pos 0)) (label l); relocated = None } ∷ []

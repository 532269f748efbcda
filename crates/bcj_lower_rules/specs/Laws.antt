-- What holds of the lines of a class.
use Rattle.std.specs.Prelude.{◌≡◌, ℕ, ◌+◌, ◌==◌, ℤ, pos, negsuc, Bool, true, false, List, [], ◌∷◌, Option, Some, None, if◌then◌else◌}
use Rattle.rv_isa.specs.declared.instruction.Instr.{Instr}
use Rattle.rv_isa.specs.declared.instruction.Instr.TheVariants as instr
use Rattle.bcj_asm.specs.declared.item.Item.{Item}
use Rattle.bcj_asm.specs.declared.item.Item.TheVariants as item
use Rattle.bcj_symbolic_trees.specs.Units.{PlainMethod, PlainClass}
use Rattle.bcj_symbolic_check.specs.Classes.{is_abstract}
use Rattle.bcj_symbolic_measure.specs.Bodies.{words, method_pieces, init_pieces}
use Rattle.bcj_lower_rules.specs.declared.half.Half.{Half}
use Rattle.bcj_lower_rules.specs.declared.half.Half.TheVariants as half
use Rattle.bcj_lower_rules.specs.Lines.{Relocated, Line}
use Rattle.bcj_lower_rules.specs.Bodies.{long_words, method_lines, init_lines}

-- with all jumps long the code of each method, and of the class initialiser, has as many words as are measured
pub record LongIsMeasured : Type 0 where
  pub methods : (c : PlainClass) (m : PlainMethod) → is_abstract m.kind ≡ false → long_words (method_lines c m) ≡ words (method_pieces c m)
  pub initialiser : (c : PlainClass) → long_words (init_lines c) ≡ words (init_pieces c)

-- ---- what linking sets

abbrev pub is_zero : ℤ → Bool
is_zero (pos n) = n == 0
is_zero (negsuc n) = false

-- an instruction has room for the half of an address, and an immediate of zero there: a LUI for the upper half, an ADDI or a LW
-- for the lower one
abbrev pub has_room : Half → Instr → Bool
has_room half.Upper (instr.Lui rd imm) = is_zero imm
has_room half.Lower (instr.Addi rd rs imm) = is_zero imm
has_room half.Lower (instr.Lw rd rs imm) = is_zero imm
has_room _ _ = false

abbrev pub item_has_room : Half → Item → Bool
item_has_room h (item.Word i) = has_room h i
item_has_room h _ = false

abbrev pub is_placed : Item → Option Relocated → Bool
is_placed i None = true
is_placed i (Some r) = item_has_room r.half i

abbrev pub fault : Line → ℕ
fault l = if is_placed l.item l.relocated then 0 else 1

-- how many lines have a half of an address where there is no room for it
unfoldable pub misplaced : List Line → ℕ
misplaced [] = 0
misplaced (l ∷ ls) = fault l + misplaced ls

-- none has
pub record HalvesArePlaced : Type 0 where
  pub methods : (c : PlainClass) (m : PlainMethod) → misplaced (method_lines c m) ≡ 0
  pub initialiser : (c : PlainClass) → misplaced (init_lines c) ≡ 0

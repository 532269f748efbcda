-- Words and instructions are one to one.
use Rattle.std.specs.Prelude.{◌≡◌, ◌⊎◌, ℕ}
use Rattle.rv_isa.specs.declared.instruction.Instr.{Instr}
use Rattle.rv_isa.specs.Words.{Spells}

-- a word is that of one instruction at most
abbrev pub SpelledOnce : Type 0
SpelledOnce = (i j : Instr) (w : ℕ) → Spells i w → Spells j w → i ≡ j

-- some instruction has the word, or none has
abbrev pub SpelledOrNot : Type 0
SpelledOrNot = (w : ℕ) → ((i : Instr) × Spells i w) ⊎ ((i : Instr) → Spells i w → ⊥)

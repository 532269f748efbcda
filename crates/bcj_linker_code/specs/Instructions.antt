-- The words of instructions.
use Rattle.std.specs.Prelude.{ℕ, List, [], ◌∷◌, map}
use Rattle.rv_isa.specs.declared.instruction.Instr.{Instr}
use Rattle.rv_isa.specs.Words.{InRange, word_of, fields_of}

abbrev pub AreInRange : List Instr → Type 0
AreInRange [] = Unit {0}
AreInRange (i ∷ is) = InRange i × AreInRange is

unfoldable pub encoded : List Instr → List ℕ
encoded is = map (λ i. word_of (fields_of i)) is

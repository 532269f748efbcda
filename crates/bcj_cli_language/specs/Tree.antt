-- Programs as plain data: what definitions and proofs recurse on.
use Rattle.std.specs.Prelude.{ℕ, List, [], ◌∷◌}
use Rattle.bcj_cli_language.specs.declared.tree.Operator.{Operator}
use Rattle.bcj_cli_language.specs.declared.tree.Comparison.{Comparison}

-- an expression; a local goes by the bytes of its name
pub data Sum : Type 0 where
  number : ℕ → Sum
  local : List ℕ → Sum
  binary : Operator → Sum → Sum → Sum

-- a comparison of two expressions
pub record Test : Type 0 where
  pub comparison : Comparison
  pub left : Sum
  pub right : Sum

-- a statement, and the statements of a block
mutual
  pub data Act : Type 0 where
    print : Sum → Act
    declare : List ℕ → Sum → Act
    assign : List ℕ → Sum → Act
    choose : Test → Acts → Acts → Act
    repeat : Test → Acts → Act

  pub data Acts : Type 0 where
    nil : Acts
    cons : Act → Acts → Acts

abbrev pub acts : List Act → Acts
acts [] = nil
acts (a ∷ as') = cons a (acts as')

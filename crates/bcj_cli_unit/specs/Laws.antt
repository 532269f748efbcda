-- What holds of every unit.
use Rattle.std.specs.Prelude.{◌≡◌, ℕ, List, None}
use Rattle.bcj_cli_language.specs.Tree.{Acts}
use Rattle.bcj_cli_language.specs.Bounds.{IsBounded}
use Rattle.bcj_parser_trees.specs.Trees.{PlainUnit}
use Rattle.bcj_cli_unit.specs.Program.{IsProgramOf}
use Rattle.bcj_cli_unit.specs.Lacking.{first_lacking}

-- A unit is a program exactly where no node of it is lacking, and one program at most.
pub record Fitting (main : List ℕ) (unit : PlainUnit) : Type 0 where
  pub fits : (p : Acts) → IsProgramOf main unit p → first_lacking main unit ≡ None
  pub program : first_lacking main unit ≡ None → (p : Acts) × IsProgramOf main unit p
  pub one : (p q : Acts) → IsProgramOf main unit p → IsProgramOf main unit q → p ≡ q

abbrev pub ProgramsAreTheFittingUnits : Type 0
ProgramsAreTheFittingUnits = (main : List ℕ) (unit : PlainUnit) → Fitting main unit

abbrev pub EachIsBounded : Type 0
EachIsBounded = (main : List ℕ) (unit : PlainUnit) (p : Acts) → IsProgramOf main unit p → IsBounded p

-- Which symbolic unit one of several sources becomes, each of them seen by the others.
use Rattle.std.specs.Prelude.{ℕ, List}
use Rattle.std.specs.List.{AllZip}
use Rattle.bcj_parser_trees.specs.Trees as source
use Rattle.bcj_decl_rules.specs.Faults.{IsDeclared}
use Rattle.bcj_symbolic_trees.specs.Units.{PlainUnit}
use Rattle.bcj_typing_rules.specs.Units.{Elaborates}
use Rattle.bcj_object_rules.specs.Sizes.{IsSmall}
use Rattle.bcj_cli_compile.specs.Texts.{Parses}

-- `accepted`: each source is a unit, nothing is refused of what they declare, and the one with the number `own` becomes `u`, no
-- number of which passes its limit
pub record Accepted (sources : List (List ℕ)) (own : ℕ) (u : PlainUnit) : Type 0 where
  pub units : List source.PlainUnit
  pub parsed : AllZip Parses sources units
  pub declared : IsDeclared units
  pub elaborates : Elaborates units own u
  pub small : IsSmall u

-- the source becomes no symbolic unit
abbrev pub AcceptsNone : List (List ℕ) → ℕ → Type 0
AcceptsNone sources own = (u : PlainUnit) → Accepted sources own u → ⊥

-- What begins as a declaration of locals or as an expression, read as far as it takes to see which.
use Rattle.std.specs.Prelude.{ℕ, zero, suc, List, Ok, if◌then◌else◌}
use Rattle.bcj_parser_trees.specs.declared.names.Base.TheVariants as base
use Rattle.bcj_parser_rules.specs.declared.kind.Mark.TheVariants as mark
use Rattle.bcj_parser_rules.specs.declared.kind.TypeBeginning.{TypeBeginning}
use Rattle.bcj_parser_rules.specs.declared.kind.TypeBeginning.TheVariants as typed
use Rattle.bcj_parser_rules.specs.declared.stop.Site.{Site}
use Rattle.bcj_parser_rules.specs.function.Kinds.{type_beginning}
use Rattle.bcj_parser_rules.specs.function.Steps.{Parser, ◌>>=◌, pure, deep, look, here, skip, taken, sees}
use Rattle.bcj_parser_rules.specs.function.Expressions.{Begin, fresh, behind_name, behind_bracket}
use Rattle.bcj_parser_rules.specs.function.Statements.{Nodes, locals_of_type, typed_locals, array_locals}

pub data Opening : Type 0 where
  declared : Nodes → Opening
  begun : Begin → Opening

abbrev pub declaration : Parser Nodes → Parser Opening
declaration p = p >>= λ x. pure (declared x)

unfoldable pub bracket_opening : ℕ → Site → ℕ → List ℕ → Parser Opening
bracket_opening zero w at x = deep
bracket_opening (suc n) w at x = skip (λ i. if sees mark.RightBracket i then skip (declaration (array_locals n w at x)) i else (Ok (begun (behind_bracket at x)), i))

unfoldable pub named_opening : ℕ → Site → ℕ → List ℕ → Parser Opening
named_opening n w at x = λ i.
    if sees mark.Identifier i then declaration (locals_of_type n w at (record { base = base.Named x; dims = 0 })) i
    else (if sees mark.LeftBracket i then bracket_opening n w at x i else (Ok (begun (behind_name at x)), i))

abbrev pub opening_by : ℕ → Site → ℕ → TypeBeginning → Parser Opening
opening_by n w at typed.Int = declaration (typed_locals n w at)
opening_by n w at typed.Bool = declaration (typed_locals n w at)
opening_by n w at typed.Name = taken (λ t. named_opening n w at t.word)
opening_by n w at typed.Nothing = pure (begun fresh)

unfoldable pub local_opening : ℕ → Site → Parser Opening
local_opening n w = here (λ at. look (λ k. opening_by n w at (type_beginning k)))

-- how the reading goes on
abbrev pub resumed : (Begin → Parser Nodes) → Opening → Parser Nodes
resumed evaluation (declared x) = pure x
resumed evaluation (begun b) = evaluation b

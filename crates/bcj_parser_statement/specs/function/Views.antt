-- What is read of an opening, in plain form.
use Rattle.std.specs.Prelude.{ℕ, ◌≤◌, map}
use Rattle.bcj_parser_trees.specs.Plain.{stmt_of}
use Rattle.bcj_parser_expression.specs.function.Begin.{begin_of}
use Rattle.bcj_parser_statement.specs.declared.opening.Opening as code
use Rattle.bcj_parser_statement.specs.declared.opening.Opening.TheVariants as opening
use Rattle.bcj_parser_statement.specs.function.Openings.{Opening, declared, begun}

abbrev pub opening_of : code.Opening → Opening
opening_of (opening.Declared nodes high) = declared (map stmt_of nodes.items, high)
opening_of (opening.Begun b) = begun (begin_of b)

abbrev pub IsLow : ℕ → code.Opening → Type 0
IsLow n (opening.Declared nodes high) = high ≤ n
IsLow n (opening.Begun b) = Unit {0}

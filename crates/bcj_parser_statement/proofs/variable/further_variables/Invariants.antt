use Rattle.std.proofs.Common.{◌≡◌, ◌-◌, ◌≤◌, map, length}
use Rattle.bcj_parser_rules.specs.function.Expressions.{separated, expression}
use Rattle.bcj_parser_rules.specs.function.Statements.{further_variable}
use Rattle.bcj_parser_statement.specs.function.Variables.{variable_of}
use Rattle.bcj_parser_statement.proofs.variable.further_variables.Given as goal

abbrev pub invariant-loop-turn : goal.invariant-loop-turn
invariant-loop-turn l = record {
  low : l.high ≤ l.room;
  reads : separated (further_variable (expression l.room)) (length l.fn.cursor) (map variable_of l.fn.found.items) l.fn.high l.fn.cursor ≡ separated (further_variable (expression l.room)) (l._turn-end - l._turn) (map variable_of l.found.items) l.high l.cursor;
}

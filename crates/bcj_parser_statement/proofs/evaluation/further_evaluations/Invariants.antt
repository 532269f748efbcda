use Rattle.std.proofs.Common.{◌≡◌, ◌-◌, ◌≤◌, map, length}
use Rattle.bcj_parser_trees.specs.Plain.{expr_of}
use Rattle.bcj_parser_rules.specs.declared.stop.Site.TheVariants as site
use Rattle.bcj_parser_rules.specs.function.Expressions.{separated, statement_expression, fresh}
use Rattle.bcj_parser_statement.proofs.evaluation.further_evaluations.Given as goal

abbrev pub invariant-loop-turn : goal.invariant-loop-turn
invariant-loop-turn l = record {
  low : l.high ≤ l.room;
  reads : separated (statement_expression l.room fresh site.Elsewhere) (length l.fn.cursor) (map expr_of l.fn.found.items) l.fn.high l.fn.cursor ≡ separated (statement_expression l.room fresh site.Elsewhere) (l._turn-end - l._turn) (map expr_of l.found.items) l.high l.cursor;
}

use Rattle.std.proofs.Common.{◌≡◌, ◌-◌, ◌≤◌, map, length}
use Rattle.bcj_parser_trees.specs.Plain.{stmt_of}
use Rattle.bcj_parser_rules.specs.function.Expressions.{many}
use Rattle.bcj_parser_rules.specs.function.Statements.{block_statement, statement, is_inside}
use Rattle.bcj_parser_statement.proofs.grammar.Grammar.statements_from.Given as goal

abbrev pub invariant-loop-turn : goal.invariant-loop-turn
invariant-loop-turn g l = record {
  low : l.high ≤ l.self.room;
  reads : many is_inside (block_statement l.self.room (statement l.self.room)) (length l.fn.cursor) (map stmt_of l.fn.found.items) l.fn.high l.fn.cursor
      ≡ many is_inside (block_statement l.self.room (statement l.self.room)) (l._turn-end - l._turn) (map stmt_of l.found.items) l.high l.cursor;
}

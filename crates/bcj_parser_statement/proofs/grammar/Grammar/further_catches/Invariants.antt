use Rattle.std.proofs.Common.{◌≡◌, ◌-◌, ◌≤◌, map, length}
use Rattle.bcj_parser_trees.specs.Plain.{catch_of}
use Rattle.bcj_parser_rules.specs.declared.kind.Mark.TheVariants as mark
use Rattle.bcj_parser_rules.specs.Marks.{is_mark}
use Rattle.bcj_parser_rules.specs.function.Expressions.{many}
use Rattle.bcj_parser_rules.specs.function.Statements.{catch_clause, statement}
use Rattle.bcj_parser_statement.proofs.grammar.Grammar.further_catches.Given as goal

abbrev pub invariant-loop-turn : goal.invariant-loop-turn
invariant-loop-turn g l = record {
  low : l.high ≤ l.self.room;
  reads : many (is_mark mark.Catch) (catch_clause l.self.room (statement l.self.room)) (length l.fn.cursor) (map catch_of l.fn.found.items) l.fn.high l.fn.cursor
      ≡ many (is_mark mark.Catch) (catch_clause l.self.room (statement l.self.room)) (l._turn-end - l._turn) (map catch_of l.found.items) l.high l.cursor;
}

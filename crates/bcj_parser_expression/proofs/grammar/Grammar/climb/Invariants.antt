use Rattle.std.proofs.Common.{◌≡◌, ◌-◌, ◌+◌, ◌≤◌, suc}
use Rattle.bcj_parser_trees.specs.Plain.{expr_of}
use Rattle.bcj_parser_rules.specs.function.Expressions.{climb, expression}
use Rattle.bcj_parser_expression.proofs.grammar.Grammar.climb.Given as goal

abbrev pub invariant-loop-turn : goal.invariant-loop-turn
invariant-loop-turn g l =
    (climb l.self.room (expression l.self.room) (suc l.self.room) l.least l.at (expr_of l.fn.left, l.fn.high) l.fn.cursor ≡ climb l.self.room (expression l.self.room) (l._turn-end - l._turn) l.least l.at (expr_of l.left, l.high) l.cursor)
    × (l.high ≤ l.self.room + 1)

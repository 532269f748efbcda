use Rattle.std.proofs.Common.{◌≡◌, ◌-◌, ◌≤◌, map, length}
use Rattle.bcj_parser_trees.specs.Plain.{expr_of}
use Rattle.bcj_parser_rules.specs.function.Expressions.{separated, expression, fresh}
use Rattle.bcj_parser_expression.proofs.grammar.Grammar.separated.Given as goal

abbrev pub invariant-loop-turn : goal.invariant-loop-turn
invariant-loop-turn g l =
    (separated (expression l.self.room fresh 1) (length l.fn.cursor) (map expr_of l.fn.found) l.fn.high l.fn.cursor ≡ separated (expression l.self.room fresh 1) (l._turn-end - l._turn) (map expr_of l.found) l.high l.cursor)
    × (l.high ≤ l.self.room)

use Rattle.std.proofs.Common.{◌≡◌, length, ◌-◌}
use Rattle.bcj_parser_rules.specs.function.Declarations as rule
use Rattle.bcj_parser_declaration.proofs.modifiers.modifiers.Given as goal

abbrev pub invariant-loop-turn : goal.invariant-loop-turn
invariant-loop-turn l = rule.modifiers (length l.fn.cursor) l.fn.before l.fn.cursor ≡ rule.modifiers (l._turn-end - l._turn) l.found l.cursor

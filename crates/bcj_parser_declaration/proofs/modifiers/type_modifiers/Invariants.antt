use Rattle.std.proofs.Common.{◌≡◌, length, false, ◌-◌}
use Rattle.bcj_parser_rules.specs.function.Declarations as rule
use Rattle.bcj_parser_declaration.proofs.modifiers.type_modifiers.Given as goal

abbrev pub invariant-loop-turn : goal.invariant-loop-turn
invariant-loop-turn l = rule.type_modifiers (length l.fn.cursor) false l.fn.cursor ≡ rule.type_modifiers (l._turn-end - l._turn) l.is_abstract l.cursor

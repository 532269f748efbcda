use Rattle.std.proofs.Common.{◌≡◌, ◌≤◌, ◌-◌}
use Rattle.bcj_parser_rules.specs.function.Expressions.{separated, listed}
use Rattle.bcj_parser_rules.specs.function.Declarations.{parameter}
use Rattle.bcj_parser_declaration.proofs.parameters.some_parameters.Given as goal

abbrev pub invariant-loop-turn : goal.invariant-loop-turn
invariant-loop-turn l = (listed (parameter l.room) (parameter l.room) l.fn.cursor ≡ separated (parameter l.room) (l._turn-end - l._turn) l.found.items l.high l.cursor) × (l.high ≤ l.room)

use Rattle.std.proofs.Common.{◌≡◌, ◌+◌, ◌-◌, ◌≤◌, [], length, map}
use Rattle.bcj_parser_trees.specs.Plain.{member_of}
use Rattle.bcj_parser_rules.specs.function.Expressions.{many}
use Rattle.bcj_parser_rules.specs.function.Statements.{is_inside}
use Rattle.bcj_parser_rules.specs.function.Declarations.{member}
use Rattle.bcj_parser_declaration.proofs.member.Grammar.inside.Given as goal

abbrev pub invariant-loop-turn : goal.invariant-loop-turn
invariant-loop-turn l =
    (many is_inside (member l.self.room l.self.interface) (length l.fn.cursor) [] 0 l.fn.cursor ≡ many is_inside (member l.self.room l.self.interface) (l._turn-end - l._turn) (map member_of l.found.items) l.high l.cursor)
    × (l.high ≤ l.self.room + 2)

use Rattle.std.proofs.Common.{◌≡◌, ◌+◌, ◌-◌, ◌≤◌, [], length, map}
use Rattle.bcj_parser_trees.specs.Plain.{type_of}
use Rattle.bcj_parser_rules.specs.function.Declarations.{levels_above, types_from}
use Rattle.bcj_parser_declaration.proofs.units.unit.Given as goal

abbrev pub invariant-loop-turn : goal.invariant-loop-turn
invariant-loop-turn l =
    (types_from l.room (length l.fn.cursor) l.fn.limit [] 0 l.fn.cursor ≡ types_from l.room (l._turn-end - l._turn) l.left (map type_of l.found.items) l.high l.cursor)
    × (l.high ≤ l.room + levels_above)

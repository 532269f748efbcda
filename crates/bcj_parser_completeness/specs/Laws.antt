-- The parser as a function reads each text that the grammar derives
use Rattle.std.specs.Prelude.{◌≡◌, ℕ, ◌+◌, ◌≤◌, true, [], length, Ok, Err}
use Rattle.bcj_parser_trees.specs.Trees.{PlainUnit}
use Rattle.bcj_parser_rules.specs.declared.stop.Stop.TheVariants.{TooMany}
use Rattle.bcj_parser_rules.specs.Lexemes.{Lexemes}
use Rattle.bcj_parser_rules.specs.Grammar.{UnitRead}
use Rattle.bcj_parser_rules.specs.Lexemes.{terminal_at}
use Rattle.bcj_parser_rules.specs.function.Declarations.{levels_above, unit}
use Rattle.bcj_parser_rules.specs.Texts.{TypesRead, begins_type}

-- within its room and its number of types, each unit
abbrev pub EachUnitIsRead : Type 0
EachUnitIsRead = (r limit : ℕ) (i : Lexemes) (u : PlainUnit) (h : ℕ) → UnitRead i u h → h ≤ r + levels_above → length u ≤ limit → unit r limit i ≡ (Ok (u, h), [])

-- at a type behind as many as there may be
abbrev pub EachFullTextIsRefused : Type 0
EachFullTextIsRefused = (r limit : ℕ) (i a : Lexemes) (u : PlainUnit) (h : ℕ) → TypesRead i a u h → h ≤ r + levels_above → length u ≡ limit → begins_type (terminal_at a) ≡ true → unit r limit i ≡ (Err TooMany, a)

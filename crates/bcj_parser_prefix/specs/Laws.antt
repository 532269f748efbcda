-- What a parse as a function knows of the tokens behind it, and of its room and its limit.
use Rattle.std.specs.Prelude.{◌≡◌, ℕ, ◌+◌, ◌≤◌, Bool, true, [], ◌++◌, length, Ok, Err}
use Rattle.bcj_parser_trees.specs.Trees.{PlainUnit}
use Rattle.bcj_parser_rules.specs.declared.stop.Site.{Site}
use Rattle.bcj_parser_rules.specs.declared.stop.Stop.TheVariants.{Refused, TooDeep}
use Rattle.bcj_parser_rules.specs.Lexemes.{Lexemes}
use Rattle.bcj_parser_rules.specs.Grammar.{UnitRead}
use Rattle.bcj_parser_rules.specs.function.Declarations.{levels_above, unit_room, unit}
use Rattle.bcj_parser_rules.specs.Limits.{max_height, max_types}
use Rattle.bcj_parser_rules.specs.Texts.{IsBad}
use Rattle.bcj_parser_prefix.specs.Known.{Agrees}

-- in two rooms, and with two limits
abbrev pub UnitsAgree : Type 0
UnitsAgree = (strict full : Bool) (r r' limit limit' : ℕ) → r ≤ r' → limit ≤ limit' → (strict ≡ true → r ≡ r') → (full ≡ true → limit ≡ limit')
    → Agrees strict full (unit r limit) (unit r' limit')

-- each unit is read where the room and the limit are enough for it
abbrev pub ReadsUnits : Type 0
ReadsUnits = (r limit : ℕ) (j : Lexemes) (u : PlainUnit) (h : ℕ) → UnitRead j u h → h ≤ r + levels_above → length u ≤ limit → unit r limit j ≡ (Ok (u, h), [])

-- the tokens up to a rest and the first one of it begin no unit of such a height
abbrev pub StopsBadly : (ℕ → Type 0) → Lexemes → Lexemes → Type 0
StopsBadly P i from = (before : Lexemes) × (i ≡ before ++ from) × IsBad P before from

-- where a token is refused, no unit of any height goes on so
abbrev pub NoUnit : Type 0
NoUnit = ReadsUnits → (i from : Lexemes) (w : Site) → unit unit_room max_types i ≡ (Err (Refused w), from) → StopsBadly (λ h. Unit {0}) i from

-- where the text is too deep, no unit goes on so that is as high as the limit at most
abbrev pub NoLowUnit : Type 0
NoLowUnit = ReadsUnits → (i from : Lexemes) → unit unit_room max_types i ≡ (Err TooDeep, from) → StopsBadly (λ h. h ≤ max_height) i from

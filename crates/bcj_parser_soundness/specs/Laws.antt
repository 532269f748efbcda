-- What an outcome says of the tokens that it was read from.
use Rattle.std.specs.Prelude.{◌≡◌, ℕ, ◌+◌, ◌≤◌, true, [], length, Result, Ok, Err}
use Rattle.bcj_parser_trees.specs.Trees.{PlainUnit}
use Rattle.bcj_parser_rules.specs.declared.stop.Stop.{Stop}
use Rattle.bcj_parser_rules.specs.declared.stop.Stop.TheVariants.{Refused, TooDeep, TooMany, NoMemory}
use Rattle.bcj_parser_rules.specs.Lexemes.{Lexemes}
use Rattle.bcj_parser_rules.specs.Grammar.{UnitRead}
use Rattle.bcj_parser_rules.specs.Lexemes.{terminal_at}
use Rattle.bcj_parser_rules.specs.function.Steps.{Outcome}
use Rattle.bcj_parser_rules.specs.Texts.{TypesRead, begins_type}
use Rattle.bcj_parser_rules.specs.function.Declarations.{levels_above, unit}

abbrev pub Ends : {A : Type 0} → (A → Lexemes → Type 0) → (Stop → Lexemes → Type 0) → Result A Stop → Lexemes → Type 0
Ends P E (Ok x) a = P x a
Ends P E (Err e) a = E e a

-- P of what was read and the tokens that are left, E of why nothing was
abbrev pub Both : {A : Type 0} → (A → Lexemes → Type 0) → (Stop → Lexemes → Type 0) → Outcome A → Type 0
Both P E o = Ends P E o.0 o.1

-- the whole text was read, within the limits
pub record IsWhole (r limit : ℕ) (i : Lexemes) (p : PlainUnit × ℕ) (a : Lexemes) : Type 0 where
  pub ended : a ≡ []
  pub derived : UnitRead i p.0 p.1
  pub low : p.1 ≤ r + levels_above
  pub few : length p.0 ≤ limit

-- as many types as a unit may have stand before, and another one begins
pub record IsFullAt (r limit : ℕ) (i a : Lexemes) : Type 0 where
  pub types : PlainUnit
  pub height : ℕ
  pub read : TypesRead i a types height
  pub full : length types ≡ limit
  pub low : height ≤ r + levels_above
  pub next : begins_type (terminal_at a) ≡ true

abbrev pub StopShows : ℕ → ℕ → Lexemes → Stop → Lexemes → Type 0
StopShows r limit i (Refused site) a = Unit {0}
StopShows r limit i TooDeep a = Unit {0}
StopShows r limit i TooMany a = IsFullAt r limit i a
StopShows r limit i NoMemory a = ⊥

abbrev pub EachReadUnitIsDerived : Type 0
EachReadUnitIsDerived = (r limit : ℕ) (i : Lexemes) → Both (IsWhole r limit i) (StopShows r limit i) (unit r limit i)

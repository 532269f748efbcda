-- What a parse of a text answers: its one unit, or the token at which no unit goes on.
use Rattle.std.specs.Prelude.{◌≡◌, ℕ, ◌≤◌, Bool, true, false, List, [], ◌∷◌, ◌++◌, length, max, Option, Err}
use Rattle.bcj_lexer.specs.declared.Token.{Token}
use Rattle.bcj_parser_trees.specs.Trees.{PlainType, PlainUnit}
use Rattle.bcj_parser_rules.specs.declared.terminal.Terminal.{Terminal}
use Rattle.bcj_parser_rules.specs.declared.terminal.Terminal.TheVariants as terminal
use Rattle.bcj_parser_rules.specs.declared.construct.Construct.{Construct}
use Rattle.bcj_parser_rules.specs.declared.stop.Site.{Site}
use Rattle.bcj_parser_rules.specs.declared.stop.Stop.TheVariants.{Refused}
use Rattle.bcj_parser_rules.specs.Lexemes.{Lexeme, Lexemes, lexemes_of, terminal_at}
use Rattle.bcj_parser_rules.specs.Limits.{max_height, max_types}
use Rattle.bcj_parser_rules.specs.Grammar.{TypeDeclaration, UnitRead, derives}
use Rattle.bcj_parser_rules.specs.LeftOut.{construct_at}
use Rattle.bcj_parser_rules.specs.function.Declarations.{unit, unit_room}

-- the unit of a text within the limits
pub record IsUnit (text : List ℕ) (tokens : List Token) (u : PlainUnit) : Type 0 where
  pub height : ℕ
  pub derived : derives text tokens u height
  pub low : height ≤ max_height
  pub few : length u ≤ max_types

-- a text with its tokens derives one unit at most
abbrev pub HasOneUnit : Type 0
HasOneUnit = (text : List ℕ) (tokens : List Token) (u v : PlainUnit) (g h : ℕ) → derives text tokens u g → derives text tokens v h → u ≡ v

-- they begin with the same token, or neither has one: the end of a text counts as a token
abbrev pub SameFirst : Lexemes → Lexemes → Type 0
SameFirst [] [] = Unit {0}
SameFirst (t ∷ i) (u ∷ j) = t ≡ u
SameFirst _ _ = ⊥

-- the tokens before and the first one from there on begin no unit of such a height
abbrev pub IsBad : (ℕ → Type 0) → Lexemes → Lexemes → Type 0
IsBad P before from = (other : Lexemes) (u : PlainUnit) (h : ℕ) → SameFirst from other → P h → UnitRead (before ++ other) u h → ⊥

-- types and stray semicolons, up to the tokens that are left
pub data TypesRead : Lexemes → Lexemes → PlainUnit → ℕ → Type 0 where
  no_type : {a : Lexemes} → TypesRead a a [] 0
  stray_semicolon : {t : Lexeme} {m a : Lexemes} {u : PlainUnit} {h : ℕ} → t.terminal ≡ terminal.Semicolon → TypesRead m a u h → TypesRead (t ∷ m) a u h
  a_type : {i m a : Lexemes} {d : PlainType} {u : PlainUnit} {g h : ℕ} → TypeDeclaration i m d g → TypesRead m a u h → TypesRead i a (d ∷ u) (max g h)

abbrev pub begins_type : Terminal → Bool
begins_type terminal.Public = true
begins_type terminal.Abstract = true
begins_type terminal.Class = true
begins_type terminal.Interface = true
begins_type _ = false

-- as many types as a unit may have stand before, and another one begins
pub record IsFull (before from : Lexemes) : Type 0 where
  pub types : PlainUnit
  pub height : ℕ
  pub full : length types ≡ max_types
  pub read : TypesRead (before ++ from) from types height
  pub low : height ≤ max_height
  pub next : begins_type (terminal_at from) ≡ true

-- the first byte of the first token, or the end of the text
abbrev pub place_of : List ℕ → Lexemes → ℕ
place_of text [] = length text
place_of text (t ∷ i) = t.at

-- the place is that of a token, and such a thing holds of the tokens before it and from it on
pub record StopsAt (text : List ℕ) (tokens : List Token) (at : ℕ) (P : Lexemes → Lexemes → Type 0) : Type 0 where
  pub before : Lexemes
  pub from : Lexemes
  pub whole : lexemes_of text tokens ≡ before ++ from
  pub place : at ≡ place_of text from
  pub cause : P before from

-- no unit goes on so, and the refused token stands for this left-out construct, or for none; the site is what the parser as
-- a function knows of its place
pub record RefusedAs (o : Option Construct) (before from : Lexemes) : Type 0 where
  pub bad : IsBad (λ h. Unit {0}) before from
  pub site : Site
  pub at : unit unit_room max_types (before ++ from) ≡ (Err (Refused site), from)
  pub named : construct_at site before from ≡ o

abbrev pub IsRefused : List ℕ → List Token → ℕ → Option Construct → Type 0
IsRefused text tokens at o = StopsAt text tokens at (RefusedAs o)

abbrev pub IsTooDeep : List ℕ → List Token → ℕ → Type 0
IsTooDeep text tokens at = StopsAt text tokens at (IsBad (λ h. h ≤ max_height))

abbrev pub IsTooMany : List ℕ → List Token → ℕ → Type 0
IsTooMany text tokens at = StopsAt text tokens at IsFull

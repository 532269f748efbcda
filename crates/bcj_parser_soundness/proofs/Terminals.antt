-- What a token is, from the small kind that decides what is read.
use Rattle.std.proofs.Common.{◌≡◌, refl, Bool, true, false, [], ◌∷◌, Some, None}
use Rattle.bcj_parser_trees.specs.declared.expression.BinOp.TheVariants as op
use Rattle.bcj_parser_rules.specs.declared.kind.Mark.{Mark}
use Rattle.bcj_parser_rules.specs.declared.kind.Mark.TheVariants as mark
use Rattle.bcj_parser_rules.specs.declared.kind.Beginning.{Beginning}
use Rattle.bcj_parser_rules.specs.declared.kind.Beginning.TheVariants as begin
use Rattle.bcj_parser_rules.specs.declared.kind.Joining.{Joining}
use Rattle.bcj_parser_rules.specs.declared.kind.Joining.TheVariants as join
use Rattle.bcj_parser_rules.specs.declared.kind.TypeBeginning.{TypeBeginning}
use Rattle.bcj_parser_rules.specs.declared.kind.TypeBeginning.TheVariants as typed
use Rattle.bcj_parser_rules.specs.declared.kind.Heading.{Heading}
use Rattle.bcj_parser_rules.specs.declared.kind.Heading.TheVariants as heading
use Rattle.bcj_parser_rules.specs.declared.kind.UnitBeginning.{UnitBeginning}
use Rattle.bcj_parser_rules.specs.declared.kind.UnitBeginning.TheVariants as unit_begin
use Rattle.bcj_parser_rules.specs.declared.terminal.Terminal.{Terminal}
use Rattle.bcj_parser_rules.specs.declared.terminal.Terminal.TheVariants as terminal
use Rattle.bcj_parser_rules.specs.Lexemes.{Lexemes}
use Rattle.bcj_parser_rules.specs.Grammar.{unary_operator, step_terminal, begins_unsigned, goes_on_unsigned, goes_on_with_else}
use Rattle.bcj_parser_rules.specs.Lexemes.{terminal_at}
use Rattle.bcj_parser_rules.specs.Marks.{is_mark}
use Rattle.bcj_parser_rules.specs.function.Kinds.{terminal_of_mark, beginning, joining, type_beginning, heading_of, unit_beginning}
use Rattle.bcj_parser_rules.specs.function.Steps.{sees}
use Rattle.bcj_parser_rules.specs.Texts.{begins_type}

abbrev pub IfSeen : Mark → Terminal → Bool → Type 0
IfSeen k g true = g ≡ terminal_of_mark k
IfSeen k g false = Unit {0}

pub seen_mark : (k : Mark) (g : Terminal) → IfSeen k g (is_mark k g)
seen_mark mark.Identifier terminal.Identifier = refl
seen_mark mark.Identifier _ = tt
seen_mark mark.LeftParen terminal.LeftParen = refl
seen_mark mark.LeftParen _ = tt
seen_mark mark.RightParen terminal.RightParen = refl
seen_mark mark.RightParen _ = tt
seen_mark mark.LeftBrace terminal.LeftBrace = refl
seen_mark mark.LeftBrace _ = tt
seen_mark mark.RightBrace terminal.RightBrace = refl
seen_mark mark.RightBrace _ = tt
seen_mark mark.LeftBracket terminal.LeftBracket = refl
seen_mark mark.LeftBracket _ = tt
seen_mark mark.RightBracket terminal.RightBracket = refl
seen_mark mark.RightBracket _ = tt
seen_mark mark.Semicolon terminal.Semicolon = refl
seen_mark mark.Semicolon _ = tt
seen_mark mark.Comma terminal.Comma = refl
seen_mark mark.Comma _ = tt
seen_mark mark.Dot terminal.Dot = refl
seen_mark mark.Dot _ = tt
seen_mark mark.Colon terminal.Colon = refl
seen_mark mark.Colon _ = tt
seen_mark mark.Assign terminal.Assign = refl
seen_mark mark.Assign _ = tt
seen_mark mark.While terminal.While = refl
seen_mark mark.While _ = tt
seen_mark mark.Else terminal.Else = refl
seen_mark mark.Else _ = tt
seen_mark mark.Catch terminal.Catch = refl
seen_mark mark.Catch _ = tt
seen_mark mark.Extends terminal.Extends = refl
seen_mark mark.Extends _ = tt
seen_mark mark.Implements terminal.Implements = refl
seen_mark mark.Implements _ = tt
seen_mark mark.Throws terminal.Throws = refl
seen_mark mark.Throws _ = tt
seen_mark mark.Static terminal.Static = refl
seen_mark mark.Static _ = tt
seen_mark mark.This terminal.This = refl
seen_mark mark.This _ = tt
seen_mark mark.Super terminal.Super = refl
seen_mark mark.Super _ = tt
seen_mark mark.Void terminal.Void = refl
seen_mark mark.Void _ = tt

-- at the end of a text no mark is seen
pub unseen : (k : Mark) → sees k [] ≡ false
unseen mark.Identifier = refl
unseen mark.LeftParen = refl
unseen mark.RightParen = refl
unseen mark.LeftBrace = refl
unseen mark.RightBrace = refl
unseen mark.LeftBracket = refl
unseen mark.RightBracket = refl
unseen mark.Semicolon = refl
unseen mark.Comma = refl
unseen mark.Dot = refl
unseen mark.Colon = refl
unseen mark.Assign = refl
unseen mark.While = refl
unseen mark.Else = refl
unseen mark.Catch = refl
unseen mark.Extends = refl
unseen mark.Implements = refl
unseen mark.Throws = refl
unseen mark.Static = refl
unseen mark.This = refl
unseen mark.Super = refl
unseen mark.Void = refl

abbrev pub BeginsSo : Beginning → Terminal → Type 0
BeginsSo begin.Name g = g ≡ terminal.Identifier
BeginsSo begin.Int g = g ≡ terminal.Int
BeginsSo (begin.Bool true) g = g ≡ terminal.True
BeginsSo (begin.Bool false) g = g ≡ terminal.False
BeginsSo begin.Null g = g ≡ terminal.Null
BeginsSo begin.This g = g ≡ terminal.This
BeginsSo begin.Super g = g ≡ terminal.Super
BeginsSo begin.New g = g ≡ terminal.New
BeginsSo begin.Paren g = g ≡ terminal.LeftParen
BeginsSo (begin.Signed o) g = unary_operator g ≡ Some o
BeginsSo (begin.Stepped plus) g = step_terminal g ≡ Some plus
BeginsSo begin.Nothing g = Unit {0}

pub begins_so : (g : Terminal) → BeginsSo (beginning g) g
begins_so terminal.Identifier = refl
begins_so terminal.Int = refl
begins_so terminal.True = refl
begins_so terminal.False = refl
begins_so terminal.Null = refl
begins_so terminal.This = refl
begins_so terminal.Super = refl
begins_so terminal.New = refl
begins_so terminal.LeftParen = refl
begins_so (terminal.Operator op.Add) = refl
begins_so (terminal.Operator op.Sub) = refl
begins_so terminal.Not = refl
begins_so terminal.Flip = refl
begins_so terminal.Increment = refl
begins_so terminal.Decrement = refl
begins_so _ = tt

abbrev pub JoinsSo : Joining → Terminal → Type 0
JoinsSo (join.Assign None) g = g ≡ terminal.Assign
JoinsSo (join.Assign (Some o)) g = g ≡ terminal.Compound o
JoinsSo join.Question g = g ≡ terminal.Question
JoinsSo (join.Binary o) g = g ≡ terminal.Operator o
JoinsSo join.InstanceOf g = g ≡ terminal.InstanceOf
JoinsSo (join.Step plus) g = step_terminal g ≡ Some plus
JoinsSo join.Dot g = g ≡ terminal.Dot
JoinsSo join.Bracket g = g ≡ terminal.LeftBracket
JoinsSo join.Nothing g = Unit {0}

pub joins_so : (g : Terminal) → JoinsSo (joining g) g
joins_so terminal.Assign = refl
joins_so (terminal.Compound o) = refl
joins_so terminal.Question = refl
joins_so (terminal.Operator o) = refl
joins_so terminal.InstanceOf = refl
joins_so terminal.Increment = refl
joins_so terminal.Decrement = refl
joins_so terminal.Dot = refl
joins_so terminal.LeftBracket = refl
joins_so _ = tt

abbrev pub TypeBeginsSo : TypeBeginning → Terminal → Type 0
TypeBeginsSo typed.Int g = g ≡ terminal.IntType
TypeBeginsSo typed.Bool g = g ≡ terminal.Boolean
TypeBeginsSo typed.Name g = g ≡ terminal.Identifier
TypeBeginsSo typed.Nothing g = Unit {0}

pub type_begins_so : (g : Terminal) → TypeBeginsSo (type_beginning g) g
type_begins_so terminal.IntType = refl
type_begins_so terminal.Boolean = refl
type_begins_so terminal.Identifier = refl
type_begins_so _ = tt

abbrev pub HeadsSo : Heading → Terminal → Type 0
HeadsSo heading.Block g = g ≡ terminal.LeftBrace
HeadsSo heading.Empty g = g ≡ terminal.Semicolon
HeadsSo heading.If g = g ≡ terminal.If
HeadsSo heading.While g = g ≡ terminal.While
HeadsSo heading.Do g = g ≡ terminal.Do
HeadsSo heading.For g = g ≡ terminal.For
HeadsSo heading.Return g = g ≡ terminal.Return
HeadsSo heading.Throw g = g ≡ terminal.Throw
HeadsSo heading.Break g = g ≡ terminal.Break
HeadsSo heading.Continue g = g ≡ terminal.Continue
HeadsSo heading.Try g = g ≡ terminal.Try
HeadsSo heading.Other g = Unit {0}

pub heads_so : (g : Terminal) → HeadsSo (heading_of g) g
heads_so terminal.LeftBrace = refl
heads_so terminal.Semicolon = refl
heads_so terminal.If = refl
heads_so terminal.While = refl
heads_so terminal.Do = refl
heads_so terminal.For = refl
heads_so terminal.Return = refl
heads_so terminal.Throw = refl
heads_so terminal.Break = refl
heads_so terminal.Continue = refl
heads_so terminal.Try = refl
heads_so _ = tt

abbrev pub UnitBeginsSo : UnitBeginning → Terminal → Type 0
UnitBeginsSo unit_begin.Semicolon g = g ≡ terminal.Semicolon
UnitBeginsSo unit_begin.Public g = (g ≡ terminal.Public) × (begins_type g ≡ true)
UnitBeginsSo unit_begin.Abstract g = (g ≡ terminal.Abstract) × (begins_type g ≡ true)
UnitBeginsSo unit_begin.Class g = (g ≡ terminal.Class) × (begins_type g ≡ true)
UnitBeginsSo unit_begin.Interface g = (g ≡ terminal.Interface) × (begins_type g ≡ true)
UnitBeginsSo unit_begin.Nothing g = Unit {0}

pub unit_begins_so : (g : Terminal) → UnitBeginsSo (unit_beginning g) g
unit_begins_so terminal.Semicolon = refl
unit_begins_so terminal.Public = (refl, refl)
unit_begins_so terminal.Abstract = (refl, refl)
unit_begins_so terminal.Class = (refl, refl)
unit_begins_so terminal.Interface = (refl, refl)
unit_begins_so _ = tt

pub goes_on_is_unsigned : (i : Lexemes) → begins_unsigned (terminal_at i) ≡ goes_on_unsigned i
goes_on_is_unsigned [] = refl
goes_on_is_unsigned (t ∷ r) = refl

pub else_is_seen : (i : Lexemes) → sees mark.Else i ≡ goes_on_with_else i
else_is_seen [] = refl
else_is_seen (t ∷ r) = refl

-- What terminals are for: the small kinds by which the parser chooses how to go on.
use Rattle.std.specs.Prelude.{true, false, None, Some}
use Rattle.bcj_parser_trees.specs.declared.expression.BinOp.TheVariants as op
use Rattle.bcj_parser_trees.specs.declared.expression.UnaryOp.TheVariants as unop
use Rattle.bcj_parser_rules.specs.declared.kind.Mark.{Mark}
use Rattle.bcj_parser_rules.specs.declared.kind.Mark.TheVariants as mark
use Rattle.bcj_parser_rules.specs.declared.kind.Beginning.{Beginning}
use Rattle.bcj_parser_rules.specs.declared.kind.Beginning.TheVariants as begin
use Rattle.bcj_parser_rules.specs.declared.kind.Joining.{Joining}
use Rattle.bcj_parser_rules.specs.declared.kind.Joining.TheVariants as join
use Rattle.bcj_parser_rules.specs.declared.kind.TypeBeginning.{TypeBeginning}
use Rattle.bcj_parser_rules.specs.declared.kind.TypeBeginning.TheVariants as typed
use Rattle.bcj_parser_rules.specs.declared.kind.Heading.{Heading}
use Rattle.bcj_parser_rules.specs.declared.kind.Heading.TheVariants as heading
use Rattle.bcj_parser_rules.specs.declared.kind.UnitBeginning.{UnitBeginning}
use Rattle.bcj_parser_rules.specs.declared.kind.UnitBeginning.TheVariants as unit_begin
use Rattle.bcj_parser_rules.specs.declared.terminal.Terminal.{Terminal}
use Rattle.bcj_parser_rules.specs.declared.terminal.Terminal.TheVariants as terminal

abbrev pub terminal_of_mark : Mark → Terminal
terminal_of_mark mark.Identifier = terminal.Identifier
terminal_of_mark mark.LeftParen = terminal.LeftParen
terminal_of_mark mark.RightParen = terminal.RightParen
terminal_of_mark mark.LeftBrace = terminal.LeftBrace
terminal_of_mark mark.RightBrace = terminal.RightBrace
terminal_of_mark mark.LeftBracket = terminal.LeftBracket
terminal_of_mark mark.RightBracket = terminal.RightBracket
terminal_of_mark mark.Semicolon = terminal.Semicolon
terminal_of_mark mark.Comma = terminal.Comma
terminal_of_mark mark.Dot = terminal.Dot
terminal_of_mark mark.Colon = terminal.Colon
terminal_of_mark mark.Assign = terminal.Assign
terminal_of_mark mark.While = terminal.While
terminal_of_mark mark.Else = terminal.Else
terminal_of_mark mark.Catch = terminal.Catch
terminal_of_mark mark.Extends = terminal.Extends
terminal_of_mark mark.Implements = terminal.Implements
terminal_of_mark mark.Throws = terminal.Throws
terminal_of_mark mark.Static = terminal.Static
terminal_of_mark mark.This = terminal.This
terminal_of_mark mark.Super = terminal.Super
terminal_of_mark mark.Void = terminal.Void

abbrev pub beginning : Terminal → Beginning
beginning terminal.Identifier = begin.Name
beginning terminal.Int = begin.Int
beginning terminal.True = begin.Bool true
beginning terminal.False = begin.Bool false
beginning terminal.Null = begin.Null
beginning terminal.This = begin.This
beginning terminal.Super = begin.Super
beginning terminal.New = begin.New
beginning terminal.LeftParen = begin.Paren
beginning (terminal.Operator op.Add) = begin.Signed unop.Plus
beginning (terminal.Operator op.Sub) = begin.Signed unop.Minus
beginning terminal.Not = begin.Signed unop.Not
beginning terminal.Flip = begin.Signed unop.Flip
beginning terminal.Increment = begin.Stepped true
beginning terminal.Decrement = begin.Stepped false
beginning _ = begin.Nothing

abbrev pub joining : Terminal → Joining
joining terminal.Assign = join.Assign None
joining (terminal.Compound o) = join.Assign (Some o)
joining terminal.Question = join.Question
joining (terminal.Operator o) = join.Binary o
joining terminal.InstanceOf = join.InstanceOf
joining terminal.Increment = join.Step true
joining terminal.Decrement = join.Step false
joining terminal.Dot = join.Dot
joining terminal.LeftBracket = join.Bracket
joining _ = join.Nothing

abbrev pub type_beginning : Terminal → TypeBeginning
type_beginning terminal.IntType = typed.Int
type_beginning terminal.Boolean = typed.Bool
type_beginning terminal.Identifier = typed.Name
type_beginning _ = typed.Nothing

abbrev pub heading_of : Terminal → Heading
heading_of terminal.LeftBrace = heading.Block
heading_of terminal.Semicolon = heading.Empty
heading_of terminal.If = heading.If
heading_of terminal.While = heading.While
heading_of terminal.Do = heading.Do
heading_of terminal.For = heading.For
heading_of terminal.Return = heading.Return
heading_of terminal.Throw = heading.Throw
heading_of terminal.Break = heading.Break
heading_of terminal.Continue = heading.Continue
heading_of terminal.Try = heading.Try
heading_of _ = heading.Other

abbrev pub unit_beginning : Terminal → UnitBeginning
unit_beginning terminal.Semicolon = unit_begin.Semicolon
unit_beginning terminal.Public = unit_begin.Public
unit_beginning terminal.Abstract = unit_begin.Abstract
unit_beginning terminal.Class = unit_begin.Class
unit_beginning terminal.Interface = unit_begin.Interface
unit_beginning _ = unit_begin.Nothing

-- Terminals that a production wants at one place.
use Rattle.std.specs.Prelude.{Bool, true, false}
use Rattle.bcj_parser_rules.specs.declared.kind.Mark.{Mark}
use Rattle.bcj_parser_rules.specs.declared.kind.Mark.TheVariants as mark
use Rattle.bcj_parser_rules.specs.declared.terminal.Terminal.{Terminal}
use Rattle.bcj_parser_rules.specs.declared.terminal.Terminal.TheVariants as terminal

-- whether a terminal is the one of a mark
abbrev pub is_mark : Mark → Terminal → Bool
is_mark mark.Identifier k = elim k [ terminal.Identifier ↦ true | _ ↦ false ]
is_mark mark.LeftParen k = elim k [ terminal.LeftParen ↦ true | _ ↦ false ]
is_mark mark.RightParen k = elim k [ terminal.RightParen ↦ true | _ ↦ false ]
is_mark mark.LeftBrace k = elim k [ terminal.LeftBrace ↦ true | _ ↦ false ]
is_mark mark.RightBrace k = elim k [ terminal.RightBrace ↦ true | _ ↦ false ]
is_mark mark.LeftBracket k = elim k [ terminal.LeftBracket ↦ true | _ ↦ false ]
is_mark mark.RightBracket k = elim k [ terminal.RightBracket ↦ true | _ ↦ false ]
is_mark mark.Semicolon k = elim k [ terminal.Semicolon ↦ true | _ ↦ false ]
is_mark mark.Comma k = elim k [ terminal.Comma ↦ true | _ ↦ false ]
is_mark mark.Dot k = elim k [ terminal.Dot ↦ true | _ ↦ false ]
is_mark mark.Colon k = elim k [ terminal.Colon ↦ true | _ ↦ false ]
is_mark mark.Assign k = elim k [ terminal.Assign ↦ true | _ ↦ false ]
is_mark mark.While k = elim k [ terminal.While ↦ true | _ ↦ false ]
is_mark mark.Else k = elim k [ terminal.Else ↦ true | _ ↦ false ]
is_mark mark.Catch k = elim k [ terminal.Catch ↦ true | _ ↦ false ]
is_mark mark.Extends k = elim k [ terminal.Extends ↦ true | _ ↦ false ]
is_mark mark.Implements k = elim k [ terminal.Implements ↦ true | _ ↦ false ]
is_mark mark.Throws k = elim k [ terminal.Throws ↦ true | _ ↦ false ]
is_mark mark.Static k = elim k [ terminal.Static ↦ true | _ ↦ false ]
is_mark mark.This k = elim k [ terminal.This ↦ true | _ ↦ false ]
is_mark mark.Super k = elim k [ terminal.Super ↦ true | _ ↦ false ]
is_mark mark.Void k = elim k [ terminal.Void ↦ true | _ ↦ false ]

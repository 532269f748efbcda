-- What a terminal says to the parser
use Rattle.std.proofs.Common.{◌≡◌, refl, ap, sym, ◌∙◌, Bool, true, false, not, ◌∷◌}
use Rattle.bcj_parser_rules.specs.declared.kind.Mark.{Mark}
use Rattle.bcj_parser_rules.specs.declared.kind.Mark.TheVariants as mark
use Rattle.bcj_parser_rules.specs.declared.terminal.Terminal.{Terminal}
use Rattle.bcj_parser_rules.specs.declared.terminal.Terminal.TheVariants as terminal
use Rattle.bcj_parser_rules.specs.Lexemes.{Lexeme, Lexemes}
use Rattle.bcj_parser_rules.specs.Lexemes.{terminal_at}
use Rattle.bcj_parser_rules.specs.Marks.{is_mark}
use Rattle.bcj_parser_rules.specs.function.Kinds.{terminal_of_mark}
use Rattle.bcj_parser_rules.specs.function.Steps.{sees}

marked : (k : Mark) → is_mark k (terminal_of_mark k) ≡ true
marked mark.Identifier = refl
marked mark.LeftParen = refl
marked mark.RightParen = refl
marked mark.LeftBrace = refl
marked mark.RightBrace = refl
marked mark.LeftBracket = refl
marked mark.RightBracket = refl
marked mark.Semicolon = refl
marked mark.Comma = refl
marked mark.Dot = refl
marked mark.Colon = refl
marked mark.Assign = refl
marked mark.While = refl
marked mark.Else = refl
marked mark.Catch = refl
marked mark.Extends = refl
marked mark.Implements = refl
marked mark.Throws = refl
marked mark.Static = refl
marked mark.This = refl
marked mark.Super = refl
marked mark.Void = refl

-- the terminal that a mark fits
pub mark_terminal : (k : Mark) (j : Terminal) → is_mark k j ≡ true → j ≡ terminal_of_mark k
mark_terminal mark.Identifier terminal.Identifier e = refl
mark_terminal mark.Identifier _ e = cc
mark_terminal mark.LeftParen terminal.LeftParen e = refl
mark_terminal mark.LeftParen _ e = cc
mark_terminal mark.RightParen terminal.RightParen e = refl
mark_terminal mark.RightParen _ e = cc
mark_terminal mark.LeftBrace terminal.LeftBrace e = refl
mark_terminal mark.LeftBrace _ e = cc
mark_terminal mark.RightBrace terminal.RightBrace e = refl
mark_terminal mark.RightBrace _ e = cc
mark_terminal mark.LeftBracket terminal.LeftBracket e = refl
mark_terminal mark.LeftBracket _ e = cc
mark_terminal mark.RightBracket terminal.RightBracket e = refl
mark_terminal mark.RightBracket _ e = cc
mark_terminal mark.Semicolon terminal.Semicolon e = refl
mark_terminal mark.Semicolon _ e = cc
mark_terminal mark.Comma terminal.Comma e = refl
mark_terminal mark.Comma _ e = cc
mark_terminal mark.Dot terminal.Dot e = refl
mark_terminal mark.Dot _ e = cc
mark_terminal mark.Colon terminal.Colon e = refl
mark_terminal mark.Colon _ e = cc
mark_terminal mark.Assign terminal.Assign e = refl
mark_terminal mark.Assign _ e = cc
mark_terminal mark.While terminal.While e = refl
mark_terminal mark.While _ e = cc
mark_terminal mark.Else terminal.Else e = refl
mark_terminal mark.Else _ e = cc
mark_terminal mark.Catch terminal.Catch e = refl
mark_terminal mark.Catch _ e = cc
mark_terminal mark.Extends terminal.Extends e = refl
mark_terminal mark.Extends _ e = cc
mark_terminal mark.Implements terminal.Implements e = refl
mark_terminal mark.Implements _ e = cc
mark_terminal mark.Throws terminal.Throws e = refl
mark_terminal mark.Throws _ e = cc
mark_terminal mark.Static terminal.Static e = refl
mark_terminal mark.Static _ e = cc
mark_terminal mark.This terminal.This e = refl
mark_terminal mark.This _ e = cc
mark_terminal mark.Super terminal.Super e = refl
mark_terminal mark.Super _ e = cc
mark_terminal mark.Void terminal.Void e = refl
mark_terminal mark.Void _ e = cc

pub true_false : {b : Bool} → b ≡ true → b ≡ false → ⊥
true_false h k = cc

-- a mark doesn't fit a terminal that a test tells from its own
pub apart : (p : Terminal → Bool) (k : Mark) (j : Terminal) → p (terminal_of_mark k) ≡ not (p j) → is_mark k j ≡ false
apart p k j h = by (is_mark k j) refl where
  differ : (b c : Bool) → b ≡ not c → b ≡ c → ⊥
  differ true true e f = cc
  differ true false e f = cc
  differ false true e f = cc
  differ false false e f = cc

  by : (b : Bool) → is_mark k j ≡ b → b ≡ false
  by true e = absurd (differ (p (terminal_of_mark k)) (p j) h (ap p (sym (mark_terminal k j e))))
  by false e = refl

pub seen : (k : Mark) (t : Lexeme) (i : Lexemes) → t.terminal ≡ terminal_of_mark k → sees k (t ∷ i) ≡ true
seen k t i h = ap (is_mark k) h ∙ marked k

-- by a terminal that is known
pub unseen : (k : Mark) (i : Lexemes) {j : Terminal} → terminal_at i ≡ j → is_mark k j ≡ false → sees k i ≡ false
unseen k i h n = ap (is_mark k) h ∙ n

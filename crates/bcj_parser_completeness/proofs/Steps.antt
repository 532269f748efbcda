-- Steps of the parser, one behind another
use Rattle.std.proofs.Common.{◌≡◌, refl, ap, ◌∙◌, Bool, true, false, if◌then◌else◌, ◌∷◌, Ok}
use Rattle.bcj_parser_rules.specs.declared.kind.Mark.{Mark}
use Rattle.bcj_parser_rules.specs.declared.terminal.Terminal.TheVariants as terminal
use Rattle.bcj_parser_rules.specs.declared.stop.Site.{Site}
use Rattle.bcj_parser_rules.specs.Lexemes.{Lexeme, Lexemes}
use Rattle.bcj_parser_rules.specs.function.Kinds.{terminal_of_mark}
use Rattle.bcj_parser_rules.specs.function.Steps.{Outcome, Parser, then_read, expect, named}
use Rattle.bcj_parser_completeness.proofs.Terminals.{seen}
use Rattle.bcj_parser_rules.specs.declared.kind.Mark.TheVariants as mark

pub bind : {A B : Type 0} {q : Outcome A} {x : A} {m : Lexemes} {o : Outcome B} → q ≡ (Ok x, m) → (f : A → Parser B) → f x m ≡ o → then_read q f ≡ o
bind h f k = ap (λ q. then_read q f) h ∙ k

pub taking : {A : Type 0} {b : Bool} {x o : A} → b ≡ true → (y : A) → x ≡ o → (if b then x else y) ≡ o
taking h y k = rw h k

pub passing : {A : Type 0} {b : Bool} {y o : A} → b ≡ false → (x : A) → y ≡ o → (if b then x else y) ≡ o
passing h x k = rw h k

pub expect_reads : (k : Mark) (w : Site) (t : Lexeme) (i : Lexemes) → t.terminal ≡ terminal_of_mark k → expect k w (t ∷ i) ≡ (Ok tt, i)
unfolding expect
expect_reads k w t i h = taking (seen k t i h) _ refl

pub named_reads : (w : Site) (t : Lexeme) (i : Lexemes) → t.terminal ≡ terminal.Identifier → named w (t ∷ i) ≡ (Ok t.word, i)
unfolding named
named_reads w t i h = taking (seen mark.Identifier t i h) _ refl

-- Parentheses that are no cast
use Rattle.std.proofs.Common.{◌≡◌, refl, ap, sym, ◌∙◌, ℕ, zero, suc, ◌≤◌, Bool, true, false, nat_le, [], ◌∷◌, Result, Ok, Err, arith, ◌⊎◌, inl, inr}
use Rattle.bcj_parser_trees.specs.Trees as tree
use Rattle.bcj_parser_trees.specs.Trees.{PlainExpr}
use Rattle.bcj_parser_rules.specs.declared.kind.Mark.TheVariants as mark
use Rattle.bcj_parser_rules.specs.declared.kind.Beginning.TheVariants as begin
use Rattle.bcj_parser_rules.specs.declared.kind.TypeBeginning.TheVariants as typed
use Rattle.bcj_parser_rules.specs.declared.terminal.Terminal.TheVariants as terminal
use Rattle.bcj_parser_rules.specs.declared.stop.Stop.{Stop}
use Rattle.bcj_parser_rules.specs.declared.stop.Site.TheVariants as site
use Rattle.bcj_parser_rules.specs.Lexemes.{Lexeme, Lexemes}
use Rattle.bcj_parser_rules.specs.Grammar.{begins_unsigned}
use Rattle.bcj_parser_rules.specs.Lexemes.{terminal_at}
use Rattle.bcj_parser_rules.specs.function.Kinds.{beginning, joining, type_beginning}
use Rattle.bcj_parser_rules.specs.function.Steps.{Outcome, Parser, rest, sees}
use Rattle.bcj_parser_rules.specs.function.Expressions.{fresh, behind_name, behind_bracket, Read, begins, closed, class_cast, bracket_paren, named_paren, paren_by, parenthesized, operand, expression}
use Rattle.bcj_parser_completeness.proofs.Terminals.{unseen, mark_terminal}
use Rattle.bcj_parser_completeness.proofs.Steps.{bind, taking, passing, expect_reads}
use Rattle.bcj_parser_completeness.proofs.Follows.{untyped}
use Rattle.bcj_parser_completeness.proofs.Climbing.{operand_as}
use Rattle.bcj_parser_completeness.proofs.Resuming.{no_tree, name_first, name_alone, bracket_first, empty_brackets}

closed_reads : (at : ℕ) (p : Parser Read) (i a : Lexemes) (u : Lexeme) (x : PlainExpr) (h : ℕ) → p i ≡ (Ok (x, h), u ∷ a) → u.terminal ≡ terminal.RightParen → closed at p i ≡ (Ok (tree.paren at x, suc h), a)
unfolding closed
closed_reads at p i a u x h e k = bind e _ (bind (expect_reads mark.RightParen site.Elsewhere u a k) _ refl)

abbrev tree_in : Result Read Stop → PlainExpr
tree_in (Ok x) = x.0
tree_in (Err e) = tree.null_literal 0

abbrev height_in : Result Read Stop → ℕ
height_in (Ok x) = x.1
height_in (Err e) = 0

abbrev whole : PlainExpr → ℕ → Lexemes → Outcome Read
whole x h a = (Ok (x, h), a)

-- a name alone is an operand in parentheses where no operand follows
alone_reads : (n at : ℕ) (t : Lexeme) (j a : Lexemes) (u : Lexeme) (x : PlainExpr) (h : ℕ) → t.terminal ≡ terminal.Identifier → expression (suc n) fresh 1 (t ∷ j) ≡ (Ok (x, h), u ∷ a) → begins_unsigned (terminal_at a) ≡ false → sees mark.RightParen j ≡ true
    → named_paren n (expression (suc n)) at t.at t.word j ≡ (Ok (tree.paren at x, suc h), a)
unfolding named_paren class_cast
alone_reads n at t j a u x h p e b c =
    let k : terminal_at j ≡ terminal.RightParen = mark_terminal mark.RightParen (terminal_at j) c in
    let f : whole x h (u ∷ a) ≡ whole (tree.simple_name t.at t.word) 1 j = sym e ∙ name_alone n 1 t j (omega arith) p (unseen mark.LeftParen j k refl) (ap joining k) in
    let r : rest j ≡ a = ap rest (sym (ap (λ (o : Outcome Read). o.1) f)) in
    taking c _ (passing (ap (λ i. begins_unsigned (terminal_at i)) r ∙ b) _
    (ap (λ i. whole (tree.paren at (tree.simple_name t.at t.word)) 2 i) r ∙ ap (λ x. whole (tree.paren at x) 2 a) (sym (ap (λ (o : Outcome Read). tree_in o.0) f)) ∙ ap (λ h. whole (tree.paren at x) (suc h) a) (sym (ap (λ (o : Outcome Read). height_in o.0) f))))

bracket_reads : (n at : ℕ) (t v : Lexeme) (j a : Lexemes) (u : Lexeme) (x : PlainExpr) (h : ℕ) → t.terminal ≡ terminal.Identifier → v.terminal ≡ terminal.LeftBracket → expression (suc n) fresh 1 (t ∷ v ∷ j) ≡ (Ok (x, h), u ∷ a) → h ≤ suc n → u.terminal ≡ terminal.RightParen
    → bracket_paren n (expression (suc n)) at t.at t.word j ≡ (Ok (tree.paren at x, suc h), a)
unfolding bracket_paren
bracket_reads n at t v j a u x h p q e l k = by (sees mark.RightBracket j) refl where
  by : (b : Bool) → sees mark.RightBracket j ≡ b → bracket_paren n (expression (suc n)) at t.at t.word j ≡ (Ok (tree.paren at x, suc h), a)
  by true c = absurd (no_tree e (empty_brackets n 1 t v j (omega arith) p q c))
  by false c = passing c _ (closed_reads at (expression (suc n) (behind_bracket t.at t.word) 1) j a u x h (bracket_first n 1 t v j (u ∷ a) (x, h) (omega arith) p q e l) k)

named_reads_on : (n at : ℕ) (t : Lexeme) (j a : Lexemes) (u : Lexeme) (x : PlainExpr) (h : ℕ) → t.terminal ≡ terminal.Identifier → expression (suc n) fresh 1 (t ∷ j) ≡ (Ok (x, h), u ∷ a) → h ≤ suc n → u.terminal ≡ terminal.RightParen → begins_unsigned (terminal_at a) ≡ false
    → named_paren n (expression (suc n)) at t.at t.word j ≡ (Ok (tree.paren at x, suc h), a)
unfolding named_paren
named_reads_on n at t j a u x h p e l k b = by (sees mark.RightParen j) (sees mark.LeftBracket j) j refl refl e where
  by : (c d : Bool) (j : Lexemes) → sees mark.RightParen j ≡ c → sees mark.LeftBracket j ≡ d → expression (suc n) fresh 1 (t ∷ j) ≡ (Ok (x, h), u ∷ a) → named_paren n (expression (suc n)) at t.at t.word j ≡ (Ok (tree.paren at x, suc h), a)
  by true d j f g e = alone_reads n at t j a u x h p e b f
  by false true [] f g e = absurd (cc)
  by false true (v ∷ j) f g e = passing f _ (taking g _ (bracket_reads n at t v j a u x h p (mark_terminal mark.LeftBracket v.terminal g) e l k))
  by false false j f g e = passing f _ (passing g _ (closed_reads at (expression (suc n) (behind_name t.at t.word) 1) j a u x h (sym (name_first n 1 t j p) ∙ e) k))

paren_by_reads : (n at : ℕ) (m a : Lexemes) (u : Lexeme) (x : PlainExpr) (h : ℕ) → (type_beginning (terminal_at m) ≡ typed.Nothing) ⊎ (terminal_at m ≡ terminal.Identifier) → expression (suc n) fresh 1 m ≡ (Ok (x, h), u ∷ a) → h ≤ suc n
    → u.terminal ≡ terminal.RightParen → begins_unsigned (terminal_at a) ≡ false → paren_by n (expression (suc n)) at (type_beginning (terminal_at m)) m ≡ (Ok (tree.paren at x, suc h), a)
paren_by_reads n at m a u x h (inl f) e l k b = ap (λ c. paren_by n (expression (suc n)) at c m) f ∙ closed_reads at (expression (suc n) fresh 1) m a u x h e k
paren_by_reads n at [] a u x h (inr f) e l k b = absurd (cc)
paren_by_reads n at (t ∷ j) a u x h (inr f) e l k b = ap (λ c. paren_by n (expression (suc n)) at (type_beginning c) (t ∷ j)) f ∙ named_reads_on n at t j a u x h f e l k b

parenthesized_reads : (n at : ℕ) (c : Bool) (t : Lexeme) (m a : Lexemes) (u : Lexeme) (x : PlainExpr) (h : ℕ) → begins 1 (beginning (terminal_at m)) ≡ true → expression (suc n) fresh 1 m ≡ (Ok (x, h), u ∷ a) → h ≤ suc n → u.terminal ≡ terminal.RightParen
    → begins_unsigned (terminal_at a) ≡ false → parenthesized (suc n) (expression (suc n)) c at (t ∷ m) ≡ (Ok (tree.paren at x, suc h), a)
unfolding parenthesized
parenthesized_reads n at true t m a u x h f e l k b = paren_by_reads n at m a u x h (untyped (terminal_at m) f) e l k b
parenthesized_reads n at false t m a u x h f e l k b = closed_reads at (expression (suc n) fresh 1) m a u x h e k

pub paren_reads : (n least at : ℕ) (t : Lexeme) (m a : Lexemes) (u : Lexeme) (x : PlainExpr) (h : ℕ) → 1 ≤ h → h ≤ n → t.terminal ≡ terminal.LeftParen → begins 1 (beginning (terminal_at m)) ≡ true → expression n fresh 1 m ≡ (Ok (x, h), u ∷ a)
    → u.terminal ≡ terminal.RightParen → begins_unsigned (terminal_at a) ≡ false → operand n (expression n) least at (t ∷ m) ≡ (Ok (tree.paren at x, suc h), a)
paren_reads zero least at t m a u x h o l p f e k b = absurd (omega arith)
paren_reads (suc n) least at t m a u x h o l p f e k b =
    operand_as (suc n) (expression (suc n)) least at t m begin.Paren (ap beginning p) (parenthesized_reads n at (nat_le least 13) t m a u x h f e l k b)

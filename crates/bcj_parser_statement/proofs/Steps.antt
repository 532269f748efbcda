-- An `if` behind its first part, by whether an `else` stands there.
use Rattle.std.proofs.Common.{◌≡◌, ℕ, suc, max, true, false, refl, sym, Ok}
use Rattle.bcj_parser_trees.specs.Trees as tree
use Rattle.bcj_parser_trees.specs.Trees.{PlainStmt}
use Rattle.bcj_parser_rules.specs.declared.kind.Mark.TheVariants as mark
use Rattle.bcj_parser_rules.specs.Lexemes.{Lexemes}
use Rattle.bcj_parser_rules.specs.function.Steps.{sees, rest}
use Rattle.bcj_parser_rules.specs.function.Expressions.{Read}
use Rattle.bcj_parser_rules.specs.function.Statements.{Statements, otherwise}

pub otherwise_none : (statement : Statements) (at : ℕ) (c : Read) (x : PlainStmt × ℕ) (i : Lexemes) → false ≡ sees mark.Else i
    → otherwise statement at c x i ≡ (Ok (tree.if_else at c.0 x.0 tree.no_else, suc (max c.1 x.1)), i)
unfolding otherwise
otherwise_none statement at c x i h = rw (sym h) refl

pub otherwise_else : (statement : Statements) (at : ℕ) (c : Read) (x y : PlainStmt × ℕ) (i j a : Lexemes) → true ≡ sees mark.Else i → j ≡ rest i → statement j ≡ (Ok y, a)
    → otherwise statement at c x i ≡ (Ok (tree.if_else at c.0 x.0 (tree.else_with y.0), suc (max c.1 (max x.1 y.1))), a)
unfolding otherwise
otherwise_else statement at c x y i j a h r o = rw (sym h) (rw (sym r) (rw o refl))

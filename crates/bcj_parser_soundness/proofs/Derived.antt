-- What every derivation of an expression has.
use Rattle.std.proofs.Common.{◌≡◌, ℕ, zero, suc, ◌≤◌, Bool, true, false, ◌∷◌, refl, subst, Some, None, nat_le, arith}
use Rattle.std.proofs.lemmas.Bool.{leb-true, leb-false}
use Rattle.bcj_parser_trees.specs.declared.expression.BinOp.{BinOp}
use Rattle.bcj_parser_trees.specs.declared.expression.BinOp.TheVariants as op
use Rattle.bcj_parser_trees.specs.declared.expression.UnaryOp.{UnaryOp}
use Rattle.bcj_parser_trees.specs.Trees as tree
use Rattle.bcj_parser_trees.specs.Trees.{PlainExpr, PlainExprs, exprs_from}
use Rattle.bcj_parser_rules.specs.declared.terminal.Terminal.{Terminal}
use Rattle.bcj_parser_rules.specs.declared.terminal.Terminal.TheVariants as terminal
use Rattle.bcj_parser_rules.specs.Lexemes.{Lexeme, Lexemes}
use Rattle.bcj_parser_rules.specs.Grammar as g
use Rattle.bcj_parser_rules.specs.Lexemes.{first_at}
use Rattle.bcj_parser_rules.specs.Levels.{operator_level}
use Rattle.bcj_parser_rules.specs.Grammar.{Derives, unary_operator, step_terminal, is_place, is_statement_expression}
use Rattle.bcj_parser_rules.specs.Lexemes.{terminal_at}
use Rattle.bcj_parser_rules.specs.function.Expressions.{is_primary, Begin, fresh, behind_name, behind_bracket, behind_this, behind_super, start_of}

-- the tokens that an expression has behind such a beginning, from its first one on
pub data Begun : Begin → Lexemes → Lexemes → Type 0 where
  from_start : {i : Lexemes} → Begun fresh i i
  from_name : {t : Lexeme} {i : Lexemes} → t.terminal ≡ terminal.Identifier → Begun (behind_name t.at t.word) (t ∷ i) i
  from_bracket : {t u : Lexeme} {i : Lexemes} → t.terminal ≡ terminal.Identifier → u.terminal ≡ terminal.LeftBracket → Begun (behind_bracket t.at t.word) (t ∷ u ∷ i) i
  from_this : {t : Lexeme} {i : Lexemes} → t.terminal ≡ terminal.This → Begun (behind_this t.at) (t ∷ i) i
  from_super : {t : Lexeme} {i : Lexemes} → t.terminal ≡ terminal.Super → Begun (behind_super t.at) (t ∷ i) i

pub start_is_first : {b : Begin} {j i : Lexemes} → Begun b j i → start_of b i ≡ first_at j
start_is_first from_start = refl
start_is_first (from_name e) = refl
start_is_first (from_bracket e f) = refl
start_is_first (from_this e) = refl
start_is_first (from_super e) = refl

pub tall : {k h : ℕ} {i a : Lexemes} {x : PlainExpr} → Derives k i a x h → 1 ≤ h
tall (g.looser d) = tall d
tall _ = omega arith

pub loosen : (k l : ℕ) {h : ℕ} {i a : Lexemes} {x : PlainExpr} → k ≤ l → Derives l i a x h → Derives k i a x h
loosen k zero {h} {i} {a} {x} e d = let f : 0 ≡ k = omega arith in subst (λ n. Derives n i a x h) f d
loosen k (suc l) {h} {i} {a} {x} e d = by (λ f. loosen k l f (g.looser d)) (nat_le k l) refl where
  by : (k ≤ l → Derives k i a x h) → (y : Bool) → nat_le k l ≡ y → Derives k i a x h
  by down true f = down (leb-true k l f)
  by down false f = let q : suc l ≡ k = omega (arith, leb-false k l f) in subst (λ n. Derives n i a x h) q d

pub place_is_primary : (x : PlainExpr) → is_place x ≡ true → is_primary x ≡ true
place_is_primary (tree.simple_name at n) h = refl
place_is_primary (tree.dot at e n) h = refl
place_is_primary (tree.super_field at n) h = refl
place_is_primary (tree.element at e i) h = refl
place_is_primary _ h = absurd (cc)

pub primary_level : {k h : ℕ} {i a : Lexemes} {x : PlainExpr} → Derives k i a x h → is_primary x ≡ true → Derives 14 i a x h
primary_level (g.looser d) p = primary_level d p
primary_level (g.int_literal e) p = g.int_literal e
primary_level (g.true_literal e) p = g.true_literal e
primary_level (g.false_literal e) p = g.false_literal e
primary_level (g.null_literal e) p = g.null_literal e
primary_level (g.this_value e) p = g.this_value e
primary_level (g.paren e d f) p = g.paren e d f
primary_level (g.new_object e f d) p = g.new_object e f d
primary_level (g.new_array e b f d q r) p = g.new_array e b f d q r
primary_level (g.name e) p = g.name e
primary_level (g.call e d) p = g.call e d
primary_level (g.super_field e f q) p = g.super_field e f q
primary_level (g.super_call e f q d) p = g.super_call e f q d
primary_level (g.dot d e f) p = g.dot d e f
primary_level (g.dot_call d e f q) p = g.dot_call d e f q
primary_level (g.element d f e q r) p = g.element d f e q r
primary_level _ p = absurd (cc)

pub three_to_twelve : (o : BinOp) → (3 ≤ operator_level o) × (operator_level o ≤ 12)
three_to_twelve op.OrElse = (omega arith, omega arith)
three_to_twelve op.AndAlso = (omega arith, omega arith)
three_to_twelve op.Or = (omega arith, omega arith)
three_to_twelve op.Xor = (omega arith, omega arith)
three_to_twelve op.And = (omega arith, omega arith)
three_to_twelve op.Eq = (omega arith, omega arith)
three_to_twelve op.Ne = (omega arith, omega arith)
three_to_twelve op.Lt = (omega arith, omega arith)
three_to_twelve op.Gt = (omega arith, omega arith)
three_to_twelve op.Le = (omega arith, omega arith)
three_to_twelve op.Ge = (omega arith, omega arith)
three_to_twelve op.Shl = (omega arith, omega arith)
three_to_twelve op.Shr = (omega arith, omega arith)
three_to_twelve op.Ushr = (omega arith, omega arith)
three_to_twelve op.Add = (omega arith, omega arith)
three_to_twelve op.Sub = (omega arith, omega arith)
three_to_twelve op.Mul = (omega arith, omega arith)
three_to_twelve op.Div = (omega arith, omega arith)
three_to_twelve op.Rem = (omega arith, omega arith)

no_operator : (k : Terminal) {plus : Bool} {o : UnaryOp} → unary_operator k ≡ Some o → step_terminal k ≡ Some plus → ⊥
no_operator terminal.Increment h e = cc
no_operator terminal.Decrement h e = cc
no_operator _ h e = cc

another : {k l : Terminal} {plus : Bool} → k ≡ l → step_terminal l ≡ None → step_terminal k ≡ Some plus → ⊥
another e n h = cc

-- what begins with `++` or `--` is no primary
no_primary : {k h : ℕ} {i a : Lexemes} {x : PlainExpr} {plus : Bool} → Derives k i a x h → 14 ≤ k → step_terminal (terminal_at i) ≡ Some plus → ⊥
no_primary (g.looser d) l h = no_primary d (omega arith) h
no_primary (g.int_literal e) l h = another e refl h
no_primary (g.true_literal e) l h = another e refl h
no_primary (g.false_literal e) l h = another e refl h
no_primary (g.null_literal e) l h = another e refl h
no_primary (g.this_value e) l h = another e refl h
no_primary (g.paren e d f) l h = another e refl h
no_primary (g.new_object e f d) l h = another e refl h
no_primary (g.new_array e b f d q r) l h = another e refl h
no_primary (g.name e) l h = another e refl h
no_primary (g.call e d) l h = another e refl h
no_primary (g.super_field e f q) l h = another e refl h
no_primary (g.super_call e f q d) l h = another e refl h
no_primary (g.dot d e f) l h = no_primary d (omega arith) h
no_primary (g.dot_call d e f q) l h = no_primary d (omega arith) h
no_primary (g.element d f e q r) l h = no_primary d (omega arith) h
no_primary (g.binary {o} d e r) l h = let q : operator_level o ≤ 12 = (three_to_twelve o).1 in omega arith
no_primary _ l h = omega arith

-- what begins with `++` or `--` and is no binary expression may be a statement
pub step_evaluates : {k h : ℕ} {i a : Lexemes} {x : PlainExpr} {plus : Bool} → Derives k i a x h → 13 ≤ k → step_terminal (terminal_at i) ≡ Some plus → is_statement_expression x ≡ true
step_evaluates (g.looser d) l h = step_evaluates d (omega arith) h
step_evaluates (g.step_before e d p) l h = refl
step_evaluates (g.step_behind d p e) l h = refl
step_evaluates (g.signed {t = t} e d) l h = absurd (no_operator t.terminal e h)
step_evaluates (g.cast_to_int e f d q r) l h = absurd (another e refl h)
step_evaluates (g.cast_to_boolean e f d q r) l h = absurd (another e refl h)
step_evaluates (g.cast_to_class e f d q r u) l h = absurd (another e refl h)
step_evaluates (g.binary {o} d e r) l h = let q : operator_level o ≤ 12 = (three_to_twelve o).1 in absurd (omega arith)
step_evaluates (g.int_literal e) l h = absurd (another e refl h)
step_evaluates (g.true_literal e) l h = absurd (another e refl h)
step_evaluates (g.false_literal e) l h = absurd (another e refl h)
step_evaluates (g.null_literal e) l h = absurd (another e refl h)
step_evaluates (g.this_value e) l h = absurd (another e refl h)
step_evaluates (g.paren e d f) l h = absurd (another e refl h)
step_evaluates (g.new_object e f d) l h = absurd (another e refl h)
step_evaluates (g.new_array e b f d q r) l h = absurd (another e refl h)
step_evaluates (g.name e) l h = absurd (another e refl h)
step_evaluates (g.call e d) l h = absurd (another e refl h)
step_evaluates (g.super_field e f q) l h = absurd (another e refl h)
step_evaluates (g.super_call e f q d) l h = absurd (another e refl h)
step_evaluates (g.dot d e f) l h = absurd (no_primary d (omega arith) h)
step_evaluates (g.dot_call d e f q) l h = absurd (no_primary d (omega arith) h)
step_evaluates (g.element d f e q r) l h = absurd (no_primary d (omega arith) h)
step_evaluates _ l h = absurd (omega arith)

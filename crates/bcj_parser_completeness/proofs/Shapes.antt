-- What a derivation says of the tree and of its first token
use Rattle.std.proofs.Common.{Bool, not, ◌≡◌, refl, ap, ℕ, ◌≤◌, true, false, List, [], ◌∷◌, arith, nat_le, ◌||◌}
use Rattle.std.proofs.lemmas.Bool.{leb-false}
use Rattle.bcj_parser_trees.specs.declared.expression.BinOp.{BinOp}
use Rattle.bcj_parser_trees.specs.Trees as tree
use Rattle.bcj_parser_trees.specs.Trees.{PlainExpr, PlainExprs, exprs_from}
use Rattle.bcj_parser_rules.specs.declared.kind.Mark.TheVariants as mark
use Rattle.bcj_parser_rules.specs.Lexemes.{Lexemes}
use Rattle.bcj_parser_rules.specs.Grammar as g
use Rattle.bcj_parser_rules.specs.Levels.{operator_level}
use Rattle.bcj_parser_rules.specs.Grammar.{Derives, Arguments, MoreArguments, is_array_creation}
use Rattle.bcj_parser_rules.specs.Lexemes.{terminal_at}
use Rattle.bcj_parser_rules.specs.function.Kinds.{beginning}
use Rattle.bcj_parser_rules.specs.function.Steps.{sees}
use Rattle.bcj_parser_rules.specs.function.Expressions.{begins, is_primary, allows, is_step, is_type_test}
use Rattle.bcj_parser_rules.specs.declared.kind.Beginning.{Beginning}
use Rattle.bcj_parser_rules.specs.declared.kind.Beginning.TheVariants as begin
use Rattle.bcj_parser_rules.specs.declared.kind.Joining.TheVariants as join
use Rattle.bcj_parser_completeness.proofs.Terminals.{seen}
use Rattle.bcj_parser_completeness.proofs.Follows.{level_high, unary_begins, step_begins}

pub tall : {k h : ℕ} {i a : Lexemes} {x : PlainExpr} → Derives k i a x h → 1 ≤ h
tall (g.looser d) = tall d
tall _ = omega arith

pub expression_begins : {k h : ℕ} {i a : Lexemes} {x : PlainExpr} → Derives k i a x h → begins 1 (beginning (terminal_at i)) ≡ true
expression_begins (g.looser d) = expression_begins d
expression_begins (g.assign d p e f) = expression_begins d
expression_begins (g.compound d p e f) = expression_begins d
expression_begins (g.conditional d e f k q) = expression_begins d
expression_begins (g.binary d e f) = expression_begins d
expression_begins (g.instance_of d e ty) = expression_begins d
expression_begins (g.signed {o = o} {t = t} e d) = ap (begins 1) (unary_begins t.terminal o e)
expression_begins (g.step_before {plus = plus} {t = t} e d p) = ap (begins 1) (step_begins t.terminal plus e)
expression_begins (g.step_behind d p e) = expression_begins d
expression_begins (g.cast_to_int e f b q d) = ap (λ k. begins 1 (beginning k)) e
expression_begins (g.cast_to_boolean e f b q d) = ap (λ k. begins 1 (beginning k)) e
expression_begins (g.cast_to_class e f b q o d) = ap (λ k. begins 1 (beginning k)) e
expression_begins (g.int_literal e) = ap (λ k. begins 1 (beginning k)) e
expression_begins (g.true_literal e) = ap (λ k. begins 1 (beginning k)) e
expression_begins (g.false_literal e) = ap (λ k. begins 1 (beginning k)) e
expression_begins (g.null_literal e) = ap (λ k. begins 1 (beginning k)) e
expression_begins (g.this_value e) = ap (λ k. begins 1 (beginning k)) e
expression_begins (g.paren e d k) = ap (λ k. begins 1 (beginning k)) e
expression_begins (g.new_object e f args) = ap (λ k. begins 1 (beginning k)) e
expression_begins (g.new_array e b f d k p) = ap (λ k. begins 1 (beginning k)) e
expression_begins (g.name e) = ap (λ k. begins 1 (beginning k)) e
expression_begins (g.call e args) = ap (λ k. begins 1 (beginning k)) e
expression_begins (g.super_field e f k) = ap (λ k. begins 1 (beginning k)) e
expression_begins (g.super_call e f k args) = ap (λ k. begins 1 (beginning k)) e
expression_begins (g.dot d e f) = expression_begins d
expression_begins (g.dot_call d e f args) = expression_begins d
expression_begins (g.element d c e f k) = expression_begins d

-- a primary begins with no `+`, `-`, `!`, `~`, `++` or `--`
pub primary_begins : {k h : ℕ} {i a : Lexemes} {x : PlainExpr} → Derives k i a x h → 14 ≤ k → begins 14 (beginning (terminal_at i)) ≡ true
primary_begins (g.looser d) l = primary_begins d (omega arith)
primary_begins (g.assign d p e f) l = absurd (omega arith)
primary_begins (g.compound d p e f) l = absurd (omega arith)
primary_begins (g.conditional d e f k q) l = absurd (omega arith)
primary_begins (g.binary {o = o} d e f) l = absurd (omega (arith, level_high o))
primary_begins (g.instance_of d e ty) l = absurd (omega arith)
primary_begins (g.signed e d) l = absurd (omega arith)
primary_begins (g.step_before e d p) l = absurd (omega arith)
primary_begins (g.step_behind d p e) l = absurd (omega arith)
primary_begins (g.cast_to_int e f b q d) l = absurd (omega arith)
primary_begins (g.cast_to_boolean e f b q d) l = absurd (omega arith)
primary_begins (g.cast_to_class e f b q o d) l = absurd (omega arith)
primary_begins (g.int_literal e) l = ap (λ k. begins 14 (beginning k)) e
primary_begins (g.true_literal e) l = ap (λ k. begins 14 (beginning k)) e
primary_begins (g.false_literal e) l = ap (λ k. begins 14 (beginning k)) e
primary_begins (g.null_literal e) l = ap (λ k. begins 14 (beginning k)) e
primary_begins (g.this_value e) l = ap (λ k. begins 14 (beginning k)) e
primary_begins (g.paren e d k) l = ap (λ k. begins 14 (beginning k)) e
primary_begins (g.new_object e f args) l = ap (λ k. begins 14 (beginning k)) e
primary_begins (g.new_array e b f d k p) l = ap (λ k. begins 14 (beginning k)) e
primary_begins (g.name e) l = ap (λ k. begins 14 (beginning k)) e
primary_begins (g.call e args) l = ap (λ k. begins 14 (beginning k)) e
primary_begins (g.super_field e f k) l = ap (λ k. begins 14 (beginning k)) e
primary_begins (g.super_call e f k args) l = ap (λ k. begins 14 (beginning k)) e
primary_begins (g.dot d e f) l = primary_begins d (omega arith)
primary_begins (g.dot_call d e f args) l = primary_begins d (omega arith)
primary_begins (g.element d c e f k) l = primary_begins d (omega arith)

pub no_step : (k : Beginning) → begins 14 k ≡ true → is_step k ≡ false
no_step (begin.Stepped plus) e = absurd (cc)
no_step _ e = refl

pub primary : {k h : ℕ} {i a : Lexemes} {x : PlainExpr} → Derives k i a x h → 14 ≤ k → is_primary x ≡ true
primary (g.looser d) l = primary d (omega arith)
primary (g.assign d p e f) l = absurd (omega arith)
primary (g.compound d p e f) l = absurd (omega arith)
primary (g.conditional d e f k q) l = absurd (omega arith)
primary (g.binary {o = o} d e f) l = absurd (omega (arith, level_high o))
primary (g.instance_of d e ty) l = absurd (omega arith)
primary (g.signed e d) l = absurd (omega arith)
primary (g.step_before e d p) l = absurd (omega arith)
primary (g.step_behind d p e) l = absurd (omega arith)
primary (g.cast_to_int e f b q d) l = absurd (omega arith)
primary (g.cast_to_boolean e f b q d) l = absurd (omega arith)
primary (g.cast_to_class e f b q o d) l = absurd (omega arith)
primary _ l = refl

no_type_test : {k h : ℕ} {i a : Lexemes} {x : PlainExpr} → Derives k i a x h → 10 ≤ k → is_type_test x ≡ false
no_type_test (g.looser d) l = no_type_test d (omega arith)
no_type_test (g.instance_of d e ty) l = absurd (omega arith)
no_type_test _ l = refl

-- an operator may follow its left operand
pub operable : (o : BinOp) {h : ℕ} {i a : Lexemes} {x : PlainExpr} → Derives (operator_level o) i a x h → allows (join.Binary o) x ≡ true
operable o {x = x} d = by (nat_le (operator_level o) 9) refl where
  by : (b : Bool) → nat_le (operator_level o) 9 ≡ b → (b || not (is_type_test x)) ≡ true
  by true e = refl
  by false e = ap not (no_type_test d (leb-false (operator_level o) 9 e))

pub indexable : (x : PlainExpr) → is_primary x ≡ true → is_array_creation x ≡ false → allows join.Bracket x ≡ true
indexable x p c = rw (p, c) refl

-- ---- arguments

abbrev pub list_of : PlainExprs → List PlainExpr
list_of tree.no_exprs = []
list_of (tree.more_exprs x es) = x ∷ list_of es

pub listed_back : (es : PlainExprs) → exprs_from (list_of es) ≡ es
listed_back tree.no_exprs = refl
listed_back (tree.more_exprs x es) = ap (tree.more_exprs x) (listed_back es)

pub arguments_open : {i a : Lexemes} {es : PlainExprs} {h : ℕ} → Arguments i a es h → sees mark.LeftParen i ≡ true
arguments_open (g.no_arguments {t = t} {u = u} {a = a} e k) = seen mark.LeftParen t (u ∷ a) e
arguments_open (g.some_arguments {t = t} {m = m} e args) = seen mark.LeftParen t m e

pub arguments_begin : {i a : Lexemes} {es : PlainExprs} {h : ℕ} → MoreArguments i a es h → begins 1 (beginning (terminal_at i)) ≡ true
arguments_begin (g.last_argument d e) = expression_begins d
arguments_begin (g.more_arguments d e args) = expression_begins d

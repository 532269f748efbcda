-- How high the trees are at least that operands, and what joins them, are read to.
use Rattle.std.proofs.Common.{◌≡◌, ℕ, zero, suc, ◌≤◌, Bool, true, false, List, Result, Ok, Err, if◌then◌else◌, nat_le, refl, subst, arith, leb-true}
use Rattle.bcj_parser_trees.specs.declared.names.Base.{Base}
use Rattle.bcj_parser_trees.specs.declared.names.TypeName.{TypeName}
use Rattle.bcj_parser_trees.specs.declared.expression.UnaryOp.{UnaryOp}
use Rattle.bcj_parser_trees.specs.Trees as tree
use Rattle.bcj_parser_rules.specs.declared.kind.Mark.TheVariants as mark
use Rattle.bcj_parser_rules.specs.declared.kind.Beginning.{Beginning}
use Rattle.bcj_parser_rules.specs.declared.kind.Beginning.TheVariants as begin
use Rattle.bcj_parser_rules.specs.declared.kind.Joining.{Joining}
use Rattle.bcj_parser_rules.specs.declared.kind.Joining.TheVariants as join
use Rattle.bcj_parser_rules.specs.declared.kind.TypeBeginning.{TypeBeginning}
use Rattle.bcj_parser_rules.specs.declared.kind.TypeBeginning.TheVariants as typed
use Rattle.bcj_parser_rules.specs.declared.terminal.Terminal.{Terminal}
use Rattle.bcj_parser_rules.specs.declared.stop.Site.{Site}
use Rattle.bcj_parser_rules.specs.declared.stop.Site.TheVariants as site
use Rattle.bcj_parser_rules.specs.declared.stop.Stop.{Stop}
use Rattle.bcj_parser_rules.specs.Lexemes.{Lexeme, Lexemes}
use Rattle.bcj_parser_rules.specs.Levels.{operator_level}
use Rattle.bcj_parser_rules.specs.Grammar.{begins_unsigned, is_place, int_value, is_decimal}
use Rattle.bcj_parser_rules.specs.Lexemes.{first, terminal_at}
use Rattle.bcj_parser_rules.specs.Marks.{is_mark}
use Rattle.bcj_parser_rules.specs.function.Kinds.{type_beginning, beginning}
use Rattle.bcj_parser_rules.specs.function.Steps.{Outcome, Parser, then_read, ◌>>=◌, pure, refuse, deep, rest, look, skip, taken, expect, named}
use Rattle.bcj_parser_rules.specs.function.Expressions.{brackets, type_name, arguments, first_length, Read, Inner, Begin, fresh, behind_name, behind_bracket, behind_this, behind_super, named_operand, super_member, super_operand, element_operand, array_creation, primitive_creation, object_creation, named_creation, creation_by, creation, cast_operand, primitive_cast, closed, class_cast, array_cast, bracket_paren, named_paren, paren_by, parenthesized, signed, stepped, operand_by, operand, operand_from, dotted, chosen, joined_by, joined, allows, expression, below_selector}

-- an outcome that is no error has such a height at least
abbrev High : {A : Type 0} → ℕ → Outcome (A × ℕ) → Type 0
High n o = elim o.0 [ Ok x ↦ n ≤ x.1 | Err e ↦ Unit {0} ]

record Grows {A : Type 0} (n : ℕ) (p : Parser (A × ℕ)) : Type 0 where
  pub at : (i : Lexemes) → High n (p i)

bind_high : {A B : Type 0} (n : ℕ) (f : A → Parser (B × ℕ)) (o : Outcome A) → ((x : A) → Grows n (f x)) → High n (then_read o f)
bind_high n f (Err e, a) h = tt
bind_high n f (Ok x, a) h = (h x).at a

grows_bind : {A B : Type 0} {n : ℕ} (p : Parser A) {f : A → Parser (B × ℕ)} → ((x : A) → Grows n (f x)) → Grows n (p >>= f)
grows_bind {n = n} p {f = f} h = record { at = λ i. bind_high n f (p i) h }

grows_pure : {A : Type 0} {n : ℕ} {x : A × ℕ} → n ≤ x.1 → Grows n (pure x)
grows_pure le = record { at = λ i. le }

grows_refuse : {A : Type 0} {n : ℕ} {w : Site} → Grows {A = A} n (refuse w)
grows_refuse = record { at = λ i. tt }

grows_deep : {A : Type 0} {n : ℕ} → Grows {A = A} n deep
grows_deep = record { at = λ i. tt }

grows_look : {A : Type 0} {n : ℕ} {f : Terminal → Parser (A × ℕ)} → ((k : Terminal) → Grows n (f k)) → Grows n (look f)
grows_look h = record { at = λ i. (h (terminal_at i)).at i }

grows_if : {A : Type 0} {n : ℕ} (test : Terminal → Bool) {p q : Parser (A × ℕ)} → Grows n p → Grows n q → Grows n (λ i. if test (terminal_at i) then p i else q i)
grows_if {n = n} test {p = p} {q = q} a b = record { at = λ i. by i (test (terminal_at i)) }
  where
    by : (i : Lexemes) (c : Bool) → High n (if c then p i else q i)
    by i true = a.at i
    by i false = b.at i

-- a choice by what is known before
grows_choice : {A : Type 0} {n : ℕ} (c : Bool) {p q : Parser (A × ℕ)} → Grows n p → Grows n q → Grows n (if c then p else q)
grows_choice true a b = a
grows_choice false a b = b

grows_taken : {A : Type 0} {n : ℕ} {f : Lexeme → Parser (A × ℕ)} → ((t : Lexeme) → Grows n (f t)) → Grows n (taken f)
grows_taken h = record { at = λ i. (h (first i)).at (rest i) }

grows_skip : {A : Type 0} {n : ℕ} {p : Parser (A × ℕ)} → Grows n p → Grows n (skip p)
grows_skip h = record { at = λ i. h.at (rest i) }

-- ---- operands

named_operand_high : (inner : Inner) (at : ℕ) (x : List ℕ) → Grows 1 (named_operand inner at x)
unfolding named_operand
named_operand_high inner at x = grows_if (is_mark mark.LeftParen) (grows_bind (arguments inner) (λ es. grows_pure (omega arith))) (grows_pure (omega arith))

super_member_high : (inner : Inner) (at : ℕ) (x : List ℕ) → Grows 1 (super_member inner at x)
unfolding super_member
super_member_high inner at x = grows_if (is_mark mark.LeftParen) (grows_bind (arguments inner) (λ es. grows_pure (omega arith))) (grows_pure (omega arith))

super_operand_high : (inner : Inner) (at : ℕ) → Grows 1 (super_operand inner at)
unfolding super_operand
super_operand_high inner at = grows_bind (expect mark.Dot site.Elsewhere) (λ u. grows_bind (named site.Elsewhere) (λ x. super_member_high inner at x))

element_operand_high : (inner : Inner) (at : ℕ) (x : List ℕ) → Grows 1 (element_operand inner at x)
unfolding element_operand
element_operand_high inner at x = grows_bind (inner fresh 1) (λ y. grows_bind (expect mark.RightBracket site.Elsewhere) (λ u. grows_pure (omega arith)))

array_creation_high : (n : ℕ) (inner : Inner) (at : ℕ) (b : Base) → Grows 1 (array_creation n inner at b)
unfolding array_creation
array_creation_high zero inner at b = grows_if (is_mark mark.LeftBracket) grows_deep grows_refuse
array_creation_high (suc n) inner at b = grows_bind (expect mark.LeftBracket site.TypeName) (λ u. grows_bind (first_length inner) (λ e.
    grows_bind (expect mark.RightBracket site.Elsewhere) (λ v. grows_bind (brackets site.Dimension n 0) (λ d. grows_pure (omega arith)))))

primitive_creation_high : (n : ℕ) (inner : Inner) (at : ℕ) (b : Base) → Grows 1 (primitive_creation n inner at b)
unfolding primitive_creation
primitive_creation_high zero inner at b = grows_deep
primitive_creation_high (suc n) inner at b = grows_skip (array_creation_high (suc n) inner at b)

object_creation_high : (inner : Inner) (at : ℕ) (x : List ℕ) → Grows 1 (object_creation inner at x)
unfolding object_creation
object_creation_high inner at x = grows_bind (arguments inner) (λ es. grows_if (is_mark mark.LeftBrace) grows_refuse (grows_pure (omega arith)))

named_creation_high : (n : ℕ) (inner : Inner) (at : ℕ) (x : List ℕ) → Grows 1 (named_creation n inner at x)
unfolding named_creation
named_creation_high n inner at x = grows_if (is_mark mark.LeftParen) (object_creation_high inner at x) (array_creation_high n inner at _)

creation_high : (n : ℕ) (inner : Inner) (at : ℕ) → Grows 1 (creation n inner at)
unfolding creation
creation_high n inner at = grows_look (λ k. by (type_beginning k))
  where
    by : (k : TypeBeginning) → Grows 1 (creation_by n inner at k)
    by typed.Int = primitive_creation_high n inner at _
    by typed.Bool = primitive_creation_high n inner at _
    by typed.Name = grows_taken (λ t. named_creation_high n inner at t.word)
    by typed.Nothing = grows_refuse

cast_operand_high : (inner : Inner) (at : ℕ) (ty : TypeName) → Grows 1 (cast_operand inner at ty)
unfolding cast_operand
cast_operand_high inner at ty = grows_bind (inner fresh 13) (λ x. grows_pure (omega arith))

primitive_cast_high : (n : ℕ) (inner : Inner) (at : ℕ) (b : Base) → Grows 1 (primitive_cast n inner at b)
unfolding primitive_cast
primitive_cast_high n inner at b = grows_bind (brackets site.Elsewhere n 0) (λ d. grows_bind (expect mark.RightParen site.Elsewhere) (λ u. cast_operand_high inner at _))

closed_high : (at : ℕ) (p : Parser Read) → Grows 1 (closed at p)
unfolding closed
closed_high at p = grows_bind p (λ x. grows_bind (expect mark.RightParen site.Elsewhere) (λ u. grows_pure (omega arith)))

class_cast_high : (inner : Inner) (at from : ℕ) (x : List ℕ) → Grows 1 (class_cast inner at from x)
unfolding class_cast
class_cast_high inner at from x = grows_if begins_unsigned (cast_operand_high inner at _) (grows_pure (omega arith))

array_cast_high : (n : ℕ) (inner : Inner) (at : ℕ) (x : List ℕ) → Grows 1 (array_cast n inner at x)
unfolding array_cast
array_cast_high n inner at x = grows_bind (brackets site.Elsewhere n 1) (λ d. grows_bind (expect mark.RightParen site.Elsewhere) (λ u. grows_if begins_unsigned (cast_operand_high inner at _) grows_refuse))

bracket_paren_high : (n : ℕ) (inner : Inner) (at from : ℕ) (x : List ℕ) → Grows 1 (bracket_paren n inner at from x)
unfolding bracket_paren
bracket_paren_high n inner at from x = grows_if (is_mark mark.RightBracket) (grows_skip (array_cast_high n inner at x)) (closed_high at _)

named_paren_high : (n : ℕ) (inner : Inner) (at from : ℕ) (x : List ℕ) → Grows 1 (named_paren n inner at from x)
unfolding named_paren
named_paren_high n inner at from x = grows_if (is_mark mark.RightParen) (grows_skip (class_cast_high inner at from x))
    (grows_if (is_mark mark.LeftBracket) (grows_skip (bracket_paren_high n inner at from x)) (closed_high at _))

parenthesized_high : (n : ℕ) (inner : Inner) (castable : Bool) (at : ℕ) → Grows 1 (parenthesized n inner castable at)
unfolding parenthesized
parenthesized_high zero inner castable at = grows_deep
parenthesized_high (suc n) inner true at = grows_skip (grows_look (λ k. by (type_beginning k)))
  where
    by : (k : TypeBeginning) → Grows 1 (paren_by n inner at k)
    by typed.Int = grows_skip (primitive_cast_high (suc n) inner at _)
    by typed.Bool = grows_skip (primitive_cast_high (suc n) inner at _)
    by typed.Name = grows_taken (λ t. named_paren_high n inner at t.at t.word)
    by typed.Nothing = closed_high at _
parenthesized_high (suc n) inner false at = grows_skip (closed_high at _)

signed_high : (n : ℕ) (inner : Inner) (at : ℕ) (o : UnaryOp) → Grows 1 (signed n inner at o)
unfolding signed
signed_high zero inner at o = grows_deep
signed_high (suc n) inner at o = grows_skip (grows_bind (inner fresh 13) (λ x. grows_pure (omega arith)))

stepped_high : (n : ℕ) (inner : Inner) (at : ℕ) (plus : Bool) → Grows 1 (stepped n inner at plus)
unfolding stepped
stepped_high zero inner at plus = grows_deep
stepped_high (suc n) inner at plus = grows_skip (grows_bind (inner fresh 14) (λ x. grows_choice (is_place x.0) (grows_pure (omega arith)) grows_refuse))

operand_high : (n : ℕ) (inner : Inner) (least at : ℕ) → Grows 1 (operand n inner least at)
unfolding operand
operand_high n inner least at = grows_look (λ k. by (beginning k))
  where
    by : (k : Beginning) → Grows 1 (operand_by n inner least at k)
    by begin.Name = grows_taken (λ t. named_operand_high inner at t.word)
    by begin.Int = grows_taken (λ t. grows_pure {x = (tree.int_literal at (int_value t.word) (is_decimal t.word), 1)} (omega arith))
    by (begin.Bool v) = grows_skip (grows_pure (omega arith))
    by begin.Null = grows_skip (grows_pure (omega arith))
    by begin.This = grows_skip (grows_pure (omega arith))
    by begin.Super = grows_skip (super_operand_high inner at)
    by begin.New = grows_skip (creation_high n inner at)
    by begin.Paren = parenthesized_high n inner _ at
    by (begin.Signed o) = grows_choice _ (signed_high n inner at o) grows_refuse
    by (begin.Stepped plus) = grows_choice _ (stepped_high n inner at plus) grows_refuse
    by begin.Nothing = grows_refuse

operand_from_high : (n : ℕ) (inner : Inner) (least at : ℕ) (b : Begin) → Grows 1 (operand_from n inner least at b)
operand_from_high n inner least at fresh = operand_high n inner least at
operand_from_high n inner least at (behind_name from x) = named_operand_high inner at x
operand_from_high n inner least at (behind_bracket from x) = element_operand_high inner at x
operand_from_high n inner least at (behind_this from) = grows_pure (omega arith)
operand_from_high n inner least at (behind_super from) = super_operand_high inner at

-- an operand is one high at least
pub operand_height : (n : ℕ) (inner : Inner) (least at : ℕ) (b : Begin) (i : Lexemes) (x : Read) (a : Lexemes) → operand_from n inner least at b i ≡ (Ok x, a) → 1 ≤ x.1
operand_height n inner least at b i x a e = subst (λ o. High 1 o) e ((operand_from_high n inner least at b).at i)

below_selector_high : (n at : ℕ) → Grows 1 (below_selector n at)
unfolding below_selector
below_selector_high zero at = grows_deep
below_selector_high (suc n) at = operand_from_high n (expression n) 14 at fresh

pub below_selector_height : (n at : ℕ) (i : Lexemes) (x : Read) (a : Lexemes) → below_selector n at i ≡ (Ok x, a) → 1 ≤ x.1
below_selector_height n at i x a e = subst (λ o. High 1 o) e ((below_selector_high n at).at i)

-- ---- what joins them

dotted_high : (inner : Inner) (at : ℕ) (l : Read) (x : List ℕ) → Grows (suc l.1) (dotted inner at l x)
unfolding dotted
dotted_high inner at l x = grows_if (is_mark mark.LeftParen) (grows_bind (arguments inner) (λ es. grows_pure (omega arith))) (grows_pure (omega arith))

chosen_high : (inner : Inner) (at : ℕ) (c : Read) → Grows (suc c.1) (chosen inner at c)
unfolding chosen
chosen_high inner at c = grows_bind (inner fresh 1) (λ l. grows_bind (expect mark.Colon site.Elsewhere) (λ u. grows_bind (inner fresh 2) (λ r. grows_pure (omega arith))))

joined_by_high : (n : ℕ) (inner : Inner) (at : ℕ) (l : Read) (j : Joining) → Grows (suc l.1) (joined_by n inner at l j)
joined_by_high n inner at l (join.Assign o) = grows_skip (grows_bind (inner fresh 1) (λ r. grows_pure (omega arith)))
joined_by_high n inner at l join.Question = grows_skip (chosen_high inner at l)
joined_by_high n inner at l (join.Binary o) = grows_skip (grows_bind (inner fresh (suc (operator_level o))) (λ r. grows_pure (omega arith)))
joined_by_high n inner at l join.InstanceOf = grows_skip (grows_bind (type_name n site.Elsewhere) (λ ty. grows_pure (omega arith)))
joined_by_high n inner at l (join.Step plus) = grows_skip (grows_pure (omega arith))
joined_by_high n inner at l join.Dot = grows_skip (grows_bind (named site.Elsewhere) (λ x. dotted_high inner at l x))
joined_by_high n inner at l join.Bracket = grows_skip (grows_bind (inner fresh 1) (λ y. grows_bind (expect mark.RightBracket site.Elsewhere) (λ u. grows_pure (omega arith))))
joined_by_high n inner at l join.Nothing = grows_refuse

abbrev IsStop : {A : Type 0} → Result A Stop → Type 0
IsStop (Ok x) = ⊥
IsStop (Err e) = Unit {0}

no_answer : {A : Type 0} (o : Outcome A) (x : A) (a : Lexemes) → IsStop o.0 → o ≡ (Ok x, a) → ⊥
no_answer o x a none e = subst (λ y. IsStop y.0) e none

-- it is higher than what it joins, for which there was room
pub joined_height : (n : ℕ) (inner : Inner) (at : ℕ) (l : Read) (j : Joining) (i : Lexemes) (x : Read) (a : Lexemes) → joined n inner at l j i ≡ (Ok x, a) → (suc l.1 ≤ x.1) × (l.1 ≤ n)
unfolding joined
joined_height n inner at l j i x a = by (allows j l.0) (nat_le l.1 n) refl
  where
    by : (c d : Bool) → nat_le l.1 n ≡ d → (if c then (if d then joined_by n inner at l j else deep) else refuse site.Elsewhere) i ≡ (Ok x, a) → (suc l.1 ≤ x.1) × (l.1 ≤ n)
    by true true fits e = (subst (λ o. High (suc l.1) o) e ((joined_by_high n inner at l j).at i), leb-true l.1 n fits)
    by true false fits e = absurd (no_answer ((deep {A = Read}) i) x a tt e)
    by false d fits e = absurd (no_answer ((refuse {A = Read} site.Elsewhere) i) x a tt e)

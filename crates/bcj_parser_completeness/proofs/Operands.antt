-- Operands: their parts are read, and so they are
use Rattle.std.proofs.Common.{◌≡◌, refl, ap, ◌∙◌, ℕ, zero, suc, ◌+◌, ◌≤◌, max, Bool, true, false, List, [], ◌∷◌, Some, Ok, arith}
use Rattle.std.proofs.lemmas.Bool.{le-leb}
use Rattle.bcj_parser_trees.specs.declared.names.Base.{Base}
use Rattle.bcj_parser_trees.specs.declared.names.Base.TheVariants as base
use Rattle.bcj_parser_trees.specs.declared.expression.UnaryOp.{UnaryOp}
use Rattle.bcj_parser_trees.specs.Trees as tree
use Rattle.bcj_parser_trees.specs.Trees.{PlainExpr, PlainExprs, exprs_from}
use Rattle.bcj_parser_rules.specs.declared.kind.Mark.TheVariants as mark
use Rattle.bcj_parser_rules.specs.declared.kind.Beginning.TheVariants as begin
use Rattle.bcj_parser_rules.specs.declared.kind.TypeBeginning.{TypeBeginning}
use Rattle.bcj_parser_rules.specs.declared.kind.TypeBeginning.TheVariants as typed
use Rattle.bcj_parser_rules.specs.declared.terminal.Terminal.TheVariants as terminal
use Rattle.bcj_parser_rules.specs.declared.stop.Site.TheVariants as site
use Rattle.bcj_parser_rules.specs.Lexemes.{Lexeme, Lexemes}
use Rattle.bcj_parser_rules.specs.Grammar.{Brackets, no_pair, pair, IsBase, int_base, boolean_base, named_base, unary_operator, step_terminal, begins_unsigned, goes_on_unsigned, is_place}
use Rattle.bcj_parser_rules.specs.Lexemes.{terminal_at}
use Rattle.bcj_parser_rules.specs.function.Kinds.{beginning, type_beginning}
use Rattle.bcj_parser_rules.specs.function.Steps.{Outcome, sees}
use Rattle.bcj_parser_rules.specs.function.Expressions.{fresh, Read, Inner, listed, brackets, arguments, named_operand, super_member, super_operand, first_length, array_creation, primitive_creation, object_creation, named_creation, creation_by, creation, cast_operand, primitive_cast, class_cast, array_cast, bracket_paren, named_paren, paren_by, parenthesized, signed, stepped, operand}
use Rattle.bcj_parser_completeness.proofs.Terminals.{seen, unseen}
use Rattle.bcj_parser_completeness.proofs.Steps.{bind, taking, passing, expect_reads, named_reads}
use Rattle.bcj_parser_completeness.proofs.Follows.{unary_begins, step_begins}
use Rattle.bcj_parser_completeness.proofs.Climbing.{taking_at, operand_as}
use Rattle.bcj_parser_completeness.proofs.Types.{brackets_read, from_none, the_number, number_as}

-- ---- arguments

pub no_arguments_read : (inner : Inner) (t u : Lexeme) (a : Lexemes) → t.terminal ≡ terminal.LeftParen → u.terminal ≡ terminal.RightParen → arguments inner (t ∷ u ∷ a) ≡ (Ok (tree.no_exprs, 0), a)
unfolding arguments
no_arguments_read inner t u a h k = bind (expect_reads mark.LeftParen site.Elsewhere t (u ∷ a) h) _ (taking (seen mark.RightParen u a k) _ refl)

pub some_arguments_read : (inner : Inner) (t u : Lexeme) (m a : Lexemes) (xs : List PlainExpr) (h : ℕ) → t.terminal ≡ terminal.LeftParen → sees mark.RightParen m ≡ false → listed (inner fresh 1) (inner fresh 1) m ≡ (Ok (xs, h), u ∷ a)
    → u.terminal ≡ terminal.RightParen → arguments inner (t ∷ m) ≡ (Ok (exprs_from xs, h), a)
unfolding arguments
some_arguments_read inner t u m a xs h e n l k = bind (expect_reads mark.LeftParen site.Elsewhere t m e) _ (passing n _ (bind l _ (bind (expect_reads mark.RightParen site.Elsewhere u a k) _ refl)))

-- ---- names

pub name_reads : (inner : Inner) (at : ℕ) (x : List ℕ) (a : Lexemes) → sees mark.LeftParen a ≡ false → named_operand inner at x a ≡ (Ok (tree.simple_name at x, 1), a)
unfolding named_operand
name_reads inner at x a e = passing e _ refl

pub call_reads : (inner : Inner) (at : ℕ) (x : List ℕ) (m a : Lexemes) (es : PlainExprs) (h : ℕ) → sees mark.LeftParen m ≡ true → arguments inner m ≡ (Ok (es, h), a)
    → named_operand inner at x m ≡ (Ok (tree.call at x es, suc h), a)
unfolding named_operand
call_reads inner at x m a es h e l = taking e _ (bind l _ refl)

pub super_field_reads : (inner : Inner) (at : ℕ) (u v : Lexeme) (a : Lexemes) → u.terminal ≡ terminal.Dot → v.terminal ≡ terminal.Identifier → sees mark.LeftParen a ≡ false
    → super_operand inner at (u ∷ v ∷ a) ≡ (Ok (tree.super_field at v.word, 1), a)
unfolding super_operand super_member
super_field_reads inner at u v a h k e = bind (expect_reads mark.Dot site.Elsewhere u (v ∷ a) h) _ (bind (named_reads site.Elsewhere v a k) _ (passing e _ refl))

pub super_call_reads : (inner : Inner) (at : ℕ) (u v : Lexeme) (m a : Lexemes) (es : PlainExprs) (h : ℕ) → u.terminal ≡ terminal.Dot → v.terminal ≡ terminal.Identifier → sees mark.LeftParen m ≡ true → arguments inner m ≡ (Ok (es, h), a)
    → super_operand inner at (u ∷ v ∷ m) ≡ (Ok (tree.super_call at v.word es, suc h), a)
unfolding super_operand super_member
super_call_reads inner at u v m a es h p q e l = bind (expect_reads mark.Dot site.Elsewhere u (v ∷ m) p) _ (bind (named_reads site.Elsewhere v m q) _ (taking e _ (bind l _ refl)))

-- ---- creations

creation_as : (n : ℕ) (inner : Inner) (at : ℕ) (u : Lexeme) (m : Lexemes) {o : Outcome Read} (k : TypeBeginning) → type_beginning u.terminal ≡ k → creation_by n inner at k (u ∷ m) ≡ o → creation n inner at (u ∷ m) ≡ o
unfolding creation
creation_as n inner at u m k e h = ap (λ k. creation_by n inner at k (u ∷ m)) e ∙ h

pub object_reads : (n : ℕ) (inner : Inner) (at : ℕ) (u : Lexeme) (m a : Lexemes) (es : PlainExprs) (h : ℕ) → u.terminal ≡ terminal.Identifier → sees mark.LeftParen m ≡ true → arguments inner m ≡ (Ok (es, h), a)
    → sees mark.LeftBrace a ≡ false → creation n inner at (u ∷ m) ≡ (Ok (tree.new_object at u.word es, suc h), a)
unfolding named_creation object_creation
object_reads n inner at u m a es h p e l b = creation_as n inner at u m typed.Name (ap type_beginning p) (taking e _ (bind l _ (passing b _ refl)))

array_creation_reads : (n : ℕ) (inner : Inner) (at : ℕ) (b : Base) (v w : Lexeme) (m k a : Lexemes) (x : PlainExpr) (d h : ℕ) → v.terminal ≡ terminal.LeftBracket → sees mark.RightBracket m ≡ false → inner fresh 1 m ≡ (Ok (x, h), w ∷ k)
    → w.terminal ≡ terminal.RightBracket → brackets site.Dimension n 0 k ≡ (Ok d, a) → array_creation (suc n) inner at b (v ∷ m) ≡ (Ok (tree.new_array at b x (suc d), suc (max h (suc d))), a)
unfolding array_creation first_length
array_creation_reads n inner at b v w m k a x d h p e o q r =
    bind (expect_reads mark.LeftBracket site.TypeName v m p) _ (bind (passing e _ o) _ (bind (expect_reads mark.RightBracket site.Elsewhere w k q) _ (bind r _ refl)))

pub array_reads : (n : ℕ) (inner : Inner) (at : ℕ) (b : Base) (u v w : Lexeme) (m k a : Lexemes) (x : PlainExpr) (d h : ℕ) → IsBase u b → v.terminal ≡ terminal.LeftBracket → sees mark.RightBracket m ≡ false
    → inner fresh 1 m ≡ (Ok (x, h), w ∷ k) → w.terminal ≡ terminal.RightBracket → Brackets k a d → sees mark.LeftBracket a ≡ false → suc d ≤ n
    → creation n inner at (u ∷ v ∷ m) ≡ (Ok (tree.new_array at b x (suc d), suc (max h (suc d))), a)
unfolding primitive_creation named_creation
array_reads zero inner at b u v w m k a x d h i p e o q r f l = absurd (omega arith)
array_reads (suc n) inner at b u v w m k a x d h (int_base i) p e o q r f l =
    creation_as (suc n) inner at u (v ∷ m) typed.Int (ap type_beginning i) (array_creation_reads n inner at base.Int v w m k a x d h p e o q (from_none r site.Dimension n (omega arith) f))
array_reads (suc n) inner at b u v w m k a x d h (boolean_base i) p e o q r f l =
    creation_as (suc n) inner at u (v ∷ m) typed.Bool (ap type_beginning i) (array_creation_reads n inner at base.Bool v w m k a x d h p e o q (from_none r site.Dimension n (omega arith) f))
array_reads (suc n) inner at b u v w m k a x d h (named_base i) p e o q r f l =
    creation_as (suc n) inner at u (v ∷ m) typed.Name (ap type_beginning i)
    (passing (unseen mark.LeftParen (v ∷ m) p refl) _ (array_creation_reads n inner at (base.Named u.word) v w m k a x d h p e o q (from_none r site.Dimension n (omega arith) f)))

-- ---- unary operators

signed_reads_behind : (n : ℕ) (inner : Inner) (at : ℕ) (o : UnaryOp) (t : Lexeme) (m a : Lexemes) (x : PlainExpr) (h : ℕ) → inner fresh 13 m ≡ (Ok (x, h), a) → signed (suc n) inner at o (t ∷ m) ≡ (Ok (tree.unary at o x, suc h), a)
unfolding signed
signed_reads_behind n inner at o t m a x h e = bind e _ refl

pub signed_reads : (n : ℕ) (inner : Inner) (least at : ℕ) (o : UnaryOp) (t : Lexeme) (m a : Lexemes) (x : PlainExpr) (h : ℕ) → 1 ≤ n → least ≤ 13 → unary_operator t.terminal ≡ Some o → inner fresh 13 m ≡ (Ok (x, h), a)
    → operand n inner least at (t ∷ m) ≡ (Ok (tree.unary at o x, suc h), a)
signed_reads zero inner least at o t m a x h p l e r = absurd (omega arith)
signed_reads (suc n) inner least at o t m a x h p l e r =
    operand_as (suc n) inner least at t m (begin.Signed o) (unary_begins t.terminal o e) (taking_at (le-leb least 13 l) _ _ (signed_reads_behind n inner at o t m a x h r))

stepped_reads_behind : (n : ℕ) (inner : Inner) (at : ℕ) (plus : Bool) (t : Lexeme) (m a : Lexemes) (x : PlainExpr) (h : ℕ) → inner fresh 14 m ≡ (Ok (x, h), a) → is_place x ≡ true
    → stepped (suc n) inner at plus (t ∷ m) ≡ (Ok (tree.step at plus false x, suc h), a)
unfolding stepped
stepped_reads_behind n inner at plus t m a x h e p = bind e _ (taking_at p _ _ refl)

pub stepped_reads : (n : ℕ) (inner : Inner) (least at : ℕ) (plus : Bool) (t : Lexeme) (m a : Lexemes) (x : PlainExpr) (h : ℕ) → 1 ≤ n → least ≤ 13 → step_terminal t.terminal ≡ Some plus → inner fresh 14 m ≡ (Ok (x, h), a) → is_place x ≡ true
    → operand n inner least at (t ∷ m) ≡ (Ok (tree.step at plus false x, suc h), a)
stepped_reads zero inner least at plus t m a x h p l e r q = absurd (omega arith)
stepped_reads (suc n) inner least at plus t m a x h p l e r q =
    operand_as (suc n) inner least at t m (begin.Stepped plus) (step_begins t.terminal plus e) (taking_at (le-leb least 13 l) _ _ (stepped_reads_behind n inner at plus t m a x h r q))

-- ---- casts

castable : (n : ℕ) (inner : Inner) (least at : ℕ) (t u : Lexeme) (m : Lexemes) {o : Outcome Read} (k : TypeBeginning) → least ≤ 13 → t.terminal ≡ terminal.LeftParen → type_beginning u.terminal ≡ k → paren_by n inner at k (u ∷ m) ≡ o
    → operand (suc n) inner least at (t ∷ u ∷ m) ≡ o
unfolding parenthesized
castable n inner least at t u m k l p e h =
    operand_as (suc n) inner least at t (u ∷ m) begin.Paren (ap beginning p) (ap (λ c. parenthesized (suc n) inner c at (t ∷ u ∷ m)) (le-leb least 13 l) ∙ ap (λ k. paren_by n inner at k (u ∷ m)) e ∙ h)

primitive_cast_reads : (n : ℕ) (inner : Inner) (at : ℕ) (b : Base) (v : Lexeme) (m k a : Lexemes) (d : ℕ) (x : PlainExpr) (h : ℕ) → Brackets m (v ∷ k) d → d ≤ n → v.terminal ≡ terminal.RightParen → inner fresh 13 k ≡ (Ok (x, h), a)
    → primitive_cast n inner at b m ≡ (Ok (tree.cast at (record { base = b; dims = d }) x, suc (max d h)), a)
unfolding primitive_cast cast_operand
primitive_cast_reads n inner at b v m k a d x h p l q e =
    bind (from_none p site.Elsewhere n l (unseen mark.LeftBracket (v ∷ k) q refl)) _ (bind (expect_reads mark.RightParen site.Elsewhere v k q) _ (bind e _ refl))

pub int_cast_reads : (n : ℕ) (inner : Inner) (least at : ℕ) (t u v : Lexeme) (m k a : Lexemes) (d : ℕ) (x : PlainExpr) (h : ℕ) → 1 ≤ n → least ≤ 13 → t.terminal ≡ terminal.LeftParen → u.terminal ≡ terminal.IntType → Brackets m (v ∷ k) d → d ≤ n
    → v.terminal ≡ terminal.RightParen → inner fresh 13 k ≡ (Ok (x, h), a) → operand n inner least at (t ∷ u ∷ m) ≡ (Ok (tree.cast at (record { base = base.Int; dims = d }) x, suc (max d h)), a)
int_cast_reads zero inner least at t u v m k a d x h c l p i b r q e = absurd (omega arith)
int_cast_reads (suc n) inner least at t u v m k a d x h c l p i b r q e =
    castable n inner least at t u m typed.Int l p (ap type_beginning i) (primitive_cast_reads (suc n) inner at base.Int v m k a d x h b r q e)

pub boolean_cast_reads : (n : ℕ) (inner : Inner) (least at : ℕ) (t u v : Lexeme) (m k a : Lexemes) (d : ℕ) (x : PlainExpr) (h : ℕ) → 1 ≤ n → least ≤ 13 → t.terminal ≡ terminal.LeftParen → u.terminal ≡ terminal.Boolean → Brackets m (v ∷ k) d → d ≤ n
    → v.terminal ≡ terminal.RightParen → inner fresh 13 k ≡ (Ok (x, h), a) → operand n inner least at (t ∷ u ∷ m) ≡ (Ok (tree.cast at (record { base = base.Bool; dims = d }) x, suc (max d h)), a)
boolean_cast_reads zero inner least at t u v m k a d x h c l p i b r q e = absurd (omega arith)
boolean_cast_reads (suc n) inner least at t u v m k a d x h c l p i b r q e =
    castable n inner least at t u m typed.Bool l p (ap type_beginning i) (primitive_cast_reads (suc n) inner at base.Bool v m k a d x h b r q e)

unsigned_at : (i : Lexemes) → goes_on_unsigned i ≡ true → begins_unsigned (terminal_at i) ≡ true
unsigned_at [] e = absurd (cc)
unsigned_at (t ∷ i) e = e

plain_cast_reads : (n : ℕ) (inner : Inner) (at from : ℕ) (w : List ℕ) (v : Lexeme) (k a : Lexemes) (x : PlainExpr) (h : ℕ) → v.terminal ≡ terminal.RightParen → begins_unsigned (terminal_at k) ≡ true → inner fresh 13 k ≡ (Ok (x, h), a)
    → named_paren n inner at from w (v ∷ k) ≡ (Ok (tree.cast at (record { base = base.Named w; dims = 0 }) x, suc (max 0 h)), a)
unfolding named_paren class_cast cast_operand
plain_cast_reads n inner at from w v k a x h q s e = taking (seen mark.RightParen v k q) _ (taking s _ (bind e _ refl))

array_cast_reads : (n : ℕ) (inner : Inner) (at from : ℕ) (w : List ℕ) (p q v : Lexeme) (m k a : Lexemes) (d : ℕ) (x : PlainExpr) (h : ℕ) → p.terminal ≡ terminal.LeftBracket → q.terminal ≡ terminal.RightBracket → brackets site.Elsewhere n 1 m ≡ (Ok (suc d), v ∷ k)
    → v.terminal ≡ terminal.RightParen → begins_unsigned (terminal_at k) ≡ true → inner fresh 13 k ≡ (Ok (x, h), a)
    → named_paren n inner at from w (p ∷ q ∷ m) ≡ (Ok (tree.cast at (record { base = base.Named w; dims = suc d }) x, suc (max (suc d) h)), a)
unfolding named_paren bracket_paren array_cast cast_operand
array_cast_reads n inner at from w p q v m k a d x h i j b r s e =
    passing (unseen mark.RightParen (p ∷ q ∷ m) i refl) _ (taking (seen mark.LeftBracket p (q ∷ m) i) _ (taking (seen mark.RightBracket q m j) _
    (bind b _ (bind (expect_reads mark.RightParen site.Elsewhere v k r) _ (taking s _ (bind e _ refl))))))

named_cast_reads : {m b : Lexemes} {d : ℕ} → Brackets m b d → (n : ℕ) (inner : Inner) (at from : ℕ) (w : List ℕ) (v : Lexeme) (k a : Lexemes) (x : PlainExpr) (h : ℕ) → b ≡ v ∷ k → d ≤ suc n → v.terminal ≡ terminal.RightParen
    → begins_unsigned (terminal_at k) ≡ true → inner fresh 13 k ≡ (Ok (x, h), a) → named_paren n inner at from w m ≡ (Ok (tree.cast at (record { base = base.Named w; dims = d }) x, suc (max d h)), a)
named_cast_reads (no_pair {a = b}) n inner at from w v k a x h c l q s e = ap (named_paren n inner at from w) c ∙ plain_cast_reads n inner at from w v k a x h q s e
named_cast_reads (pair {t = t} {u = u} {m = m} {a = b} {n = d} i j p) n inner at from w v k a x h c l q s e =
    array_cast_reads n inner at from w t u v m k a d x h i j
    (brackets_read p site.Elsewhere n 1 (omega arith) (ap (sees mark.LeftBracket) c ∙ unseen mark.LeftBracket (v ∷ k) q refl) ∙ ap (λ b. the_number (1 + d) b) c ∙ number_as (v ∷ k) (omega arith)) q s e

pub class_cast_reads : (n : ℕ) (inner : Inner) (least at : ℕ) (t u v : Lexeme) (m k a : Lexemes) (d : ℕ) (x : PlainExpr) (h : ℕ) → 1 ≤ n → least ≤ 13 → t.terminal ≡ terminal.LeftParen → u.terminal ≡ terminal.Identifier → Brackets m (v ∷ k) d → d ≤ n
    → v.terminal ≡ terminal.RightParen → goes_on_unsigned k ≡ true → inner fresh 13 k ≡ (Ok (x, h), a) → operand n inner least at (t ∷ u ∷ m) ≡ (Ok (tree.cast at (record { base = base.Named u.word; dims = d }) x, suc (max d h)), a)
class_cast_reads zero inner least at t u v m k a d x h c l p i b r q g e = absurd (omega arith)
class_cast_reads (suc n) inner least at t u v m k a d x h c l p i b r q g e =
    castable n inner least at t u m typed.Name l p (ap type_beginning i) (named_cast_reads b n inner at u.at u.word v k a x h refl r q (unsigned_at k g) e)

-- Each fault of an expression is the one that is found.
use Rattle.std.proofs.Common.{◌≡◌, ◌⊎◌, inl, inr, ℕ, Bool, true, false, List, [], ◌∷◌, ◌++◌, Option, Some, None, sym, ◌∙◌, ap, subst, if◌then◌else◌, is_some}
use Rattle.bcj_parser_trees.specs.declared.expression.UnaryOp.{UnaryOp}
use Rattle.bcj_parser_trees.specs.Trees as source
use Rattle.bcj_decl_rules.specs.World.{Named}
use Rattle.bcj_decl_rules.specs.function.Constants.{spells_least}
use Rattle.bcj_typing_rules.specs.declared.kind.Kind.{Kind}
use Rattle.bcj_typing_rules.specs.Context.{Context, type_before_dot}
use Rattle.bcj_typing_rules.specs.Expressions.{Typing, Placing, valued}
use Rattle.bcj_typing_rules.specs.Faults.{expr_at, Part, a_value, a_place, values, parts_of, tree_of, parts, HasRule, has_value, has_place, HaveRules, none_have, more_have, Lacks, lacks_value, lacks_place, ExprFault, itself, in_part, PartsFault, among_parts}
use Rattle.bcj_typing_rules.specs.function.Expressions as function
use Rattle.bcj_typing_rules.specs.function.Expressions.{Outcome, result, fault, and_then, settled, Answers, AreRight, AreOnly}
use Rattle.bcj_typing_rules.proofs.Completeness.{found, expr_found, node_found, place_found, place_node_found}

-- the fault of a part is that of the whole
pub fails_on : {A B : Type 0} (o : Outcome A) (f : A → Outcome B) (at : ℕ) (k : Kind) → o ≡ fault at k → and_then o f ≡ fault at k
fails_on o f at k h = ap (λ p. and_then p f) h

-- this fault is found of a part
abbrev pub Fails : Context → Answers → Part → ℕ → Kind → Type 0
Fails c a (a_value e) at k = function.type_expr a c e ≡ fault at k
Fails c a (a_place e) at k = function.type_place a c e ≡ fault at k

-- of one of the parts, those before it having rules
abbrev pub Among : Context → Answers → List Part → ℕ → Kind → Type 0
Among c a [] at k = ⊥
Among c a (p ∷ ps) at k = Fails c a p at k ⊎ (HasRule c p × Among c a ps at k)

among_of : (c : Context) (a : Answers) (before : List Part) (q : Part) (behind : List Part) (at : ℕ) (k : Kind) → HaveRules c before → Fails c a q at k → Among c a (before ++ q ∷ behind) at k
among_of c a [] q behind at k none_have h = inl h
among_of c a (p ∷ ps) q behind at k (more_have r rs) h = inr (r, among_of c a ps q behind at k rs h)

module _ (c : Context) (a : Answers) (right : AreRight c.units a) (only : AreOnly c.units a) where
  -- the rest of a node behind a part that is a value
  behind_value : {B : Type 0} (e : source.PlainExpr) (f : Typing → Outcome B) (at : ℕ) (k : Kind) → HasRule c (a_value e) → ((t : Typing) → f t ≡ fault at k)
      → and_then (function.type_expr a c e) f ≡ fault at k
  behind_value e f at k (has_value t x) g = found (function.type_expr a c e) f t (expr_found c a right only e t x) ∙ g t

  behind_place : {B : Type 0} (e : source.PlainExpr) (f : Placing → Outcome B) (at : ℕ) (k : Kind) → HasRule c (a_place e) → ((p : Placing) → f p ≡ fault at k)
      → and_then (function.type_place a c e) f ≡ fault at k
  behind_place e f at k (has_place p x) g = found (function.type_place a c e) f p (place_found c a right only e p x) ∙ g p

  at_value : {B : Type 0} (e : source.PlainExpr) (f : Typing → Outcome B) (ps : List Part) (at : ℕ) (k : Kind) → Among c a (a_value e ∷ ps) at k
      → (Among c a ps at k → (t : Typing) → f t ≡ fault at k) → and_then (function.type_expr a c e) f ≡ fault at k
  at_value e f ps at k (inl h) g = fails_on (function.type_expr a c e) f at k h
  at_value e f ps at k (inr h) g = behind_value e f at k h.0 (g h.1)

  at_place : {B : Type 0} (e : source.PlainExpr) (f : Placing → Outcome B) (ps : List Part) (at : ℕ) (k : Kind) → Among c a (a_place e ∷ ps) at k
      → (Among c a ps at k → (p : Placing) → f p ≡ fault at k) → and_then (function.type_place a c e) f ≡ fault at k
  at_place e f ps at k (inl h) g = fails_on (function.type_place a c e) f at k h
  at_place e f ps at k (inr h) g = behind_place e f at k h.0 (g h.1)

  -- one part that is a value, and no other
  of_one : {B : Type 0} (e : source.PlainExpr) (f : Typing → Outcome B) (at : ℕ) (k : Kind) → Among c a (a_value e ∷ []) at k → and_then (function.type_expr a c e) f ≡ fault at k
  of_one e f at k h = at_value e f [] at k h (λ m t. absurd m)

  args_fail : (es : source.PlainExprs) (at : ℕ) (k : Kind) → Among c a (values es) at k → function.type_exprs a c es ≡ fault at k
  args_fail source.no_exprs at k h = absurd h
  args_fail (source.more_exprs e es) at k h =
      at_value e (λ t. and_then (function.type_exprs a c es) (λ ts. result (t ∷ ts))) (values es) at k h
      (λ m t. fails_on (function.type_exprs a c es) (λ ts. result (t ∷ ts)) at k (args_fail es at k m))

  of_args : {B : Type 0} (es : source.PlainExprs) (f : List Typing → Outcome B) (at : ℕ) (k : Kind) → Among c a (values es) at k → and_then (function.type_exprs a c es) f ≡ fault at k
  of_args es f at k h = fails_on (function.type_exprs a c es) f at k (args_fail es at k h)

  -- ---- nodes that ask what stands before a dot, or what a sign spells

  dot_fails : (place : ℕ) (e : source.PlainExpr) (name : Named) (b : Option Named) (at : ℕ) (k : Kind) → Among c a (if is_some b then [] else a_value e ∷ []) at k
      → function.dot_of a c place e name (function.type_expr a c e) b ≡ fault at k
  dot_fails place e name (Some class) at k h = absurd h
  dot_fails place e name None at k h = of_one e _ at k h

  place_dot_fails : (place : ℕ) (e : source.PlainExpr) (name : Named) (b : Option Named) (at : ℕ) (k : Kind) → Among c a (if is_some b then [] else a_value e ∷ []) at k
      → function.dot_place_of a c place e name (function.type_expr a c e) b ≡ fault at k
  place_dot_fails place e name (Some class) at k h = absurd h
  place_dot_fails place e name None at k h = of_one e _ at k h

  dot_call_fails : (place : ℕ) (e : source.PlainExpr) (name : Named) (args : source.PlainExprs) (b : Option Named) (at : ℕ) (k : Kind)
      → Among c a (if is_some b then values args else a_value e ∷ values args) at k
      → function.dot_call_of a c place e name args (function.type_expr a c e) (function.type_exprs a c args) b ≡ fault at k
  dot_call_fails place e name args (Some class) at k h = of_args args _ at k h
  dot_call_fails place e name args None at k h = at_value e _ (values args) at k h (λ m t. of_args args _ at k m)

  unary_fails : (place : ℕ) (o : UnaryOp) (e : source.PlainExpr) (b : Bool) (at : ℕ) (k : Kind) → Among c a (if b then [] else a_value e ∷ []) at k
      → function.unary_of a c place o e (function.type_expr a c e) b ≡ fault at k
  unary_fails place o e true at k h = absurd h
  unary_fails place o e false at k h = of_one e _ at k h

  -- ---- the fault of a part of a node

  value_fails : (e : source.PlainExpr) (at : ℕ) (k : Kind) → Among c a (parts_of c e) at k → function.type_expr a c e ≡ fault at k
  value_fails (source.int_literal place n decimal) at k h = absurd h
  value_fails (source.bool_literal place b) at k h = absurd h
  value_fails (source.null_literal place) at k h = absurd h
  value_fails (source.this_value place) at k h = absurd h
  value_fails (source.simple_name place x) at k h = absurd h
  value_fails (source.paren place e) at k h = of_one e _ at k h
  value_fails (source.dot place e name) at k h = dot_fails place e name (type_before_dot c e) at k h
  value_fails (source.super_field place name) at k h = absurd h
  value_fails (source.call place name args) at k h = of_args args _ at k h
  value_fails (source.dot_call place e name args) at k h = dot_call_fails place e name args (type_before_dot c e) at k h
  value_fails (source.super_call place name args) at k h = of_args args _ at k h
  value_fails (source.new_object place class args) at k h = of_args args _ at k h
  value_fails (source.new_array place b e dims) at k h = of_one e _ at k h
  value_fails (source.element place x i) at k h = at_value x _ (a_value i ∷ []) at k h (λ m s. of_one i _ at k m)
  value_fails (source.unary place o e) at k h = unary_fails place o e (spells_least o e) at k h
  value_fails (source.step place plus post e) at k h = at_place e _ [] at k h (λ m p. absurd m)
  value_fails (source.cast place ty e) at k h = of_one e _ at k h
  value_fails (source.binary place o x y) at k h = at_value x _ (a_value y ∷ []) at k h (λ m s. of_one y _ at k m)
  value_fails (source.instance_of place e ty) at k h = of_one e _ at k h
  value_fails (source.conditional place q x y) at k h =
      at_value q _ (a_value x ∷ a_value y ∷ []) at k h (λ m s. at_value x _ (a_value y ∷ []) at k m (λ n t. of_one y _ at k n))
  value_fails (source.assign place o target e) at k h = at_place target _ (a_value e ∷ []) at k h (λ m p. of_one e _ at k m)

  place_fails : (e : source.PlainExpr) (at : ℕ) (k : Kind) → Among c a (parts c (a_place e)) at k → function.type_place a c e ≡ fault at k
  place_fails (source.simple_name place x) at k h = absurd h
  place_fails (source.dot place e name) at k h = place_dot_fails place e name (type_before_dot c e) at k h
  place_fails (source.super_field place name) at k h = absurd h
  place_fails (source.element place x i) at k h = at_value x _ (a_value i ∷ []) at k h (λ m s. of_one i _ at k m)
  place_fails e at k h = absurd h

  node_fails : (p : Part) (at : ℕ) (k : Kind) → Among c a (parts c p) at k → Fails c a p at k
  node_fails (a_value e) at k h = value_fails e at k h
  node_fails (a_place e) at k h = place_fails e at k h

  -- a node that lacks something is found to
  lacks_fails : (p : Part) (k : Kind) → Lacks c p k → Fails c a p (expr_at (tree_of p)) k
  lacks_fails p k (lacks_value {e = e} {needs = needs} {t = t} n h) =
      node_found c a right only e needs t n ∙ ap (λ o. settled (expr_at e) o (valued (function.value_here a c e) t)) h
  lacks_fails p k (lacks_place {e = e} {needs = needs} {p = q} n h) =
      place_node_found c a right only e needs q n ∙ ap (λ o. settled (expr_at e) o q) h

  pub part_fails : (p : Part) (at : ℕ) (k : Kind) → ExprFault c p at k → Fails c a p at k
  part_fails p at k (itself n) = lacks_fails p k n
  part_fails p at k (in_part {q = q} before behind e r x) =
      node_fails p at k (subst (λ l. Among c a l at k) (sym e) (among_of c a before q behind at k r (part_fails q at k x)))

  pub expr_fails : (e : source.PlainExpr) (at : ℕ) (k : Kind) → ExprFault c (a_value e) at k → function.type_expr a c e ≡ fault at k
  expr_fails e at k x = part_fails (a_value e) at k x

  pub parts_fail : (es : source.PlainExprs) (at : ℕ) (k : Kind) → PartsFault c (values es) at k → function.type_exprs a c es ≡ fault at k
  parts_fail es at k (among_parts {q = q} before behind e r x) =
      args_fail es at k (subst (λ l. Among c a l at k) (sym e) (among_of c a before q behind at k r (part_fails q at k x)))

-- From the typed parts of a declared expression to its typing.
use Rattle.std.proofs.Common.{◌≡◌, refl, sym, ◌∙◌, ap, subst, ℕ, Bool, false, List, Option, None, Some, Result, Ok, Err, IfOk}
use Rattle.std.specs.Result.{IsErr, IsErrAnd}
use Rattle.std.proofs.lemmas.Result.{err_from_is_err_and}
use Rattle.bcj_parser_trees.specs.declared.names.Base.{Base}
use Rattle.bcj_parser_trees.specs.declared.names.TypeName.{TypeName}
use Rattle.bcj_parser_trees.specs.declared.expression.UnaryOp.{UnaryOp}
use Rattle.bcj_parser_trees.specs.declared.expression.BinOp.{BinOp}
use Rattle.bcj_parser_trees.specs.declared.expression.Expr.{Expr}
use Rattle.bcj_parser_trees.specs.declared.expression.Expr.TheVariants as expr_v
use Rattle.bcj_parser_trees.specs.Trees as source
use Rattle.bcj_parser_trees.specs.Plain.{expr_of, exprs_of}
use Rattle.bcj_parser_trees.proofs.PlainLemmas.{expr-Int, expr-Bool, expr-Null, expr-This, expr-Name, expr-Paren, expr-Dot, expr-SuperField, expr-Call, expr-DotCall, expr-SuperCall, expr-New, expr-NewArray, expr-Elem, expr-Unary, expr-Step, expr-Cast, expr-Binary, expr-InstanceOf, expr-Cond, expr-Assign}
use Rattle.bcj_decl_rules.specs.World.{Named}
use Rattle.bcj_decl_rules.specs.function.Constants.{spells_least}
use Rattle.bcj_typing_rules.specs.Context.{Context, type_before_dot}
use Rattle.bcj_typing_rules.specs.Expressions as rules
use Rattle.bcj_typing_rules.specs.function.Expressions.{Outcome, result, and_then, Answers, value_here, dot_of, dot_place_of, dot_call_of, unary_of, type_expr, type_exprs, type_place}
use Rattle.bcj_typing_rules.proofs.Completeness.{found}
use Rattle.bcj_typing_node.specs.declared.miss.Miss.{Miss}
use Rattle.bcj_typing_node.specs.declared.typing.Typing.{Typing}
use Rattle.bcj_typing_node.specs.declared.typing.Placing.{Placing}
use Rattle.bcj_typing_node.specs.Outcomes.{Tells}
use Rattle.bcj_typing_node.specs.Typings.{typing_of, typings_of, placing_of}
use Rattle.bcj_typing_expression.specs.Typed.{IsTyped, AreTyped, IsPlaced, Types, TypesPlace}
use Rattle.bcj_typing_expression.proofs.Arms.{fails}

-- the error that a `?` passes on is the same
pub ended : {T : Type 0} (r : Result T Miss) (m : Miss) → IsErr r × IsErrAnd r (λ k. k ≡ m) → r ≡ Err m
ended r m h = let p : (k : Miss) × (r ≡ Err k) × (k ≡ m) = err_from_is_err_and r h.1 in p.1 ∙ ap Err p.2

-- ---- a declared expression, with its parts as they are read

-- an integer literal
pub node-Int : (e : Expr) (at : ℕ) (n : ℕ) (d : Bool) → e ≡ expr_v.Int at n d → expr_of e ≡ source.int_literal at n d
node-Int e at n d w = ap expr_of w ∙ expr-Int at n d

-- a boolean literal
pub node-Bool : (e : Expr) (at : ℕ) (b : Bool) → e ≡ expr_v.Bool at b → expr_of e ≡ source.bool_literal at b
node-Bool e at b w = ap expr_of w ∙ expr-Bool at b

-- the null literal
pub node-Null : (e : Expr) (at : ℕ) → e ≡ expr_v.Null at → expr_of e ≡ source.null_literal at
node-Null e at w = ap expr_of w ∙ expr-Null at

-- `this`
pub node-This : (e : Expr) (at : ℕ) → e ≡ expr_v.This at → expr_of e ≡ source.this_value at
node-This e at w = ap expr_of w ∙ expr-This at

-- a simple name
pub node-Name : (e : Expr) (at : ℕ) (name : Named) → e ≡ expr_v.Name at name → expr_of e ≡ source.simple_name at name
node-Name e at name w = ap expr_of w ∙ expr-Name at name

-- parentheses
pub node-Paren : (e : Expr) (at : ℕ) (p : Expr) (xp : Expr) → e ≡ expr_v.Paren at p → xp ≡ p → expr_of e ≡ source.paren at (expr_of xp)
node-Paren e at p xp w ip = ap expr_of w ∙ expr-Paren at p ∙ (λ i. source.paren at (expr_of (sym ip i)))

-- a name behind a dot
pub node-Dot : (e : Expr) (at : ℕ) (p : Expr) (name : Named) (xp : Expr) → e ≡ expr_v.Dot at p name → xp ≡ p → expr_of e ≡ source.dot at (expr_of xp) name
node-Dot e at p name xp w ip = ap expr_of w ∙ expr-Dot at p name ∙ (λ i. source.dot at (expr_of (sym ip i)) name)

-- a field behind `super`
pub node-SuperField : (e : Expr) (at : ℕ) (name : Named) → e ≡ expr_v.SuperField at name → expr_of e ≡ source.super_field at name
node-SuperField e at name w = ap expr_of w ∙ expr-SuperField at name

-- a call by a simple name
pub node-Call : (e : Expr) (at : ℕ) (name : Named) (ps : List Expr) (xps : List Expr) → e ≡ expr_v.Call at name ps → xps ≡ ps → expr_of e ≡ source.call at name (exprs_of xps)
node-Call e at name ps xps w ips = ap expr_of w ∙ expr-Call at name ps ∙ (λ i. source.call at name (exprs_of (sym ips i)))

-- a call behind a dot
pub node-DotCall : (e : Expr) (at : ℕ) (p : Expr) (name : Named) (ps : List Expr) (xp : Expr) (xps : List Expr) → e ≡ expr_v.DotCall at p name ps → xp ≡ p → xps ≡ ps → expr_of e ≡ source.dot_call at (expr_of xp) name (exprs_of xps)
node-DotCall e at p name ps xp xps w ip ips = ap expr_of w ∙ expr-DotCall at p name ps ∙ (λ i. source.dot_call at (expr_of (sym ip i)) name (exprs_of (sym ips i)))

-- a call behind `super`
pub node-SuperCall : (e : Expr) (at : ℕ) (name : Named) (ps : List Expr) (xps : List Expr) → e ≡ expr_v.SuperCall at name ps → xps ≡ ps → expr_of e ≡ source.super_call at name (exprs_of xps)
node-SuperCall e at name ps xps w ips = ap expr_of w ∙ expr-SuperCall at name ps ∙ (λ i. source.super_call at name (exprs_of (sym ips i)))

-- a new object
pub node-New : (e : Expr) (at : ℕ) (name : Named) (ps : List Expr) (xps : List Expr) → e ≡ expr_v.New at name ps → xps ≡ ps → expr_of e ≡ source.new_object at name (exprs_of xps)
node-New e at name ps xps w ips = ap expr_of w ∙ expr-New at name ps ∙ (λ i. source.new_object at name (exprs_of (sym ips i)))

-- a new array
pub node-NewArray : (e : Expr) (at : ℕ) (b : Base) (p : Expr) (dims : ℕ) (xp : Expr) → e ≡ expr_v.NewArray at b p dims → xp ≡ p → expr_of e ≡ source.new_array at b (expr_of xp) dims
node-NewArray e at b p dims xp w ip = ap expr_of w ∙ expr-NewArray at b p dims ∙ (λ i. source.new_array at b (expr_of (sym ip i)) dims)

-- an element of an array
pub node-Elem : (e : Expr) (at : ℕ) (p : Expr) (q : Expr) (xp : Expr) (xq : Expr) → e ≡ expr_v.Elem at p q → xp ≡ p → xq ≡ q → expr_of e ≡ source.element at (expr_of xp) (expr_of xq)
node-Elem e at p q xp xq w ip iq = ap expr_of w ∙ expr-Elem at p q ∙ (λ i. source.element at (expr_of (sym ip i)) (expr_of (sym iq i)))

-- an operator before its operand
pub node-Unary : (e : Expr) (at : ℕ) (o : UnaryOp) (p : Expr) (xp : Expr) → e ≡ expr_v.Unary at o p → xp ≡ p → expr_of e ≡ source.unary at o (expr_of xp)
node-Unary e at o p xp w ip = ap expr_of w ∙ expr-Unary at o p ∙ (λ i. source.unary at o (expr_of (sym ip i)))

-- a step by one
pub node-Step : (e : Expr) (at : ℕ) (plus : Bool) (post : Bool) (p : Expr) (xp : Expr) → e ≡ expr_v.Step at plus post p → xp ≡ p → expr_of e ≡ source.step at plus post (expr_of xp)
node-Step e at plus post p xp w ip = ap expr_of w ∙ expr-Step at plus post p ∙ (λ i. source.step at plus post (expr_of (sym ip i)))

-- a cast
pub node-Cast : (e : Expr) (at : ℕ) (ty : TypeName) (p : Expr) (xp : Expr) → e ≡ expr_v.Cast at ty p → xp ≡ p → expr_of e ≡ source.cast at ty (expr_of xp)
node-Cast e at ty p xp w ip = ap expr_of w ∙ expr-Cast at ty p ∙ (λ i. source.cast at ty (expr_of (sym ip i)))

-- an operator between operands
pub node-Binary : (e : Expr) (at : ℕ) (o : BinOp) (p : Expr) (q : Expr) (xp : Expr) (xq : Expr) → e ≡ expr_v.Binary at o p q → xp ≡ p → xq ≡ q → expr_of e ≡ source.binary at o (expr_of xp) (expr_of xq)
node-Binary e at o p q xp xq w ip iq = ap expr_of w ∙ expr-Binary at o p q ∙ (λ i. source.binary at o (expr_of (sym ip i)) (expr_of (sym iq i)))

-- an instance test
pub node-InstanceOf : (e : Expr) (at : ℕ) (p : Expr) (ty : TypeName) (xp : Expr) → e ≡ expr_v.InstanceOf at p ty → xp ≡ p → expr_of e ≡ source.instance_of at (expr_of xp) ty
node-InstanceOf e at p ty xp w ip = ap expr_of w ∙ expr-InstanceOf at p ty ∙ (λ i. source.instance_of at (expr_of (sym ip i)) ty)

-- a choice of two values
pub node-Cond : (e : Expr) (at : ℕ) (p : Expr) (q : Expr) (s : Expr) (xp : Expr) (xq : Expr) (xs : Expr) → e ≡ expr_v.Cond at p q s → xp ≡ p → xq ≡ q → xs ≡ s → expr_of e ≡ source.conditional at (expr_of xp) (expr_of xq) (expr_of xs)
node-Cond e at p q s xp xq xs w ip iq is = ap expr_of w ∙ expr-Cond at p q s ∙ (λ i. source.conditional at (expr_of (sym ip i)) (expr_of (sym iq i)) (expr_of (sym is i)))

-- an assignment
pub node-Assign : (e : Expr) (at : ℕ) (o : Option BinOp) (p : Expr) (q : Expr) (xp : Expr) (xq : Expr) → e ≡ expr_v.Assign at o p q → xp ≡ p → xq ≡ q → expr_of e ≡ source.assign at o (expr_of xp) (expr_of xq)
node-Assign e at o p q xp xq w ip iq = ap expr_of w ∙ expr-Assign at o p q ∙ (λ i. source.assign at o (expr_of (sym ip i)) (expr_of (sym iq i)))

-- ---- results

module _ (a : Answers) (c : Context) where
  -- equal expressions are typed alike
  pub moved : (d e : source.PlainExpr) (r : Result Typing Miss) → d ≡ e → Types a c e r → Types a c d r
  moved d e r is h = subst (λ (f : source.PlainExpr). Types a c f r) (sym is) h

  -- the same of variables that are assigned
  pub moved_place : (d e : source.PlainExpr) (r : Result Placing Miss) → d ≡ e → TypesPlace a c e r → TypesPlace a c d r
  moved_place d e r is h = subst (λ (f : source.PlainExpr). TypesPlace a c f r) (sym is) h

  -- what goes on from a part at fault has its fault
  at_fault : {R A : Type 0} (e : source.PlainExpr) (of : R → A) (o : Outcome A) (f : A → Outcome rules.Typing) (m : Miss) (r : Result Typing Miss)
      → r ≡ Err m → Tells of o (Err m) → type_expr a c e ≡ and_then o f → Types a c e r
  at_fault e of o f m r q h is = record {
    typing =
        subst (λ (s : Result Typing Miss). Tells typing_of (type_expr a c e) s) (sym q)
        (subst (λ (p : Outcome rules.Typing). Tells typing_of p (Err m)) (sym is) (fails of typing_of o f m h));
    worth = subst (λ (s : Result Typing Miss). IfOk s (λ t. t.value ≡ value_here a c e)) (sym q) tt;
  }

  -- the same of a variable that is assigned
  place_at_fault : {R A : Type 0} (e : source.PlainExpr) (of : R → A) (o : Outcome A) (f : A → Outcome rules.Placing) (m : Miss) (r : Result Placing Miss)
      → r ≡ Err m → Tells of o (Err m) → type_place a c e ≡ and_then o f → TypesPlace a c e r
  place_at_fault e of o f m r q h is = record {
    placing =
        subst (λ (s : Result Placing Miss). Tells placing_of (type_place a c e) s) (sym q)
        (subst (λ (p : Outcome rules.Placing). Tells placing_of p (Err m)) (sym is) (fails of placing_of o f m h));
  }

  -- ---- a part at fault

  -- arguments of a call by a simple name
  pub call-args : (at : ℕ) (name : Named) (es : source.PlainExprs) (m : Miss) (r : Result Typing Miss)
      → r ≡ Err m → Tells typings_of (type_exprs a c es) (Err m) → Types a c (source.call at name es) r
  call-args at name es m r q h = at_fault (source.call at name es) typings_of (type_exprs a c es) _ m r q h (refl)

  -- arguments of a call behind `super`
  pub super_call-args : (at : ℕ) (name : Named) (es : source.PlainExprs) (m : Miss) (r : Result Typing Miss)
      → r ≡ Err m → Tells typings_of (type_exprs a c es) (Err m) → Types a c (source.super_call at name es) r
  super_call-args at name es m r q h = at_fault (source.super_call at name es) typings_of (type_exprs a c es) _ m r q h (refl)

  -- arguments of a new object
  pub new_object-args : (at : ℕ) (name : Named) (es : source.PlainExprs) (m : Miss) (r : Result Typing Miss)
      → r ≡ Err m → Tells typings_of (type_exprs a c es) (Err m) → Types a c (source.new_object at name es) r
  new_object-args at name es m r q h = at_fault (source.new_object at name es) typings_of (type_exprs a c es) _ m r q h (refl)

  -- arguments of a call behind the name of a type
  pub type_call-args : (at : ℕ) (e : source.PlainExpr) (name class : Named) (es : source.PlainExprs) (m : Miss) (r : Result Typing Miss)
      → type_before_dot c e ≡ Some class → r ≡ Err m → Tells typings_of (type_exprs a c es) (Err m) → Types a c (source.dot_call at e name es) r
  type_call-args at e name class es m r d q h = at_fault (source.dot_call at e name es) typings_of (type_exprs a c es) _ m r q h (ap (dot_call_of a c at e name es (type_expr a c e) (type_exprs a c es)) d)

  -- what a call stands behind
  pub dot_call-target : (at : ℕ) (e : source.PlainExpr) (name : Named) (es : source.PlainExprs) (m : Miss) (r : Result Typing Miss)
      → type_before_dot c e ≡ None → r ≡ Err m → Tells typing_of (type_expr a c e) (Err m) → Types a c (source.dot_call at e name es) r
  dot_call-target at e name es m r d q h = at_fault (source.dot_call at e name es) typing_of (type_expr a c e) _ m r q h (ap (dot_call_of a c at e name es (type_expr a c e) (type_exprs a c es)) d)

  -- arguments of a call behind a value
  pub dot_call-args : (at : ℕ) (e : source.PlainExpr) (name : Named) (es : source.PlainExprs) (t : Typing) (m : Miss) (r : Result Typing Miss)
      → type_before_dot c e ≡ None → IsTyped a c e t → r ≡ Err m → Tells typings_of (type_exprs a c es) (Err m) → Types a c (source.dot_call at e name es) r
  dot_call-args at e name es t m r d l q h = at_fault (source.dot_call at e name es) typings_of (type_exprs a c es) _ m r q h (ap (dot_call_of a c at e name es (type_expr a c e) (type_exprs a c es)) d ∙ found (type_expr a c e) _ (typing_of t) l.typing)

  -- what a field stands behind
  pub dot-target : (at : ℕ) (e : source.PlainExpr) (name : Named) (m : Miss) (r : Result Typing Miss)
      → type_before_dot c e ≡ None → r ≡ Err m → Tells typing_of (type_expr a c e) (Err m) → Types a c (source.dot at e name) r
  dot-target at e name m r d q h = at_fault (source.dot at e name) typing_of (type_expr a c e) _ m r q h (ap (dot_of a c at e name (type_expr a c e)) d)

  -- the length of a new array
  pub new_array-length : (at : ℕ) (b : Base) (e : source.PlainExpr) (dims : ℕ) (m : Miss) (r : Result Typing Miss)
      → r ≡ Err m → Tells typing_of (type_expr a c e) (Err m) → Types a c (source.new_array at b e dims) r
  new_array-length at b e dims m r q h = at_fault (source.new_array at b e dims) typing_of (type_expr a c e) _ m r q h (refl)

  -- the array of an element
  pub element-array : (at : ℕ) (x y : source.PlainExpr) (m : Miss) (r : Result Typing Miss)
      → r ≡ Err m → Tells typing_of (type_expr a c x) (Err m) → Types a c (source.element at x y) r
  element-array at x y m r q h = at_fault (source.element at x y) typing_of (type_expr a c x) _ m r q h (refl)

  -- its index
  pub element-index : (at : ℕ) (x y : source.PlainExpr) (s : Typing) (m : Miss) (r : Result Typing Miss)
      → IsTyped a c x s → r ≡ Err m → Tells typing_of (type_expr a c y) (Err m) → Types a c (source.element at x y) r
  element-index at x y s m r l q h = at_fault (source.element at x y) typing_of (type_expr a c y) _ m r q h (found (type_expr a c x) _ (typing_of s) l.typing)

  -- the operand of an operator
  pub unary-part : (at : ℕ) (o : UnaryOp) (e : source.PlainExpr) (m : Miss) (r : Result Typing Miss)
      → spells_least o e ≡ false → r ≡ Err m → Tells typing_of (type_expr a c e) (Err m) → Types a c (source.unary at o e) r
  unary-part at o e m r l q h = at_fault (source.unary at o e) typing_of (type_expr a c e) _ m r q h (ap (unary_of a c at o e (type_expr a c e)) l)

  -- the variable of a step by one
  pub step-place : (at : ℕ) (plus post : Bool) (e : source.PlainExpr) (m : Miss) (r : Result Typing Miss)
      → r ≡ Err m → Tells placing_of (type_place a c e) (Err m) → Types a c (source.step at plus post e) r
  step-place at plus post e m r q h = at_fault (source.step at plus post e) placing_of (type_place a c e) _ m r q h (refl)

  -- the operand of a cast
  pub cast-part : (at : ℕ) (ty : TypeName) (e : source.PlainExpr) (m : Miss) (r : Result Typing Miss)
      → r ≡ Err m → Tells typing_of (type_expr a c e) (Err m) → Types a c (source.cast at ty e) r
  cast-part at ty e m r q h = at_fault (source.cast at ty e) typing_of (type_expr a c e) _ m r q h (refl)

  -- the first operand
  pub binary-left : (at : ℕ) (o : BinOp) (x y : source.PlainExpr) (m : Miss) (r : Result Typing Miss)
      → r ≡ Err m → Tells typing_of (type_expr a c x) (Err m) → Types a c (source.binary at o x y) r
  binary-left at o x y m r q h = at_fault (source.binary at o x y) typing_of (type_expr a c x) _ m r q h (refl)

  -- the second operand
  pub binary-right : (at : ℕ) (o : BinOp) (x y : source.PlainExpr) (s : Typing) (m : Miss) (r : Result Typing Miss)
      → IsTyped a c x s → r ≡ Err m → Tells typing_of (type_expr a c y) (Err m) → Types a c (source.binary at o x y) r
  binary-right at o x y s m r l q h = at_fault (source.binary at o x y) typing_of (type_expr a c y) _ m r q h (found (type_expr a c x) _ (typing_of s) l.typing)

  -- the operand of an instance test
  pub instance_of-part : (at : ℕ) (e : source.PlainExpr) (ty : TypeName) (m : Miss) (r : Result Typing Miss)
      → r ≡ Err m → Tells typing_of (type_expr a c e) (Err m) → Types a c (source.instance_of at e ty) r
  instance_of-part at e ty m r q h = at_fault (source.instance_of at e ty) typing_of (type_expr a c e) _ m r q h (refl)

  -- the test of a choice
  pub conditional-test : (at : ℕ) (x y z : source.PlainExpr) (m : Miss) (r : Result Typing Miss)
      → r ≡ Err m → Tells typing_of (type_expr a c x) (Err m) → Types a c (source.conditional at x y z) r
  conditional-test at x y z m r q h = at_fault (source.conditional at x y z) typing_of (type_expr a c x) _ m r q h (refl)

  -- its first value
  pub conditional-first : (at : ℕ) (x y z : source.PlainExpr) (s : Typing) (m : Miss) (r : Result Typing Miss)
      → IsTyped a c x s → r ≡ Err m → Tells typing_of (type_expr a c y) (Err m) → Types a c (source.conditional at x y z) r
  conditional-first at x y z s m r l q h = at_fault (source.conditional at x y z) typing_of (type_expr a c y) _ m r q h (found (type_expr a c x) _ (typing_of s) l.typing)

  -- its second value
  pub conditional-second : (at : ℕ) (x y z : source.PlainExpr) (s t : Typing) (m : Miss) (r : Result Typing Miss)
      → IsTyped a c x s → IsTyped a c y t → r ≡ Err m → Tells typing_of (type_expr a c z) (Err m) → Types a c (source.conditional at x y z) r
  conditional-second at x y z s t m r l g q h = at_fault (source.conditional at x y z) typing_of (type_expr a c z) _ m r q h (found (type_expr a c x) _ (typing_of s) l.typing ∙ found (type_expr a c y) _ (typing_of t) g.typing)

  -- the variable of an assignment
  pub assign-place : (at : ℕ) (o : Option BinOp) (x y : source.PlainExpr) (m : Miss) (r : Result Typing Miss)
      → r ≡ Err m → Tells placing_of (type_place a c x) (Err m) → Types a c (source.assign at o x y) r
  assign-place at o x y m r q h = at_fault (source.assign at o x y) placing_of (type_place a c x) _ m r q h (refl)

  -- its value
  pub assign-value : (at : ℕ) (o : Option BinOp) (x y : source.PlainExpr) (s : Placing) (m : Miss) (r : Result Typing Miss)
      → IsPlaced a c x s → r ≡ Err m → Tells typing_of (type_expr a c y) (Err m) → Types a c (source.assign at o x y) r
  assign-value at o x y s m r l q h = at_fault (source.assign at o x y) typing_of (type_expr a c y) _ m r q h (found (type_place a c x) _ (placing_of s) l.placing)

  -- what an assigned field stands behind
  pub dot_place-target : (at : ℕ) (e : source.PlainExpr) (name : Named) (m : Miss) (r : Result Placing Miss)
      → type_before_dot c e ≡ None → r ≡ Err m → Tells typing_of (type_expr a c e) (Err m) → TypesPlace a c (source.dot at e name) r
  dot_place-target at e name m r d q h = place_at_fault (source.dot at e name) typing_of (type_expr a c e) _ m r q h (ap (dot_place_of a c at e name (type_expr a c e)) d)

  -- the array of an assigned element
  pub element_place-array : (at : ℕ) (x y : source.PlainExpr) (m : Miss) (r : Result Placing Miss)
      → r ≡ Err m → Tells typing_of (type_expr a c x) (Err m) → TypesPlace a c (source.element at x y) r
  element_place-array at x y m r q h = place_at_fault (source.element at x y) typing_of (type_expr a c x) _ m r q h (refl)

  -- its index
  pub element_place-index : (at : ℕ) (x y : source.PlainExpr) (s : Typing) (m : Miss) (r : Result Placing Miss)
      → IsTyped a c x s → r ≡ Err m → Tells typing_of (type_expr a c y) (Err m) → TypesPlace a c (source.element at x y) r
  element_place-index at x y s m r l q h = place_at_fault (source.element at x y) typing_of (type_expr a c y) _ m r q h (found (type_expr a c x) _ (typing_of s) l.typing)

-- What is typed has its value for its tree.
use Rattle.std.proofs.Common.{◌≡◌, refl, ap, subst, ℕ, Bool, true, false, List, [], ◌∷◌, ◌++◌, Option, None, Some}
use Rattle.bcj_parser_trees.specs.declared.expression.UnaryOp.{UnaryOp}
use Rattle.bcj_parser_trees.specs.declared.expression.BinOp.{BinOp}
use Rattle.bcj_parser_trees.specs.Trees as source
use Rattle.bcj_symbolic_trees.specs.Trees as tree
use Rattle.bcj_symbolic_trees.specs.Types.{given, int_type}
use Rattle.bcj_decl_rules.specs.declared.value.Value.{Value}
use Rattle.bcj_decl_rules.specs.World.{Named}
use Rattle.bcj_decl_rules.specs.function.Constants.{spells_least}
use Rattle.bcj_typing_rules.specs.declared.kind.Kind.{Kind}
use Rattle.bcj_typing_rules.specs.Premises.{Need, earliest_missing}
use Rattle.bcj_typing_rules.specs.Context.{Context, type_before_dot, superclass_at}
use Rattle.bcj_typing_rules.specs.Expressions.{Typing, Placing, valued, MemberOf, array_size, of_class, no_member, member_of, class_of_value}
use Rattle.bcj_typing_rules.specs.Faults.{expr_at}
use Rattle.bcj_typing_rules.specs.function.Expressions.{Outcome, result, fault, and_then, settled, Answers, value_here, whole, field_behind, super_read, call_behind, call_super, assigned, dot_of, dot_call_of, unary_of, type_expr, type_exprs, type_place}

-- what has a result is valued
abbrev IsValued : Option Value → Outcome Typing → Type 0
IsValued v o = (t : Typing) → o ≡ result t → valued v t ≡ t

-- a value is put in place once
valued_twice : (v : Option Value) (t : Typing) → valued v (valued v t) ≡ valued v t
valued_twice None t = refl
valued_twice (Some v) t = refl

-- a node that lacks nothing
settles_valued : (v : Option Value) (at : ℕ) (m : Option Kind) (t : Typing) → IsValued v (settled at m (valued v t))
settles_valued v at None t u h = let e : valued v t ≡ u = cc in subst (λ (w : Typing). valued v w ≡ w) e (valued_twice v t)
settles_valued v at (Some k) t u h = cc

-- what goes on from a first part
goes_on_valued : {A : Type 0} (v : Option Value) (o : Outcome A) (f : A → Outcome Typing) → ((x : A) → IsValued v (f x)) → IsValued v (and_then o f)
goes_on_valued v (result x) f g t h = g x t h
goes_on_valued v (fault at k) f g t h = cc

module _ (a : Answers) (c : Context) where
  -- a node by its needs
  whole_valued : (e : source.PlainExpr) (needs : List Need) (t : Typing) → IsValued (value_here a c e) (whole a c e needs t)
  whole_valued e needs t = settles_valued (value_here a c e) (expr_at e) (earliest_missing needs) t

  -- a name behind a value
  field_behind_valued : (e : source.PlainExpr) (name : Named) (t : Typing) (m : MemberOf) → IsValued (value_here a c e) (field_behind a c e name t m)
  field_behind_valued e name t array_size = search (whole_valued)
  field_behind_valued e name t (of_class class) = search (whole_valued)
  field_behind_valued e name t no_member = search (whole_valued)

  -- a name behind a dot
  dot_valued : (at : ℕ) (e : source.PlainExpr) (name : Named) (part : Outcome Typing) (o : Option Named)
      → IsValued (value_here a c (source.dot at e name)) (dot_of a c at e name part o)
  dot_valued at e name part (Some class) = search (whole_valued)
  dot_valued at e name part None = goes_on_valued (value_here a c (source.dot at e name)) part _ (λ t. field_behind_valued (source.dot at e name) name t (member_of t.type name))

  -- a field behind `super`
  super_read_valued : (e : source.PlainExpr) (name : Named) (o : Option Named) → IsValued (value_here a c e) (super_read a c e name o)
  super_read_valued e name None = search (whole_valued)
  super_read_valued e name (Some class) = search (whole_valued)

  -- a call behind `super`
  call_super_valued : (e : source.PlainExpr) (name : Named) (ts : List Typing) (o : Option Named) → IsValued (value_here a c e) (call_super a c e name ts o)
  call_super_valued e name ts None = search (whole_valued)
  call_super_valued e name ts (Some class) = search (whole_valued)

  -- a call behind a value
  call_behind_valued : (e : source.PlainExpr) (name : Named) (t : Typing) (ts : List Typing) (o : Option Named)
      → IsValued (value_here a c e) (call_behind a c e name t ts o)
  call_behind_valued e name t ts None = search (whole_valued)
  call_behind_valued e name t ts (Some class) = search (whole_valued)

  -- a call behind a dot
  dot_call_valued : (at : ℕ) (e : source.PlainExpr) (name : Named) (args : source.PlainExprs) (part : Outcome Typing) (parts : Outcome (List Typing)) (o : Option Named)
      → IsValued (value_here a c (source.dot_call at e name args)) (dot_call_of a c at e name args part parts o)
  dot_call_valued at e name args part parts (Some class) = goes_on_valued (value_here a c (source.dot_call at e name args)) parts _ (λ ts. search (whole_valued))
  dot_call_valued at e name args part parts None =
      goes_on_valued (value_here a c (source.dot_call at e name args)) part _ (λ t. goes_on_valued (value_here a c (source.dot_call at e name args)) parts _ (λ ts. call_behind_valued (source.dot_call at e name args) name t ts (class_of_value t.type)))

  -- an operator before its operand
  unary_valued : (at : ℕ) (o : UnaryOp) (e : source.PlainExpr) (part : Outcome Typing) (b : Bool)
      → IsValued (value_here a c (source.unary at o e)) (unary_of a c at o e part b)
  unary_valued at o e part true = search (whole_valued)
  unary_valued at o e part false = goes_on_valued (value_here a c (source.unary at o e)) part _ (λ t. search (whole_valued))

  -- an assignment
  assigned_valued : (e : source.PlainExpr) (o : Option BinOp) (p : Placing) (t : Typing) → IsValued (value_here a c e) (assigned a c e o p t)
  assigned_valued e None p t = search (whole_valued)
  assigned_valued e (Some o) p t = search (whole_valued)

  -- the typing of an expression has its value for its tree
  pub typing_valued : (e : source.PlainExpr) → IsValued (value_here a c e) (type_expr a c e)
  typing_valued (source.int_literal at n decimal) = search (whole_valued)
  typing_valued (source.bool_literal at b) = search (whole_valued)
  typing_valued (source.null_literal at) = search (whole_valued)
  typing_valued (source.this_value at) = search (whole_valued)
  typing_valued (source.simple_name at x) = search (whole_valued)
  typing_valued (source.paren at e) = goes_on_valued (value_here a c (source.paren at e)) (type_expr a c e) _ (λ t. search (whole_valued))
  typing_valued (source.dot at e name) = dot_valued at e name (type_expr a c e) (type_before_dot c e)
  typing_valued (source.super_field at name) = super_read_valued (source.super_field at name) name (superclass_at c)
  typing_valued (source.call at name args) = goes_on_valued (value_here a c (source.call at name args)) (type_exprs a c args) _ (λ ts. search (whole_valued))
  typing_valued (source.dot_call at e name args) = dot_call_valued at e name args _ _ (type_before_dot c e)
  typing_valued (source.super_call at name args) = goes_on_valued (value_here a c (source.super_call at name args)) (type_exprs a c args) _ (λ ts. call_super_valued (source.super_call at name args) name ts (superclass_at c))
  typing_valued (source.new_object at class args) = goes_on_valued (value_here a c (source.new_object at class args)) (type_exprs a c args) _ (λ ts. search (whole_valued))
  typing_valued (source.new_array at b e dims) = goes_on_valued (value_here a c (source.new_array at b e dims)) (type_expr a c e) _ (λ t. search (whole_valued))
  typing_valued (source.element at x i) = goes_on_valued (value_here a c (source.element at x i)) (type_expr a c x) _ (λ s. goes_on_valued (value_here a c (source.element at x i)) (type_expr a c i) _ (λ t. search (whole_valued)))
  typing_valued (source.unary at o e) = unary_valued at o e (type_expr a c e) (spells_least o e)
  typing_valued (source.step at plus post e) = goes_on_valued (value_here a c (source.step at plus post e)) (type_place a c e) _ (λ p. search (whole_valued))
  typing_valued (source.cast at ty e) = goes_on_valued (value_here a c (source.cast at ty e)) (type_expr a c e) _ (λ t. search (whole_valued))
  typing_valued (source.binary at o x y) = goes_on_valued (value_here a c (source.binary at o x y)) (type_expr a c x) _ (λ s. goes_on_valued (value_here a c (source.binary at o x y)) (type_expr a c y) _ (λ t. search (whole_valued)))
  typing_valued (source.instance_of at e ty) = goes_on_valued (value_here a c (source.instance_of at e ty)) (type_expr a c e) _ (λ t. search (whole_valued))
  typing_valued (source.conditional at test x y) =
      goes_on_valued (value_here a c (source.conditional at test x y)) (type_expr a c test) _
      (λ q. goes_on_valued (value_here a c (source.conditional at test x y)) (type_expr a c x) _ (λ s. goes_on_valued (value_here a c (source.conditional at test x y)) (type_expr a c y) _ (λ t. search (whole_valued))))
  typing_valued (source.assign at o place e) = goes_on_valued (value_here a c (source.assign at o place e)) (type_place a c place) _ (λ p. goes_on_valued (value_here a c (source.assign at o place e)) (type_expr a c e) _ (λ t. assigned_valued (source.assign at o place e) o p t))

  -- what is valued already stays
  paren_outcome : (at : ℕ) (e : source.PlainExpr) (o : Outcome Typing) → IsValued (value_here a c e) o → and_then o (λ t. whole a c (source.paren at e) [] t) ≡ o
  paren_outcome at e (result t) h = ap result (h t refl)
  paren_outcome at e (fault from k) h = refl

  -- parentheses change nothing
  pub paren_typing : (at : ℕ) (e : source.PlainExpr) → type_expr a c (source.paren at e) ≡ type_expr a c e
  paren_typing at e = paren_outcome at e (type_expr a c e) (typing_valued e)

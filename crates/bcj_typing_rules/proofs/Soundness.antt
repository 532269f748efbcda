-- The function is sound: its typing is one of the relation, and its fault is one that the relation finds.
use Rattle.std.proofs.Common.{rules, ◌≡◌, ℕ, Bool, true, false, List, [], ◌∷◌, ◌++◌, Option, Some, None, refl, sym, ◌∙◌, ap, subst, Decides, append_assoc, if◌then◌else◌, ◌==◌, is_some}
use Rattle.std.proofs.lemmas.Bool.{and_parts}
use Rattle.bcj_parser_trees.specs.declared.expression.BinOp.{BinOp}
use Rattle.bcj_parser_trees.specs.declared.expression.UnaryOp.{UnaryOp}
use Rattle.bcj_parser_trees.specs.declared.expression.UnaryOp.TheVariants as unop
use Rattle.bcj_parser_trees.specs.Trees as source
use Rattle.bcj_symbolic_trees.specs.Types.{PlainArg, given, int_type}
use Rattle.bcj_decl_rules.specs.World.{Named, type_of}
use Rattle.bcj_decl_rules.specs.Members.{field_of}
use Rattle.bcj_decl_rules.specs.Constants.{least_size}
use Rattle.bcj_decl_rules.specs.function.Constants.{spells_least}
use Rattle.bcj_typing_rules.specs.declared.kind.Kind.{Kind}
use Rattle.bcj_typing_rules.specs.Premises.{Need, earliest_missing}
use Rattle.bcj_typing_rules.specs.Context.{Context, world_at, type_before_dot, superclass_at}
use Rattle.bcj_typing_rules.specs.Operators.{compares_objects}
use Rattle.bcj_typing_rules.specs.Casting.{GoTogether}
use Rattle.bcj_typing_rules.specs.Expressions as rule
use Rattle.bcj_typing_rules.specs.Expressions.{Typing, Placing, MemberOf, array_size, of_class, no_member, member_of, class_of_value, is_place, valued, Composes, Types, types, TypesAll, no_arguments, more_arguments, Places, TypesPlace, types_place}
use Rattle.bcj_typing_rules.specs.Faults.{expr_at, Part, a_value, a_place, values, parts, HasRule, has_value, has_place, HaveRules, none_have, more_have, lacks_value, lacks_place, ExprFault, itself, in_part, PartsFault, among_parts}
use Rattle.bcj_typing_rules.specs.function.Expressions as function
use Rattle.bcj_typing_rules.specs.function.Expressions.{Outcome, result, fault, and_then, settled, Answers, AreRight}
use Rattle.bcj_typing_rules.proofs.Deciding.{fits_decides, joins_right, together_decides, cast_right, worth_here, found_worth}

-- what an outcome says: its result is good, or its fault is
abbrev pub Meets : {B : Type 0} → (B → Type 0) → (ℕ → Kind → Type 0) → Outcome B → Type 0
Meets Good Bad (result b) = Good b
Meets Good Bad (fault at k) = Bad at k

-- the same of a part
abbrev pub Says : {B : Type 0} → (B → Type 0) → Context → Part → Outcome B → Type 0
Says Good c p = Meets Good (ExprFault c p)

abbrev pub SaysExpr : Context → source.PlainExpr → Outcome Typing → Type 0
SaysExpr c e = Says (Types c e) c (a_value e)

abbrev pub SaysPlace : Context → source.PlainExpr → Outcome Placing → Type 0
SaysPlace c e = Says (TypesPlace c e) c (a_place e)

abbrev pub SaysArgs : Context → source.PlainExprs → Outcome (List Typing) → Type 0
SaysArgs c es = Meets (TypesAll c es) (PartsFault c (values es))

have_both : {c : Context} (ps qs : List Part) → HaveRules c ps → HaveRules c qs → HaveRules c (ps ++ qs)
have_both [] qs none_have k = k
have_both (p ∷ ps) qs (more_have r h) k = more_have r (have_both ps qs h k)

-- the first fault of a part is that of the whole
go_on : {A B : Type 0} (Good : A → Type 0) (Goal : B → Type 0) (c : Context) (q p : Part) (before behind : List Part) → parts c p ≡ before ++ q ∷ behind → HaveRules c before
    → (o : Outcome A) (f : A → Outcome B) → Says Good c q o → ((x : A) → Good x → Says Goal c p (f x)) → Says Goal c p (and_then o f)
go_on Good Goal c q p before behind e r (result x) f h g = g x h
go_on Good Goal c q p before behind e r (fault at k) f h g = in_part before behind e r h

-- the same of arguments, which are the last parts
arguments_fault : (c : Context) (p : Part) (es : source.PlainExprs) (front : List Part) (at : ℕ) (k : Kind) → parts c p ≡ front ++ values es → HaveRules c front → PartsFault c (values es) at k
    → ExprFault c p at k
arguments_fault c p es front at k e r (among_parts before behind d h x) =
    in_part (front ++ before) behind (e ∙ ap (λ l. front ++ l) d ∙ sym (append_assoc front before (_ ∷ behind))) (have_both front before r h) x

go_on_arguments : {B : Type 0} (Goal : B → Type 0) (c : Context) (p : Part) (es : source.PlainExprs) (front : List Part) → parts c p ≡ front ++ values es → HaveRules c front
    → (o : Outcome (List Typing)) (f : List Typing → Outcome B) → SaysArgs c es o → ((ts : List Typing) → TypesAll c es ts → Says Goal c p (f ts)) → Says Goal c p (and_then o f)
go_on_arguments Goal c p es front e r (result ts) f h g = g ts h
go_on_arguments Goal c p es front e r (fault at k) f h g = arguments_fault c p es front at k e r h

module _ (c : Context) (a : Answers) (right : AreRight c.units a) where
  settles : (e : source.PlainExpr) (needs : List Need) (t : Typing) (o : Option Kind) → Composes c e needs t → earliest_missing needs ≡ o
      → SaysExpr c e (settled (expr_at e) o (valued (function.value_here a c e) t))
  settles e needs t None n h = types n h (worth_here c a right e)
  settles e needs t (Some k) n h = itself (lacks_value n h)

  whole_says : (e : source.PlainExpr) (needs : List Need) (t : Typing) → Composes c e needs t → SaysExpr c e (function.whole a c e needs t)
  whole_says e needs t n = settles e needs t (earliest_missing needs) n refl

  settles_place : (e : source.PlainExpr) (needs : List Need) (p : Placing) (o : Option Kind) → Places c e needs p → earliest_missing needs ≡ o → SaysPlace c e (settled (expr_at e) o p)
  settles_place e needs p None n h = types_place n h
  settles_place e needs p (Some k) n h = itself (lacks_place n h)

  place_says : (e : source.PlainExpr) (needs : List Need) (p : Placing) → Places c e needs p → SaysPlace c e (function.whole_place a c e needs p)
  place_says e needs p n = settles_place e needs p (earliest_missing needs) n refl

  -- ---- nodes by their parts

  field_says : (at : ℕ) (e : source.PlainExpr) (name : Named) (t : Typing) (m : MemberOf) → type_before_dot c e ≡ None → Types c e t → member_of t.type name ≡ m
      → SaysExpr c (source.dot at e name) (function.field_behind a c (source.dot at e name) name t m)
  field_says at e name t array_size b h m = whole_says _ _ _ (rule.length_of_array b h m)
  field_says at e name t (of_class class) b h m = whole_says _ _ _ (rule.field_of_value b h m (found_worth c a right (field_of (world_at c) class name)))
  field_says at e name t no_member b h m = whole_says _ _ _ (rule.field_of_nothing b h m)

  super_says : (at : ℕ) (name : Named) (s : Option Named) → superclass_at c ≡ s → SaysExpr c (source.super_field at name) (function.super_read a c (source.super_field at name) name s)
  super_says at name None h = whole_says _ _ _ (rule.no_super_field h)
  super_says at name (Some class) h = whole_says _ _ _ (rule.super_field h (found_worth c a right (field_of (world_at c) class name)))

  call_says : (at : ℕ) (e : source.PlainExpr) (name : Named) (args : source.PlainExprs) (t : Typing) (ts : List Typing) (s : Option Named) → type_before_dot c e ≡ None → Types c e t → TypesAll c args ts
      → class_of_value t.type ≡ s → SaysExpr c (source.dot_call at e name args) (function.call_behind a c (source.dot_call at e name args) name t ts s)
  call_says at e name args t ts None b h hs m = whole_says _ _ _ (rule.call_of_nothing b h hs m)
  call_says at e name args t ts (Some class) b h hs m = whole_says _ _ _ (rule.call_of_value b h hs m (right.choose _ _ _ _))

  super_call_says : (at : ℕ) (name : Named) (args : source.PlainExprs) (ts : List Typing) (s : Option Named) → superclass_at c ≡ s → TypesAll c args ts
      → SaysExpr c (source.super_call at name args) (function.call_super a c (source.super_call at name args) name ts s)
  super_call_says at name args ts None h hs = whole_says _ _ _ (rule.no_super_call h hs)
  super_call_says at name args ts (Some class) h hs = whole_says _ _ _ (rule.super_call h hs (right.choose _ _ _ _))

  compared : (o : BinOp) (s t : PlainArg) (b : Bool) → compares_objects o s t ≡ b
      → Decides (if b then function.go_together a c s t else true) (compares_objects o s t ≡ true → GoTogether (world_at c) s t)
  compared o s t true h = (λ g k. (together_decides c a right s t).0 g, λ g. (together_decides c a right s t).1 (g h))
  compared o s t false h = (λ g k. let e : true ≡ false = sym k ∙ h in cc, λ g. refl)

  assign_says : (at : ℕ) (o : Option BinOp) (place e : source.PlainExpr) (p : Placing) (t : Typing) → TypesPlace c place p → Types c e t
      → SaysExpr c (source.assign at o place e) (function.assigned a c (source.assign at o place e) o p t)
  assign_says at None place e p t x y = whole_says _ _ _ (rule.assign x y (fits_decides c a right t.type p.type))
  assign_says at (Some o) place e p t x y = whole_says _ _ _ (rule.compound x y)

  place_field_says : (at : ℕ) (e : source.PlainExpr) (name : Named) (t : Typing) (m : MemberOf) → type_before_dot c e ≡ None → Types c e t → member_of t.type name ≡ m
      → SaysPlace c (source.dot at e name) (function.place_behind a c (source.dot at e name) e name t m)
  place_field_says at e name t array_size b h m = place_says _ _ _ (rule.length_place b h m)
  place_field_says at e name t (of_class class) b h m = place_says _ _ _ (rule.place_of_value b h m)
  place_field_says at e name t no_member b h m = place_says _ _ _ (rule.place_of_nothing b h m)

  super_place_says : (at : ℕ) (name : Named) (s : Option Named) → superclass_at c ≡ s → SaysPlace c (source.super_field at name) (function.super_place a c (source.super_field at name) name s)
  super_place_says at name None h = place_says _ _ _ (rule.no_super_place h)
  super_place_says at name (Some class) h = place_says _ _ _ (rule.super_place h)

  -- ---- the productions

  -- one part that is a value, and nothing behind it
  of_one : {B : Type 0} (Goal : B → Type 0) (p : Part) (e : source.PlainExpr) → parts c p ≡ a_value e ∷ [] → (o : Outcome Typing) (f : Typing → Outcome B) → SaysExpr c e o
      → ((t : Typing) → Types c e t → Says Goal c p (f t)) → Says Goal c p (and_then o f)
  of_one Goal p e h o f s g = go_on (Types c e) Goal c (a_value e) p [] [] h none_have o f s g

  -- the second of two
  of_two : {B : Type 0} (Goal : B → Type 0) (p q : Part) (e : source.PlainExpr) → parts c p ≡ q ∷ a_value e ∷ [] → HasRule c q → (o : Outcome Typing) (f : Typing → Outcome B) → SaysExpr c e o
      → ((t : Typing) → Types c e t → Says Goal c p (f t)) → Says Goal c p (and_then o f)
  of_two Goal p q e h r o f s g = go_on (Types c e) Goal c (a_value e) p (q ∷ []) [] h (more_have r none_have) o f s g

  least_composes : (at : ℕ) (o : UnaryOp) (e : source.PlainExpr) → spells_least o e ≡ true → Composes c (source.unary at o e) [] (rule.typing rule.least_tree (given int_type) [])
  least_composes at unop.Minus (source.int_literal place n decimal) h =
      let both : (decimal ≡ true) × ((n == least_size) ≡ true) = and_parts decimal (n == least_size) h in
      let size : n ≡ least_size = search (rules, both.1) in
      let P : Bool → Type 0 = λ d. Composes c (source.unary at unop.Minus (source.int_literal place n d)) [] (rule.typing rule.least_tree (given int_type) []) in
      let Q : ℕ → Type 0 = λ m. Composes c (source.unary at unop.Minus (source.int_literal place m true)) [] (rule.typing rule.least_tree (given int_type) []) in
      subst P (sym both.0) (subst Q (sym size) rule.least)
  least_composes at unop.Plus e h = cc
  least_composes at unop.Not e h = cc
  least_composes at unop.Flip e h = cc
  least_composes at unop.Minus e h = cc

  unary_says : (at : ℕ) (o : UnaryOp) (e : source.PlainExpr) (b : Bool) → spells_least o e ≡ b → SaysExpr c e (function.type_expr a c e)
      → SaysExpr c (source.unary at o e) (function.unary_of a c at o e (function.type_expr a c e) b)
  unary_says at o e true h s = whole_says _ _ _ (least_composes at o e h)
  unary_says at o e false h s =
      of_one (Types c (source.unary at o e)) (a_value (source.unary at o e)) e (ap (λ b. if b then [] else a_value e ∷ []) h) (function.type_expr a c e) _ s (λ t x. whole_says _ _ _ (rule.unary h x))

  dot_says : (at : ℕ) (e : source.PlainExpr) (name : Named) (b : Option Named) → type_before_dot c e ≡ b → SaysExpr c e (function.type_expr a c e)
      → SaysExpr c (source.dot at e name) (function.dot_of a c at e name (function.type_expr a c e) b)
  dot_says at e name (Some class) h s = whole_says _ _ _ (rule.field_of_type h)
  dot_says at e name None h s =
      of_one (Types c (source.dot at e name)) (a_value (source.dot at e name)) e (ap (λ b. if is_some b then [] else a_value e ∷ []) h) (function.type_expr a c e) _ s
      (λ t x. field_says at e name t (member_of t.type name) h x refl)

  place_dot_says : (at : ℕ) (e : source.PlainExpr) (name : Named) (b : Option Named) → type_before_dot c e ≡ b → SaysExpr c e (function.type_expr a c e)
      → SaysPlace c (source.dot at e name) (function.dot_place_of a c at e name (function.type_expr a c e) b)
  place_dot_says at e name (Some class) h s = place_says _ _ _ (rule.place_of_type h)
  place_dot_says at e name None h s =
      of_one (TypesPlace c (source.dot at e name)) (a_place (source.dot at e name)) e (ap (λ b. if is_some b then [] else a_value e ∷ []) h) (function.type_expr a c e) _ s
      (λ t x. place_field_says at e name t (member_of t.type name) h x refl)

  dot_call_says : (at : ℕ) (e : source.PlainExpr) (name : Named) (args : source.PlainExprs) (b : Option Named) → type_before_dot c e ≡ b → SaysExpr c e (function.type_expr a c e)
      → SaysArgs c args (function.type_exprs a c args)
      → SaysExpr c (source.dot_call at e name args) (function.dot_call_of a c at e name args (function.type_expr a c e) (function.type_exprs a c args) b)
  dot_call_says at e name args (Some class) h s r =
      go_on_arguments (Types c (source.dot_call at e name args)) c (a_value (source.dot_call at e name args)) args [] (ap (λ b. if is_some b then values args else a_value e ∷ values args) h) none_have
      (function.type_exprs a c args) _ r (λ ts hs. whole_says _ _ _ (rule.call_of_type h hs (right.choose _ _ _ _)))
  dot_call_says at e name args None h s r =
      let is_parts : parts c (a_value (source.dot_call at e name args)) ≡ a_value e ∷ values args = ap (λ b. if is_some b then values args else a_value e ∷ values args) h in
      go_on (Types c e) (Types c (source.dot_call at e name args)) c (a_value e) (a_value (source.dot_call at e name args)) [] (values args) is_parts none_have (function.type_expr a c e) _ s
      (λ t x.
      go_on_arguments (Types c (source.dot_call at e name args)) c (a_value (source.dot_call at e name args)) args (a_value e ∷ []) is_parts (more_have (has_value t x) none_have)
      (function.type_exprs a c args) _ r (λ ts hs. call_says at e name args t ts (class_of_value t.type) h x hs refl))

  more_says : (e : source.PlainExpr) (es : source.PlainExprs) (o : Outcome Typing) (r : Outcome (List Typing)) → SaysExpr c e o → SaysArgs c es r
      → SaysArgs c (source.more_exprs e es) (and_then o (λ t. and_then r (λ ts. result (t ∷ ts))))
  more_says e es (fault at k) r s h = among_parts [] (values es) refl none_have s
  more_says e es (result t) (result ts) s h = more_arguments s h
  more_says e es (result t) (fault at k) s (among_parts before behind d x f) = among_parts (a_value e ∷ before) behind (ap (λ l. a_value e ∷ l) d) (more_have (has_value t s) x) f

  mutual
    pub says_expr : (e : source.PlainExpr) → SaysExpr c e (function.type_expr a c e)
    says_expr (source.int_literal at n decimal) = whole_says (source.int_literal at n decimal) _ _ (rule.int_literal {at = at} {n = n} {decimal = decimal})
    says_expr (source.bool_literal at b) = whole_says (source.bool_literal at b) _ _ (rule.bool_literal {at = at} {b = b})
    says_expr (source.null_literal at) = whole_says (source.null_literal at) _ _ (rule.null_literal {at = at})
    says_expr (source.this_value at) = whole_says (source.this_value at) _ _ (rule.this_value {at = at})
    says_expr (source.simple_name at x) = whole_says (source.simple_name at x) _ _ (rule.simple_name {at = at} {x = x})
    says_expr (source.paren at e) =
        of_one (Types c (source.paren at e)) (a_value (source.paren at e)) e refl (function.type_expr a c e) _ (says_expr e) (λ t x. whole_says _ _ _ (rule.paren x))
    says_expr (source.dot at e name) = dot_says at e name (type_before_dot c e) refl (says_expr e)
    says_expr (source.super_field at name) = super_says at name (superclass_at c) refl
    says_expr (source.call at name args) =
        go_on_arguments (Types c (source.call at name args)) c (a_value (source.call at name args)) args [] refl none_have (function.type_exprs a c args) _ (says_exprs args)
        (λ ts hs. whole_says _ _ _ (rule.call hs (right.choose _ _ _ _)))
    says_expr (source.dot_call at e name args) = dot_call_says at e name args (type_before_dot c e) refl (says_expr e) (says_exprs args)
    says_expr (source.super_call at name args) =
        go_on_arguments (Types c (source.super_call at name args)) c (a_value (source.super_call at name args)) args [] refl none_have (function.type_exprs a c args) _ (says_exprs args)
        (λ ts hs. super_call_says at name args ts (superclass_at c) refl hs)
    says_expr (source.new_object at class args) =
        go_on_arguments (Types c (source.new_object at class args)) c (a_value (source.new_object at class args)) args [] refl none_have (function.type_exprs a c args) _ (says_exprs args)
        (λ ts hs. whole_says _ _ _ (rule.new_object hs (right.choose _ _ _ _)))
    says_expr (source.new_array at b e dims) =
        of_one (Types c (source.new_array at b e dims)) (a_value (source.new_array at b e dims)) e refl (function.type_expr a c e) _ (says_expr e) (λ t x. whole_says _ _ _ (rule.new_array x))
    says_expr (source.element at x i) =
        go_on (Types c x) (Types c (source.element at x i)) c (a_value x) (a_value (source.element at x i)) [] (a_value i ∷ []) refl none_have (function.type_expr a c x) _ (says_expr x)
        (λ s h.
        of_two (Types c (source.element at x i)) (a_value (source.element at x i)) (a_value x) i refl (has_value s h) (function.type_expr a c i) _ (says_expr i)
        (λ t k. whole_says _ _ _ (rule.element h k)))
    says_expr (source.unary at o e) = unary_says at o e (spells_least o e) refl (says_expr e)
    says_expr (source.step at plus post e) =
        go_on (TypesPlace c e) (Types c (source.step at plus post e)) c (a_place e) (a_value (source.step at plus post e)) [] [] refl none_have (function.type_place a c e) _ (says_place e)
        (λ p h. whole_says _ _ _ (rule.step h))
    says_expr (source.cast at ty e) =
        of_one (Types c (source.cast at ty e)) (a_value (source.cast at ty e)) e refl (function.type_expr a c e) _ (says_expr e)
        (λ t x. whole_says _ _ _ (rule.cast x (cast_right c a right t.type (type_of ty))))
    says_expr (source.binary at o x y) =
        go_on (Types c x) (Types c (source.binary at o x y)) c (a_value x) (a_value (source.binary at o x y)) [] (a_value y ∷ []) refl none_have (function.type_expr a c x) _ (says_expr x)
        (λ s h.
        of_two (Types c (source.binary at o x y)) (a_value (source.binary at o x y)) (a_value x) y refl (has_value s h) (function.type_expr a c y) _ (says_expr y)
        (λ t k. whole_says _ _ _ (rule.binary h k (compared o s.type t.type (compares_objects o s.type t.type) refl))))
    says_expr (source.instance_of at e ty) =
        of_one (Types c (source.instance_of at e ty)) (a_value (source.instance_of at e ty)) e refl (function.type_expr a c e) _ (says_expr e)
        (λ t x. whole_says _ _ _ (rule.instance_of x (together_decides c a right t.type (given (type_of ty)))))
    says_expr (source.conditional at q x y) =
        go_on (Types c q) (Types c (source.conditional at q x y)) c (a_value q) (a_value (source.conditional at q x y)) [] (a_value x ∷ a_value y ∷ []) refl none_have (function.type_expr a c q) _ (says_expr q)
        (λ r h.
        go_on (Types c x) (Types c (source.conditional at q x y)) c (a_value x) (a_value (source.conditional at q x y)) (a_value q ∷ []) (a_value y ∷ []) refl (more_have (has_value r h) none_have)
        (function.type_expr a c x) _ (says_expr x)
        (λ s k.
        go_on (Types c y) (Types c (source.conditional at q x y)) c (a_value y) (a_value (source.conditional at q x y)) (a_value q ∷ a_value x ∷ []) [] refl
        (more_have (has_value r h) (more_have (has_value s k) none_have)) (function.type_expr a c y) _ (says_expr y)
        (λ t l. whole_says _ _ _ (rule.conditional h k l (joins_right c a right s.type t.type)))))
    says_expr (source.assign at o place e) =
        go_on (TypesPlace c place) (Types c (source.assign at o place e)) c (a_place place) (a_value (source.assign at o place e)) [] (a_value e ∷ []) refl none_have (function.type_place a c place) _ (says_place place)
        (λ p h.
        of_two (Types c (source.assign at o place e)) (a_value (source.assign at o place e)) (a_place place) e refl (has_place p h) (function.type_expr a c e) _ (says_expr e)
        (λ t k. assign_says at o place e p t h k))

    pub says_exprs : (es : source.PlainExprs) → SaysArgs c es (function.type_exprs a c es)
    says_exprs source.no_exprs = no_arguments
    says_exprs (source.more_exprs e es) = more_says e es (function.type_expr a c e) (function.type_exprs a c es) (says_expr e) (says_exprs es)

    pub says_place : (e : source.PlainExpr) → SaysPlace c e (function.type_place a c e)
    says_place (source.simple_name at x) = place_says (source.simple_name at x) _ _ (rule.simple_place {at = at} {x = x})
    says_place (source.dot at e name) = place_dot_says at e name (type_before_dot c e) refl (says_expr e)
    says_place (source.super_field at name) = super_place_says at name (superclass_at c) refl
    says_place (source.element at x i) =
        go_on (Types c x) (TypesPlace c (source.element at x i)) c (a_value x) (a_place (source.element at x i)) [] (a_value i ∷ []) refl none_have (function.type_expr a c x) _ (says_expr x)
        (λ s h.
        of_two (TypesPlace c (source.element at x i)) (a_place (source.element at x i)) (a_value x) i refl (has_value s h) (function.type_expr a c i) _ (says_expr i)
        (λ t k. place_says _ _ _ (rule.element_place h k)))
    says_place e = place_says _ _ _ (rule.no_place refl)

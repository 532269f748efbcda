-- The function of expressions finds each typing, so that at most one fits.
use Rattle.std.proofs.Common.{◌≡◌, ℕ, Bool, true, false, ◌&&◌, List, [], ◌∷◌, ◌++◌, Option, Some, None, refl, sym, ◌∙◌, ap, subst, Decides, if◌then◌else◌}
use Rattle.bcj_parser_trees.specs.declared.expression.BinOp.{BinOp}
use Rattle.bcj_parser_trees.specs.Trees as source
use Rattle.bcj_symbolic_trees.specs.Types.{PlainTy, PlainArg, given, bool_type}
use Rattle.bcj_symbolic_trees.specs.Trees as tree
use Rattle.bcj_decl_rules.specs.declared.value.Value.{Value}
use Rattle.bcj_decl_rules.specs.World.{Field, has_type, type_of}
use Rattle.bcj_decl_rules.specs.Subtypes.{is_reference, Fits, typed, itself}
use Rattle.bcj_decl_rules.specs.Members.{field_of}
use Rattle.bcj_decl_rules.specs.Constants.{IsConstantField}
use Rattle.bcj_decl_rules.specs.function.Constants.{value_in}
use Rattle.bcj_typing_rules.specs.declared.kind.Kind.TheVariants as kind
use Rattle.bcj_typing_rules.specs.Premises.{Need, need, earliest_missing}
use Rattle.bcj_typing_rules.specs.Context.{Context, world_at, is_known, is_open, names_no_local, IsConstantHere, Worth, a_constant, no_constant, FieldWorth, constant_variable, no_constant_variable}
use Rattle.bcj_typing_rules.specs.Operators.{is_bool, is_object, is_value, binary_takes, binary_tree, binary_gives, type_or_void, compares_objects}
use Rattle.bcj_typing_rules.specs.Casting.{GoTogether, CastForm, of_same, of_supertype, of_other, no_cast, CastAs, to_same, to_supertype, to_other, to_none, Join, to_second, to_first, apart, Joins, joins_second, joins_first, void_parts, joins_none, uses}
use Rattle.bcj_typing_rules.specs.Expressions as rule
use Rattle.bcj_typing_rules.specs.Expressions.{Typing, typing, Placing, FoundWorth, of_none, of_field, valued, Composes, Types, types, TypesAll, no_arguments, more_arguments, Places, TypesPlace, types_place}
use Rattle.bcj_typing_rules.specs.Faults.{expr_at}
use Rattle.bcj_typing_rules.specs.function.Expressions as function
use Rattle.bcj_typing_rules.specs.function.Expressions.{Outcome, result, fault, and_then, settled, Answers, AreRight, AreOnly}
use Rattle.bcj_typing_rules.proofs.Deciding.{fits_decides, steps_decide, together_decides, same_decides}

-- a part that has a result goes on
pub found : {A B : Type 0} (o : Outcome A) (f : A → Outcome B) (x : A) → o ≡ result x → and_then o f ≡ f x
found o f x h = ap (λ p. and_then p f) h

denies : (b : Bool) {P : Type 0} → Decides b P → (P → ⊥) → b ≡ false
denies true d n = absurd (n (d.0 refl))
denies false d n = refl

not_true : (b : Bool) → (b ≡ true → ⊥) → b ≡ false
not_true true n = absurd (n refl)
not_true false n = refl

pub same_truth : (b d : Bool) {P : Type 0} → Decides b P → Decides d P → b ≡ d
same_truth true true x y = refl
same_truth true false x y = sym (y.1 (x.0 refl))
same_truth false true x y = x.1 (y.0 refl)
same_truth false false x y = refl

module _ (c : Context) (a : Answers) (right : AreRight c.units a) (only : AreOnly c.units a) where
  join_only : (s t : PlainArg) (j : Join) → Joins (world_at c) s t j → function.join_of a s t ≡ j
  join_only s t j (joins_second v p) =
      ap (λ b. if b then (if is_value s then to_second else apart) else (if function.steps a t s then to_first else apart)) ((steps_decide c a right s t).1 p)
      ∙ ap (λ b. if b then to_second else apart) v
  join_only s t j (joins_first n p) =
      ap (λ b. if b then (if is_value s then to_second else apart) else (if function.steps a t s then to_first else apart)) (denies (function.steps a s t) (steps_decide c a right s t) n)
      ∙ ap (λ b. if b then to_first else apart) ((steps_decide c a right t s).1 p)
  join_only s t j (void_parts n p) =
      ap (λ b. if b then (if is_value s then to_second else apart) else (if function.steps a t s then to_first else apart)) ((steps_decide c a right s t).1 p)
      ∙ ap (λ b. if b then to_second else apart) (not_true (is_value s) n)
  join_only s t j (joins_none n m) =
      ap (λ b. if b then (if is_value s then to_second else apart) else (if function.steps a t s then to_first else apart)) (denies (function.steps a s t) (steps_decide c a right s t) n)
      ∙ ap (λ b. if b then to_first else apart) (denies (function.steps a t s) (steps_decide c a right t s) m)

  same_fits : (t : PlainTy) → Fits (world_at c) (given t) t
  same_fits t = typed itself

  cast_of : Bool → Bool → Bool → CastForm
  cast_of b f g = if b then of_same else (if f then of_supertype else (if g then of_other else no_cast))

  cast_only : (s : PlainArg) (t : PlainTy) (form : CastForm) → CastAs (world_at c) s t form → function.cast_form a c s t ≡ form
  unfolding cast_of
  cast_only s t form to_same = ap (λ b. cast_of b (function.fits a s t) (function.go_together a c s (given t))) ((same_decides c a right s t).1 refl)
  cast_only s t form (to_supertype n p) =
      (λ i. cast_of (denies (function.is_same a c s t) (same_decides c a right s t) n i) ((fits_decides c a right s t).1 p i) (function.go_together a c s (given t)))
  cast_only s t form (to_other n p) =
      (λ i.
      cast_of (denies (function.is_same a c s t) (same_decides c a right s t) (λ e. n (subst (λ u. Fits (world_at c) u t) (sym e) (same_fits t))) i)
      (denies (function.fits a s t) (fits_decides c a right s t) n i) ((together_decides c a right s (given t)).1 p i))
  cast_only s t form (to_none n m) =
      (λ i.
      cast_of (denies (function.is_same a c s t) (same_decides c a right s t) (λ e. n (subst (λ u. Fits (world_at c) u t) (sym e) (same_fits t))) i)
      (denies (function.fits a s t) (fits_decides c a right s t) n i) (denies (function.go_together a c s (given t)) (together_decides c a right s (given t)) m i))

  no_worth : (e : source.PlainExpr) (b : Bool) (o : Option Value) → names_no_local c e ≡ b → value_in (world_at c) a.constant c.class e ≡ o → ((v : Value) → IsConstantHere c e v → ⊥)
      → (if b then o else None) ≡ None
  no_worth e true (Some v) k h n = absurd (n v (record { constant = (right.value c.class e v).0 h; of_fields = k }))
  no_worth e true None k h n = refl
  no_worth e false o k h n = refl

  worth_only : (e : source.PlainExpr) (v : Option Value) → Worth c e v → function.value_here a c e ≡ v
  worth_only e v (a_constant {v = x} k) =
      ap (λ b. if b then value_in (world_at c) a.constant c.class e else None) k.of_fields ∙ (right.value c.class e x).1 k.constant
  worth_only e v (no_constant n) =
      no_worth e (names_no_local c e) (value_in (world_at c) a.constant c.class e) refl refl n

  no_value : (f : Field) (o : Option Value) → a.constant f ≡ o → ((v : Value) → IsConstantField c.units f v → ⊥) → o ≡ None
  no_value f (Some v) h n = absurd (n v ((right.constant f v).0 h))
  no_value f None h n = refl

  pub value_only : (f : Field) (v : Option Value) → FieldWorth c f v → a.constant f ≡ v
  value_only f v (constant_variable {v = x} k) = (right.constant f x).1 k
  value_only f v (no_constant_variable n) = no_value f (a.constant f) refl n

  found_only : (f : Option Field) (v : Option Value) → FoundWorth c f v → function.found_value a c f ≡ v
  found_only f v of_none = refl
  found_only (Some f) v (of_field k) = value_only f v k

  compared_only : (o : BinOp) (s t : PlainArg) (b d : Bool) → compares_objects o s t ≡ d → Decides b (compares_objects o s t ≡ true → GoTogether (world_at c) s t)
      → (if d then function.go_together a c s t else true) ≡ b
  compared_only o s t b true h x =
      same_truth (function.go_together a c s t) b (λ g k. (together_decides c a right s t).0 g, λ g. (together_decides c a right s t).1 (g h)) x
  compared_only o s t b false h x = sym (x.1 (λ k. let e : true ≡ false = sym k ∙ h in cc))

  settles : (e : source.PlainExpr) (needs : List Need) (t : Typing) (v : Option Value) → earliest_missing needs ≡ None → Worth c e v → function.whole a c e needs t ≡ result (valued v t)
  settles e needs t v h w = (λ i. settled (expr_at e) (h i) (valued (worth_only e v w i) t))

  assign_found : (at : ℕ) (place e : source.PlainExpr) (p : Placing) (t : Typing) (b : Bool) → function.fits a t.type p.type ≡ b
      → function.assigned a c (source.assign at None place e) None p t
      ≡ function.whole a c (source.assign at None place e) (need kind.Assign b ∷ rule.place_needs p)
      (typing (rule.behind p.first (rule.set_place p.place t.tree)) (given p.type) (p.steps ++ (t.steps ++ uses t.type p.type)))
  assign_found at place e p t b h =
      ap
      (λ d.
      function.whole a c (source.assign at None place e) (need kind.Assign d ∷ rule.place_needs p)
      (typing (rule.behind p.first (rule.set_place p.place t.tree)) (given p.type) (p.steps ++ (t.steps ++ uses t.type p.type))))
      h

  no_place_found : (e : source.PlainExpr) → rule.is_place e ≡ false → function.type_place a c e ≡ function.whole_place a c e (need kind.Name false ∷ []) rule.no_placing
  no_place_found (source.simple_name at x) h = cc
  no_place_found (source.dot at e name) h = cc
  no_place_found (source.super_field at name) h = cc
  no_place_found (source.element at x i) h = cc
  no_place_found e h = refl

  mutual
    pub expr_found : (e : source.PlainExpr) (t : Typing) → Types c e t → function.type_expr a c e ≡ result t
    expr_found e t (types {needs = needs} {t = u} {v = v} n h w) = node_found e needs u n ∙ settles e needs u v h w

    pub node_found : (e : source.PlainExpr) (needs : List Need) (t : Typing) → Composes c e needs t → function.type_expr a c e ≡ function.whole a c e needs t
    node_found e needs t rule.int_literal = refl
    node_found e needs t rule.bool_literal = refl
    node_found e needs t rule.null_literal = refl
    node_found e needs t rule.this_value = refl
    node_found (source.paren at e) needs t (rule.paren x) = found (function.type_expr a c e) _ t (expr_found e t x)
    node_found e needs t rule.simple_name = refl
    node_found (source.dot at e name) needs t (rule.field_of_type h) = ap (function.dot_of a c at e name (function.type_expr a c e)) h
    node_found (source.dot at e name) needs t (rule.field_of_value {class = class} {t = u} {v = v} b x m w) =
        (λ i. function.dot_of a c at e name (expr_found e u x i) (b i))
        ∙ (ap (function.field_behind a c (source.dot at e name) name u) m
        ∙ ap
        (λ o.
        function.whole a c (source.dot at e name) (rule.field_needs (λ g. need kind.Access (is_open c g) ∷ []) (field_of (world_at c) class name))
        (rule.field_typing (rule.behind_field_typing u class o) (field_of (world_at c) class name)))
        (found_only (field_of (world_at c) class name) v w))
    node_found (source.dot at e name) needs t (rule.length_of_array {t = u} b x m) =
        (λ i. function.dot_of a c at e name (expr_found e u x i) (b i)) ∙ ap (function.field_behind a c (source.dot at e name) name u) m
    node_found (source.dot at e name) needs t (rule.field_of_nothing {t = u} b x m) =
        (λ i. function.dot_of a c at e name (expr_found e u x i) (b i)) ∙ ap (function.field_behind a c (source.dot at e name) name u) m
    node_found (source.super_field at name) needs t (rule.super_field {class = class} {v = v} h w) =
        ap (function.super_read a c (source.super_field at name) name) h
        ∙ ap
        (λ o.
        function.whole a c (source.super_field at name) (rule.field_needs (rule.super_field_needs c) (field_of (world_at c) class name))
        (rule.field_typing (rule.super_field_typing c class o) (field_of (world_at c) class name)))
        (found_only (field_of (world_at c) class name) v w)
    node_found (source.super_field at name) needs t (rule.no_super_field h) = ap (function.super_read a c (source.super_field at name) name) h
    node_found (source.call at name args) needs t (rule.call {ts = ts} {m = m} xs k) =
        found (function.type_exprs a c args) _ ts (args_found args ts xs)
        ∙ ap (λ o. function.whole a c (source.call at name args) (rule.choice_needs (rule.own_call_needs c) o) (rule.choice_typing (rule.own_call c ts) o)) (only.choose _ _ _ _ m k)
    node_found (source.dot_call at e name args) needs t (rule.call_of_type {class = class} {ts = ts} {m = m} h xs k) =
        (λ i. function.dot_call_of a c at e name args (function.type_expr a c e) (args_found args ts xs i) (h i))
        ∙ ap (λ o. function.whole a c (source.dot_call at e name args) (rule.choice_needs rule.type_call_needs o) (rule.choice_typing (rule.type_call class ts) o)) (only.choose _ _ _ _ m k)
    node_found (source.dot_call at e name args) needs t (rule.call_of_value {class = class} {t = u} {ts = ts} {m = m} b x xs q k) =
        (λ i. function.dot_call_of a c at e name args (expr_found e u x i) (args_found args ts xs i) (b i))
        ∙ (ap (function.call_behind a c (source.dot_call at e name args) name u ts) q
        ∙ ap (λ o. function.whole a c (source.dot_call at e name args) (rule.choice_needs (λ n. []) o) (rule.choice_typing (rule.behind_call c u class ts) o)) (only.choose _ _ _ _ m k))
    node_found (source.dot_call at e name args) needs t (rule.call_of_nothing {t = u} {ts = ts} b x xs q) =
        (λ i. function.dot_call_of a c at e name args (expr_found e u x i) (args_found args ts xs i) (b i))
        ∙ ap (function.call_behind a c (source.dot_call at e name args) name u ts) q
    node_found (source.super_call at name args) needs t (rule.super_call {class = class} {ts = ts} {m = m} h xs k) =
        found (function.type_exprs a c args) _ ts (args_found args ts xs)
        ∙ (ap (function.call_super a c (source.super_call at name args) name ts) h
        ∙ ap (λ o. function.whole a c (source.super_call at name args) (rule.choice_needs (rule.super_call_needs c) o) (rule.choice_typing (rule.super_method_call c class ts) o)) (only.choose _ _ _ _ m k))
    node_found (source.super_call at name args) needs t (rule.no_super_call {ts = ts} h xs) =
        found (function.type_exprs a c args) _ ts (args_found args ts xs) ∙ ap (function.call_super a c (source.super_call at name args) name ts) h
    node_found (source.new_object at class args) needs t (rule.new_object {ts = ts} {m = m} xs k) =
        found (function.type_exprs a c args) _ ts (args_found args ts xs)
        ∙ ap
        (λ o.
        function.whole a c (source.new_object at class args) (need kind.Name (has_type (world_at c) class) ∷ rule.choice_needs (rule.new_needs c class) o)
        (rule.choice_typing (rule.new_typing class ts) o))
        (only.choose _ _ _ _ m k)
    node_found (source.new_array at b e dims) needs t (rule.new_array {t = u} x) = found (function.type_expr a c e) _ u (expr_found e u x)
    node_found (source.element at x i) needs t (rule.element {s = s} {t = u} p q) =
        found (function.type_expr a c x) _ s (expr_found x s p) ∙ found (function.type_expr a c i) _ u (expr_found i u q)
    node_found e needs t rule.least = refl
    node_found (source.unary at o e) needs t (rule.unary {t = u} h x) = (λ i. function.unary_of a c at o e (expr_found e u x i) (h i))
    node_found (source.step at plus post e) needs t (rule.step {p = p} x) = found (function.type_place a c e) _ p (place_found e p x)
    node_found (source.cast at ty e) needs t (rule.cast {t = u} {form = form} x k) =
        found (function.type_expr a c e) _ u (expr_found e u x)
        ∙ ap
        (λ f.
        function.whole a c (source.cast at ty e) (need kind.Name (is_known c ty) ∷ need kind.Cast (rule.is_cast f) ∷ [])
        (typing (rule.cast_tree f (type_of ty) u.tree) (given (type_of ty)) (u.steps ++ rule.cast_steps f u.type (type_of ty))))
        (cast_only u.type (type_of ty) form k)
    node_found (source.binary at o x y) needs t (rule.binary {s = s} {t = u} {together = b} p q k) =
        found (function.type_expr a c x) _ s (expr_found x s p)
        ∙ (found (function.type_expr a c y) _ u (expr_found y u q)
        ∙ ap
        (λ d.
        function.whole a c (source.binary at o x y) (need kind.Operand (binary_takes o s.type u.type) ∷ need kind.Cast d ∷ [])
        (typing (binary_tree o s.tree u.tree) (given (type_or_void (binary_gives o s.type u.type))) (s.steps ++ u.steps)))
        (compared_only o s.type u.type b (compares_objects o s.type u.type) refl k))
    node_found (source.instance_of at e ty) needs t (rule.instance_of {t = u} {together = b} x k) =
        found (function.type_expr a c e) _ u (expr_found e u x)
        ∙ ap
        (λ d.
        function.whole a c (source.instance_of at e ty) (need kind.Name (is_known c ty) ∷ need kind.Operand (is_object u.type && is_reference (type_of ty)) ∷ need kind.Cast d ∷ [])
        (typing (tree.instance_of u.tree (type_of ty)) (given bool_type) u.steps))
        (same_truth (function.go_together a c u.type (given (type_of ty))) b (together_decides c a right u.type (given (type_of ty))) k)
    node_found (source.conditional at q x y) needs t (rule.conditional {q = r} {s = s} {t = u} {j = j} k l m n) =
        found (function.type_expr a c q) _ r (expr_found q r k)
        ∙ (found (function.type_expr a c x) _ s (expr_found x s l)
        ∙ (found (function.type_expr a c y) _ u (expr_found y u m)
        ∙ ap
        (λ o.
        function.whole a c (source.conditional at q x y) (need kind.Operand (rule.is_joined o) ∷ need kind.Condition (is_bool r.type) ∷ [])
        (typing (tree.conditional r.tree s.tree u.tree) (rule.joined_type o s.type u.type) (r.steps ++ (s.steps ++ (u.steps ++ rule.joined_steps o s.type u.type)))))
        (join_only s.type u.type j n)))
    node_found (source.assign at None place e) needs t (rule.assign {p = p} {t = u} {fits = b} x y k) =
        found (function.type_place a c place) _ p (place_found place p x)
        ∙ (found (function.type_expr a c e) _ u (expr_found e u y)
        ∙ assign_found at place e p u b (same_truth (function.fits a u.type p.type) b (fits_decides c a right u.type p.type) k))
    node_found (source.assign at (Some o) place e) needs t (rule.compound {p = p} {t = u} x y) =
        found (function.type_place a c place) _ p (place_found place p x) ∙ found (function.type_expr a c e) _ u (expr_found e u y)

    pub args_found : (es : source.PlainExprs) (ts : List Typing) → TypesAll c es ts → function.type_exprs a c es ≡ result ts
    args_found es ts no_arguments = refl
    args_found (source.more_exprs e es) ts (more_arguments {t = t} {ts = us} x xs) =
        found (function.type_expr a c e) _ t (expr_found e t x) ∙ found (function.type_exprs a c es) _ us (args_found es us xs)

    pub place_found : (e : source.PlainExpr) (p : Placing) → TypesPlace c e p → function.type_place a c e ≡ result p
    place_found e p (types_place {needs = needs} n h) = place_node_found e needs p n ∙ ap (λ o. settled (expr_at e) o p) h

    pub place_node_found : (e : source.PlainExpr) (needs : List Need) (p : Placing) → Places c e needs p → function.type_place a c e ≡ function.whole_place a c e needs p
    place_node_found e needs p rule.simple_place = refl
    place_node_found (source.dot at e name) needs p (rule.place_of_type h) = ap (function.dot_place_of a c at e name (function.type_expr a c e)) h
    place_node_found (source.dot at e name) needs p (rule.place_of_value {t = u} b x m) =
        (λ i. function.dot_place_of a c at e name (expr_found e u x i) (b i)) ∙ ap (function.place_behind a c (source.dot at e name) e name u) m
    place_node_found (source.dot at e name) needs p (rule.length_place {t = u} b x m) =
        (λ i. function.dot_place_of a c at e name (expr_found e u x i) (b i)) ∙ ap (function.place_behind a c (source.dot at e name) e name u) m
    place_node_found (source.dot at e name) needs p (rule.place_of_nothing {t = u} b x m) =
        (λ i. function.dot_place_of a c at e name (expr_found e u x i) (b i)) ∙ ap (function.place_behind a c (source.dot at e name) e name u) m
    place_node_found (source.super_field at name) needs p (rule.super_place h) = ap (function.super_place a c (source.super_field at name) name) h
    place_node_found (source.super_field at name) needs p (rule.no_super_place h) = ap (function.super_place a c (source.super_field at name) name) h
    place_node_found (source.element at x i) needs p (rule.element_place {s = s} {t = u} k l) =
        found (function.type_expr a c x) _ s (expr_found x s k) ∙ found (function.type_expr a c i) _ u (expr_found i u l)
    place_node_found e needs p (rule.no_place h) = no_place_found e h

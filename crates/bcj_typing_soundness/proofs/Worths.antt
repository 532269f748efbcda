-- The value of a constant expression is one of the expression's type.
use Rattle.std.proofs.Common.{◌≡◌, refl, sym, ap, ap₂, subst, ◌∙◌, inl, inr, ℕ, ℤ, Bool, true, false, cond, ◌&&◌, ◌||◌, List, [], ◌∷◌, Option, Some, None}
use Rattle.std.specs.Option.{is_none, option_and_then}
use Rattle.std.proofs.lemmas.Bool.{cases_Bool, and_parts, and_from}
use Rattle.bcj_parser_trees.specs.declared.names.TypeName.{TypeName}
use Rattle.bcj_parser_trees.specs.declared.expression.UnaryOp.{UnaryOp}
use Rattle.bcj_parser_trees.specs.declared.expression.UnaryOp.TheVariants as unop
use Rattle.bcj_parser_trees.specs.declared.expression.BinOp.{BinOp}
use Rattle.bcj_parser_trees.specs.declared.expression.BinOp.TheVariants as op
use Rattle.bcj_parser_trees.specs.Trees as source
use Rattle.bcj_symbolic_trees.specs.Types.{PlainTy, int_type, bool_type, void_type, class_type, array_type, PlainArg, given}
use Rattle.bcj_decl_rules.specs.declared.value.Value.{Value}
use Rattle.bcj_decl_rules.specs.declared.value.Value.TheVariants as value
use Rattle.bcj_decl_rules.specs.World.{Named, Field, Declared, World, is_named, type_named, has_type, type_of}
use Rattle.bcj_decl_rules.specs.Members.{field_of}
use Rattle.bcj_decl_rules.specs.Constants.{unary_value, is_zero, a_number, a_truth, quotient, remainder, int_operation, bool_operation, binary_value, chosen_value, of_type, IsConstant, IsConstantField}
use Rattle.bcj_decl_rules.specs.Constants as constant
use Rattle.bcj_typing_rules.specs.Premises.{Need}
use Rattle.bcj_typing_rules.specs.Context.{Local, Context, world_at, local_named, is_new_local, Meaning, a_field, no_variable, meaning_in, meaning_of, is_no_variable, type_before_dot, names_no_local}
use Rattle.bcj_typing_rules.specs.Operators.{unary_gives, binary_gives, type_or_void}
use Rattle.bcj_typing_rules.specs.Casting.{Join, to_second, to_first, apart}
use Rattle.bcj_typing_rules.specs.Expressions as rule
use Rattle.bcj_typing_rules.specs.Expressions.{Typing, valued, name_typing, field_typing, type_field_typing, joined_type, Composes, Types, types}
use Rattle.bcj_typing_soundness.specs.Laws as law
use Rattle.bcj_typing_soundness.specs.Values.{IsInRange, an_int, IsValueOf, int_of, bool_of}
use Rattle.bcj_typing_soundness.proofs.Constants.{field_fits}

-- the kind of a value is that of a type
pub data HasKind : Value → PlainArg → Type 0 where
  of_int : {n : ℤ} → HasKind (value.Int n) (given int_type)
  of_bool : {b : Bool} → HasKind (value.Bool b) (given bool_type)

-- a constant keeps its type
pub valued_type : (v : Option Value) (t : Typing) → (valued v t).type ≡ t.type
valued_type None t = refl
valued_type (Some v) t = refl

-- ---- operators

number_kind : {x : ℤ} {r : Value} → a_number x ≡ Some r → HasKind r (given int_type)
number_kind {x} {r} h = let P : Value → Type 0 = λ v. HasKind v (given int_type) in let e : value.Int x ≡ r = cc in subst P e of_int

truth_kind : {b : Bool} {r : Value} → a_truth b ≡ Some r → HasKind r (given bool_type)
truth_kind {b} {r} h = let P : Value → Type 0 = λ v. HasKind v (given bool_type) in let e : value.Bool b ≡ r = cc in subst P e of_bool

-- what a conversion gives
pub converted_kind : (t : PlainTy) (v r : Value) → of_type t v ≡ Some r → HasKind r (given t)
converted_kind int_type (value.Int x) r h = let e : value.Int x ≡ r = cc in let P : Value → Type 0 = λ v. HasKind v (given int_type) in subst P e of_int
converted_kind bool_type (value.Bool b) r h = let e : value.Bool b ≡ r = cc in let P : Value → Type 0 = λ v. HasKind v (given bool_type) in subst P e of_bool
converted_kind int_type (value.Bool b) r h = cc
converted_kind bool_type (value.Int x) r h = cc
converted_kind void_type v r h = cc
converted_kind (class_type name) v r h = cc
converted_kind (array_type component) v r h = cc

unary_kind : (o : UnaryOp) (v r : Value) → unary_value o v ≡ Some r → HasKind r (given (unary_gives o))
unary_kind unop.Plus (value.Int x) r h = number_kind h
unary_kind unop.Minus (value.Int x) r h = number_kind h
unary_kind unop.Flip (value.Int x) r h = number_kind h
unary_kind unop.Not (value.Bool b) r h = truth_kind h
unary_kind unop.Plus (value.Bool b) r h = cc
unary_kind unop.Minus (value.Bool b) r h = cc
unary_kind unop.Flip (value.Bool b) r h = cc
unary_kind unop.Not (value.Int x) r h = cc

divided_kind : (b : Bool) (z : ℤ) {r : Value} → cond b None (a_number z) ≡ Some r → HasKind r (given int_type)
divided_kind true z h = cc
divided_kind false z h = number_kind h

operation_kind : (o : BinOp) (x y : ℤ) (r : Value) → int_operation o x y ≡ Some r → HasKind r (given (type_or_void (binary_gives o (given int_type) (given int_type))))
operation_kind op.Add x y r h = number_kind h
operation_kind op.Sub x y r h = number_kind h
operation_kind op.Mul x y r h = number_kind h
operation_kind op.Div x y r h = divided_kind (is_zero y) _ h
operation_kind op.Rem x y r h = divided_kind (is_zero y) _ h
operation_kind op.Shl x y r h = number_kind h
operation_kind op.Shr x y r h = number_kind h
operation_kind op.Ushr x y r h = number_kind h
operation_kind op.Or x y r h = number_kind h
operation_kind op.Xor x y r h = number_kind h
operation_kind op.And x y r h = number_kind h
operation_kind op.Eq x y r h = truth_kind h
operation_kind op.Ne x y r h = truth_kind h
operation_kind op.Lt x y r h = truth_kind h
operation_kind op.Gt x y r h = truth_kind h
operation_kind op.Le x y r h = truth_kind h
operation_kind op.Ge x y r h = truth_kind h
operation_kind op.OrElse x y r h = cc
operation_kind op.AndAlso x y r h = cc

decision_kind : (o : BinOp) (x y : Bool) (r : Value) → bool_operation o x y ≡ Some r → HasKind r (given (type_or_void (binary_gives o (given bool_type) (given bool_type))))
decision_kind op.OrElse x y r h = truth_kind h
decision_kind op.AndAlso x y r h = truth_kind h
decision_kind op.Or x y r h = truth_kind h
decision_kind op.And x y r h = truth_kind h
decision_kind op.Xor x y r h = truth_kind h
decision_kind op.Ne x y r h = truth_kind h
decision_kind op.Eq x y r h = truth_kind h
decision_kind _ x y r h = cc

-- what a binary operator gives
binary_kind : (o : BinOp) {x y r : Value} {s t : PlainArg} → HasKind x s → HasKind y t → binary_value o x y ≡ Some r → HasKind r (given (type_or_void (binary_gives o s t)))
binary_kind o {r = r} (of_int {n = x}) (of_int {n = y}) h = operation_kind o x y r h
binary_kind o {r = r} (of_bool {b = x}) (of_bool {b = y}) h = decision_kind o x y r h
binary_kind o of_int of_bool h = cc
binary_kind o of_bool of_int h = cc

chosen_kind : (q : Value) {x y r : Value} {s t : PlainArg} → HasKind x s → HasKind y t → chosen_value q x y ≡ Some r → HasKind r s × HasKind r t
chosen_kind (value.Bool b) of_int of_int h = (number_kind h, number_kind h)
chosen_kind (value.Bool b) of_bool of_bool h = (truth_kind h, truth_kind h)
chosen_kind (value.Bool b) of_int of_bool h = cc
chosen_kind (value.Bool b) of_bool of_int h = cc
chosen_kind (value.Int n) k l h = cc

joined_kind : (j : Join) {r : Value} {s t : PlainArg} → HasKind r s × HasKind r t → HasKind r (joined_type j s t)
joined_kind to_second h = h.1
joined_kind to_first h = h.0
joined_kind apart h = h.0

-- ---- fields

-- a constant field's value
pub field_kind : {units : List source.PlainUnit} {f : Field} {v : Value} → IsConstantField units f v → HasKind v (given f.ty)
field_kind (constant.constant_variable {f = f} {v = v} {r = r} final init p h) = converted_kind f.ty v r h

value_of_kind : {v : Value} {t : PlainTy} → HasKind v (given t) → IsInRange v → IsValueOf v t
value_of_kind of_int (an_int f) = int_of f
value_of_kind of_bool f = bool_of

pub each_constant : law.ConstantsTyped
each_constant units f v p = value_of_kind (field_kind p) (field_fits p)

unnamed : (l : Option Local) → is_none l ≡ true → l ≡ None
unnamed None h = refl
unnamed (Some l) h = cc

named_kind : (c : Context) (x : Named) (f : Field) (v : Value) → is_new_local c x ≡ true → field_of (world_at c) c.class x ≡ Some f → IsConstantField c.units f v
    → HasKind v (name_typing c (meaning_of c x)).type
named_kind c x f v new is p =
    let means : meaning_of c x ≡ a_field f = ap₂ meaning_in (unnamed (local_named c.locals x) new) is in
    subst (λ (m : Meaning). HasKind v (name_typing c m).type) (sym means) (field_kind p)

found_there : (w : World) (x : Named) (d : Declared) → type_named w x ≡ Some d → has_type w x ≡ true
found_there [] x d h = cc
found_there (t ∷ w) x d h =
    elim (cases_Bool (is_named x t)) [
      | inl e ↦ ap (λ b. b || has_type w x) e
      | inr e ↦ ap (λ b. b || has_type w x) e ∙ found_there w x d (ap (λ b. cond b (Some t) (type_named w x)) (sym e) ∙ h)
    ]

there_of : (w : World) (x : Named) (o : Option Declared) (g : Declared → Option Field) (f : Field) → type_named w x ≡ o → option_and_then g o ≡ Some f → has_type w x ≡ true
there_of w x None g f e h = cc
there_of w x (Some d) g f e h = found_there w x d e

-- a type that has a field is there
has_field : (w : World) (x name : Named) (f : Field) → field_of w x name ≡ Some f → has_type w x ≡ true
unfolding field_of
has_field w x name f h = there_of w x (type_named w x) _ f refl h

-- a name before a dot that means no variable is that of a type
before_dot : (c : Context) (at : ℕ) (x name : Named) (f : Field) → is_new_local c x ≡ true → field_of (world_at c) c.class x ≡ None → field_of (world_at c) x name ≡ Some f
    → type_before_dot c (source.simple_name at x) ≡ Some x
before_dot c at x name f new none is =
    let means : meaning_of c x ≡ no_variable = ap₂ meaning_in (unnamed (local_named c.locals x) new) none in
    ap (λ b. cond b (Some x) None)
    (and_from (is_no_variable (meaning_of c x)) (has_type (world_at c) x) (ap is_no_variable means) (has_field (world_at c) x name f is))

qualified_kind : (c : Context) (at : ℕ) (x class name : Named) (f : Field) (v : Value) → is_new_local c x ≡ true → field_of (world_at c) c.class x ≡ None → field_of (world_at c) x name ≡ Some f
    → IsConstantField c.units f v → type_before_dot c (source.simple_name at x) ≡ Some class → HasKind v (field_typing (type_field_typing class) (field_of (world_at c) class name)).type
qualified_kind c at x class name f v new none is p h =
    let same : Some x ≡ Some class = sym (before_dot c at x name f new none is) ∙ h in
    let e : x ≡ class = cc in
    let P : Named → Type 0 = λ n. HasKind v (field_typing (type_field_typing n) (field_of (world_at c) n name)).type in
    subst P e (subst (λ (o : Option Field). HasKind v (field_typing (type_field_typing x) o).type) (sym is) (field_kind p))

-- ---- constants of each form

module _ (c : Context) where
  int_kind : {at n : ℕ} {decimal : Bool} {v : Value} → IsConstant c.units c.class (source.int_literal at n decimal) v → HasKind v (given int_type)
  int_kind (constant.int h) = of_int

  bool_kind : {at : ℕ} {b : Bool} {v : Value} → IsConstant c.units c.class (source.bool_literal at b) v → HasKind v (given bool_type)
  bool_kind constant.boolean = of_bool

  inner : {at : ℕ} {e : source.PlainExpr} {v : Value} → IsConstant c.units c.class (source.paren at e) v → IsConstant c.units c.class e v
  inner (constant.in_paren p) = p

  name_kind : {at : ℕ} {x : Named} {v : Value} → IsConstant c.units c.class (source.simple_name at x) v → is_new_local c x ≡ true → HasKind v (name_typing c (meaning_of c x)).type
  name_kind (constant.simple {x = x} {f = f} {v = v} is p) n = named_kind c x f v n is p

  -- a field behind a type's name alone is a constant
  dot_kind : {at : ℕ} {e : source.PlainExpr} {class name : Named} {v : Value} → IsConstant c.units c.class (source.dot at e name) v → names_no_local c e ≡ true → type_before_dot c e ≡ Some class
      → HasKind v (field_typing (type_field_typing class) (field_of (world_at c) class name)).type
  dot_kind {class = class} (constant.qualified {part_at = at} {x = x} {name = name} {f = f} {v = v} none is p) n h = qualified_kind c at x class name f v n none is p h

  no_dot : {at : ℕ} {e : source.PlainExpr} {name : Named} {v : Value} → IsConstant c.units c.class (source.dot at e name) v → names_no_local c e ≡ true → type_before_dot c e ≡ None → ⊥
  no_dot (constant.qualified {part_at = at} {x = x} {name = name} {f = f} none is p) n h =
      let wrong : None ≡ Some x = sym h ∙ before_dot c at x name f n none is in absurd (cc)

  sign_kind : {at : ℕ} {o : UnaryOp} {e : source.PlainExpr} {v : Value} → IsConstant c.units c.class (source.unary at o e) v → HasKind v (given (unary_gives o))
  sign_kind constant.least_int = of_int
  sign_kind (constant.signed {o = o} {v = v} {r = r} p h) = unary_kind o v r h

  cast_kind : {at : ℕ} {ty : TypeName} {e : source.PlainExpr} {v : Value} → IsConstant c.units c.class (source.cast at ty e) v → HasKind v (given (type_of ty))
  cast_kind (constant.converted {ty = ty} {v = v} {r = r} p h) = converted_kind (type_of ty) v r h

  record Both (o : BinOp) (a b : source.PlainExpr) (r : Value) : Type 0 where
    x : Value
    y : Value
    first : IsConstant c.units c.class a x
    second : IsConstant c.units c.class b y
    gives : binary_value o x y ≡ Some r

  both : {at : ℕ} {o : BinOp} {a b : source.PlainExpr} {r : Value} → IsConstant c.units c.class (source.binary at o a b) r → Both o a b r
  both (constant.joined {x = x} {y = y} p q h) = record { x = x; y = y; first = p; second = q; gives = h }

  record Chosen (a b : source.PlainExpr) (r : Value) : Type 0 where
    q : Value
    x : Value
    y : Value
    first : IsConstant c.units c.class a x
    second : IsConstant c.units c.class b y
    gives : chosen_value q x y ≡ Some r

  chosen_of : {at : ℕ} {e a b : source.PlainExpr} {r : Value} → IsConstant c.units c.class (source.conditional at e a b) r → Chosen a b r
  chosen_of (constant.chosen {t = q} {x = x} {y = y} p f s h) = record { q = q; x = x; y = y; first = f; second = s; gives = h }

  -- ---- expressions

  mutual
    kind_of : {e : source.PlainExpr} {t : Typing} {v : Value} → Types c e t → IsConstant c.units c.class e v → names_no_local c e ≡ true → HasKind v t.type
    kind_of {v = v} (types {t = t} {v = w} x k worth) p n = subst (HasKind v) (sym (valued_type w t)) (node_kind x p n)

    -- the value of a node
    pub node_kind : {e : source.PlainExpr} {needs : List Need} {t : Typing} {v : Value} → Composes c e needs t → IsConstant c.units c.class e v → names_no_local c e ≡ true → HasKind v t.type
    node_kind rule.int_literal p n = int_kind p
    node_kind rule.bool_literal p n = bool_kind p
    node_kind (rule.paren x) p n = kind_of x (inner p) n
    node_kind rule.simple_name p n = name_kind p n
    node_kind (rule.field_of_type h) p n = dot_kind p n h
    node_kind (rule.field_of_value h x m w) p n = absurd (no_dot p n h)
    node_kind (rule.length_of_array h x m) p n = absurd (no_dot p n h)
    node_kind (rule.field_of_nothing h x m) p n = absurd (no_dot p n h)
    node_kind rule.least p n = sign_kind p
    node_kind (rule.unary spelled x) p n = sign_kind p
    node_kind (rule.cast x a) p n = cast_kind p
    node_kind (rule.binary {o = o} {a = a} {b = b} x y d) p n =
        let parts = and_parts (names_no_local c a) (names_no_local c b) n in
        let k = both p in
        binary_kind o (kind_of x k.first parts.0) (kind_of y k.second parts.1) k.gives
    node_kind (rule.conditional {test = test} {a = a} {b = b} {j = j} q x y m) p n =
        let parts = and_parts (names_no_local c test) (names_no_local c a && names_no_local c b) n in
        let rest = and_parts (names_no_local c a) (names_no_local c b) parts.1 in
        let k = chosen_of p in
        joined_kind j (chosen_kind k.q (kind_of x k.first rest.0) (kind_of y k.second rest.1) k.gives)
    node_kind _ p n = elim p [ ]

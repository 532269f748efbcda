-- What elaboration makes of an expression is well typed.
use Rattle.std.proofs.Common.{◌≡◌, refl, sym, subst, ℕ, ℤ, pos, Bool, true, ◌&&◌, List, [], ◌∷◌, ◌++◌, Option, Some, None, is_some, FitsSigned, lit<}
use Rattle.std.specs.Int.{w32}
use Rattle.std.proofs.lemmas.Bool.{and_parts}
use Rattle.bcj_parser_trees.specs.declared.names.Base.{Base}
use Rattle.bcj_parser_trees.specs.declared.names.TypeName.{TypeName}
use Rattle.bcj_parser_trees.specs.declared.expression.BinOp.{BinOp}
use Rattle.bcj_parser_trees.specs.Trees as source
use Rattle.bcj_symbolic_trees.specs.Trees as tree
use Rattle.bcj_symbolic_trees.specs.Types.{PlainTy, int_type, bool_type, array_type, given}
use Rattle.bcj_symbolic_check.specs.Judgements.{Frame}
use Rattle.bcj_symbolic_check.specs.Typing as typing
use Rattle.bcj_symbolic_check.specs.Typing.{Each, each_of_none, each_of_more, IsValueType, HasType}
use Rattle.bcj_decl_rules.specs.World.{type_of}
use Rattle.bcj_decl_rules.specs.Subtypes.{is_reference, Fits}
use Rattle.bcj_decl_rules.specs.Constants.{literal_value}
use Rattle.bcj_typing_rules.specs.declared.kind.Kind.TheVariants as kind
use Rattle.bcj_typing_rules.specs.Premises.{Need, need, earliest_missing}
use Rattle.bcj_typing_rules.specs.Context.{Context, world_at, has_this, is_known, is_open, way_behind}
use Rattle.bcj_typing_rules.specs.Operators.{is_int, is_bool, is_object, unary_takes, binary_takes, binary_gives, type_or_void, binary_tree, node_operator, compound_takes}
use Rattle.bcj_typing_rules.specs.Casting.{CastForm, CastAs, Join, Joins, uses}
use Rattle.bcj_typing_rules.specs.Expressions as rule
use Rattle.bcj_typing_rules.specs.Expressions.{Typing, Placing, literal_tree, array_of, array_name, element_type, element_or_void, place_needs, cast_steps, joined_steps, joined_type, is_cast, is_joined, Composes, Types, types, TypesAll, Places, TypesPlace, types_place}
use Rattle.bcj_parser_wellformed.specs.WellFormed.{IsTypeName, IsArrayName, IsFormedExpr, AreFormedExprs}
use Rattle.bcj_typing_soundness.specs.World.{a_result, IsKnownArg, known_type, known_null}
use Rattle.bcj_typing_soundness.specs.Frames.{IsSoundContext, IsTyped, IsPlaced}
use Rattle.bcj_typing_soundness.specs.Laws as law
use Rattle.bcj_typing_soundness.proofs.Steps.{none_sound, both_sound, covers_left, covers_right, reference_of, object_of, fits_step, uses_sound}
use Rattle.bcj_typing_soundness.proofs.Constants.{literal_fits}
use Rattle.bcj_typing_soundness.proofs.Known.{int_result, bool_result, written_known, IsArrayMade, made_known, before_there}
use Rattle.bcj_typing_soundness.proofs.Variables.{met, valued_typed, retyped, this_typed, this_known, array_behind, name_typed, type_field_typed, behind_field_typed, super_field_typed}
use Rattle.bcj_typing_soundness.proofs.Calls.{own_typed, type_typed, class_of, behind_typed, super_typed, new_typed}
use Rattle.bcj_typing_soundness.proofs.Operations.{int_of, bool_of, unary_typed, binary_typed, IsPrimitive, a_number, a_truth, binary_primitive, unary_primitive, compounds}
use Rattle.bcj_typing_soundness.proofs.Places.{element_is, element_known, name_placed, type_placed, behind_placed, super_placed, length_placed, element_placed, behind_first, stepped, compound_typed}
use Rattle.bcj_typing_soundness.proofs.Choices.{fits_value, cast_has, cast_sound, joined_as}

-- ---- nodes by their parts

literal_has : {frame : Frame} (o : Option ℤ) → is_some o ≡ true → ((x : ℤ) → o ≡ Some x → FitsSigned w32 x) → HasType frame (literal_tree o) (given int_type)
literal_has None h f = cc
literal_has (Some x) h f = typing.int_value (f x refl)

module _ (c : Context) (sound : IsSoundContext c) where
  literal_typed : (n : ℕ) (decimal : Bool) → is_some (literal_value n decimal) ≡ true → IsTyped c (rule.typing (literal_tree (literal_value n decimal)) (given int_type) [])
  literal_typed n decimal h =
      record { known = int_result; steps = none_sound; has = λ frame a covers. literal_has (literal_value n decimal) h (literal_fits n decimal) }

  primitive_known : {t : PlainTy} → IsPrimitive t → IsKnownArg (world_at c) (given t)
  primitive_known a_number = int_result
  primitive_known a_truth = bool_result

  length_typed : (t : Typing) (u : PlainTy) → t.type ≡ given (array_type u) → IsTyped c t → IsTyped c (rule.typing (tree.array_length t.tree) (given int_type) t.steps)
  length_typed t u is x =
      record { known = int_result; steps = x.steps; has = λ frame a covers. typing.array_length (retyped c sound is (x.has frame a covers)) }

  array_has : {frame : Frame} {e : tree.PlainExpr} {t : PlainTy} → IsArrayMade (world_at c) t → HasType frame e (given int_type) → HasType frame (tree.new_array t e) (given t)
  array_has {frame} {e} k h = subst (λ (u : PlainTy). HasType frame (tree.new_array u e) (given u)) (sym k.is_it) (typing.new_array k.known.value h)

  array_known : {t : PlainTy} → IsArrayMade (world_at c) t → IsKnownArg (world_at c) (given t)
  array_known k = subst (λ (u : PlainTy). IsKnownArg (world_at c) (given u)) (sym k.is_it) (known_type (a_result k.known))

  array_typed : {b : Base} {dims : ℕ} (t : Typing) → IsArrayName b dims → is_known c (array_name b dims) ≡ true → is_int t.type ≡ true → IsTyped c t
      → IsTyped c (rule.typing (tree.new_array (array_of b dims) t.tree) (given (array_of b dims)) t.steps)
  array_typed t n h i x =
      let k = made_known c n h in
      record { known = array_known k; steps = x.steps; has = λ frame a covers. array_has k (retyped c sound (int_of t.type i) (x.has frame a covers)) }

  element_typed : (s t : Typing) → (is_some (element_type s.type) && is_int t.type) ≡ true → IsTyped c s → IsTyped c t
      → IsTyped c (rule.typing (tree.get_element s.tree t.tree) (given (element_or_void s.type)) (s.steps ++ t.steps))
  element_typed s t h x y =
      let p = and_parts (is_some (element_type s.type)) (is_int t.type) h in
      record {
        known = known_type (a_result (element_known c sound s x p.0));
        steps = both_sound x.steps y.steps;
        has = λ frame a covers.
            typing.get_element (retyped c sound (element_is s.type p.0) (x.has frame a (covers_left s.steps t.steps covers)))
            (retyped c sound (int_of t.type p.1) (y.has frame a (covers_right s.steps t.steps covers)));
      }

  step_typed : (p : Placing) (plus post : Bool) → is_int (given p.type) ≡ true → p.assignable ≡ true → IsPlaced c p
      → IsTyped c (rule.typing (rule.update p (rule.step_operator plus) (tree.int_value (pos 1)) post) (given p.type) p.steps)
  step_typed p plus post i h x =
      record {
        known = known_type (a_result x.known);
        steps = x.steps;
        has = λ frame a covers. stepped p plus post i (x.first frame a covers) (x.place frame a covers h);
      }

  cast_typed : (ty : TypeName) (t : Typing) (form : CastForm) → CastAs (world_at c) t.type (type_of ty) form → is_cast form ≡ true → IsTypeName ty → is_known c ty ≡ true → IsTyped c t
      → IsTyped c (rule.typing (rule.cast_tree form (type_of ty) t.tree) (given (type_of ty)) (t.steps ++ cast_steps form t.type (type_of ty)))
  cast_typed ty t form a i n h x =
      let k = written_known n h in
      record {
        known = known_type (a_result k);
        steps = both_sound x.steps (cast_sound a k x.known);
        has = λ frame agrees covers.
            cast_has a i k (covers_right t.steps (cast_steps form t.type (type_of ty)) covers) (x.has frame agrees (covers_left t.steps (cast_steps form t.type (type_of ty)) covers));
      }

  two_typed : (o : BinOp) (s t : Typing) → binary_takes o s.type t.type ≡ true → IsTyped c s → IsTyped c t
      → IsTyped c (rule.typing (binary_tree o s.tree t.tree) (given (type_or_void (binary_gives o s.type t.type))) (s.steps ++ t.steps))
  two_typed o s t h x y =
      record {
        known = primitive_known (binary_primitive o s.type t.type h);
        steps = both_sound x.steps y.steps;
        has = λ frame a covers. binary_typed o s.type t.type h (x.has frame a (covers_left s.steps t.steps covers)) (y.has frame a (covers_right s.steps t.steps covers));
      }

  instance_typed : (ty : TypeName) (t : Typing) → IsTypeName ty → is_known c ty ≡ true → (is_object t.type && is_reference (type_of ty)) ≡ true → IsTyped c t
      → IsTyped c (rule.typing (tree.instance_of t.tree (type_of ty)) (given bool_type) t.steps)
  instance_typed ty t n h i x =
      let p = and_parts (is_object t.type) (is_reference (type_of ty)) i in
      record {
        known = bool_result;
        steps = x.steps;
        has = λ frame a covers. typing.instance_of (reference_of (type_of ty) p.1) (written_known n h).value (x.has frame a covers) (object_of t.type p.0);
      }

  choice_typed : (q s t : Typing) (j : Join) → Joins (world_at c) s.type t.type j → is_joined j ≡ true → is_bool q.type ≡ true → IsTyped c q → IsTyped c s → IsTyped c t
      → IsTyped c (rule.typing (tree.conditional q.tree s.tree t.tree) (joined_type j s.type t.type) (q.steps ++ (s.steps ++ (t.steps ++ joined_steps j s.type t.type))))
  choice_typed q s t j k h b x y z =
      let m = joined_as c sound.world k h in
      let steps = joined_steps j s.type t.type in
      record {
        known = m.known y.known z.known;
        steps = both_sound x.steps (both_sound y.steps (both_sound z.steps (m.sound y.known z.known)));
        has = λ frame a covers.
            let rest = covers_right q.steps (s.steps ++ (t.steps ++ steps)) covers in
            let last = covers_right s.steps (t.steps ++ steps) rest in
            typing.conditional (retyped c sound (bool_of q.type b) (x.has frame a (covers_left q.steps (s.steps ++ (t.steps ++ steps)) covers)))
            (y.has frame a (covers_left s.steps (t.steps ++ steps) rest)) m.first (z.has frame a (covers_left t.steps steps last)) m.second
            (m.joins frame.pairs a.pairs y.known (covers_right t.steps steps last));
      }

  assign_typed : (p : Placing) (t : Typing) → Fits (world_at c) t.type p.type → p.assignable ≡ true → IsPlaced c p → IsTyped c t
      → IsTyped c (rule.typing (rule.behind p.first (rule.set_place p.place t.tree)) (given p.type) (p.steps ++ (t.steps ++ uses t.type p.type)))
  assign_typed p t f h x y =
      record {
        known = known_type (a_result x.known);
        steps = both_sound x.steps (both_sound y.steps (uses_sound y.known (λ r. x.known) f));
        has = λ frame a covers.
            let first = covers_left p.steps (t.steps ++ uses t.type p.type) covers in
            let rest = covers_right p.steps (t.steps ++ uses t.type p.type) covers in
            behind_first (x.first frame a first)
            (x.sets frame a first h t.tree t.type (y.has frame a (covers_left t.steps (uses t.type p.type) rest)) (fits_step f (covers_right t.steps (uses t.type p.type) rest)) (fits_value x.known f));
      }

  compounded_typed : (o : BinOp) (p : Placing) (t : Typing) → compound_takes o p.type t.type ≡ true → p.assignable ≡ true → IsPlaced c p → IsTyped c t
      → IsTyped c (rule.typing (rule.compound_tree (node_operator o) p t.tree) (given p.type) (p.steps ++ t.steps))
  compounded_typed o p t k h x y =
      record {
        known = known_type (a_result x.known);
        steps = both_sound x.steps y.steps;
        has = λ frame a covers.
            let first = covers_left p.steps t.steps covers in
            compound_typed (node_operator o) p t.tree t.type (compounds o p.type t.type k) (x.first frame a first) (x.place frame a first h) (y.has frame a (covers_right p.steps t.steps covers));
      }

  -- ---- expressions

  mutual
    -- an expression
    pub expr_typed : {e : source.PlainExpr} {t : Typing} → Types c e t → IsFormedExpr e → IsTyped c t
    expr_typed (types x h w) k = valued_typed x (node_typed x k h) w

    node_typed : {e : source.PlainExpr} {needs : List Need} {t : Typing} → Composes c e needs t → IsFormedExpr e → earliest_missing needs ≡ None → IsTyped c t
    node_typed (rule.int_literal {n = n} {decimal = decimal}) k h = literal_typed n decimal (met kind.Literal (is_some (literal_value n decimal)) [] h).0
    node_typed rule.bool_literal k h = record { known = bool_result; steps = none_sound; has = λ frame a covers. typing.bool_value }
    node_typed rule.null_literal k h = record { known = known_null; steps = none_sound; has = λ frame a covers. typing.null_value }
    node_typed rule.this_value k h = record { known = this_known c sound; steps = none_sound; has = λ frame a covers. this_typed c sound a (met kind.Static (has_this c) [] h).0 }
    node_typed (rule.paren x) k h = expr_typed x k
    node_typed (rule.simple_name {x = x}) k h = name_typed c sound x h
    node_typed (rule.field_of_type {e = e} {class = class} {name = name} b) k h = type_field_typed c sound class name (before_there c e class b) h
    node_typed (rule.field_of_value {class = class} {name = name} b x m w) k h = behind_field_typed c sound class name (expr_typed x k.0) m w (λ f. need kind.Access (is_open c f) ∷ []) h
    node_typed (rule.length_of_array {name = name} {t = t} b x m) k h = let is = array_behind c sound t.type name m in length_typed t is.0 is.1 (expr_typed x k.0)
    node_typed (rule.field_of_nothing b x m) k h = cc
    node_typed (rule.super_field {class = class} {name = name} is w) k h = super_field_typed c sound class name is w h
    node_typed (rule.no_super_field is) k h = cc
    node_typed (rule.call {name = name} {ts = ts} {m = m} x y) k h = own_typed c sound name ts m k.0 (exprs_typed x k.1) y h
    node_typed (rule.call_of_type {e = e} {class = class} {name = name} {ts = ts} {m = m} b x y) k h = type_typed c sound class name ts m (before_there c e class b) k.1 (exprs_typed x k.2) y h
    node_typed (rule.call_of_value {class = class} {name = name} {t = t} {ts = ts} {m = m} b y x is z) k h =
        behind_typed c sound t class name ts m (expr_typed y k.0) (class_of c sound t.type class is) k.1 (exprs_typed x k.2) z h
    node_typed (rule.call_of_nothing b y x is) k h = cc
    node_typed (rule.super_call {class = class} {name = name} {ts = ts} {m = m} is x y) k h = super_typed c sound class name ts m is k.0 (exprs_typed x k.1) y h
    node_typed (rule.no_super_call is x) k h = cc
    node_typed (rule.new_object {class = class} {ts = ts} {m = m} x y) k h = new_typed c sound class ts m (exprs_typed x k.1) y h
    node_typed (rule.new_array {dims = dims} {b = b} {t = t} x) k h =
        let p = met kind.Name (is_known c (array_name b dims)) (need kind.Operand (is_int t.type) ∷ []) h in
        array_typed t k.0 p.0 (met kind.Operand (is_int t.type) [] p.1).0 (expr_typed x k.1)
    node_typed (rule.element {s = s} {t = t} x y) k h =
        element_typed s t (met kind.Operand (is_some (element_type s.type) && is_int t.type) [] h).0 (expr_typed x k.0) (expr_typed y k.1)
    node_typed rule.least k h = record { known = int_result; steps = none_sound; has = λ frame a covers. typing.int_value (record { sfits = lit< tt }) }
    node_typed (rule.unary {o = o} {t = t} spelled x) k h =
        let y = expr_typed x k in
        record {
          known = primitive_known (unary_primitive o);
          steps = y.steps;
          has = λ frame a covers. unary_typed o t.type (met kind.Operand (unary_takes o t.type) [] h).0 (y.has frame a covers);
        }
    node_typed (rule.step {plus = plus} {post = post} {p = p} x) k h =
        let m = met kind.Operand (is_int (given p.type)) (place_needs p) h in
        step_typed p plus post m.0 (met kind.Final p.assignable (need kind.Access p.open_here ∷ []) m.1).0 (place_typed x k)
    node_typed (rule.cast {ty = ty} {t = t} {form = form} x a) k h =
        let m = met kind.Name (is_known c ty) (need kind.Cast (is_cast form) ∷ []) h in
        cast_typed ty t form a (met kind.Cast (is_cast form) [] m.1).0 k.0 m.0 (expr_typed x k.1)
    node_typed (rule.binary {o = o} {s = s} {t = t} {together = together} x y d) k h =
        two_typed o s t (met kind.Operand (binary_takes o s.type t.type) (need kind.Cast together ∷ []) h).0 (expr_typed x k.0) (expr_typed y k.1)
    node_typed (rule.instance_of {ty = ty} {t = t} {together = together} x d) k h =
        let m = met kind.Name (is_known c ty) (need kind.Operand (is_object t.type && is_reference (type_of ty)) ∷ need kind.Cast together ∷ []) h in
        instance_typed ty t k.1 m.0 (met kind.Operand (is_object t.type && is_reference (type_of ty)) (need kind.Cast together ∷ []) m.1).0 (expr_typed x k.0)
    node_typed (rule.conditional {q = q} {s = s} {t = t} {j = j} x y z i) k h =
        let m = met kind.Operand (is_joined j) (need kind.Condition (is_bool q.type) ∷ []) h in
        choice_typed q s t j i m.0 (met kind.Condition (is_bool q.type) [] m.1).0 (expr_typed x k.0) (expr_typed y k.1) (expr_typed z k.2)
    node_typed (rule.assign {p = p} {t = t} {fits = fits} x y d) k h =
        let m = met kind.Assign fits (place_needs p) h in
        assign_typed p t (d.0 m.0) (met kind.Final p.assignable (need kind.Access p.open_here ∷ []) m.1).0 (place_typed x k.0) (expr_typed y k.1)
    node_typed (rule.compound {o = o} {p = p} {t = t} x y) k h =
        let m = met kind.Operand (compound_takes o p.type t.type) (place_needs p) h in
        compounded_typed o p t m.0 (met kind.Final p.assignable (need kind.Access p.open_here ∷ []) m.1).0 (place_typed x k.0) (expr_typed y k.1)

    -- arguments
    pub exprs_typed : {es : source.PlainExprs} {ts : List Typing} → TypesAll c es ts → AreFormedExprs es → Each (IsTyped c) ts
    exprs_typed rule.no_arguments k = each_of_none
    exprs_typed (rule.more_arguments x rest) k = each_of_more (expr_typed x k.0) (exprs_typed rest k.1)

    -- a variable that is assigned
    place_typed : {e : source.PlainExpr} {p : Placing} → TypesPlace c e p → IsFormedExpr e → IsPlaced c p
    place_typed (types_place x h) k = place_node x k h

    place_node : {e : source.PlainExpr} {needs : List Need} {p : Placing} → Places c e needs p → IsFormedExpr e → earliest_missing needs ≡ None → IsPlaced c p
    place_node (rule.simple_place {x = x}) k h = name_placed c sound x h
    place_node (rule.place_of_type {e = e} {class = class} {name = name} b) k h = type_placed c sound class name (before_there c e class b) h
    place_node (rule.place_of_value {e = e} {class = class} {name = name} {t = t} b x m) k h = behind_placed c sound (way_behind e) t class name (expr_typed x k.0) m h
    place_node (rule.length_place b x m) k h = length_placed c sound
    place_node (rule.place_of_nothing b x m) k h = cc
    place_node (rule.super_place {class = class} {name = name} is) k h = super_placed c sound class name is h
    place_node (rule.no_super_place is) k h = cc
    place_node (rule.element_place {s = s} {t = t} x y) k h =
        element_placed c sound s t (expr_typed x k.0) (expr_typed y k.1) (met kind.Operand (is_some (element_type s.type) && is_int t.type) [] h).0
    place_node (rule.no_place is) k h = cc

-- ---- laws

pub each_expression : law.ExpressionsTyped
each_expression c e t sound k x = expr_typed c sound x k

pub each_argument : law.ArgumentsTyped
each_argument c es ts sound k x = exprs_typed c sound x k

pub each_place : law.PlacesTyped
each_place c e p sound k x = place_typed c sound x k

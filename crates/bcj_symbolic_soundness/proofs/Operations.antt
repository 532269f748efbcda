-- Operators, updates, choices and casts.
use Rattle.std.proofs.Common.{◌≡◌, refl, sym, ap, subst, ◌∙◌, ◌⊎◌, inl, inr, ℕ, Bool, true, false, not, ◌||◌, List, Some, if◌then◌else◌}
use Rattle.std.specs.Bool.{Decides}
use Rattle.std.proofs.lemmas.Bool.{and_parts, or_cases, or_left, or_right}
use Rattle.std.proofs.lemmas.Bool.Decides.{Decides-and, not_from_Decides}
use Rattle.bcj_symbolic_trees.specs.declared.expression.UnaryOp.{UnaryOp}
use Rattle.bcj_symbolic_trees.specs.declared.expression.BinaryOp.{BinaryOp}
use Rattle.bcj_symbolic_trees.specs.Types.{PlainTy, int_type, bool_type, void_type, class_type, array_type, PlainArg, given, PlainFieldRef}
use Rattle.bcj_symbolic_trees.specs.Units.{PlainPair}
use Rattle.bcj_symbolic_trees.specs.Trees as tree
use Rattle.bcj_symbolic_trees.specs.Trees.{PlainExpr, PlainPlace}
use Rattle.bcj_symbolic_check.specs.Steps.{is_array, steps_to}
use Rattle.bcj_symbolic_check.specs.Judgements.{Frame, Known, Judgement, judged, judge, judge_place, part_steps, takes, unary_gives, element_part, joined, local_rule, static_rule, field_rule, element_rule, update_rule, unary_rule, binary_rule, logic_rule, choice_rule, cast_rule, widen_rule, instance_rule, then_rule, new_array_rule}
use Rattle.bcj_symbolic_check.specs.Statements.{expr_marks, place_marks}
use Rattle.bcj_symbolic_check.specs.Typing as typing
use Rattle.bcj_symbolic_check.specs.Typing.{IsReference, IsReferenceOrNull, IsValue, IsValueType, IsFieldRef, UnaryTakes, Operates, IsAssigning, Joined, to_second, to_first, At, Step, HasType, HasPlaceType}
use Rattle.bcj_symbolic_soundness.specs.Laws.{EachHolds}
use Rattle.bcj_symbolic_soundness.proofs.Tests.{is_reference-Decides, is_value_type-Decides, is_field_ref-Decides, steps_to-Decides}
use Rattle.bcj_symbolic_soundness.proofs.Operators.{int_part-Decides, bool_part-Decides, unary-Decides, gives_taken, operates, operator_takes, operator_result, assigning-Decides, assigned}
use Rattle.bcj_symbolic_soundness.proofs.Parts.{both_hold, both_marks, three_marks, passed, passes, gives_when, told, at_two, at_three, Has, Typed, retyped, Passes, pass, part_steps-Decides, object_part-Decides, value_part-Decides}
use Rattle.bcj_symbolic_soundness.proofs.Variables.{local_at, local_there, field-Decides, element-Decides}

-- ---- operators

pub unary-typed : (frame : Frame) (o : UnaryOp) (a : PlainExpr) → Typed frame a → (judge frame (tree.unary o a)).holds ≡ true → Typed frame (tree.unary o a)
unfolding unary_rule
unary-typed frame o a x h =
    let p = (unary-Decides o x.0).0 (told (ap (unary_rule o) x.1.known) h) in
    (given (unary_gives o), record { known = gives_when _ _ h; has = typing.unary p.0 (retyped p.1 x.1).has })

pub unary-passes : {frame : Frame} {o : UnaryOp} {a : PlainExpr} {t : PlainTy} → UnaryTakes o t → Passes frame a (given t) → Passes frame (tree.unary o a) (given t)
unfolding unary_rule
unary-passes {frame} {o} {a} {t} u x =
    let g = gives_taken u in
    let p = (unary-Decides o (given t)).1 (subst (UnaryTakes o) (sym g) u, ap given (sym g)) in
    pass refl (ap (unary_rule o) x.known ∙ passes _ _ p ∙ ap (λ (r : PlainTy). passed (given r)) g) x.marks

pub binary-typed : (frame : Frame) (o : BinaryOp) (a b : PlainExpr) → Typed frame a → Typed frame b → (judge frame (tree.binary o a b)).holds ≡ true → Typed frame (tree.binary o a b)
unfolding binary_rule
binary-typed frame o a b x y h =
    let j = at_two (binary_rule o) x.1.known y.1.known in
    let p = operates o x.0 y.0 (told j h) in (
      given p.0,
      record {
        known = ap (λ (j : Judgement). j.gives) j ∙ gives_when _ _ (told j h) ∙ p.2;
        has = typing.binary x.1.has y.1.has p.1;
      },
    )

pub binary-passes : {frame : Frame} {o : BinaryOp} {a b : PlainExpr} {r s : PlainArg} {t : PlainTy} → Passes frame a r → Passes frame b s → Operates o r s t
    → Passes frame (tree.binary o a b) (given t)
unfolding binary_rule
binary-passes {frame} {o} {a} {b} {r} {s} {t} x y p =
    pass refl
    (at_two (binary_rule o) x.known y.known
    ∙ passes _ _ (operator_takes p)
    ∙ ap (λ (k : Known). judged true k) (operator_result p))
    (both_marks x y)

logic-Decides : (a b : PlainArg) → Decides ((logic_rule (Some a) (Some b)).holds) ((a ≡ given bool_type) × (b ≡ given bool_type))
unfolding logic_rule
logic-Decides a b = Decides-and _ _ (bool_part-Decides a) (bool_part-Decides b)

pub and_also-typed : (frame : Frame) (a b : PlainExpr) → Typed frame a → Typed frame b → (judge frame (tree.and_also a b)).holds ≡ true → Typed frame (tree.and_also a b)
unfolding logic_rule
and_also-typed frame a b x y h =
    let p = (logic-Decides x.0 y.0).0 (told (at_two logic_rule x.1.known y.1.known) h) in
    (given bool_type, record { known = gives_when _ _ h; has = typing.and_also (retyped p.0 x.1).has (retyped p.1 y.1).has })

pub and_also-passes : {frame : Frame} {a b : PlainExpr} → Passes frame a (given bool_type) → Passes frame b (given bool_type) → Passes frame (tree.and_also a b) (given bool_type)
unfolding logic_rule
and_also-passes x y =
    pass refl (at_two logic_rule x.known y.known ∙ passes _ _ ((logic-Decides (given bool_type) (given bool_type)).1 (refl, refl))) (both_marks x y)

pub or_else-typed : (frame : Frame) (a b : PlainExpr) → Typed frame a → Typed frame b → (judge frame (tree.or_else a b)).holds ≡ true → Typed frame (tree.or_else a b)
unfolding logic_rule
or_else-typed frame a b x y h =
    let p = (logic-Decides x.0 y.0).0 (told (at_two logic_rule x.1.known y.1.known) h) in
    (given bool_type, record { known = gives_when _ _ h; has = typing.or_else (retyped p.0 x.1).has (retyped p.1 y.1).has })

pub or_else-passes : {frame : Frame} {a b : PlainExpr} → Passes frame a (given bool_type) → Passes frame b (given bool_type) → Passes frame (tree.or_else a b) (given bool_type)
unfolding logic_rule
or_else-passes x y =
    pass refl (at_two logic_rule x.known y.known ∙ passes _ _ ((logic-Decides (given bool_type) (given bool_type)).1 (refl, refl))) (both_marks x y)

-- ---- choices

-- one of two values' types that the other steps to
abbrev Joins : List PlainPair → PlainArg → PlainArg → Type 0
Joins pairs s t = (r : PlainArg) × Joined pairs s t r × (joined pairs (Some s) (Some t) ≡ Some r)

joins : (pairs : List PlainPair) (s t : PlainArg) → (part_steps pairs (Some s) (Some t) || part_steps pairs (Some t) (Some s)) ≡ true → Joins pairs s t
unfolding joined
joins pairs s t h = by (steps_to pairs s t) refl
  where
    first : steps_to pairs s t ≡ false → (part_steps pairs (Some s) (Some t) ≡ true) ⊎ (part_steps pairs (Some t) (Some s) ≡ true) → Step pairs t s
    first e (inl k) = absurd (not_from_Decides _ (steps_to-Decides pairs s t) e ((part_steps-Decides pairs t s).0 k))
    first e (inr k) = (part_steps-Decides pairs s t).0 k

    by : (b : Bool) → steps_to pairs s t ≡ b → Joins pairs s t
    by true e = (t, to_second ((steps_to-Decides pairs s t).0 e), ap (λ (b : Bool). if b then Some t else Some s) e)
    by false e =
        (s, to_first (not_from_Decides _ (steps_to-Decides pairs s t) e) (first e (or_cases _ _ h)), ap (λ (b : Bool). if b then Some t else Some s) e)

join_steps : {pairs : List PlainPair} {s t r : PlainArg} → Joined pairs s t r → (part_steps pairs (Some s) (Some t) || part_steps pairs (Some t) (Some s)) ≡ true
join_steps {pairs} (to_second {s = s} {t = t} h) = or_left _ _ ((part_steps-Decides pairs t s).1 h)
join_steps {pairs} (to_first {s = s} {t = t} n h) = or_right _ _ ((part_steps-Decides pairs s t).1 h)

-- a test that doesn't hold
fails : (b : Bool) {P : Type 0} → Decides b P → ¬ P → b ≡ false
fails true d n = absurd (n (d.0 refl))
fails false d n = refl

join_gives : {pairs : List PlainPair} {s t r : PlainArg} → Joined pairs s t r → joined pairs (Some s) (Some t) ≡ Some r
unfolding joined
join_gives {pairs} (to_second {s = s} {t = t} h) = ap (λ (b : Bool). if b then Some t else Some s) ((steps_to-Decides pairs s t).1 h)
join_gives {pairs} (to_first {s = s} {t = t} n h) = ap (λ (b : Bool). if b then Some t else Some s) (fails _ (steps_to-Decides pairs s t) n)

choice-Decides : (pairs : List PlainPair) (c s t : PlainArg)
    → Decides ((choice_rule pairs (Some c) (Some s) (Some t)).holds)
    ((c ≡ given bool_type) × (IsValue s × (IsValue t × ((part_steps pairs (Some s) (Some t) || part_steps pairs (Some t) (Some s)) ≡ true))))
unfolding choice_rule
choice-Decides pairs c s t =
    Decides-and _ _ (bool_part-Decides c)
    (Decides-and _ _ (value_part-Decides s)
    (Decides-and _ _ (value_part-Decides t) (λ e. e, λ e. e)))

pub conditional-typed : (frame : Frame) (c a b : PlainExpr) → Typed frame c → Typed frame a → Typed frame b → (judge frame (tree.conditional c a b)).holds ≡ true
    → Typed frame (tree.conditional c a b)
unfolding choice_rule
conditional-typed frame c a b x y z h =
    let j = at_three (choice_rule frame.pairs) x.1.known y.1.known z.1.known in
    let p = (choice-Decides frame.pairs x.0 y.0 z.0).0 (told j h) in
    let r = joins frame.pairs y.0 z.0 p.1.1.1 in (
      r.0,
      record {
        known = ap (λ (j : Judgement). j.gives) j ∙ gives_when _ _ (told j h) ∙ r.2;
        has = typing.conditional (retyped p.0 x.1).has y.1.has p.1.0 z.1.has p.1.1.0 r.1;
      },
    )

pub conditional-passes : {frame : Frame} {c a b : PlainExpr} {r s t : PlainArg} → Passes frame c (given bool_type) → Passes frame a r → IsValue r
    → Passes frame b s → IsValue s → Joined frame.pairs r s t → Passes frame (tree.conditional c a b) t
unfolding choice_rule
conditional-passes {frame} {c} {a} {b} {r} {s} {t} x y n z m k =
    pass refl
    (at_three (choice_rule frame.pairs) x.known y.known z.known
    ∙ passes _ _ ((choice-Decides frame.pairs (given bool_type) r s).1 (refl, (n, (m, join_steps k))))
    ∙ ap (λ (k : Known). judged true k) (join_gives k))
    (three_marks x y z)

-- ---- casts

cast-Decides : (t : PlainTy) (s : PlainArg) → Decides ((cast_rule t (Some s)).holds) (IsReference t × (IsValueType t × IsReferenceOrNull s))
unfolding cast_rule
cast-Decides t s = Decides-and _ _ (is_reference-Decides t) (Decides-and _ _ (is_value_type-Decides t) (object_part-Decides s))

pub cast-typed : (frame : Frame) (t : PlainTy) (a : PlainExpr) → Typed frame a → (judge frame (tree.cast t a)).holds ≡ true → Typed frame (tree.cast t a)
unfolding cast_rule
cast-typed frame t a x h =
    let p = (cast-Decides t x.0).0 (told (ap (cast_rule t) x.1.known) h) in
    (given t, record { known = gives_when _ _ h; has = typing.cast p.0 p.1.0 x.1.has p.1.1 })

pub cast-passes : {frame : Frame} {t : PlainTy} {a : PlainExpr} {s : PlainArg} → IsReference t → IsValueType t → Passes frame a s → IsReferenceOrNull s → Passes frame (tree.cast t a) (given t)
unfolding cast_rule
cast-passes {frame} {t} {a} {s} r v x o =
    pass refl (ap (cast_rule t) x.known ∙ passes _ _ ((cast-Decides t s).1 (r, (v, o)))) x.marks

widen-Decides : (pairs : List PlainPair) (t : PlainTy) (s : PlainArg) → Decides ((widen_rule pairs t (Some s)).holds) (IsReference t × (IsValueType t × Step pairs s (given t)))
unfolding widen_rule
widen-Decides pairs t s =
    Decides-and _ _ (is_reference-Decides t) (Decides-and _ _ (is_value_type-Decides t) (part_steps-Decides pairs (given t) s))

pub widen-typed : (frame : Frame) (t : PlainTy) (a : PlainExpr) → Typed frame a → (judge frame (tree.widen t a)).holds ≡ true → Typed frame (tree.widen t a)
unfolding widen_rule
widen-typed frame t a x h =
    let p = (widen-Decides frame.pairs t x.0).0 (told (ap (widen_rule frame.pairs t) x.1.known) h) in
    (given t, record { known = gives_when _ _ h; has = typing.widen p.0 p.1.0 x.1.has p.1.1 })

pub widen-passes : {frame : Frame} {t : PlainTy} {a : PlainExpr} {s : PlainArg} → IsReference t → IsValueType t → Passes frame a s → Step frame.pairs s (given t) → Passes frame (tree.widen t a) (given t)
unfolding widen_rule
widen-passes {frame} {t} {a} {s} r v x k =
    pass refl (ap (widen_rule frame.pairs t) x.known ∙ passes _ _ ((widen-Decides frame.pairs t s).1 (r, (v, k)))) x.marks

instance-Decides : (t : PlainTy) (s : PlainArg) → Decides ((instance_rule t (Some s)).holds) (IsReference t × (IsValueType t × IsReferenceOrNull s))
unfolding instance_rule
instance-Decides t s = Decides-and _ _ (is_reference-Decides t) (Decides-and _ _ (is_value_type-Decides t) (object_part-Decides s))

pub instance_of-typed : (frame : Frame) (a : PlainExpr) (t : PlainTy) → Typed frame a → (judge frame (tree.instance_of a t)).holds ≡ true → Typed frame (tree.instance_of a t)
unfolding instance_rule
instance_of-typed frame a t x h =
    let p = (instance-Decides t x.0).0 (told (ap (instance_rule t) x.1.known) h) in
    (given bool_type, record { known = gives_when _ _ h; has = typing.instance_of p.0 p.1.0 x.1.has p.1.1 })

pub instance_of-passes : {frame : Frame} {a : PlainExpr} {t : PlainTy} {s : PlainArg} → IsReference t → IsValueType t → Passes frame a s → IsReferenceOrNull s
    → Passes frame (tree.instance_of a t) (given bool_type)
unfolding instance_rule
instance_of-passes {frame} {a} {t} {s} r v x o =
    pass refl (ap (instance_rule t) x.known ∙ passes _ _ ((instance-Decides t s).1 (r, (v, o)))) x.marks

-- ---- one after the other

-- a test that asks something only where another holds
pub Decides-if : (b c : Bool) {P Q : Type 0} → Decides b P → Decides c Q → Decides (not b || c) (P → Q)
Decides-if true c d k = (λ e p. k.0 e, λ f. k.1 (f (d.0 refl)))
Decides-if false c d k = (λ e p. absurd (not_from_Decides _ d refl p), λ f. refl)

then-Decides : (null_test : Bool) (s : PlainArg) (k : Known) → Decides ((then_rule null_test (Some s) k).holds) (null_test ≡ true → IsReferenceOrNull s)
unfolding then_rule
then-Decides null_test s k = Decides-if null_test _ (λ e. e, λ e. e) (object_part-Decides s)

pub first_then-typed : (frame : Frame) (a : PlainExpr) (null_test : Bool) (b : PlainExpr) → Typed frame a → Typed frame b → (judge frame (tree.first_then a null_test b)).holds ≡ true
    → Typed frame (tree.first_then a null_test b)
unfolding then_rule
first_then-typed frame a null_test b x y h =
    let p = (then-Decides null_test x.0 (Some y.0)).0 (told (at_two (then_rule null_test) x.1.known y.1.known) h) in
    (y.0, record { known = gives_when _ _ h ∙ y.1.known; has = typing.first_then x.1.has p y.1.has })

pub first_then-passes : {frame : Frame} {a b : PlainExpr} {null_test : Bool} {s t : PlainArg} → Passes frame a s → (null_test ≡ true → IsReferenceOrNull s) → Passes frame b t
    → Passes frame (tree.first_then a null_test b) t
unfolding then_rule
first_then-passes {frame} {a} {b} {null_test} {s} {t} x p y =
    pass refl (at_two (then_rule null_test) x.known y.known ∙ passes _ _ ((then-Decides null_test s (Some t)).1 p)) (both_marks x y)

-- ---- arrays

new_array-Decides : (t : PlainTy) (n : PlainArg) → Decides ((new_array_rule t (Some n)).holds) ((is_array t ≡ true) × (IsValueType t × (n ≡ given int_type)))
unfolding new_array_rule
new_array-Decides t n = Decides-and _ _ (λ e. e, λ e. e) (Decides-and _ _ (is_value_type-Decides t) (int_part-Decides n))

-- what is made is an array
array_made : {frame : Frame} (t : PlainTy) {n : PlainExpr} → is_array t ≡ true → IsValueType t → HasType frame n (given int_type) → HasType frame (tree.new_array t n) (given t)
array_made int_type e v x = cc
array_made bool_type e v x = cc
array_made void_type e v x = cc
array_made (class_type name) e v x = cc
array_made (array_type component) e v x = typing.new_array v x

pub new_array-typed : (frame : Frame) (t : PlainTy) (n : PlainExpr) → Typed frame n → (judge frame (tree.new_array t n)).holds ≡ true → Typed frame (tree.new_array t n)
unfolding new_array_rule
new_array-typed frame t n x h =
    let p = (new_array-Decides t x.0).0 (told (ap (new_array_rule t) x.1.known) h) in
    (given t, record { known = gives_when _ _ h; has = array_made t p.0 p.1.0 (retyped p.1.1 x.1).has })

pub new_array-passes : {frame : Frame} {t : PlainTy} {n : PlainExpr} → IsValueType (array_type t) → Passes frame n (given int_type) → Passes frame (tree.new_array (array_type t) n) (given (array_type t))
unfolding new_array_rule
new_array-passes {frame} {t} {n} v x =
    pass refl (ap (new_array_rule (array_type t)) x.known ∙ passes _ _ ((new_array-Decides (array_type t) (given int_type)).1 (refl, (v, refl)))) x.marks

-- ---- updates

-- a place whose type is known
abbrev pub PlaceTyped : Frame → PlainPlace → Type 0
PlaceTyped frame p = (t : PlainTy) × ((judge_place frame p).gives ≡ Some (given t)) × HasPlaceType frame p t

-- a place that the function accepts
pub record PlacePasses (frame : Frame) (p : PlainPlace) (t : PlainTy) : Type 0 where
  pub marks : EachHolds (place_marks frame p)
  pub judged_so : judge_place frame p ≡ passed (given t)

pub local_place-typed : (frame : Frame) (i : ℕ) → (judge_place frame (tree.local_place i)).holds ≡ true → PlaceTyped frame (tree.local_place i)
unfolding local_rule
local_place-typed frame i h = let l = local_at frame i h in (l.0, gives_when _ _ h ∙ l.2, typing.local_place l.1)

pub local_place-passes : {frame : Frame} {i : ℕ} {t : PlainTy} → At frame.locals i t → PlacePasses frame (tree.local_place i) t
unfolding local_rule
local_place-passes {frame} h = record { marks = refl; judged_so = ap local_rule (local_there frame h) }

pub static_place-typed : (frame : Frame) (f : PlainFieldRef) → (judge_place frame (tree.static_place f)).holds ≡ true → PlaceTyped frame (tree.static_place f)
unfolding static_rule
static_place-typed frame f h = (f.ty, gives_when _ _ h, typing.static_place ((is_field_ref-Decides f).0 h))

pub static_place-passes : {frame : Frame} {f : PlainFieldRef} → IsFieldRef f → PlacePasses frame (tree.static_place f) f.ty
unfolding static_rule
static_place-passes {frame} {f} h = record { marks = refl; judged_so = passes _ _ ((is_field_ref-Decides f).1 h) }

pub field_place-typed : (frame : Frame) (e : PlainExpr) (f : PlainFieldRef) → Typed frame e → (judge_place frame (tree.field_place e f)).holds ≡ true → PlaceTyped frame (tree.field_place e f)
unfolding field_rule
field_place-typed frame e f x h =
    let p = (field-Decides frame.pairs f x.0).0 (told (ap (field_rule frame.pairs f) x.1.known) h) in
    (f.ty, gives_when _ _ h, typing.field_place p.0 x.1.has p.1)

pub field_place-passes : {frame : Frame} {e : PlainExpr} {f : PlainFieldRef} {s : PlainArg} → IsFieldRef f → Passes frame e s → Step frame.pairs s (given (class_type f.class))
    → PlacePasses frame (tree.field_place e f) f.ty
unfolding field_rule
field_place-passes {frame} {e} {f} {s} h x k = record {
  marks = x.marks;
  judged_so = ap (field_rule frame.pairs f) x.known ∙ passes _ _ ((field-Decides frame.pairs f s).1 (h, k));
}

pub element_place-typed : (frame : Frame) (a i : PlainExpr) → Typed frame a → Typed frame i → (judge_place frame (tree.element_place a i)).holds ≡ true → PlaceTyped frame (tree.element_place a i)
unfolding element_rule element_part
element_place-typed frame a i x y h =
    let p = (element-Decides x.0 y.0).0 (told (at_two element_rule x.1.known y.1.known) h) in
    let z : Has frame a (given (array_type p.0.0)) = retyped p.0.1 x.1 in
    (p.0.0, gives_when _ _ h ∙ ap element_part z.known, typing.element_place z.has (retyped p.1 y.1).has)

pub element_place-passes : {frame : Frame} {a i : PlainExpr} {t : PlainTy} → Passes frame a (given (array_type t)) → Passes frame i (given int_type) → PlacePasses frame (tree.element_place a i) t
unfolding element_rule element_part
element_place-passes {frame} {a} {i} {t} x y = record {
  marks = both_marks x y;
  judged_so = at_two element_rule x.known y.known ∙ passes _ _ ((element-Decides (given (array_type t)) (given int_type)).1 ((t, refl), refl));
}

update-Decides : (o : BinaryOp) (b : Bool) (t : PlainTy) (s : PlainArg)
    → Decides ((update_rule o b (Some (given t)) (Some s)).holds) ((b ≡ true) × (IsAssigning o × (takes o (Some (given t)) (Some s) ≡ true)))
unfolding update_rule
update-Decides o b t s = Decides-and _ _ (λ e. e, λ e. e) (Decides-and _ _ (assigning-Decides o) (λ e. e, λ e. e))

pub update-place_holds : (frame : Frame) (p : PlainPlace) (o : BinaryOp) (v : PlainExpr) (post : Bool) → (judge frame (tree.update_place p o v post)).holds ≡ true → (judge_place frame p).holds ≡ true
unfolding update_rule
update-place_holds frame p o v post h = (and_parts _ _ h).0

pub update-typed : (frame : Frame) (p : PlainPlace) (o : BinaryOp) (v : PlainExpr) (post : Bool) → PlaceTyped frame p → Typed frame v → (judge frame (tree.update_place p o v post)).holds ≡ true
    → Typed frame (tree.update_place p o v post)
unfolding update_rule
update-typed frame p o v post x y h =
    let q = (update-Decides o ((judge_place frame p).holds) x.0 y.0).0 (told (at_two (update_rule o ((judge_place frame p).holds)) x.1 y.1.known) h) in
    let r = operates o (given x.0) y.0 q.1.1 in
    (given x.0, record { known = gives_when _ _ h ∙ x.1; has = typing.update_place x.2 y.1.has q.1.0 (assigned q.1.0 r.1) })

pub update-passes : {frame : Frame} {p : PlainPlace} {o : BinaryOp} {v : PlainExpr} {post : Bool} {s : PlainArg} {t : PlainTy} → PlacePasses frame p t → Passes frame v s
    → IsAssigning o → Operates o (given t) s t → Passes frame (tree.update_place p o v post) (given t)
unfolding update_rule
update-passes {frame} {p} {o} {v} {post} {s} {t} x y a k =
    pass refl
    (ap (λ (j : Judgement). update_rule o j.holds j.gives (judge frame v).gives) x.judged_so
    ∙ ap (update_rule o true (Some (given t))) y.known
    ∙ passes _ _ ((update-Decides o true t s).1 (refl, (a, operator_takes k))))
    (both_hold (place_marks frame p) (expr_marks frame v) x.marks y.marks)

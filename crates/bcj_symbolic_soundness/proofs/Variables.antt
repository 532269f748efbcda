-- Numbers, and the nodes that read and write variables.
use Rattle.std.proofs.Common.{◌≡◌, refl, ap, ◌∙◌, ℕ, ℤ, FitsSigned, true, List, Some, None, is_some}
use Rattle.std.specs.Bool.{Decides}
use Rattle.std.specs.Int.{w32}
use Rattle.std.proofs.lemmas.Bool.{and_parts}
use Rattle.std.proofs.lemmas.Bool.Decides.{Decides-and, Decides-not}
use Rattle.bcj_symbolic_trees.specs.Types.{PlainTy, int_type, class_type, array_type, PlainArg, given, PlainFieldRef}
use Rattle.bcj_symbolic_trees.specs.Units.{PlainPair}
use Rattle.bcj_symbolic_trees.specs.Trees as tree
use Rattle.bcj_symbolic_trees.specs.Trees.{PlainExpr, PlainPlace}
use Rattle.bcj_symbolic_check.specs.Judgements.{Frame, Known, judge, is_this, local_known, element_part, int_rule, local_rule, local_store_rule, static_rule, static_store_rule, field_rule, field_store_rule, element_rule, element_store_rule, length_rule}
use Rattle.bcj_symbolic_check.specs.Typing as typing
use Rattle.bcj_symbolic_check.specs.Typing.{IsValue, IsFieldRef, At, IsThis, Step, HasType, HasPlaceType}
use Rattle.bcj_symbolic_soundness.proofs.Tests.{IsArrayOf, is_field_ref-Decides, is_this-Decides, in_range-Decides, at, there}
use Rattle.bcj_symbolic_soundness.proofs.Operators.{int_part-Decides}
use Rattle.bcj_symbolic_soundness.proofs.Parts.{both_marks, three_marks, passes, gives_when, told, at_two, at_three, Has, Typed, retyped, Passes, pass, part_steps-Decides, array_part-Decides, value_part-Decides}

-- ---- literals

pub int_value-typed : (frame : Frame) (n : ℤ) → (judge frame (tree.int_value n)).holds ≡ true → Typed frame (tree.int_value n)
unfolding int_rule
int_value-typed frame n h = (given int_type, record { known = gives_when _ _ h; has = typing.int_value ((in_range-Decides n).0 h) })

pub int_value-passes : {frame : Frame} {n : ℤ} → FitsSigned w32 n → Passes frame (tree.int_value n) (given int_type)
unfolding int_rule
int_value-passes {n = n} h = pass refl (passes _ _ ((in_range-Decides n).1 h)) refl

-- ---- locals

some_of : (k : Known) → is_some k ≡ true → (s : PlainArg) × (k ≡ Some s)
some_of None e = cc
some_of (Some s) e = (s, refl)

-- a local that there is
pub local_at : (frame : Frame) (i : ℕ) → is_some (local_known frame i) ≡ true → (t : PlainTy) × At frame.locals i t × (local_known frame i ≡ Some (given t))
unfolding local_known
local_at frame i h =
    let s = some_of (local_known frame i) h in
    let l = at frame.locals i s.0 s.1 in
    (l.0, l.2, there l.2)

pub local_there : (frame : Frame) {i : ℕ} {t : PlainTy} → At frame.locals i t → local_known frame i ≡ Some (given t)
unfolding local_known
local_there frame h = there h

pub get_local-typed : (frame : Frame) (i : ℕ) → (judge frame (tree.get_local i)).holds ≡ true → Typed frame (tree.get_local i)
unfolding local_rule
get_local-typed frame i h =
    let l = local_at frame i h in
    (given l.0, record { known = gives_when _ _ h ∙ l.2; has = typing.get_local l.1 })

pub get_local-passes : {frame : Frame} {i : ℕ} {t : PlainTy} → At frame.locals i t → Passes frame (tree.get_local i) (given t)
unfolding local_rule
get_local-passes {frame} h = pass refl (ap local_rule (local_there frame h)) refl

store-Decides : (frame : Frame) (i : ℕ) (t : PlainTy) (s : PlainArg)
    → Decides ((local_store_rule frame.pairs (is_this frame i) (Some (given t)) (Some s)).holds) ((¬ IsThis frame i) × Step frame.pairs s (given t))
unfolding local_store_rule
store-Decides frame i t s =
    Decides-and _ _ (Decides-not _ (is_this-Decides frame i)) (part_steps-Decides frame.pairs (given t) s)

pub set_local-typed : (frame : Frame) (i : ℕ) (v : PlainExpr) → Typed frame v → (judge frame (tree.set_local i v)).holds ≡ true → Typed frame (tree.set_local i v)
unfolding local_store_rule
set_local-typed frame i v x h =
    let l = local_at frame i (and_parts _ _ h).0 in
    let p = (store-Decides frame i l.0 x.0).0 (told (at_two (local_store_rule frame.pairs (is_this frame i)) l.2 x.1.known) h) in
    (given l.0, record { known = gives_when _ _ h ∙ l.2; has = typing.set_local l.1 p.0 x.1.has p.1 })

pub set_local-passes : {frame : Frame} {i : ℕ} {t : PlainTy} {v : PlainExpr} {s : PlainArg} → At frame.locals i t → ¬ IsThis frame i → Passes frame v s → Step frame.pairs s (given t)
    → Passes frame (tree.set_local i v) (given t)
unfolding local_store_rule
set_local-passes {frame} {i} {t} {v} {s} a n x k =
    pass refl (at_two (local_store_rule frame.pairs (is_this frame i)) (local_there frame a) x.known ∙ passes _ _ ((store-Decides frame i t s).1 (n, k))) x.marks

-- ---- static fields

pub get_static-typed : (frame : Frame) (f : PlainFieldRef) → (judge frame (tree.get_static f)).holds ≡ true → Typed frame (tree.get_static f)
unfolding static_rule
get_static-typed frame f h = (given f.ty, record { known = gives_when _ _ h; has = typing.get_static ((is_field_ref-Decides f).0 h) })

pub get_static-passes : {frame : Frame} {f : PlainFieldRef} → IsFieldRef f → Passes frame (tree.get_static f) (given f.ty)
unfolding static_rule
get_static-passes {frame} {f} h = pass refl (passes _ _ ((is_field_ref-Decides f).1 h)) refl

static_store-Decides : (pairs : List PlainPair) (f : PlainFieldRef) (s : PlainArg) → Decides ((static_store_rule pairs f (Some s)).holds) (IsFieldRef f × Step pairs s (given f.ty))
unfolding static_store_rule
static_store-Decides pairs f s = Decides-and _ _ (is_field_ref-Decides f) (part_steps-Decides pairs (given f.ty) s)

pub set_static-typed : (frame : Frame) (f : PlainFieldRef) (v : PlainExpr) → Typed frame v → (judge frame (tree.set_static f v)).holds ≡ true → Typed frame (tree.set_static f v)
unfolding static_store_rule
set_static-typed frame f v x h =
    let p = (static_store-Decides frame.pairs f x.0).0 (told (ap (static_store_rule frame.pairs f) x.1.known) h) in
    (given f.ty, record { known = gives_when _ _ h; has = typing.set_static p.0 x.1.has p.1 })

pub set_static-passes : {frame : Frame} {f : PlainFieldRef} {v : PlainExpr} {s : PlainArg} → IsFieldRef f → Passes frame v s → Step frame.pairs s (given f.ty)
    → Passes frame (tree.set_static f v) (given f.ty)
unfolding static_store_rule
set_static-passes {frame} {f} {v} {s} h x k =
    pass refl (ap (static_store_rule frame.pairs f) x.known ∙ passes _ _ ((static_store-Decides frame.pairs f s).1 (h, k))) x.marks

-- ---- fields

pub field-Decides : (pairs : List PlainPair) (f : PlainFieldRef) (s : PlainArg) → Decides ((field_rule pairs f (Some s)).holds) (IsFieldRef f × Step pairs s (given (class_type f.class)))
unfolding field_rule
field-Decides pairs f s = Decides-and _ _ (is_field_ref-Decides f) (part_steps-Decides pairs (given (class_type f.class)) s)

pub get_field-typed : (frame : Frame) (e : PlainExpr) (f : PlainFieldRef) → Typed frame e → (judge frame (tree.get_field e f)).holds ≡ true → Typed frame (tree.get_field e f)
unfolding field_rule
get_field-typed frame e f x h =
    let p = (field-Decides frame.pairs f x.0).0 (told (ap (field_rule frame.pairs f) x.1.known) h) in
    (given f.ty, record { known = gives_when _ _ h; has = typing.get_field p.0 x.1.has p.1 })

pub get_field-passes : {frame : Frame} {e : PlainExpr} {f : PlainFieldRef} {s : PlainArg} → IsFieldRef f → Passes frame e s → Step frame.pairs s (given (class_type f.class))
    → Passes frame (tree.get_field e f) (given f.ty)
unfolding field_rule
get_field-passes {frame} {e} {f} {s} h x k =
    pass refl (ap (field_rule frame.pairs f) x.known ∙ passes _ _ ((field-Decides frame.pairs f s).1 (h, k))) x.marks

field_store-Decides : (pairs : List PlainPair) (f : PlainFieldRef) (r s : PlainArg)
    → Decides ((field_store_rule pairs f (Some r) (Some s)).holds) (IsFieldRef f × (Step pairs r (given (class_type f.class)) × Step pairs s (given f.ty)))
unfolding field_store_rule
field_store-Decides pairs f r s =
    Decides-and _ _ (is_field_ref-Decides f)
    (Decides-and _ _ (part_steps-Decides pairs (given (class_type f.class)) r) (part_steps-Decides pairs (given f.ty) s))

pub set_field-typed : (frame : Frame) (e : PlainExpr) (f : PlainFieldRef) (v : PlainExpr) → Typed frame e → Typed frame v → (judge frame (tree.set_field e f v)).holds ≡ true
    → Typed frame (tree.set_field e f v)
unfolding field_store_rule
set_field-typed frame e f v x y h =
    let p = (field_store-Decides frame.pairs f x.0 y.0).0 (told (at_two (field_store_rule frame.pairs f) x.1.known y.1.known) h) in
    (given f.ty, record { known = gives_when _ _ h; has = typing.set_field p.0 x.1.has p.1.0 y.1.has p.1.1 })

pub set_field-passes : {frame : Frame} {e v : PlainExpr} {f : PlainFieldRef} {r s : PlainArg} → IsFieldRef f → Passes frame e r → Step frame.pairs r (given (class_type f.class))
    → Passes frame v s → Step frame.pairs s (given f.ty) → Passes frame (tree.set_field e f v) (given f.ty)
unfolding field_store_rule
set_field-passes {frame} {e} {v} {f} {r} {s} h x k y l =
    pass refl
    (at_two (field_store_rule frame.pairs f) x.known y.known ∙ passes _ _ ((field_store-Decides frame.pairs f r s).1 (h, (k, l))))
    (both_marks x y)

-- ---- arrays

pub element-Decides : (a i : PlainArg) → Decides ((element_rule (Some a) (Some i)).holds) (IsArrayOf a × (i ≡ given int_type))
unfolding element_rule
element-Decides a i = Decides-and _ _ (array_part-Decides a) (int_part-Decides i)

pub get_element-typed : (frame : Frame) (a i : PlainExpr) → Typed frame a → Typed frame i → (judge frame (tree.get_element a i)).holds ≡ true → Typed frame (tree.get_element a i)
unfolding element_rule element_part
get_element-typed frame a i x y h =
    let p = (element-Decides x.0 y.0).0 (told (at_two element_rule x.1.known y.1.known) h) in
    let z : Has frame a (given (array_type p.0.0)) = retyped p.0.1 x.1 in (
      given p.0.0,
      record {
        known = gives_when _ _ h ∙ ap element_part z.known;
        has = typing.get_element z.has (retyped p.1 y.1).has;
      },
    )

pub get_element-passes : {frame : Frame} {a i : PlainExpr} {t : PlainTy} → Passes frame a (given (array_type t)) → Passes frame i (given int_type) → Passes frame (tree.get_element a i) (given t)
unfolding element_rule element_part
get_element-passes {frame} {a} {i} {t} x y =
    pass refl
    (at_two element_rule x.known y.known ∙ passes _ _ ((element-Decides (given (array_type t)) (given int_type)).1 ((t, refl), refl)))
    (both_marks x y)

element_store-Decides : (pairs : List PlainPair) (t : PlainTy) (i s : PlainArg)
    → Decides ((element_store_rule pairs (Some (given (array_type t))) (Some i) (Some s)).holds)
    (IsArrayOf (given (array_type t)) × ((i ≡ given int_type) × (IsValue s × Step pairs s (given t))))
unfolding element_store_rule element_part
element_store-Decides pairs t i s =
    Decides-and _ _ (array_part-Decides (given (array_type t)))
    (Decides-and _ _ (int_part-Decides i)
    (Decides-and _ _ (value_part-Decides s) (part_steps-Decides pairs (given t) s)))

element_store-array : (pairs : List PlainPair) (a : PlainArg) (i s : Known) → (element_store_rule pairs (Some a) i s).holds ≡ true → IsArrayOf a
unfolding element_store_rule
element_store-array pairs a i s h = (array_part-Decides a).0 (and_parts _ _ h).0

pub set_element-typed : (frame : Frame) (a i v : PlainExpr) → Typed frame a → Typed frame i → Typed frame v → (judge frame (tree.set_element a i v)).holds ≡ true
    → Typed frame (tree.set_element a i v)
unfolding element_store_rule element_part
set_element-typed frame a i v x y z h =
    let e = element_store-array frame.pairs x.0 _ _ (told (at_three (element_store_rule frame.pairs) x.1.known y.1.known z.1.known) h) in
    let w : Has frame a (given (array_type e.0)) = retyped e.1 x.1 in
    let p = (element_store-Decides frame.pairs e.0 y.0 z.0).0 (told (at_three (element_store_rule frame.pairs) w.known y.1.known z.1.known) h) in (
      given e.0,
      record {
        known = gives_when _ _ h ∙ ap element_part w.known;
        has = typing.set_element w.has (retyped p.1.0 y.1).has z.1.has p.1.1.0 p.1.1.1;
      },
    )

pub set_element-passes : {frame : Frame} {a i v : PlainExpr} {t : PlainTy} {s : PlainArg} → Passes frame a (given (array_type t)) → Passes frame i (given int_type)
    → Passes frame v s → IsValue s → Step frame.pairs s (given t) → Passes frame (tree.set_element a i v) (given t)
unfolding element_store_rule element_part
set_element-passes {frame} {a} {i} {v} {t} {s} x y z n k =
    pass refl
    (at_three (element_store_rule frame.pairs) x.known y.known z.known
    ∙ passes _ _ ((element_store-Decides frame.pairs t (given int_type) s).1 ((t, refl), (refl, (n, k)))))
    (three_marks x y z)

pub array_length-typed : (frame : Frame) (a : PlainExpr) → Typed frame a → (judge frame (tree.array_length a)).holds ≡ true → Typed frame (tree.array_length a)
unfolding length_rule
array_length-typed frame a x h =
    let p = (array_part-Decides x.0).0 (told (ap length_rule x.1.known) h) in
    (given int_type, record { known = gives_when _ _ h; has = typing.array_length (retyped p.1 x.1).has })

pub array_length-passes : {frame : Frame} {a : PlainExpr} {t : PlainTy} → Passes frame a (given (array_type t)) → Passes frame (tree.array_length a) (given int_type)
unfolding length_rule
array_length-passes {frame} {a} {t} x =
    pass refl (ap length_rule x.known ∙ passes _ _ ((array_part-Decides (given (array_type t))).1 (t, refl))) x.marks

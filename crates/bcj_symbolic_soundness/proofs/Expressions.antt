-- The function decides the types of expressions, by induction on the tree and on the relation.
use Rattle.std.proofs.Common.{◌≡◌, refl, sym, ap, subst, ◌∙◌, Bool, true, List, ◌∷◌, Option, Some, unwrap_or}
use Rattle.std.specs.List.{list_all}
use Rattle.std.proofs.lemmas.Bool.{and_parts}
use Rattle.bcj_symbolic_trees.specs.Types.{PlainTy, bool_type, PlainArg, given, null_arg}
use Rattle.bcj_symbolic_trees.specs.declared.expression.PrintKind.{PrintKind}
use Rattle.bcj_symbolic_trees.specs.Trees as tree
use Rattle.bcj_symbolic_trees.specs.Trees.{PlainExpr, PlainExprs, PlainPlace}
use Rattle.bcj_symbolic_check.specs.Judgements.{Frame, judge, judge_place, sort}
use Rattle.bcj_symbolic_check.specs.Statements.{expr_marks, exprs_marks, place_marks}
use Rattle.bcj_symbolic_check.specs.Typing as typing
use Rattle.bcj_symbolic_check.specs.Typing.{HasType, HaveTypes, HasPlaceType, ArePrinted}
use Rattle.bcj_symbolic_soundness.specs.Laws.{EachHolds, TypesDecided, TypesUnique}
use Rattle.bcj_symbolic_soundness.proofs.Parts.{each_of_both, each_of_three, Typed, Passes}
use Rattle.bcj_symbolic_soundness.proofs.Variables as variable
use Rattle.bcj_symbolic_soundness.proofs.Operations as operation
use Rattle.bcj_symbolic_soundness.proofs.Operations.{PlaceTyped, PlacePasses}
use Rattle.bcj_symbolic_soundness.proofs.Calls as call
use Rattle.bcj_symbolic_soundness.proofs.Calls.{EachTyped, Suit, PrintPasses}

-- ---- what the function accepts has a type

-- a node and its parts
parts : (frame : Frame) (e : PlainExpr) {m : List Bool} → expr_marks frame e ≡ (judge frame e).holds ∷ m → EachHolds (expr_marks frame e) → ((judge frame e).holds ≡ true) × EachHolds m
parts frame e {m} is h = and_parts ((judge frame e).holds) (list_all (λ holds. holds) m) (sym (ap (list_all (λ holds. holds)) is) ∙ h)

mutual
  pub expr_typed : (frame : Frame) (e : PlainExpr) → EachHolds (expr_marks frame e) → Typed frame e
  expr_typed frame (tree.int_value n) h = variable.int_value-typed frame n (parts frame (tree.int_value n) refl h).0
  expr_typed frame (tree.bool_value b) h = (given bool_type, record { known = refl; has = typing.bool_value })
  expr_typed frame tree.null_value h = (null_arg, record { known = refl; has = typing.null_value })
  expr_typed frame (tree.get_local i) h = variable.get_local-typed frame i (parts frame (tree.get_local i) refl h).0
  expr_typed frame (tree.set_local i v) h =
      let p = parts frame (tree.set_local i v) refl h in variable.set_local-typed frame i v (expr_typed frame v p.1) p.0
  expr_typed frame (tree.get_static f) h = variable.get_static-typed frame f (parts frame (tree.get_static f) refl h).0
  expr_typed frame (tree.set_static f v) h =
      let p = parts frame (tree.set_static f v) refl h in variable.set_static-typed frame f v (expr_typed frame v p.1) p.0
  expr_typed frame (tree.get_field e f) h =
      let p = parts frame (tree.get_field e f) refl h in variable.get_field-typed frame e f (expr_typed frame e p.1) p.0
  expr_typed frame (tree.set_field e f v) h =
      let p = parts frame (tree.set_field e f v) refl h in
      let q = each_of_both (expr_marks frame e) (expr_marks frame v) p.1 in
      variable.set_field-typed frame e f v (expr_typed frame e q.0) (expr_typed frame v q.1) p.0
  expr_typed frame (tree.get_element a i) h =
      let p = parts frame (tree.get_element a i) refl h in
      let q = each_of_both (expr_marks frame a) (expr_marks frame i) p.1 in
      variable.get_element-typed frame a i (expr_typed frame a q.0) (expr_typed frame i q.1) p.0
  expr_typed frame (tree.set_element a i v) h =
      let p = parts frame (tree.set_element a i v) refl h in
      let q = each_of_three (expr_marks frame a) (expr_marks frame i) (expr_marks frame v) p.1 in
      variable.set_element-typed frame a i v (expr_typed frame a q.0) (expr_typed frame i q.1) (expr_typed frame v q.2) p.0
  expr_typed frame (tree.array_length a) h =
      let p = parts frame (tree.array_length a) refl h in variable.array_length-typed frame a (expr_typed frame a p.1) p.0
  expr_typed frame (tree.update_place x o v post) h =
      let p = parts frame (tree.update_place x o v post) refl h in
      let q = each_of_both (place_marks frame x) (expr_marks frame v) p.1 in
      operation.update-typed frame x o v post (place_typed frame x q.0 (operation.update-place_holds frame x o v post p.0)) (expr_typed frame v q.1) p.0
  expr_typed frame (tree.unary o a) h =
      let p = parts frame (tree.unary o a) refl h in operation.unary-typed frame o a (expr_typed frame a p.1) p.0
  expr_typed frame (tree.binary o a b) h =
      let p = parts frame (tree.binary o a b) refl h in
      let q = each_of_both (expr_marks frame a) (expr_marks frame b) p.1 in
      operation.binary-typed frame o a b (expr_typed frame a q.0) (expr_typed frame b q.1) p.0
  expr_typed frame (tree.and_also a b) h =
      let p = parts frame (tree.and_also a b) refl h in
      let q = each_of_both (expr_marks frame a) (expr_marks frame b) p.1 in
      operation.and_also-typed frame a b (expr_typed frame a q.0) (expr_typed frame b q.1) p.0
  expr_typed frame (tree.or_else a b) h =
      let p = parts frame (tree.or_else a b) refl h in
      let q = each_of_both (expr_marks frame a) (expr_marks frame b) p.1 in
      operation.or_else-typed frame a b (expr_typed frame a q.0) (expr_typed frame b q.1) p.0
  expr_typed frame (tree.conditional c a b) h =
      let p = parts frame (tree.conditional c a b) refl h in
      let q = each_of_three (expr_marks frame c) (expr_marks frame a) (expr_marks frame b) p.1 in
      operation.conditional-typed frame c a b (expr_typed frame c q.0) (expr_typed frame a q.1) (expr_typed frame b q.2) p.0
  expr_typed frame (tree.new_object m es) h =
      let p = parts frame (tree.new_object m es) refl h in call.new_object-typed frame m es (exprs_typed frame es p.1) p.0
  expr_typed frame (tree.new_array t n) h =
      let p = parts frame (tree.new_array t n) refl h in operation.new_array-typed frame t n (expr_typed frame n p.1) p.0
  expr_typed frame (tree.call_static m es) h =
      let p = parts frame (tree.call_static m es) refl h in call.call_static-typed frame m es (exprs_typed frame es p.1) p.0
  expr_typed frame (tree.call_virtual e m es) h =
      let p = parts frame (tree.call_virtual e m es) refl h in
      let q = each_of_both (expr_marks frame e) (exprs_marks frame es) p.1 in
      call.call_virtual-typed frame e m es (expr_typed frame e q.0) (exprs_typed frame es q.1) p.0
  expr_typed frame (tree.call_interface e m es) h =
      let p = parts frame (tree.call_interface e m es) refl h in
      let q = each_of_both (expr_marks frame e) (exprs_marks frame es) p.1 in
      call.call_interface-typed frame e m es (expr_typed frame e q.0) (exprs_typed frame es q.1) p.0
  expr_typed frame (tree.call_special m es) h =
      let p = parts frame (tree.call_special m es) refl h in call.call_special-typed frame m es (exprs_typed frame es p.1) p.0
  expr_typed frame (tree.cast t a) h =
      let p = parts frame (tree.cast t a) refl h in operation.cast-typed frame t a (expr_typed frame a p.1) p.0
  expr_typed frame (tree.widen t a) h =
      let p = parts frame (tree.widen t a) refl h in operation.widen-typed frame t a (expr_typed frame a p.1) p.0
  expr_typed frame (tree.instance_of a t) h =
      let p = parts frame (tree.instance_of a t) refl h in operation.instance_of-typed frame a t (expr_typed frame a p.1) p.0
  expr_typed frame (tree.first_then a null_test b) h =
      let p = parts frame (tree.first_then a null_test b) refl h in
      let q = each_of_both (expr_marks frame a) (expr_marks frame b) p.1 in
      operation.first_then-typed frame a null_test b (expr_typed frame a q.0) (expr_typed frame b q.1) p.0
  expr_typed frame (tree.print k es) h =
      let p = parts frame (tree.print k es) refl h in call.print-typed frame k es (exprs_typed frame es p.1) p.0

  pub exprs_typed : (frame : Frame) (es : PlainExprs) → EachHolds (exprs_marks frame es) → EachTyped frame es
  exprs_typed frame tree.no_exprs h = tt
  exprs_typed frame (tree.more_exprs e rest) h =
      let q = each_of_both (expr_marks frame e) (exprs_marks frame rest) h in (expr_typed frame e q.0, exprs_typed frame rest q.1)

  place_typed : (frame : Frame) (p : PlainPlace) → EachHolds (place_marks frame p) → (judge_place frame p).holds ≡ true → PlaceTyped frame p
  place_typed frame (tree.local_place i) h k = operation.local_place-typed frame i k
  place_typed frame (tree.static_place f) h k = operation.static_place-typed frame f k
  place_typed frame (tree.field_place e f) h k = operation.field_place-typed frame e f (expr_typed frame e h) k
  place_typed frame (tree.element_place a i) h k =
      let q = each_of_both (expr_marks frame a) (expr_marks frame i) h in
      operation.element_place-typed frame a i (expr_typed frame a q.0) (expr_typed frame i q.1) k

-- ---- what has a type is accepted

mutual
  pub expr_passes : {frame : Frame} {e : PlainExpr} {t : PlainArg} → HasType frame e t → Passes frame e t
  expr_passes (typing.int_value n) = variable.int_value-passes n
  expr_passes typing.bool_value = record { marks = refl; known = refl }
  expr_passes typing.null_value = record { marks = refl; known = refl }
  expr_passes (typing.get_local l) = variable.get_local-passes l
  expr_passes (typing.set_local l n v k) = variable.set_local-passes l n (expr_passes v) k
  expr_passes (typing.get_static f) = variable.get_static-passes f
  expr_passes (typing.set_static f v k) = variable.set_static-passes f (expr_passes v) k
  expr_passes (typing.get_field f e k) = variable.get_field-passes f (expr_passes e) k
  expr_passes (typing.set_field f e k v l) = variable.set_field-passes f (expr_passes e) k (expr_passes v) l
  expr_passes (typing.get_element a i) = variable.get_element-passes (expr_passes a) (expr_passes i)
  expr_passes (typing.set_element a i v n k) = variable.set_element-passes (expr_passes a) (expr_passes i) (expr_passes v) n k
  expr_passes (typing.array_length a) = variable.array_length-passes (expr_passes a)
  expr_passes (typing.update_place p v o k) = operation.update-passes (place_passes p) (expr_passes v) o k
  expr_passes (typing.unary o a) = operation.unary-passes o (expr_passes a)
  expr_passes (typing.binary a b o) = operation.binary-passes (expr_passes a) (expr_passes b) o
  expr_passes (typing.and_also a b) = operation.and_also-passes (expr_passes a) (expr_passes b)
  expr_passes (typing.or_else a b) = operation.or_else-passes (expr_passes a) (expr_passes b)
  expr_passes (typing.conditional c a n b m k) = operation.conditional-passes (expr_passes c) (expr_passes a) n (expr_passes b) m k
  expr_passes (typing.new_object m o es) = call.new_object-passes m o (exprs_pass es)
  expr_passes (typing.new_array v n) = operation.new_array-passes v (expr_passes n)
  expr_passes (typing.call_static m es) = call.call_static-passes m (exprs_pass es)
  expr_passes (typing.call_virtual m e k es) = call.call_virtual-passes m (expr_passes e) k (exprs_pass es)
  expr_passes (typing.call_interface m e k es) = call.call_interface-passes m (expr_passes e) k (exprs_pass es)
  expr_passes (typing.call_special m s es) = call.call_special-passes m s (exprs_pass es)
  expr_passes (typing.cast r v a o) = operation.cast-passes r v (expr_passes a) o
  expr_passes (typing.widen r v a k) = operation.widen-passes r v (expr_passes a) k
  expr_passes (typing.instance_of r v a o) = operation.instance_of-passes r v (expr_passes a) o
  expr_passes (typing.first_then a o b) = operation.first_then-passes (expr_passes a) o (expr_passes b)
  expr_passes (typing.print c es) = call.print-passes c (prints_pass es)

  exprs_pass : {frame : Frame} {es : PlainExprs} {ts : List PlainTy} → HaveTypes frame es ts → Suit frame es ts
  exprs_pass typing.no_arguments = call.none_suit
  exprs_pass (typing.more_arguments e k es) = call.more_suit (expr_passes e) k (exprs_pass es)

  place_passes : {frame : Frame} {p : PlainPlace} {t : PlainTy} → HasPlaceType frame p t → PlacePasses frame p t
  place_passes (typing.local_place l) = operation.local_place-passes l
  place_passes (typing.static_place f) = operation.static_place-passes f
  place_passes (typing.field_place f e k) = operation.field_place-passes f (expr_passes e) k
  place_passes (typing.element_place a i) = operation.element_place-passes (expr_passes a) (expr_passes i)

  prints_pass : {frame : Frame} {k : PrintKind} {es : PlainExprs} → ArePrinted frame k es → PrintPasses frame k es
  prints_pass (typing.print_int e) = call.print_int-passes (expr_passes e)
  prints_pass (typing.print_bool e) = call.print_bool-passes (expr_passes e)
  prints_pass typing.print_line = record { marks = refl; taken = refl }
  prints_pass (typing.print_byte e) = call.print_byte-passes (expr_passes e)

-- ---- the laws

one_type : {s t : PlainArg} → Some s ≡ Some t → s ≡ t
one_type {s} e = ap (λ (o : Option PlainArg). unwrap_or o s) e

pub types_decided : TypesDecided
types_decided frame e t = (to, from)
  where
    to : HasType frame e t → EachHolds (expr_marks frame e) × (sort frame e ≡ Some t)
    to h = let p = expr_passes h in (p.marks, p.known)

    from : EachHolds (expr_marks frame e) × (sort frame e ≡ Some t) → HasType frame e t
    from h = let x = expr_typed frame e h.0 in subst (HasType frame e) (one_type (sym x.1.known ∙ h.1)) x.1.has

pub types_unique : TypesUnique
types_unique frame e s t h k = one_type (sym (expr_passes h).known ∙ (expr_passes k).known)

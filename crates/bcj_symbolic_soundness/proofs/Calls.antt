-- Arguments, and the nodes that take some.
use Rattle.std.proofs.Common.{◌≡◌, refl, sym, ap, ◌∙◌, ◌⊎◌, ℕ, Bool, true, List, [], ◌∷◌, Option, Some, None}
use Rattle.std.specs.Bool.{Decides}
use Rattle.std.specs.Str.{bytes_eq}
use Rattle.std.proofs.lemmas.Bool.{and_parts, and_from}
use Rattle.std.proofs.lemmas.Bool.Decides.{Decides-and, Decides-or, Decides-not, Decides-like}
use Rattle.std.proofs.lemmas.Slice.Eq.{bytes_eq-Decides}
use Rattle.bcj_symbolic_trees.specs.declared.expression.PrintKind.{PrintKind}
use Rattle.bcj_symbolic_trees.specs.declared.expression.PrintKind.TheVariants as print_kind
use Rattle.bcj_symbolic_trees.specs.Names.{object_name, print_stream_name}
use Rattle.bcj_symbolic_trees.specs.Types.{PlainTy, int_type, bool_type, void_type, class_type, PlainArg, given, PlainMethodRef}
use Rattle.bcj_symbolic_trees.specs.Units.{PlainPair}
use Rattle.bcj_symbolic_trees.specs.Trees as tree
use Rattle.bcj_symbolic_trees.specs.Trees.{PlainExpr, PlainExprs, no_exprs, more_exprs}
use Rattle.bcj_symbolic_check.specs.Judgements.{Frame, Known, Judgement, judge, sorts, a_type, arguments_step, int_part, bool_part, print_takes, part_steps, name_eq, is_special, new_rule, static_call_rule, call_rule, special_rule, print_rule}
use Rattle.bcj_symbolic_check.specs.Statements.{expr_marks, exprs_marks}
use Rattle.bcj_symbolic_check.specs.Typing as typing
use Rattle.bcj_symbolic_check.specs.Typing.{IsMethodRef, IsConstructorRef, IsSpecial, Step, HasType, HaveTypes, no_arguments, more_arguments, ArePrinted, print_int, print_bool, print_line, print_byte}
use Rattle.bcj_symbolic_soundness.specs.Laws.{EachHolds}
use Rattle.bcj_symbolic_soundness.proofs.Tests.{is_method_ref-Decides, is_constructor_ref-Decides, no_types-Decides}
use Rattle.bcj_symbolic_soundness.proofs.Operators.{int_part-Decides, bool_part-Decides}
use Rattle.bcj_symbolic_soundness.proofs.Operations.{Decides-if}
use Rattle.bcj_symbolic_soundness.proofs.Parts.{both_hold, passes, gives_when, told, Typed, retyped, Passes, pass, part_steps-Decides}

-- ---- arguments

abbrev pub EachTyped : Frame → PlainExprs → Type 0
EachTyped frame no_exprs = Unit {0}
EachTyped frame (more_exprs e rest) = Typed frame e × EachTyped frame rest

pub suits : (frame : Frame) (es : PlainExprs) (ts : List PlainTy) → EachTyped frame es → arguments_step frame.pairs (sorts frame es) ts ≡ true → HaveTypes frame es ts
suits frame no_exprs [] x h = no_arguments
suits frame no_exprs (t ∷ ts) x h = cc
suits frame (more_exprs e rest) [] x h = cc
suits frame (more_exprs e rest) (t ∷ ts) x h =
    let p = and_parts _ _ h in
    let k = sym (ap (λ (k : Known). part_steps frame.pairs k (a_type t)) x.0.1.known) ∙ p.0 in
    more_arguments x.0.1.has ((part_steps-Decides frame.pairs (given t) x.0.0).0 k) (suits frame rest ts x.1 p.1)

-- arguments that the function accepts
pub record Suit (frame : Frame) (es : PlainExprs) (ts : List PlainTy) : Type 0 where
  pub marks : EachHolds (exprs_marks frame es)
  pub step : arguments_step frame.pairs (sorts frame es) ts ≡ true

pub none_suit : {frame : Frame} → Suit frame no_exprs []
none_suit = record { marks = refl; step = refl }

pub more_suit : {frame : Frame} {e : PlainExpr} {rest : PlainExprs} {s : PlainArg} {t : PlainTy} {ts : List PlainTy} → Passes frame e s → Step frame.pairs s (given t) → Suit frame rest ts
    → Suit frame (more_exprs e rest) (t ∷ ts)
more_suit {frame} {e} {rest} {s} {t} x k y = record {
  marks = both_hold (expr_marks frame e) (exprs_marks frame rest) x.marks y.marks;
  step = and_from _ _ (ap (λ (k : Known). part_steps frame.pairs k (a_type t)) x.known ∙ (part_steps-Decides frame.pairs (given t) s).1 k) y.step;
}

-- ---- new objects

new-Decides : (m : PlainMethodRef) (b : Bool) → Decides ((new_rule m b).holds) (IsConstructorRef m × ((m.class ≡ object_name → m.params ≡ []) × (b ≡ true)))
unfolding new_rule
new-Decides m b =
    Decides-and _ _ (is_constructor_ref-Decides m)
    (Decides-and _ _ (Decides-if _ _ (bytes_eq-Decides m.class _) (no_types-Decides m.params)) (λ e. e, λ e. e))

pub new_object-typed : (frame : Frame) (m : PlainMethodRef) (es : PlainExprs) → EachTyped frame es → (judge frame (tree.new_object m es)).holds ≡ true → Typed frame (tree.new_object m es)
unfolding new_rule
new_object-typed frame m es x h =
    let p = (new-Decides m _).0 h in
    (given (class_type m.class), record { known = gives_when _ _ h; has = typing.new_object p.0 p.1.0 (suits frame es m.params x p.1.1) })

pub new_object-passes : {frame : Frame} {m : PlainMethodRef} {es : PlainExprs} → IsConstructorRef m → (m.class ≡ object_name → m.params ≡ []) → Suit frame es m.params
    → Passes frame (tree.new_object m es) (given (class_type m.class))
unfolding new_rule
new_object-passes {frame} {m} {es} c o x = pass refl (passes _ _ ((new-Decides m _).1 (c, (o, x.step)))) x.marks

-- ---- calls

static_call-Decides : (m : PlainMethodRef) (b : Bool) → Decides ((static_call_rule m b).holds) (IsMethodRef m × (b ≡ true))
unfolding static_call_rule
static_call-Decides m b = Decides-and _ _ (is_method_ref-Decides m) (λ e. e, λ e. e)

pub call_static-typed : (frame : Frame) (m : PlainMethodRef) (es : PlainExprs) → EachTyped frame es → (judge frame (tree.call_static m es)).holds ≡ true → Typed frame (tree.call_static m es)
unfolding static_call_rule
call_static-typed frame m es x h =
    let p = (static_call-Decides m _).0 h in
    (given m.result, record { known = gives_when _ _ h; has = typing.call_static p.0 (suits frame es m.params x p.1) })

pub call_static-passes : {frame : Frame} {m : PlainMethodRef} {es : PlainExprs} → IsMethodRef m → Suit frame es m.params → Passes frame (tree.call_static m es) (given m.result)
unfolding static_call_rule
call_static-passes {frame} {m} {es} c x = pass refl (passes _ _ ((static_call-Decides m _).1 (c, x.step))) x.marks

call-Decides : (pairs : List PlainPair) (m : PlainMethodRef) (s : PlainArg) (b : Bool)
    → Decides ((call_rule pairs m (Some s) b).holds) (IsMethodRef m × (Step pairs s (given (class_type m.class)) × (b ≡ true)))
unfolding call_rule
call-Decides pairs m s b =
    Decides-and _ _ (is_method_ref-Decides m) (Decides-and _ _ (part_steps-Decides pairs (given (class_type m.class)) s) (λ e. e, λ e. e))

abbrev call_at : Frame → PlainMethodRef → PlainExprs → Known → Judgement
call_at frame m es k = call_rule frame.pairs m k (arguments_step frame.pairs (sorts frame es) m.params)

pub call_virtual-typed : (frame : Frame) (e : PlainExpr) (m : PlainMethodRef) (es : PlainExprs) → Typed frame e → EachTyped frame es → (judge frame (tree.call_virtual e m es)).holds ≡ true
    → Typed frame (tree.call_virtual e m es)
unfolding call_rule
call_virtual-typed frame e m es x y h =
    let p = (call-Decides frame.pairs m x.0 _).0 (told (ap (call_at frame m es) x.1.known) h) in
    (given m.result, record { known = gives_when _ _ h; has = typing.call_virtual p.0 x.1.has p.1.0 (suits frame es m.params y p.1.1) })

pub call_virtual-passes : {frame : Frame} {e : PlainExpr} {m : PlainMethodRef} {es : PlainExprs} {s : PlainArg} → IsMethodRef m → Passes frame e s → Step frame.pairs s (given (class_type m.class))
    → Suit frame es m.params → Passes frame (tree.call_virtual e m es) (given m.result)
unfolding call_rule
call_virtual-passes {frame} {e} {m} {es} {s} c x k y =
    pass refl (ap (call_at frame m es) x.known ∙ passes _ _ ((call-Decides frame.pairs m s _).1 (c, (k, y.step)))) (both_hold (expr_marks frame e) (exprs_marks frame es) x.marks y.marks)

pub call_interface-typed : (frame : Frame) (e : PlainExpr) (m : PlainMethodRef) (es : PlainExprs) → Typed frame e → EachTyped frame es → (judge frame (tree.call_interface e m es)).holds ≡ true
    → Typed frame (tree.call_interface e m es)
unfolding call_rule
call_interface-typed frame e m es x y h =
    let p = (call-Decides frame.pairs m x.0 _).0 (told (ap (call_at frame m es) x.1.known) h) in
    (given m.result, record { known = gives_when _ _ h; has = typing.call_interface p.0 x.1.has p.1.0 (suits frame es m.params y p.1.1) })

pub call_interface-passes : {frame : Frame} {e : PlainExpr} {m : PlainMethodRef} {es : PlainExprs} {s : PlainArg} → IsMethodRef m → Passes frame e s → Step frame.pairs s (given (class_type m.class))
    → Suit frame es m.params → Passes frame (tree.call_interface e m es) (given m.result)
unfolding call_rule
call_interface-passes {frame} {e} {m} {es} {s} c x k y =
    pass refl (ap (call_at frame m es) x.known ∙ passes _ _ ((call-Decides frame.pairs m s _).1 (c, (k, y.step)))) (both_hold (expr_marks frame e) (exprs_marks frame es) x.marks y.marks)

-- ---- calls on `this`

name_eq-Decides : (o : Option (List ℕ)) (x : List ℕ) → Decides (name_eq o x) (o ≡ Some x)
name_eq-Decides None x = (λ e. cc, λ e. cc)
name_eq-Decides (Some y) x = Decides-like (bytes_eq y x) (ap Some) (λ e. cc) (bytes_eq-Decides y x)

is_special-Decides : (frame : Frame) (m : PlainMethodRef) → Decides (is_special frame m) (IsSpecial frame m.class)
unfolding is_special
is_special-Decides frame m =
    Decides-like (is_special frame m)
    (λ h. record { on_this = h.0; own_or_super = h.1.0; not_object = h.1.1.0; steps = h.1.1.1 })
    (λ h. (h.on_this, (h.own_or_super, (h.not_object, h.steps))))
    (Decides-and _ _ (λ e. e, λ e. e)
    (Decides-and _ _ (Decides-or _ _ (bytes_eq-Decides m.class frame.class) (name_eq-Decides frame.superclass m.class))
    (Decides-and _ _ (Decides-not _ (bytes_eq-Decides m.class _)) (part_steps-Decides frame.pairs (given (class_type m.class)) (given (class_type frame.class))))))

special-Decides : (frame : Frame) (m : PlainMethodRef) (b : Bool) → Decides ((special_rule frame m b).holds) ((IsMethodRef m ⊎ IsConstructorRef m) × (IsSpecial frame m.class × (b ≡ true)))
unfolding special_rule
special-Decides frame m b =
    Decides-and _ _ (Decides-or _ _ (is_method_ref-Decides m) (is_constructor_ref-Decides m))
    (Decides-and _ _ (is_special-Decides frame m) (λ e. e, λ e. e))

pub call_special-typed : (frame : Frame) (m : PlainMethodRef) (es : PlainExprs) → EachTyped frame es → (judge frame (tree.call_special m es)).holds ≡ true → Typed frame (tree.call_special m es)
unfolding special_rule
call_special-typed frame m es x h =
    let p = (special-Decides frame m _).0 h in
    (given m.result, record { known = gives_when _ _ h; has = typing.call_special p.0 p.1.0 (suits frame es m.params x p.1.1) })

pub call_special-passes : {frame : Frame} {m : PlainMethodRef} {es : PlainExprs} → IsMethodRef m ⊎ IsConstructorRef m → IsSpecial frame m.class → Suit frame es m.params
    → Passes frame (tree.call_special m es) (given m.result)
unfolding special_rule
call_special-passes {frame} {m} {es} c s x = pass refl (passes _ _ ((special-Decides frame m _).1 (c, (s, x.step)))) x.marks

-- ---- printing

printed_int : (frame : Frame) (e : PlainExpr) → Typed frame e → int_part (judge frame e).gives ≡ true → HasType frame e (given int_type)
printed_int frame e x h = (retyped ((int_part-Decides x.0).0 (sym (ap int_part x.1.known) ∙ h)) x.1).has

printed_bool : (frame : Frame) (e : PlainExpr) → Typed frame e → bool_part (judge frame e).gives ≡ true → HasType frame e (given bool_type)
printed_bool frame e x h = (retyped ((bool_part-Decides x.0).0 (sym (ap bool_part x.1.known) ∙ h)) x.1).has

printed : (frame : Frame) (k : PrintKind) (es : PlainExprs) → EachTyped frame es → print_takes k (sorts frame es) ≡ true → ArePrinted frame k es
printed frame print_kind.Line no_exprs x h = print_line
printed frame print_kind.Int (more_exprs e no_exprs) x h = print_int (printed_int frame e x.0 h)
printed frame print_kind.Bool (more_exprs e no_exprs) x h = print_bool (printed_bool frame e x.0 h)
printed frame print_kind.Byte (more_exprs e no_exprs) x h = print_byte (printed_int frame e x.0 h)
printed frame _ _ x h = cc

print-Decides : (frame : Frame) (b : Bool) → Decides ((print_rule frame b).holds) ((frame.class ≡ print_stream_name) × (b ≡ true))
unfolding print_rule
print-Decides frame b = Decides-and _ _ (bytes_eq-Decides frame.class _) (λ e. e, λ e. e)

pub print-typed : (frame : Frame) (k : PrintKind) (es : PlainExprs) → EachTyped frame es → (judge frame (tree.print k es)).holds ≡ true → Typed frame (tree.print k es)
unfolding print_rule
print-typed frame k es x h =
    let p = (print-Decides frame _).0 h in
    (given void_type, record { known = gives_when _ _ h; has = typing.print p.0 (printed frame k es x p.1) })

-- what the function lets be printed
pub record PrintPasses (frame : Frame) (k : PrintKind) (es : PlainExprs) : Type 0 where
  pub marks : EachHolds (exprs_marks frame es)
  pub taken : print_takes k (sorts frame es) ≡ true

one_marks : {frame : Frame} {e : PlainExpr} {t : PlainArg} → Passes frame e t → EachHolds (exprs_marks frame (more_exprs e no_exprs))
one_marks {frame} {e} x = both_hold (expr_marks frame e) [] x.marks refl

pub print_int-passes : {frame : Frame} {e : PlainExpr} → Passes frame e (given int_type) → PrintPasses frame print_kind.Int (more_exprs e no_exprs)
print_int-passes x = record { marks = one_marks x; taken = ap int_part x.known ∙ (int_part-Decides (given int_type)).1 refl }

pub print_bool-passes : {frame : Frame} {e : PlainExpr} → Passes frame e (given bool_type) → PrintPasses frame print_kind.Bool (more_exprs e no_exprs)
print_bool-passes x = record { marks = one_marks x; taken = ap bool_part x.known ∙ (bool_part-Decides (given bool_type)).1 refl }

pub print_byte-passes : {frame : Frame} {e : PlainExpr} → Passes frame e (given int_type) → PrintPasses frame print_kind.Byte (more_exprs e no_exprs)
print_byte-passes x = record { marks = one_marks x; taken = ap int_part x.known ∙ (int_part-Decides (given int_type)).1 refl }

pub print-passes : {frame : Frame} {k : PrintKind} {es : PlainExprs} → frame.class ≡ print_stream_name → PrintPasses frame k es → Passes frame (tree.print k es) (given void_type)
unfolding print_rule
print-passes {frame} {k} {es} c x = pass refl (passes _ _ ((print-Decides frame _).1 (c, x.taken))) x.marks

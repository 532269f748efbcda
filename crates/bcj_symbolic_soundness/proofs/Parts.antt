-- What is known of the parts of a node, and what follows for the node.
use Rattle.std.proofs.Common.{◌≡◌, sym, ap, subst, ◌∙◌, Bool, true, List, ◌∷◌, ◌++◌, Some}
use Rattle.std.specs.Bool.{Decides}
use Rattle.std.specs.List.{list_all}
use Rattle.std.proofs.lemmas.Bool.{and_parts, and_from}
use Rattle.std.proofs.lemmas.List.Folds.{list_all-append}
use Rattle.bcj_symbolic_trees.specs.Types.{PlainArg}
use Rattle.bcj_symbolic_trees.specs.Units.{PlainPair}
use Rattle.bcj_symbolic_trees.specs.Trees.{PlainExpr}
use Rattle.bcj_symbolic_check.specs.Judgements.{Frame, Known, Judgement, judged, judge, sort, part_steps, array_part, object_part, value_part}
use Rattle.bcj_symbolic_check.specs.Statements.{expr_marks}
use Rattle.bcj_symbolic_check.specs.Typing.{IsReferenceOrNull, IsValue, Step, HasType}
use Rattle.bcj_symbolic_soundness.specs.Laws.{EachHolds}
use Rattle.bcj_symbolic_soundness.proofs.Tests.{IsArrayOf, is_array-Decides, is_object-Decides, is_value-Decides, steps_to-Decides}

-- ---- marks

pub both_hold : (a b : List Bool) → EachHolds a → EachHolds b → EachHolds (a ++ b)
both_hold a b h k = list_all-append (λ holds. holds) a b ∙ and_from _ _ h k

pub each_of_both : (a b : List Bool) → EachHolds (a ++ b) → EachHolds a × EachHolds b
each_of_both a b h = and_parts _ _ (sym (list_all-append (λ holds. holds) a b) ∙ h)

pub each_of_three : (a b c : List Bool) → EachHolds (a ++ (b ++ c)) → EachHolds a × EachHolds b × EachHolds c
each_of_three a b c h =
    let p = each_of_both a (b ++ c) h in let q = each_of_both b c p.1 in (p.0, q.0, q.1)

pub three_hold : (a b c : List Bool) → EachHolds a → EachHolds b → EachHolds c → EachHolds (a ++ (b ++ c))
three_hold a b c h k l = both_hold a (b ++ c) h (both_hold b c k l)

-- ---- judgements

abbrev pub passed : PlainArg → Judgement
passed t = record { holds = true; gives = Some t }

pub passes : (b : Bool) (k : Known) → b ≡ true → judged b k ≡ record { holds = true; gives = k }
passes b k e = ap (λ (x : Bool). judged x k) e

pub gives_when : (b : Bool) (k : Known) → b ≡ true → (judged b k).gives ≡ k
gives_when b k e = ap (λ (j : Judgement). j.gives) (passes b k e)

pub told : {j k : Judgement} → j ≡ k → j.holds ≡ true → k.holds ≡ true
told e h = sym (ap (λ (j : Judgement). j.holds) e) ∙ h

pub at_two : (f : Known → Known → Judgement) {a b c d : Known} → a ≡ b → c ≡ d → f a c ≡ f b d
at_two f p q = λ i. f (p i) (q i)

pub at_three : (f : Known → Known → Known → Judgement) {a b c d k l : Known} → a ≡ b → c ≡ d → k ≡ l → f a c k ≡ f b d l
at_three f p q r = λ i. f (p i) (q i) (r i)

-- ---- parts

-- an expression whose type is known
pub record Has (frame : Frame) (e : PlainExpr) (t : PlainArg) : Type 0 where
  pub known : sort frame e ≡ Some t
  pub has : HasType frame e t

abbrev pub Typed : Frame → PlainExpr → Type 0
Typed frame e = (t : PlainArg) × Has frame e t

pub retyped : {frame : Frame} {e : PlainExpr} {s t : PlainArg} → s ≡ t → Has frame e s → Has frame e t
retyped {frame} {e} p x = subst (Has frame e) p x

-- an expression that the function accepts
pub record Passes (frame : Frame) (e : PlainExpr) (t : PlainArg) : Type 0 where
  pub marks : EachHolds (expr_marks frame e)
  pub known : sort frame e ≡ Some t

pub pass : {frame : Frame} {e : PlainExpr} {t : PlainArg} {m : List Bool} → expr_marks frame e ≡ (judge frame e).holds ∷ m → judge frame e ≡ passed t → EachHolds m → Passes frame e t
pass e j h = record {
  marks = ap (list_all (λ holds. holds)) e ∙ and_from _ _ (ap (λ (j : Judgement). j.holds) j) h;
  known = ap (λ (j : Judgement). j.gives) j;
}

pub both_marks : {frame : Frame} {a b : PlainExpr} {s t : PlainArg} → Passes frame a s → Passes frame b t → EachHolds (expr_marks frame a ++ expr_marks frame b)
both_marks {frame} {a} {b} x y = both_hold (expr_marks frame a) (expr_marks frame b) x.marks y.marks

pub three_marks : {frame : Frame} {a b c : PlainExpr} {r s t : PlainArg} → Passes frame a r → Passes frame b s → Passes frame c t
    → EachHolds (expr_marks frame a ++ (expr_marks frame b ++ expr_marks frame c))
three_marks {frame} {a} {b} {c} x y z =
    three_hold (expr_marks frame a) (expr_marks frame b) (expr_marks frame c) x.marks y.marks z.marks

-- ---- tests

pub part_steps-Decides : (pairs : List PlainPair) (t s : PlainArg) → Decides (part_steps pairs (Some s) (Some t)) (Step pairs s t)
unfolding part_steps
part_steps-Decides pairs t s = steps_to-Decides pairs s t

pub array_part-Decides : (s : PlainArg) → Decides (array_part (Some s)) (IsArrayOf s)
unfolding array_part
array_part-Decides s = is_array-Decides s

pub object_part-Decides : (s : PlainArg) → Decides (object_part (Some s)) (IsReferenceOrNull s)
unfolding object_part
object_part-Decides s = is_object-Decides s

pub value_part-Decides : (s : PlainArg) → Decides (value_part (Some s)) (IsValue s)
unfolding value_part
value_part-Decides s = is_value-Decides s

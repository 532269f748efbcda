-- The function decides which units are well typed.
use Rattle.std.proofs.Common.{◌≡◌, refl, sym, subst, ℕ, ◌+◌, false, List, [], ◌∷◌, ◌++◌, length, length-append, arith}
use Rattle.std.proofs.lemmas.Bool.{and_parts, and_from}
use Rattle.bcj_symbolic_trees.specs.Units.{PlainMethod, PlainClass}
use Rattle.bcj_symbolic_check.specs.Statements.{stmts_marks}
use Rattle.bcj_symbolic_check.specs.Classes.{class_holds, init_frame, method_frame, methods_marks, class_marks, EachHasRule}
use Rattle.bcj_symbolic_check.specs.Typing.{Each, each_of_none, each_of_more, HaveRules, WellTypedClass, WellTypedBehind, no_classes, more_classes}
use Rattle.bcj_symbolic_check.proofs.LawLemmas.{well_typed_law}
use Rattle.bcj_symbolic_soundness.specs.Laws.{EachHolds, UnitsDecided}
use Rattle.bcj_symbolic_soundness.proofs.Tests.{of_more}
use Rattle.bcj_symbolic_soundness.proofs.Members.{class-Decides}
use Rattle.bcj_symbolic_soundness.proofs.Parts.{both_hold, each_of_both}
use Rattle.bcj_symbolic_soundness.proofs.Statements.{stmts_ruled, stmts_pass}

-- the body of a method has rules
abbrev HasBody : PlainClass → PlainMethod → Type 0
HasBody c m = HaveRules (method_frame c m) false m.body

bodies_ruled : (c : PlainClass) (ms : List PlainMethod) → EachHolds (methods_marks c ms) → Each (HasBody c) ms
bodies_ruled c [] h = each_of_none
bodies_ruled c (m ∷ ms) h =
    let q = each_of_both (stmts_marks (method_frame c m) false m.body) (methods_marks c ms) h in
    each_of_more (stmts_ruled (method_frame c m) false m.body q.0) (bodies_ruled c ms q.1)

bodies_pass : (c : PlainClass) (ms : List PlainMethod) → Each (HasBody c) ms → EachHolds (methods_marks c ms)
bodies_pass c [] x = refl
bodies_pass c (m ∷ ms) x =
    let p = of_more x in
    both_hold (stmts_marks (method_frame c m) false m.body) (methods_marks c ms) (stmts_pass p.0) (bodies_pass c ms p.1)

class_typed : (before : List PlainClass) (c : PlainClass) → EachHolds (class_marks (length before) before c) → WellTypedClass before c
unfolding class_marks
class_typed before c h =
    let p = and_parts (class_holds (length before) before c) _ h in
    let q = each_of_both (stmts_marks (init_frame c) false c.init.body) (methods_marks c c.methods) p.1 in
    record { fits = (class-Decides before c).0 p.0; init = stmts_ruled (init_frame c) false c.init.body q.0; methods = bodies_ruled c c.methods q.1 }

class_passes : {before : List PlainClass} {c : PlainClass} → WellTypedClass before c → EachHolds (class_marks (length before) before c)
unfolding class_marks
class_passes {before} {c} x =
    and_from _ _ ((class-Decides before c).1 x.fits)
    (both_hold (stmts_marks (init_frame c) false c.init.body) (methods_marks c c.methods) (stmts_pass x.init) (bodies_pass c c.methods x.methods))

-- the next class's number
next : (n : ℕ) (before : List PlainClass) (c : PlainClass) → n ≡ length before → n + 1 ≡ length (before ++ c ∷ [])
next n before c e = omega (arith, length-append before (c ∷ []))

all_typed : (n : ℕ) (before cs : List PlainClass) → n ≡ length before → EachHasRule n before cs → WellTypedBehind before cs
all_typed n before [] e h = no_classes
all_typed n before (c ∷ cs) e h =
    more_classes
    (class_typed before c (subst (λ (k : ℕ). EachHolds (class_marks k before c)) e h.0))
    (all_typed (n + 1) (before ++ c ∷ []) cs (next n before c e) h.1)

all_pass : {before cs : List PlainClass} (n : ℕ) → n ≡ length before → WellTypedBehind before cs → EachHasRule n before cs
all_pass n e no_classes = tt
all_pass {before} n e (more_classes {c = c} x y) =
    (subst (λ (k : ℕ). EachHolds (class_marks k before c)) (sym e) (class_passes x), all_pass (n + 1) (next n before c e) y)

pub units_decided : UnitsDecided
units_decided u = (λ x. (well_typed_law u).1 (all_pass 0 refl x), λ h. all_typed 0 [] u.classes refl ((well_typed_law u).0 h))

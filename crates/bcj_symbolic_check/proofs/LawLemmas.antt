-- A unit is well typed where each node of each class has a rule.
use Rattle.std.proofs.Common.{◌≡◌, refl, ap, ◌∙◌, ℕ, ◌+◌, not, Bool, true, false, List, [], ◌∷◌, ◌++◌, Option, Some, None, option_map}
use Rattle.std.specs.List.{list_all, position_from}
use Rattle.bcj_symbolic_trees.specs.Units.{PlainClass}
use Rattle.bcj_symbolic_check.specs.Classes.{Fault, saturated, first_fault, fault_or, faults_from, class_marks, EachHasRule, WellTypedLaw}

none_from : (k : ℕ) (m : List Bool) → position_from not k m ≡ None → list_all (λ holds. holds) m ≡ true
none_from k [] e = refl
none_from k (true ∷ m) e = none_from (k + 1) m e
none_from k (false ∷ m) e = cc

from_none : (k : ℕ) (m : List Bool) → list_all (λ holds. holds) m ≡ true → position_from not k m ≡ None
from_none k [] e = refl
from_none k (true ∷ m) e = from_none (k + 1) m e
from_none k (false ∷ m) e = cc

unmapped : (o : Option ℕ) → option_map saturated o ≡ None → o ≡ None
unmapped None e = refl
unmapped (Some n) e = cc

each_holds : (m : List Bool) → first_fault m ≡ None → list_all (λ holds. holds) m ≡ true
unfolding first_fault
each_holds m e = none_from 0 m (unmapped (position_from not 0 m) e)

holds_each : (m : List Bool) → list_all (λ holds. holds) m ≡ true → first_fault m ≡ None
unfolding first_fault
holds_each m e = ap (option_map saturated) (from_none 0 m e)

both_none : (class : ℕ) (o : Option ℕ) (rest : Option Fault) → fault_or class o rest ≡ None → (o ≡ None) × (rest ≡ None)
both_none class None rest e = (refl, e)
both_none class (Some place) rest e = cc

to_each : (n : ℕ) (before cs : List PlainClass) → faults_from n before cs ≡ None → EachHasRule n before cs
unfolding faults_from
to_each n before [] e = tt
to_each n before (c ∷ rest) e =
    let parts = both_none n (first_fault (class_marks n before c)) (faults_from (n + 1) (before ++ c ∷ []) rest) e in
    (each_holds (class_marks n before c) parts.0, to_each (n + 1) (before ++ c ∷ []) rest parts.1)

from_each : (n : ℕ) (before cs : List PlainClass) → EachHasRule n before cs → faults_from n before cs ≡ None
unfolding faults_from
from_each n before [] h = refl
from_each n before (c ∷ rest) h =
    ap (λ (o : Option ℕ). fault_or n o (faults_from (n + 1) (before ++ c ∷ []) rest)) (holds_each (class_marks n before c) h.0) ∙ from_each (n + 1) (before ++ c ∷ []) rest h.1

pub well_typed_law : WellTypedLaw
well_typed_law u = (to_each 0 [] u.classes, from_each 0 [] u.classes)

-- The first fault of a walk, and of the classes from one on.
use Rattle.std.proofs.Common.{◌≡◌, refl, ap, sym, ◌∙◌, ℕ, ◌+◌, ◌^◌, ◌<◌, ◌≤◌, min, not, Bool, true, false, List, [], ◌∷◌, ◌++◌, map, take, drop, length, get_or, Option, Some, None, unwrap_or, option_map, arith}
use Rattle.std.specs.List.{position_from}
use Rattle.std.proofs.lemmas.List.{drop_more, take_more, map-append}
use Rattle.std.proofs.lemmas.Grind.{common_steps}
use Rattle.bcj_symbolic_trees.specs.declared.class_tree.SymClass.{SymClass}
use Rattle.bcj_symbolic_trees.specs.Units.{PlainClass, class_of}
use Rattle.bcj_symbolic_check.specs.declared.walk.Walk.{Walk}
use Rattle.bcj_symbolic_check.specs.Limits.{max_types, max_place}
use Rattle.bcj_symbolic_check.specs.function.Walks.{started, stepped, noted}
use Rattle.bcj_symbolic_check.specs.Classes.{Fault, saturated, first_fault, fault_or, faults_from, class_marks, class_holds}
use Rattle.bcj_symbolic_check.proofs.WalkLemmas.{noted-fault}
use Rattle.bcj_symbolic_check.proofs.StepLemmas.{drops_all}

next_place : (k : ℕ) → min (min k max_place + 1) max_place ≡ min (k + 1) max_place
next_place k = omega arith

found_from : (k : ℕ) (w : Walk) (m : List Bool) → w.place ≡ saturated k → w.fault ≡ None → (noted w m).fault ≡ option_map saturated (position_from not k m)
unfolding noted stepped
found_from k w [] p e = e
found_from k w (true ∷ m) p e = found_from (k + 1) (stepped w true) m (ap (λ (n : ℕ). min (n + 1) max_place) p ∙ next_place k) e
found_from k w (false ∷ m) p e = noted-fault (stepped w false) m (saturated k) (ap (λ (f : Option ℕ). Some (unwrap_or f w.place)) e ∙ ap (λ (n : ℕ). Some n) p)

pub first_found : (m : List Bool) → (noted started m).fault ≡ first_fault m
unfolding started first_fault
first_found m = found_from 0 started m refl refl

first_holds : (b : Bool) (m : List Bool) → first_fault (b ∷ m) ≡ None → b ≡ true
unfolding first_fault
first_holds true m e = refl
first_holds false m e = cc

number_small : (n : ℕ) (before : List PlainClass) (c : PlainClass) → class_holds n before c ≡ true → n < max_types
unfolding class_holds
number_small n before c e = grind (arith, common_steps)

-- a class without a fault is within the limit
pub few_classes : (n : ℕ) (before : List PlainClass) (c : PlainClass) → first_fault (class_marks n before c) ≡ None → n < max_types
unfolding class_marks
few_classes n before c e = number_small n before c (first_holds (class_holds n before c) _ e)

-- the faults from the n-th class on
pub next_class : (cs : List SymClass) (c : SymClass) (n : ℕ) → n < length cs → c ≡ get_or cs n c
    → faults_from n (map class_of (take n cs)) (map class_of (drop n cs))
    ≡ fault_or n (first_fault (class_marks n (map class_of (take n cs)) (class_of c))) (faults_from (n + 1) (map class_of (take (n + 1) cs)) (map class_of (drop (n + 1) cs)))
unfolding faults_from
next_class cs c n h e =
    let front : take (n + 1) cs ≡ take n cs ++ c ∷ [] = take_more cs n c h ∙ ap (λ (x : SymClass). take n cs ++ x ∷ []) (sym e) in
    let back : drop n cs ≡ c ∷ drop (n + 1) cs = drop_more cs n c h ∙ ap (λ (x : SymClass). x ∷ drop (n + 1) cs) (sym e) in
    let names : map class_of (take n cs) ++ class_of c ∷ [] ≡ map class_of (take (n + 1) cs) = sym (ap (map class_of) front ∙ map-append class_of (take n cs) (c ∷ [])) in
    ap (λ (l : List SymClass). faults_from n (map class_of (take n cs)) (map class_of l)) back
    ∙ ap (λ (b : List PlainClass). fault_or n (first_fault (class_marks n (map class_of (take n cs)) (class_of c))) (faults_from (n + 1) b (map class_of (drop (n + 1) cs)))) names

pub no_classes : (cs : List SymClass) (n : ℕ) (b : List PlainClass) → length cs ≤ n → faults_from n b (map class_of (drop n cs)) ≡ None
unfolding faults_from
no_classes cs n b h =
    let none : drop n cs ≡ [] = drops_all cs n h in ap (λ (l : List SymClass). faults_from n b (map class_of l)) none

-- a class that has a fault is the unit's
pub fault_here : (cs before : List SymClass) (c : SymClass) (n place : ℕ) (found : Option ℕ) (u : Option Fault) → n < length cs → c ≡ get_or cs n c → before ≡ take n cs
    → found ≡ first_fault (class_marks n (map class_of before) (class_of c)) → found ≡ Some place → faults_from n (map class_of (take n cs)) (map class_of (drop n cs)) ≡ u
    → u ≡ Some (record { class = n; place = place })
fault_here cs before c n place found u h e front is some so_far =
    let here : first_fault (class_marks n (map class_of (take n cs)) (class_of c)) ≡ Some place = ap (λ (b : List SymClass). first_fault (class_marks n (map class_of b) (class_of c))) (sym front) ∙ sym is ∙ some in
    sym so_far ∙ next_class cs c n h e ∙ ap (λ (o : Option ℕ). fault_or n o (faults_from (n + 1) (map class_of (take (n + 1) cs)) (map class_of (drop (n + 1) cs)))) here

-- of one that has none the faults are those of the classes behind it
pub fault_later : (cs before : List SymClass) (c : SymClass) (n : ℕ) (found : Option ℕ) (u : Option Fault) → n < length cs → c ≡ get_or cs n c → before ≡ take n cs
    → found ≡ first_fault (class_marks n (map class_of before) (class_of c)) → found ≡ None → faults_from n (map class_of (take n cs)) (map class_of (drop n cs)) ≡ u
    → ((n + 1) ≤ max_types) × (faults_from (n + 1) (map class_of (take (n + 1) cs)) (map class_of (drop (n + 1) cs)) ≡ u)
fault_later cs before c n found u h e front is none so_far =
    let here : first_fault (class_marks n (map class_of (take n cs)) (class_of c)) ≡ None = ap (λ (b : List SymClass). first_fault (class_marks n (map class_of b) (class_of c))) (sym front) ∙ sym is ∙ none in
    let small : n < max_types = few_classes n _ _ here in (
      omega arith,
      sym (ap (λ (o : Option ℕ). fault_or n o (faults_from (n + 1) (map class_of (take (n + 1) cs)) (map class_of (drop (n + 1) cs)))) here) ∙ sym (next_class cs c n h e) ∙ so_far,
    )

-- the number of a class that has a fault
pub fault_within : (n : ℕ) → n ≤ max_types → n < 2 ^ 32
fault_within n h = omega arith

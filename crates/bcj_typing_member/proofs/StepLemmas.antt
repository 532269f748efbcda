-- Steps put one by one are the first uses.
use Rattle.std.proofs.Common.{◌≡◌, refl, ap, sym, ◌∙◌, Bool, true, false, not, ◌||◌, ◌&&◌, List, [], ◌∷◌, ◌++◌, map, filter, append_assoc, if◌then◌else◌, cond}
use Rattle.std.specs.List.{list_any}
use Rattle.std.proofs.lemmas.List.{map-append}
use Rattle.std.proofs.lemmas.List.Folds.{list_any-append}
use Rattle.indexmap.specs.IndexSet.{insert_key}
use Rattle.bcj_symbolic_trees.specs.Units.{PlainPair}
use Rattle.bcj_typing_rules.specs.Members.{is_listed, same_pair, first_uses, pairs_of}
use Rattle.bcj_typing_member.specs.declared.pairs.Step.{Step}
use Rattle.bcj_typing_member.specs.Steps.{step_of, with_pair, with_all_listed}
use Rattle.bcj_typing_member.specs.StepTests.{same_pair-Decides}

-- ---- the set

among-map : (s : Step) (keys : List Step) → list_any (λ k. same_pair (step_of s) (step_of k)) keys ≡ list_any (same_pair (step_of s)) (map step_of keys)
among-map s [] = refl
among-map s (k ∷ keys) = ap (λ b. same_pair (step_of s) (step_of k) || b) (among-map s keys)

pub with_pair-map : (keys : List Step) (s : Step) → map step_of (insert_key (λ (x y : Step). same_pair (step_of x) (step_of y)) keys s) ≡ with_pair (map step_of keys) (step_of s)
with_pair-map keys s = by (list_any (λ k. same_pair (step_of s) (step_of k)) keys) (list_any (same_pair (step_of s)) (map step_of keys)) (among-map s keys)
  where
    by : (b d : Bool) → b ≡ d → map step_of (if b then keys else keys ++ s ∷ []) ≡ (if d then map step_of keys else map step_of keys ++ step_of s ∷ [])
    by true true p = refl
    by false false p = map-append step_of keys (s ∷ [])
    by true false p = cc
    by false true p = cc

-- ---- first uses

-- not among these
new : List PlainPair → PlainPair → Bool
new ps q = not (list_any (same_pair q) ps)

other : PlainPair → PlainPair → Bool
other p q = not (same_pair p q)

append_none : (xs : List PlainPair) → xs ++ [] ≡ xs
append_none [] = refl
append_none (x ∷ xs) = ap (λ l. x ∷ l) (append_none xs)

filter_same : (f g : PlainPair → Bool) (xs : List PlainPair) → ((q : PlainPair) → f q ≡ g q) → filter f xs ≡ filter g xs
filter_same f g [] h = refl
filter_same f g (x ∷ xs) h = ap (λ b. cond b (x ∷ filter f xs) (filter f xs)) (h x) ∙ ap (λ l. cond (g x) (x ∷ l) l) (filter_same f g xs h)

filter_twice : (f g : PlainPair → Bool) (xs : List PlainPair) → filter f (filter g xs) ≡ filter (λ q. g q && f q) xs
filter_twice f g [] = refl
filter_twice f g (x ∷ xs) = by (g x) (filter_twice f g xs)
  where
    by : (b : Bool) → filter f (filter g xs) ≡ filter (λ q. g q && f q) xs
        → filter f (cond b (x ∷ filter g xs) (filter g xs)) ≡ cond (b && f x) (x ∷ filter (λ q. g q && f q) xs) (filter (λ q. g q && f q) xs)
    by true e = ap (λ l. cond (f x) (x ∷ l) l) e
    by false e = e

same_way : (p q : PlainPair) → same_pair p q ≡ same_pair q p
same_way p q = by (same_pair p q) (same_pair q p) refl refl
  where
    turned : (a b : PlainPair) → same_pair a b ≡ true → same_pair b a ≡ true
    turned a b e = (same_pair-Decides b a).1 (sym ((same_pair-Decides a b).0 e))

    by : (b d : Bool) → same_pair p q ≡ b → same_pair q p ≡ d → same_pair p q ≡ same_pair q p
    by true d e f = e ∙ sym (turned p q e)
    by false true e f = turned q p f ∙ sym f
    by false false e f = e ∙ sym f

-- a step that is there hides its like
hidden : (ps : List PlainPair) (p q : PlainPair) → list_any (same_pair p) ps ≡ true → (other p q && new ps q) ≡ new ps q
unfolding new other
hidden ps p q h = by (same_pair p q) refl
  where
    by : (b : Bool) → same_pair p q ≡ b → (not b && new ps q) ≡ new ps q
    by true e = sym (ap not (ap (λ r. list_any (same_pair r) ps) (sym ((same_pair-Decides p q).0 e)) ∙ h))
    by false e = refl

-- with one more it hides that too
one_more : (ps : List PlainPair) (p q : PlainPair) → new (ps ++ p ∷ []) q ≡ (other p q && new ps q)
unfolding new other
one_more ps p q =
    ap not (list_any-append (same_pair q) ps (p ∷ []))
    ∙ (ap (λ b. not (list_any (same_pair q) ps || (b || false))) (same_way q p) ∙ by (list_any (same_pair q) ps) (same_pair p q))
  where
    by : (a b : Bool) → not (a || (b || false)) ≡ (not b && not a)
    by true true = refl
    by true false = refl
    by false true = refl
    by false false = refl

with_all : List PlainPair → List PlainPair → List PlainPair
with_all ps [] = ps
with_all ps (q ∷ qs) = with_all (with_pair ps q) qs

uses_by : (b : Bool) (ps : List PlainPair) (p : PlainPair) (qs : List PlainPair) → list_any (same_pair p) ps ≡ b
    → ((rs : List PlainPair) → with_all rs qs ≡ rs ++ filter (new rs) (first_uses qs))
    → with_all (if b then ps else ps ++ p ∷ []) qs ≡ ps ++ filter (new ps) (p ∷ filter (other p) (first_uses qs))
unfolding new
uses_by true ps p qs e h =
    h ps
    ∙ ap (λ l. ps ++ l)
    (sym (ap (λ b. cond (not b) (p ∷ filter (new ps) (filter (other p) (first_uses qs))) (filter (new ps) (filter (other p) (first_uses qs)))) e
    ∙ (filter_twice (new ps) (other p) (first_uses qs) ∙ filter_same (λ q. other p q && new ps q) (new ps) (first_uses qs) (λ q. hidden ps p q e))))
uses_by false ps p qs e h =
    h (ps ++ p ∷ [])
    ∙ (append_assoc ps (p ∷ []) (filter (new (ps ++ p ∷ [])) (first_uses qs))
    ∙ ap (λ l. ps ++ l)
    (ap (λ l. p ∷ l) (filter_same (new (ps ++ p ∷ [])) (λ q. other p q && new ps q) (first_uses qs) (one_more ps p) ∙ sym (filter_twice (new ps) (other p) (first_uses qs)))
    ∙ sym (ap (λ b. cond (not b) (p ∷ filter (new ps) (filter (other p) (first_uses qs))) (filter (new ps) (filter (other p) (first_uses qs)))) e)))

uses_behind : (ps qs : List PlainPair) → with_all ps qs ≡ ps ++ filter (new ps) (first_uses qs)
unfolding with_all other
uses_behind ps [] = sym (append_none ps)
uses_behind ps (q ∷ qs) = uses_by (list_any (same_pair q) ps) ps q qs refl (λ rs. uses_behind rs qs)

filter_all : (xs : List PlainPair) → filter (new []) xs ≡ xs
unfolding new
filter_all [] = refl
filter_all (x ∷ xs) = ap (λ l. x ∷ l) (filter_all xs)

listed_by : (b : Bool) (ps : List PlainPair) (q : PlainPair) (qs : List PlainPair) → is_listed q ≡ b
    → ((rs : List PlainPair) → with_all_listed rs qs ≡ with_all rs (filter is_listed qs))
    → with_all_listed (if b then with_pair ps q else ps) qs ≡ with_all ps (cond b (q ∷ filter is_listed qs) (filter is_listed qs))
unfolding with_all
listed_by true ps q qs e h = h (with_pair ps q)
listed_by false ps q qs e h = h ps

listed_only : (ps qs : List PlainPair) → with_all_listed ps qs ≡ with_all ps (filter is_listed qs)
unfolding with_all
listed_only ps [] = refl
listed_only ps (q ∷ qs) = listed_by (is_listed q) ps q qs refl (λ rs. listed_only rs qs)

-- all that are put are the pairs of the class
pub pairs_are : (qs : List PlainPair) → with_all_listed [] qs ≡ pairs_of qs
pairs_are qs = listed_only [] qs ∙ (uses_behind [] (filter is_listed qs) ∙ filter_all (first_uses (filter is_listed qs)))

-- The pairs of a class: each step that is listed is among them, and each of them is one.
use Rattle.std.proofs.Common.{◌≡◌, refl, sym, ap, subst, inl, inr, Bool, true, false, not, cond, List, [], ◌∷◌, filter}
use Rattle.std.specs.List.{flat_map}
use Rattle.std.proofs.lemmas.Bool.{cases_Bool, and_parts}
use Rattle.bcj_symbolic_trees.specs.Units.{PlainPair}
use Rattle.bcj_symbolic_trees.specs.Same.{same_type}
use Rattle.bcj_symbolic_trees.proofs.SameLemmas.{same_type-Decides}
use Rattle.bcj_symbolic_check.specs.Typing.{Each, each_of_none, each_of_more, IsListed, listed_first, listed_behind, PairFits}
use Rattle.bcj_decl_rules.specs.World.{World}
use Rattle.bcj_decl_rules.specs.Subtypes.{Subtype}
use Rattle.bcj_typing_rules.specs.Members.{Made, is_listed, same_pair, first_uses, pairs_of}
use Rattle.bcj_typing_soundness.specs.World.{IsSoundStep, AreSoundSteps, Covers}
use Rattle.bcj_typing_soundness.proofs.Steps.{listed_left, listed_right, none_sound, both_sound}

-- ---- lists

-- what passes the test is kept
kept : (test : PlainPair → Bool) {p : PlainPair} {ps : List PlainPair} → IsListed p ps → test p ≡ true → IsListed p (filter test ps)
kept test (listed_first {p = p} {ps = ps}) h = subst (λ b. IsListed p (cond b (p ∷ filter test ps) (filter test ps))) (sym h) listed_first
kept test {p} (listed_behind {q = q} {ps = ps} l) h =
    elim (test q) as (λ b. IsListed p (cond b (q ∷ filter test ps) (filter test ps))) [ true ↦ listed_behind (kept test l h) | false ↦ kept test l h ]

-- what a filter keeps was there, and passes
record WasThere (test : PlainPair → Bool) (p : PlainPair) (ps : List PlainPair) : Type 0 where
  there : IsListed p ps
  passes : test p ≡ true

-- and so of a whole list
was_there : (test : PlainPair → Bool) {p : PlainPair} (ps : List PlainPair) → IsListed p (filter test ps) → WasThere test p ps
was_there test [] l = elim l [ ]
was_there test {p} (q ∷ qs) l = by (test q) refl (λ k. was_there test qs k) l where
  first : {p : PlainPair} → test q ≡ true → IsListed p (q ∷ filter test qs) → (IsListed p (filter test qs) → WasThere test p qs) → WasThere test p (q ∷ qs)
  first e listed_first again = record { there = listed_first; passes = e }
  first e (listed_behind k) again = let w = again k in record { there = listed_behind w.there; passes = w.passes }

  by : (b : Bool) → test q ≡ b → (IsListed p (filter test qs) → WasThere test p qs) → IsListed p (cond b (q ∷ filter test qs) (filter test qs)) → WasThere test p (q ∷ qs)
  by true e again k = first e k again
  by false e again k = let w = again k in record { there = listed_behind w.there; passes = w.passes }

-- the same pair is the pair
same_is : (p q : PlainPair) → same_pair p q ≡ true → q ≡ p
same_is p q h =
    let both = and_parts (same_type p.from q.from) (same_type p.to q.to) h in
    let f : q.from ≡ p.from = sym ((same_type-Decides p.from q.from).0 both.0) in
    let t : q.to ≡ p.to = sym ((same_type-Decides p.to q.to).0 both.1) in
    λ i. record { from = f i; to = t i }

-- each pair is used first somewhere
uses_first : {p : PlainPair} (ps : List PlainPair) → IsListed p ps → IsListed p (first_uses ps)
uses_first [] l = elim l [ ]
uses_first {p} (q ∷ qs) listed_first = listed_first
uses_first {p} (q ∷ qs) (listed_behind l) =
    elim (cases_Bool (same_pair q p)) [
      | inl same ↦ subst (λ x. IsListed x (first_uses (q ∷ qs))) (sym (same_is q p same)) listed_first
      | inr other ↦ listed_behind (kept (λ r. not (same_pair q r)) (uses_first qs l) (ap not other))
    ]

-- a first use is a use
first_use : {p : PlainPair} (ps : List PlainPair) → IsListed p (first_uses ps) → IsListed p ps
first_use [] l = elim l [ ]
first_use (q ∷ qs) listed_first = listed_first
first_use (q ∷ qs) (listed_behind l) = listed_behind (first_use qs (was_there (λ r. not (same_pair q r)) (first_uses qs) l).there)

-- ---- pairs

-- the pairs of a class hold each step that is listed
pub pairs_cover : (steps : List PlainPair) → Covers (pairs_of steps) steps
pairs_cover steps p l h = uses_first (filter is_listed steps) (kept is_listed l h)

-- a pair is a step that is listed
pub pair_sound : {w : World} (steps : List PlainPair) → AreSoundSteps w steps → (p : PlainPair) → IsListed p (pairs_of steps) → IsSoundStep w p
pair_sound steps s p l = let k = was_there is_listed steps (first_use (filter is_listed steps) l) in s p k.there k.passes

-- and leads to a supertype
pub pairs_below : {w : World} (steps : List PlainPair) → AreSoundSteps w steps → (p : PlainPair) → IsListed p (pairs_of steps) → Subtype w p.from p.to
pairs_below steps s p l = (pair_sound steps s p l).below

-- what holds of each that is listed
each_listed : {P : PlainPair → Type 0} (ps : List PlainPair) → ((p : PlainPair) → IsListed p ps → P p) → Each P ps
each_listed [] f = each_of_none
each_listed (p ∷ ps) f = each_of_more (f p listed_first) (each_listed ps (λ q l. f q (listed_behind l)))

-- pairs are of types of values
pub pairs_fit : {w : World} (steps : List PlainPair) → AreSoundSteps w steps → Each PairFits (pairs_of steps)
pairs_fit steps s = each_listed (pairs_of steps) (λ p l. let k = pair_sound steps s p l in record { from = k.from.value; to = k.to.value })

-- ---- the steps of several bodies

-- they are sound where those of each body are
pub made_sound : {w : World} {made : List Made} → Each (λ (m : Made). AreSoundSteps w m.steps) made → AreSoundSteps w (flat_map (λ (m : Made). m.steps) made)
made_sound each_of_none = none_sound
made_sound (each_of_more s r) = both_sound s (made_sound r)

-- what covers all covers each
pub made_covered : {pairs : List PlainPair} (made : List Made) → Covers pairs (flat_map (λ (m : Made). m.steps) made) → Each (λ (m : Made). Covers pairs m.steps) made
made_covered [] c = each_of_none
made_covered (m ∷ ms) c =
    each_of_more (λ p l h. c p (listed_left (flat_map (λ (m : Made). m.steps) ms) l) h) (made_covered ms (λ p l h. c p (listed_right m.steps l) h))

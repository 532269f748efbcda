-- What a search keeps as it goes on.
use Rattle.std.proofs.Common.{◌≡◌, ◌<◌, ◌≤◌, ◌+◌, ℕ, Bool, true, false, cond, List, [], length, slice_get, Some, inl, inr, refl, sym, ap, subst, ◌∙◌, arith, nat_eq}
use Rattle.std.proofs.lemmas.Bool.{cases_eq, eqb-true}
use Rattle.std.proofs.lemmas.Option.{slice_get_within, slice_get-get_or, get_or_from_slice_get}
use Rattle.std.proofs.lemmas.Map.Steps.{length-le_from_distinct_below}
use Rattle.std.proofs.lemmas.Map.Views.{Contains-from_any}
use Rattle.std.specs.List.{Contains, IsDistinct}
use Rattle.indexmap.specs.IndexSet.{insert_all}
use Rattle.bcj_decl_graph.specs.Reached.{steps_of, AreBelow, IsWithin, Reached, start, onward}
use Rattle.bcj_decl_graph.proofs.Membership.{none_in_nil, kept_all, given_all, from_all, distinct_all, place_all}

-- the steps that are taken from a place
abbrev pub opened : List (List ℕ) → (ℕ → Bool) → ℕ → List ℕ
opened steps closed j = cond (closed j) [] (steps_of steps j)

-- the places found are reached, and what the first of them step to is found
pub record Explored (steps : List (List ℕ)) (closed : ℕ → Bool) (from found : List ℕ) (next : ℕ) : Type 0 where
  pub below : AreBelow (length steps) found
  pub once : IsDistinct nat_eq found
  pub reached : (k : ℕ) → Contains found k → Reached steps closed from k
  pub started : (k : ℕ) → Contains from k → Contains found k
  pub followed : (i j k : ℕ) → i < next → slice_get found i ≡ Some j → Contains (opened steps closed j) k → Contains found k

pub explored_start : (steps : List (List ℕ)) (closed : ℕ → Bool) (from : List ℕ) → AreBelow (length steps) from → Explored steps closed from (insert_all nat_eq [] from) 0
unfolding IsDistinct
explored_start steps closed from below =
    record {
      below = λ k h. elim (from_all [] from k h) [ inl none ↦ absurd (none_in_nil k none) | inr it ↦ below k it ];
      once = distinct_all [] from tt;
      reached = λ k h. elim (from_all [] from k h) [ inl none ↦ absurd (none_in_nil k none) | inr it ↦ start it ];
      started = λ k h. given_all [] from k h;
      followed = λ i j k h. absurd (omega arith);
    }

open_by : (steps : List (List ℕ)) (closed : ℕ → Bool) (from : List ℕ) (j k : ℕ) (b : Bool) → closed j ≡ b → Reached steps closed from j → Contains (cond b [] (steps_of steps j)) k → Reached steps closed from k
open_by steps closed from j k true e h step = absurd (none_in_nil k step)
open_by steps closed from j k false e h step = onward h e step

below_by : (steps : List (List ℕ)) (j k : ℕ) (b : Bool) → IsWithin steps → Contains (cond b [] (steps_of steps j)) k → k < length steps
below_by steps j k true within step = absurd (none_in_nil k step)
below_by steps j k false within step = within j k step

pub there : (found : List ℕ) (i j : ℕ) → slice_get found i ≡ Some j → Contains found j
there found i j e = (i, slice_get_within found i j e, get_or_from_slice_get found i j j e)

more_followed : (steps : List (List ℕ)) (closed : ℕ → Bool) (from found : List ℕ) (next place : ℕ) → slice_get found next ≡ Some place → Explored steps closed from found next
    → (i j k : ℕ) → i < next + 1 → slice_get (insert_all nat_eq found (opened steps closed place)) i ≡ Some j → Contains (opened steps closed j) k
    → Contains (insert_all nat_eq found (opened steps closed place)) k
more_followed steps closed from found next place at x i j k h e step =
    let more : List ℕ = opened steps closed place in
    let next_within : next < length found = slice_get_within found next place at in
    let old : slice_get found i ≡ Some j = sym (place_all found more i (omega arith)) ∙ e in
    elim (cases_eq i next) [
      | inl now ↦
          let both : Some j ≡ Some place = sym old ∙ (ap (slice_get found) now ∙ at) in
          let same : j ≡ place = cc in
          let P : ℕ → Type 0 = λ n. Contains (opened steps closed n) k in
          given_all found more k (subst P same step)
      | inr before ↦ kept_all found more k (x.followed i j k (omega arith) old step)
    ]

-- the step of a search: the place at `next` is opened
pub explored_more : (steps : List (List ℕ)) (closed : ℕ → Bool) (from found : List ℕ) (next place : ℕ) → IsWithin steps → slice_get found next ≡ Some place → Explored steps closed from found next
    → Explored steps closed from (insert_all nat_eq found (opened steps closed place)) (next + 1)
explored_more steps closed from found next place within at x =
    let more : List ℕ = opened steps closed place in
    record {
      below = λ k h. elim (from_all found more k h) [ inl old ↦ x.below k old | inr new ↦ below_by steps place k (closed place) within new ];
      once = distinct_all found more x.once;
      reached = λ k h. elim (from_all found more k h) [
        | inl old ↦ x.reached k old
        | inr new ↦ open_by steps closed from place k (closed place) refl (x.reached place (there found next place at)) new
      ];
      started = λ k h. kept_all found more k (x.started k h);
      followed = more_followed steps closed from found next place at x;
    }

-- no more places are found than there are
pub explored_fits : (steps : List (List ℕ)) (closed : ℕ → Bool) (from found : List ℕ) (next : ℕ) → Explored steps closed from found next → length found ≤ length steps
explored_fits steps closed from found next x =
    length-le_from_distinct_below found (length steps) x.once (λ q h. x.below q (Contains-from_any eqb-true q found h))

opened_at : (steps : List (List ℕ)) (closed : ℕ → Bool) (j k : ℕ) → closed j ≡ false → Contains (steps_of steps j) k → Contains (opened steps closed j) k
opened_at steps closed j k e h = let P : Bool → Type 0 = λ b. Contains (cond b [] (steps_of steps j)) k in subst P (sym e) h

-- at the end each place that is reached is found
pub explored_whole : (steps : List (List ℕ)) (closed : ℕ → Bool) (from found : List ℕ) (next : ℕ) → Explored steps closed from found next → length found ≤ next → (k : ℕ) → Reached steps closed from k → Contains found k
explored_whole steps closed from found next x all k (start h) = x.started k h
explored_whole steps closed from found next x all k (onward {j = j} before e step) =
    let had : Contains found j = explored_whole steps closed from found next x all j before in
    let within : had.0 < length found = had.1 in
    x.followed had.0 j k (omega arith) (slice_get-get_or found had.0 j within ∙ ap Some had.2) (opened_at steps closed j k e step)

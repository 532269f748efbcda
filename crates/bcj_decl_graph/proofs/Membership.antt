-- What a list of distinct numbers has after more are put in, each where it isn't there yet.
use Rattle.std.proofs.Common.{◌≡◌, ◌<◌, ℕ, zero, suc, Bool, true, false, cond, List, [], ◌∷◌, ◌++◌, length, slice_get, ◌⊎◌, inl, inr, refl, subst, ◌∙◌, arith, nat_eq, length-append}
use Rattle.std.proofs.lemmas.Bool.{eqb-true}
use Rattle.std.proofs.lemmas.Cmp.{nat_eq_equiv}
use Rattle.std.proofs.lemmas.List.Elements.{Contains-append_left, Contains-append_right, Contains-append_cases, Contains-push, Contains-push_cases}
use Rattle.std.proofs.lemmas.Map.Views.{Contains-from_any}
use Rattle.std.proofs.lemmas.Map.Keys.{IsDistinct-push}
use Rattle.std.specs.List.{Contains, IsDistinct, list_any}
use Rattle.indexmap.specs.IndexSet.{insert_key, insert_all}

pub none_in_nil : {A : Type 0} (x : A) → Contains [] x → ⊥
none_in_nil x h = let out : h.0 < 0 = h.1 in omega arith

-- an item of a list is its first or one of the others
pub first_or_other : {A : Type 0} (x : A) (xs : List A) (y : A) → Contains (x ∷ xs) y → (x ≡ y) ⊎ Contains xs y
first_or_other x xs y h =
    elim (Contains-append_cases (x ∷ []) xs y h) [
      | inl one ↦ elim (Contains-push_cases [] x y one) [ inl none ↦ absurd (none_in_nil y none) | inr it ↦ inl it ]
      | inr other ↦ inr other
    ]

-- ---- one number

has_by : (fs : List ℕ) (k q : ℕ) (b : Bool) → Contains fs q → Contains (cond b fs (fs ++ k ∷ [])) q
has_by fs k q true h = h
has_by fs k q false h = Contains-append_left fs (k ∷ []) q h

pub kept_key : (fs : List ℕ) (k q : ℕ) → Contains fs q → Contains (insert_key nat_eq fs k) q
kept_key fs k q h = has_by fs k q (list_any (nat_eq k) fs) h

new_by : (fs : List ℕ) (k : ℕ) (b : Bool) → list_any (nat_eq k) fs ≡ b → Contains (cond b fs (fs ++ k ∷ [])) k
new_by fs k true e = Contains-from_any eqb-true k fs e
new_by fs k false e = Contains-push fs k

pub new_key : (fs : List ℕ) (k : ℕ) → Contains (insert_key nat_eq fs k) k
new_key fs k = new_by fs k (list_any (nat_eq k) fs) refl

from_by : (fs : List ℕ) (k q : ℕ) (b : Bool) → Contains (cond b fs (fs ++ k ∷ [])) q → Contains fs q ⊎ (k ≡ q)
from_by fs k q true h = inl h
from_by fs k q false h = Contains-push_cases fs k q h

pub from_key : (fs : List ℕ) (k q : ℕ) → Contains (insert_key nat_eq fs k) q → Contains fs q ⊎ (k ≡ q)
from_key fs k q h = from_by fs k q (list_any (nat_eq k) fs) h

distinct_by : (fs : List ℕ) (k : ℕ) (b : Bool) → list_any (nat_eq k) fs ≡ b → IsDistinct nat_eq fs → IsDistinct nat_eq (cond b fs (fs ++ k ∷ []))
distinct_by fs k true e h = h
distinct_by fs k false e h = IsDistinct-push nat_eq_equiv fs k h e

pub distinct_key : (fs : List ℕ) (k : ℕ) → IsDistinct nat_eq fs → IsDistinct nat_eq (insert_key nat_eq fs k)
distinct_key fs k h = distinct_by fs k (list_any (nat_eq k) fs) refl h

place_before : (fs gs : List ℕ) (i : ℕ) → i < length fs → slice_get (fs ++ gs) i ≡ slice_get fs i
place_before [] gs i h = absurd (omega arith)
place_before (f ∷ fs) gs zero h = refl
place_before (f ∷ fs) gs (suc i) h = place_before fs gs i (omega arith)

place_by : (fs : List ℕ) (k i : ℕ) (b : Bool) → i < length fs → slice_get (cond b fs (fs ++ k ∷ [])) i ≡ slice_get fs i
place_by fs k i true h = refl
place_by fs k i false h = place_before fs (k ∷ []) i h

pub place_key : (fs : List ℕ) (k i : ℕ) → i < length fs → slice_get (insert_key nat_eq fs k) i ≡ slice_get fs i
place_key fs k i h = place_by fs k i (list_any (nat_eq k) fs) h

longer_by : (fs : List ℕ) (k i : ℕ) (b : Bool) → i < length fs → i < length (cond b fs (fs ++ k ∷ []))
longer_by fs k i true h = h
longer_by fs k i false h = simp length-append (omega arith)

pub longer_key : (fs : List ℕ) (k i : ℕ) → i < length fs → i < length (insert_key nat_eq fs k)
longer_key fs k i h = longer_by fs k i (list_any (nat_eq k) fs) h

-- ---- each of a list of numbers

pub kept_all : (fs ks : List ℕ) (q : ℕ) → Contains fs q → Contains (insert_all nat_eq fs ks) q
kept_all fs [] q h = h
kept_all fs (k ∷ ks) q h = kept_all (insert_key nat_eq fs k) ks q (kept_key fs k q h)

pub given_all : (fs ks : List ℕ) (q : ℕ) → Contains ks q → Contains (insert_all nat_eq fs ks) q
given_all fs [] q h = absurd (none_in_nil q h)
given_all fs (k ∷ ks) q h =
    elim (first_or_other k ks q h) [
      | inl it ↦ kept_all (insert_key nat_eq fs k) ks q (let P : ℕ → Type 0 = λ n. Contains (insert_key nat_eq fs k) n in subst P it (new_key fs k))
      | inr other ↦ given_all (insert_key nat_eq fs k) ks q other
    ]

pub from_all : (fs ks : List ℕ) (q : ℕ) → Contains (insert_all nat_eq fs ks) q → Contains fs q ⊎ Contains ks q
from_all fs [] q h = inl h
from_all fs (k ∷ ks) q h =
    elim (from_all (insert_key nat_eq fs k) ks q h) [
      | inl before ↦
          elim (from_key fs k q before) [
            | inl old ↦ inl old
            | inr it ↦ inr (let P : ℕ → Type 0 = λ n. Contains (k ∷ ks) n in subst P it (Contains-append_left (k ∷ []) ks k (Contains-push [] k)))
          ]
      | inr other ↦ inr (Contains-append_right (k ∷ []) ks q other)
    ]

pub distinct_all : (fs ks : List ℕ) → IsDistinct nat_eq fs → IsDistinct nat_eq (insert_all nat_eq fs ks)
distinct_all fs [] h = h
distinct_all fs (k ∷ ks) h = distinct_all (insert_key nat_eq fs k) ks (distinct_key fs k h)

pub place_all : (fs ks : List ℕ) (i : ℕ) → i < length fs → slice_get (insert_all nat_eq fs ks) i ≡ slice_get fs i
place_all fs [] i h = refl
place_all fs (k ∷ ks) i h = place_all (insert_key nat_eq fs k) ks i (longer_key fs k i h) ∙ place_key fs k i h

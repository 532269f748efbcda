-- The first place in a list that passes a test.
use Rattle.std.proofs.Common.{◌≡◌, ◌+◌, ◌<◌, ◌≤◌, ◌||◌, is_some, List, [], ◌∷◌, ◌++◌, Option, Some, None, Bool, true, false, cond, refl, sym, ◌∙◌, ap, ℕ, inl, inr, length, map, drop, get_or, arith, add-one, add-zero, drop-cons}
use Rattle.std.specs.List.{position, position_from, list_any}
use Rattle.std.specs.Option.{option_or, option_map}
use Rattle.std.proofs.lemmas.Bool.{cases_Bool}
use Rattle.std.proofs.lemmas.List.{drop_all}
use Rattle.std.proofs.lemmas.Iterator.Adapters.{position_from-zero}

-- a first place is counted from 0
pub position_is : {X : Type 0} (p : X → Bool) (xs : List X) → position p xs ≡ position_from p 0 xs
position_is p xs = position_from-zero p xs

-- counts from further on
shift_some : (i : ℕ) (o : Option ℕ) → option_map (λ k. (i + 1) + k) o ≡ option_map (λ k. i + k) (option_map (λ k. (0 + 1) + k) o)
shift_some i None = refl
shift_some i (Some k) = let e : (i + 1) + k ≡ i + ((0 + 1) + k) = omega arith in ap Some e

-- a count from further on is as much higher
from_further : {X : Type 0} (p : X → Bool) (i : ℕ) (xs : List X) → position_from p i xs ≡ option_map (λ k. i + k) (position_from p 0 xs)
from_further p i [] = refl
from_further p i (x ∷ xs) =
    elim (cases_Bool (p x)) [
      | inl it ↦
          let e : i ≡ i + 0 = omega arith in
          ap (λ b. cond b (Some i) (position_from p (i + 1) xs)) it ∙ (ap Some e ∙ sym (ap (λ b. option_map (λ k. i + k) (cond b (Some 0) (position_from p (0 + 1) xs))) it))
      | inr other ↦
          ap (λ b. cond b (Some i) (position_from p (i + 1) xs)) other
          ∙ (from_further p (i + 1) xs
          ∙ (shift_some i (position_from p 0 xs)
          ∙ (ap (option_map (λ k. i + k)) (sym (from_further p (0 + 1) xs)) ∙ sym (ap (λ b. option_map (λ k. i + k) (cond b (Some 0) (position_from p (0 + 1) xs))) other))))
    ]

-- the same, counted from a number on
from-append : {X : Type 0} (p : X → Bool) (i : ℕ) (xs ys : List X) → position_from p i (xs ++ ys) ≡ option_or (position_from p i xs) (position_from p (i + length xs) ys)
from-append p i [] ys = ap (λ k. position_from p k ys) (sym (add-zero i))
from-append p i (x ∷ xs) ys =
    elim (cases_Bool (p x)) [
      | inl it ↦ ap (λ b. cond b (Some i) (position_from p (i + 1) (xs ++ ys))) it ∙ sym (ap (λ b. option_or (cond b (Some i) (position_from p (i + 1) xs)) (position_from p (i + length (x ∷ xs)) ys)) it)
      | inr other ↦
          let e : (i + 1) + length xs ≡ i + length (x ∷ xs) = omega arith in
          ap (λ b. cond b (Some i) (position_from p (i + 1) (xs ++ ys))) other
          ∙ (from-append p (i + 1) xs ys
          ∙ (ap (λ k. option_or (position_from p (i + 1) xs) (position_from p k ys)) e
          ∙ sym (ap (λ b. option_or (cond b (Some i) (position_from p (i + 1) xs)) (position_from p (i + length (x ∷ xs)) ys)) other)))
    ]

-- the first place in a list behind another, or in that one
pub position-append : {X : Type 0} (p : X → Bool) (xs ys : List X) → position p (xs ++ ys) ≡ option_or (position p xs) (option_map (λ k. length xs + k) (position p ys))
position-append p xs ys =
    position_is p (xs ++ ys)
    ∙ (from-append p 0 xs ys
    ∙ (ap (λ k. option_or (position_from p 0 xs) (position_from p k ys)) (omega arith)
    ∙ (ap (option_or (position_from p 0 xs)) (from_further p (length xs) ys)
    ∙ (ap (λ o. option_or o (option_map (λ k. length xs + k) (position_from p 0 ys))) (sym (position_is p xs))
    ∙ ap (λ o. option_or (position p xs) (option_map (λ k. length xs + k) o)) (sym (position_is p ys))))))

-- the search from a place on, by whether what stands there passes
pub position_step : {X Y : Type 0} (p : Y → Bool) (f : X → Y) (xs : List X) (k : ℕ) (d : X) → k < length xs
    → position_from p k (map f (drop k xs)) ≡ cond (p (f (get_or xs k d))) (Some k) (position_from p (k + 1) (map f (drop (k + 1) xs)))
position_step p f xs k d h = rw (drop-cons xs k d, add-one)

-- the ends of a search that goes on from a place
pub search_ends : {X Y : Type 0} (p : Y → Bool) (f : X → Y) (xs : List X) (k : ℕ) (d : X) (r : Bool) → k < length xs → r ≡ p (f (get_or xs k d)) → r ≡ true
    → position_from p k (map f (drop k xs)) ≡ position p (map f xs) → Some k ≡ position p (map f xs)
search_ends p f xs k d r h e it so_far = sym (ap (λ b. cond b (Some k) (position_from p (k + 1) (map f (drop (k + 1) xs)))) (sym e ∙ it)) ∙ (sym (position_step p f xs k d h) ∙ so_far)

-- what doesn't pass is left behind
pub search_goes_on : {X Y : Type 0} (p : Y → Bool) (f : X → Y) (xs : List X) (k : ℕ) (d : X) (r : Bool) → k < length xs → r ≡ p (f (get_or xs k d)) → r ≡ false
    → position_from p k (map f (drop k xs)) ≡ position p (map f xs) → position_from p (k + 1) (map f (drop (k + 1) xs)) ≡ position p (map f xs)
search_goes_on p f xs k d r h e other so_far =
    sym (ap (λ b. cond b (Some k) (position_from p (k + 1) (map f (drop (k + 1) xs)))) (sym e ∙ other)) ∙ (sym (position_step p f xs k d h) ∙ so_far)

-- past the end nothing passes
pub search_fails : {X Y : Type 0} (p : Y → Bool) (f : X → Y) (xs : List X) (k : ℕ) → length xs ≤ k → position_from p k (map f (drop k xs)) ≡ position p (map f xs) → None ≡ position p (map f xs)
search_fails p f xs k h so_far = sym (ap (λ l. position_from p k (map f l)) (drop_all k xs h)) ∙ so_far

-- the same, counted from a number on
any_from : {X : Type 0} (p : X → Bool) (i : ℕ) (xs : List X) → is_some (position_from p i xs) ≡ list_any p xs
any_from p i [] = refl
any_from p i (x ∷ xs) =
    elim (cases_Bool (p x)) [
      | inl it ↦ ap (λ b. is_some (cond b (Some i) (position_from p (i + 1) xs))) it ∙ sym (ap (λ b. b || list_any p xs) it)
      | inr other ↦ ap (λ b. is_some (cond b (Some i) (position_from p (i + 1) xs))) other ∙ (any_from p (i + 1) xs ∙ sym (ap (λ b. b || list_any p xs) other))
    ]

-- a first one that passes is there where any passes
pub position_any : {X : Type 0} (p : X → Bool) (xs : List X) → is_some (position p xs) ≡ list_any p xs
position_any p xs = ap is_some (position_is p xs) ∙ any_from p 0 xs

-- the same, counted from a number on
from_within : {X : Type 0} (p : X → Bool) (i : ℕ) (xs : List X) (k : ℕ) → position_from p i xs ≡ Some k → k < i + length xs
from_within p i [] k h = cc
from_within p i (x ∷ xs) k h =
    elim (cases_Bool (p x)) [
      | inl it ↦
          let e : Some i ≡ Some k = sym (ap (λ b. cond b (Some i) (position_from p (i + 1) xs)) it) ∙ h in
          let same : i ≡ k = cc in
          omega arith
      | inr other ↦
          let rest : k < (i + 1) + length xs = from_within p (i + 1) xs k (sym (ap (λ b. cond b (Some i) (position_from p (i + 1) xs)) other) ∙ h) in
          omega arith
    ]

-- a first place lies within the list
pub position_within : {X : Type 0} (p : X → Bool) (xs : List X) (k : ℕ) → position p xs ≡ Some k → k < length xs
position_within p xs k h =
    let within : k < 0 + length xs = from_within p 0 xs k (sym (position_is p xs) ∙ h) in
    omega arith

-- Facts of each element of a list, and places in lists.
use Rattle.std.proofs.Common.{◌≡◌, refl, ap, sym, ◌∙◌, ◌+◌, ℕ, suc, Bool, true, false, cond, List, [], ◌∷◌, ◌++◌, map, filter, length, position, Option, Some, None, arith}
use Rattle.std.specs.Option.{option_map, option_or}
use Rattle.std.specs.List.{AllByRecursion}
use Rattle.bcj_hier_soundness.proofs.Distinct.{position_first}

-- ---- each element

-- one more
pub each-push : {A : Type 0} (P : A → Type 0) (xs : List A) (y : A) → AllByRecursion P xs → P y → AllByRecursion P (xs ++ y ∷ [])
each-push P [] y h p = (p, tt)
each-push P (x ∷ xs) y h p = (h.0, each-push P xs y h.1 p)

-- of those that pass a test
pub each-kept : {A : Type 0} (P : A → Type 0) (p : A → Bool) (xs : List A) → AllByRecursion P xs → AllByRecursion P (filter p xs)
each-kept P p [] h = h
each-kept P p (x ∷ xs) h = by (p x) (each-kept P p xs h.1)
  where
    by : (b : Bool) → AllByRecursion P (filter p xs) → AllByRecursion P (cond b (x ∷ filter p xs) (filter p xs))
    by true rest = (h.0, rest)
    by false rest = rest

-- ---- places

-- the place of the first that passes is in the first list, or behind it
pub position-append : {A : Type 0} (test : A → Bool) (xs ys : List A) → position test (xs ++ ys) ≡ option_or (position test xs) (option_map (λ k. length xs + k) (position test ys))
position-append test [] ys = by (position test ys)
  where
    by : (o : Option ℕ) → o ≡ option_map (λ k. 0 + k) o
    by None = refl
    by (Some k) = ap Some (omega arith)
position-append test (x ∷ xs) ys =
    position_first test x (xs ++ ys)
    ∙ (ap (λ o. cond (test x) (Some 0) (option_map suc o)) (position-append test xs ys)
    ∙ (by (test x) (position test xs) (position test ys) ∙ ap (λ o. option_or o (option_map (λ k. length (x ∷ xs) + k) (position test ys))) (sym (position_first test x xs))))
  where
    by : (b : Bool) (o q : Option ℕ)
        → cond b (Some 0) (option_map suc (option_or o (option_map (λ k. length xs + k) q))) ≡ option_or (cond b (Some 0) (option_map suc o)) (option_map (λ k. suc (length xs) + k) q)
    by true o q = refl
    by false (Some k) q = refl
    by false None None = refl
    by false None (Some k) = ap Some (omega arith)

-- where none passes there is no place
pub position-none : {A : Type 0} (test : A → Bool) (xs : List A) → AllByRecursion (λ x. test x ≡ false) xs → position test xs ≡ None
position-none test [] h = refl
position-none test (x ∷ xs) h = position_first test x xs ∙ (ap (λ b. cond b (Some 0) (option_map suc (position test xs))) h.0 ∙ ap (option_map suc) (position-none test xs h.1))

-- the place of what a function makes
pub position-made : {A B : Type 0} (f : A → B) (test : B → Bool) (xs : List A) → position test (map f xs) ≡ position (λ x. test (f x)) xs
position-made f test [] = refl
position-made f test (x ∷ xs) =
    position_first test (f x) (map f xs)
    ∙ (ap (λ o. cond (test (f x)) (Some 0) (option_map suc o)) (position-made f test xs) ∙ sym (position_first (λ x. test (f x)) x xs))

-- The first item that passes a test.
use Rattle.std.proofs.Common.{◌≡◌, zero, suc, List, [], ◌∷◌, Some, Bool, cond, map, refl, sym, ◌∙◌, ap, subst, inl, inr, arith}
use Rattle.std.proofs.lemmas.Bool.{cases_Bool}
use Rattle.std.specs.List.{All, find}
use Rattle.std.specs.Option.{option_map}

-- the first of the images is the image of the first
pub find_map : {A B : Type 0} (f : A → B) (p : B → Bool) (xs : List A) → find p (map f xs) ≡ option_map f (find (λ x. p (f x)) xs)
find_map f p [] = refl
find_map f p (x ∷ xs) = elim (cases_Bool (p (f x))) [
  | inl so ↦ simp so
  | inr not_so ↦ simp not_so (find_map f p xs)
]

-- what all items have, the first that passes has
pub found_has : {A : Type 0} (P : A → Type 0) (p : A → Bool) (x : A) (xs : List A) → Some x ≡ find p xs → All P xs → P x
found_has P p x [] e all = absurd (let no : ⊥ = cc in no)
found_has P p x (y ∷ ys) e all = elim (cases_Bool (p y)) [
  | inl so ↦ let same : Some y ≡ Some x = sym (e ∙ ap (λ b. cond b (Some y) (find p ys)) so) in let here : y ≡ x = cc in subst P here (all zero y (omega arith))
  | inr not_so ↦ found_has P p x ys (e ∙ ap (λ b. cond b (Some y) (find p ys)) not_so) (λ k d below. all (suc k) d (omega arith))
]

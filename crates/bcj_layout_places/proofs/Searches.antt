-- Searches that tell whether something is there.
use Rattle.std.proofs.Common.{◌≡◌, List, [], ◌∷◌, Bool, cond, ◌||◌, Some, is_some, refl, sym, ◌∙◌, ap, inl, inr}
use Rattle.std.proofs.lemmas.Bool.{cases_Bool}
use Rattle.std.specs.List.{list_any, find}

-- something passes a test where a search finds it
pub any_by_find : {A : Type 0} (p : A → Bool) (xs : List A) → list_any p xs ≡ is_some (find p xs)
any_by_find p [] = refl
any_by_find p (x ∷ xs) =
    elim (cases_Bool (p x)) [
      | inl it ↦ ap (λ b. b || list_any p xs) it ∙ ap (λ b. is_some (cond b (Some x) (find p xs))) (sym it)
      | inr other ↦ ap (λ b. b || list_any p xs) other ∙ (any_by_find p xs ∙ ap (λ b. is_some (cond b (Some x) (find p xs))) (sym other))
    ]

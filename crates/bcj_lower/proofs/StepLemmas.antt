-- One item more of a list, where a state and what is left of the list give the whole.
use Rattle.std.proofs.Common.{◌≡◌, ap, sym, ◌∙◌, ℕ, ◌+◌, ◌<◌, ◌≤◌, List, [], ◌∷◌, drop, length, get_or}
use Rattle.std.proofs.lemmas.List.{drop_more, drop_all}

-- one item goes from what is left into the state
pub state_more : {S X R : Type 0} (F : S → List X → R) (step : S → X → S) → ((s : S) (x : X) (xs : List X) → F s (x ∷ xs) ≡ F (step s x) xs)
    → (s v : S) (u : R) (xs : List X) (i : ℕ) (d : X) → i < length xs → d ≡ get_or xs i d → v ≡ step s d → F s (drop i xs) ≡ u → F v (drop (i + 1) xs) ≡ u
state_more {S = S} {X = X} F step more s v u xs i d h is ev e =
    ap (λ (a : S). F a (drop (i + 1) xs)) ev
    ∙ sym (more s d (drop (i + 1) xs))
    ∙ ap (λ (x : X). F s (x ∷ drop (i + 1) xs)) is
    ∙ ap (λ (l : List X). F s l) (sym (drop_more xs i d h))
    ∙ e

-- and with none left
pub state_done : {S X R : Type 0} (F : S → List X → R) (s : S) (u : R) (xs : List X) (i : ℕ) → length xs ≤ i → F s (drop i xs) ≡ u → F s [] ≡ u
state_done {X = X} F s u xs i h e = ap (λ (l : List X). F s l) (sym (drop_all i xs h)) ∙ e

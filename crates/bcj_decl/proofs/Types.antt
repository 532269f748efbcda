-- One unit more of a list of units.
use Rattle.std.proofs.Common.{◌≡◌, ◌+◌, ◌++◌, ◌<◌, List, [], ◌∷◌, map, drop, length, ℕ, sym, ◌∙◌, ap, append_assoc}
use Rattle.std.proofs.Math.ListN.{get_or}
use Rattle.std.proofs.lemmas.List.{drop_more, map-append}
use Rattle.std.specs.List.{flat_map}

abbrev pub all_of : {A B C : Type 0} → (B → C) → (A → List B) → List A → List C
all_of f g xs = map f (flat_map (λ u. u) (map g xs))

pub one_more : {A B C : Type 0} (f : B → C) (g : A → List B) (xs : List A) (i : ℕ) (d : A) (old new rest : List C) → i < length xs → new ≡ old ++ map f (g (get_or xs i d))
    → old ++ all_of f g (drop i xs) ≡ rest → new ++ all_of f g (drop (i + 1) xs) ≡ rest
one_more f g xs i d old new rest h e before =
    ap (λ l. l ++ all_of f g (drop (i + 1) xs)) e
    ∙ (append_assoc old (map f (g (get_or xs i d))) (all_of f g (drop (i + 1) xs))
    ∙ (ap (λ l. old ++ l) (sym (map-append f (g (get_or xs i d)) (flat_map (λ u. u) (map g (drop (i + 1) xs)))))
    ∙ (ap (λ l. old ++ all_of f g l) (sym (drop_more xs i d h)) ∙ before)))

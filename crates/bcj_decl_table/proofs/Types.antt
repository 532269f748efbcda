-- One type more of a unit.
use Rattle.std.proofs.Common.{◌≡◌, ◌+◌, ◌++◌, ◌<◌, List, [], ◌∷◌, map, drop, length, ℕ, sym, ◌∙◌, ap, append_assoc}
use Rattle.std.proofs.Math.ListN.{get_or}
use Rattle.std.proofs.lemmas.List.{drop_more}

pub one_more : {A B C : Type 0} (f : B → C) (g : A → B) (xs : List A) (i : ℕ) (d : A) (old new rest : List C) → i < length xs → new ≡ old ++ f (g (get_or xs i d)) ∷ []
    → old ++ map f (map g (drop i xs)) ≡ rest → new ++ map f (map g (drop (i + 1) xs)) ≡ rest
one_more f g xs i d old new rest h e before =
    ap (λ l. l ++ map f (map g (drop (i + 1) xs))) e
    ∙ (append_assoc old (f (g (get_or xs i d)) ∷ []) (map f (map g (drop (i + 1) xs)))
    ∙ (ap (λ l. old ++ map f (map g l)) (sym (drop_more xs i d h)) ∙ before))

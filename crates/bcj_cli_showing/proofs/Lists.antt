-- Lists of lines, as loops add to them.
use Rattle.std.proofs.Common.{◌≡◌, ℕ, suc, ◌+◌, ◌<◌, List, [], ◌∷◌, ◌++◌, length, get_or, take, flat_map, refl, ap, sym, ◌∙◌, arith, append_assoc, append-nil, add-zero}
use Rattle.std.proofs.lemmas.List.{take_more, length-take-le}
use Rattle.std.proofs.lemmas.List.Concat.{flat_map-append}
use Rattle.bcj_cli_showing.specs.Text.{numbered}

-- the lines up to one item more; `grind` finds it by the read of that item, which comes first
pub lines-at_read : {A : Type 0} (f : A → List ℕ) (xs : List A) (k : ℕ) (d : A) → k < length xs
    → (get_or xs k d ≡ get_or xs k d) × (flat_map f (take (k + 1) xs) ≡ flat_map f (take k xs) ++ f (get_or xs k d))
lines-at_read f xs k d h =
    (refl, ap (flat_map f) (take_more xs k d h) ∙ flat_map-append f (take k xs) (get_or xs k d ∷ []) ∙ ap (λ l. flat_map f (take k xs) ++ l) (append-nil (f (get_or xs k d))))

-- one line more, behind the others
numbered-more : {A : Type 0} (f : ℕ → A → List ℕ) (at : ℕ) (xs : List A) (x : A) → numbered f at (xs ++ x ∷ []) ≡ numbered f at xs ++ f (at + length xs) x
unfolding numbered
numbered-more f at [] x = append-nil (f at x) ∙ ap (λ n. f n x) (sym (add-zero at))
numbered-more f at (y ∷ ys) x =
    let same : suc at + length ys ≡ at + suc (length ys) = omega arith in
    ap (λ l. f at y ++ l) (numbered-more f (suc at) ys x ∙ ap (λ n. numbered f (suc at) ys ++ f n x) same) ∙ sym (append_assoc (f at y) (numbered f (suc at) ys) (f (at + suc (length ys)) x))

-- the lines up to one item more; `grind` finds it by the read of that item, which comes first
pub numbered-at_read : {A : Type 0} (f : ℕ → A → List ℕ) (xs : List A) (k : ℕ) (d : A) → k < length xs
    → (get_or xs k d ≡ get_or xs k d) × (numbered f 0 (take (k + 1) xs) ≡ numbered f 0 (take k xs) ++ f k (get_or xs k d))
numbered-at_read f xs k d h =
    let few : length (take k xs) ≡ k = length-take-le k xs (omega arith) in
    let place : 0 + length (take k xs) ≡ k = omega arith in
    (refl, ap (numbered f 0) (take_more xs k d h) ∙ numbered-more f 0 (take k xs) (get_or xs k d) ∙ ap (λ n. numbered f 0 (take k xs) ++ f n (get_or xs k d)) place)

-- no lines of no items
pub numbered-none : {A : Type 0} (f : ℕ → A → List ℕ) (at : ℕ) → numbered f at [] ≡ []
unfolding numbered
numbered-none f at = refl

-- Lists and sums that a loop has made so far, one item after the other.
use Rattle.std.proofs.Common.{◌≡◌, ap, sym, ◌∙◌, ℕ, ◌+◌, ◌<◌, ◌≤◌, List, [], ◌∷◌, ◌++◌, drop, length, get_or, append_assoc, append-nil, add-zero, add_assoc, arith}
use Rattle.std.proofs.lemmas.List.{drop_more}
use Rattle.std.proofs.lemmas.Grind.{common_steps}

pub drops_all : {X : Type 0} (xs : List X) (i : ℕ) → length xs ≤ i → drop i xs ≡ []
drops_all xs i h = grind (arith, common_steps)

-- what is made of the items from i on is m, of the item at i, and n, of those behind it
pub list_more : {X Y : Type 0} (M : List X → List Y) (m n w r u : List Y) (xs : List X) (i : ℕ) (d : X) → i < length xs → d ≡ get_or xs i d
    → M (d ∷ drop (i + 1) xs) ≡ m ++ n → r ≡ w ++ m → w ++ M (drop i xs) ≡ u → r ++ n ≡ u
list_more {X = X} {Y = Y} M m n w r u xs i d h is more er e =
    ap (λ (a : List Y). a ++ n) er
    ∙ append_assoc w m n
    ∙ ap (λ (a : List Y). w ++ a) (sym more)
    ∙ ap (λ (x : X). w ++ M (x ∷ drop (i + 1) xs)) is
    ∙ ap (λ (l : List X). w ++ M l) (sym (drop_more xs i d h))
    ∙ e

pub list_done : {X Y : Type 0} (M : List X → List Y) → M [] ≡ [] → (w u : List Y) (xs : List X) (i : ℕ) → length xs ≤ i → w ++ M (drop i xs) ≡ u → w ≡ u
list_done {X = X} {Y = Y} M none w u xs i h e =
    sym (append-nil w) ∙ ap (λ (a : List Y). w ++ a) (sym none) ∙ ap (λ (l : List X). w ++ M l) (sym (drops_all xs i h)) ∙ e

-- the same of what is counted
pub sum_more : {X : Type 0} (M : List X → ℕ) (m n k r u : ℕ) (xs : List X) (i : ℕ) (d : X) → i < length xs → d ≡ get_or xs i d
    → M (d ∷ drop (i + 1) xs) ≡ m + n → r ≡ k + m → k + M (drop i xs) ≡ u → r + n ≡ u
sum_more {X = X} M m n k r u xs i d h is more er e =
    ap (λ a. a + n) er
    ∙ add_assoc k m n
    ∙ ap (λ a. k + a) (sym more)
    ∙ ap (λ (x : X). k + M (x ∷ drop (i + 1) xs)) is
    ∙ ap (λ (l : List X). k + M l) (sym (drop_more xs i d h))
    ∙ e

pub sum_done : {X : Type 0} (M : List X → ℕ) → M [] ≡ 0 → (k u : ℕ) (xs : List X) (i : ℕ) → length xs ≤ i → k + M (drop i xs) ≡ u → k ≡ u
sum_done {X = X} M none k u xs i h e =
    sym (add-zero k) ∙ ap (λ a. k + a) (sym none) ∙ ap (λ (l : List X). k + M l) (sym (drops_all xs i h)) ∙ e

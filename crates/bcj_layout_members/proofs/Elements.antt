-- Elements of lists by their places.
use Rattle.std.proofs.Common.{◌≡◌, ◌+◌, ◌-◌, ◌<◌, ◌≤◌, List, [], ◌∷◌, ◌++◌, Some, refl, sym, ◌∙◌, ap, ℕ, zero, suc, length, map, drop, take, get_or, arith, add-one, drop-cons, length-take}
use Rattle.std.specs.List.{fold, slice_get, slice_range}
use Rattle.std.proofs.lemmas.Option.{slice_get_within, get_or_from_slice_get}

-- a place within a list has an element
pub some_at : {X : Type 0} (xs : List X) (k : ℕ) → k < length xs → (x : X) × (slice_get xs k ≡ Some x)
some_at [] k h = absurd (omega arith)
some_at (x ∷ xs) zero h = (x, refl)
some_at (x ∷ xs) (suc k) h = some_at xs k (omega arith)

-- the rest of a list from an element on
pub drop_at_some : {X : Type 0} (xs : List X) (k : ℕ) (x : X) → slice_get xs k ≡ Some x → drop k xs ≡ x ∷ drop (k + 1) xs
drop_at_some xs k x e =
    let within : k < length xs = slice_get_within xs k x e in
    let it : get_or xs k x ≡ x = get_or_from_slice_get xs k x x e in
    drop-cons xs k x within ∙ (ap (λ y. y ∷ drop (suc k) xs) it ∙ ap (λ n. x ∷ drop n xs) (sym (add-one k)))

-- the next step of a fold over a list
pub fold_at : {X A B : Type 0} (f : B → A → B) (g : X → A) (b : B) (xs : List X) (k : ℕ) (x : X) → slice_get xs k ≡ Some x
    → fold f b (map g (drop k xs)) ≡ fold f (f b (g x)) (map g (drop (k + 1) xs))
fold_at f g b xs k x e = ap (λ ys. fold f b (map g ys)) (drop_at_some xs k x e)

-- an element of the rest of a list
pub get_drop : {X : Type 0} (s : ℕ) (xs : List X) (k : ℕ) → slice_get (drop s xs) k ≡ slice_get xs (s + k)
get_drop zero xs k = let e : k ≡ 0 + k = omega arith in ap (slice_get xs) e
get_drop (suc s) [] k = refl
get_drop (suc s) (x ∷ xs) k = let e : suc (s + k) ≡ suc s + k = omega arith in get_drop s xs k ∙ ap (slice_get (x ∷ xs)) e

-- an element of the front of a list
pub get_take : {X : Type 0} (n : ℕ) (xs : List X) (k : ℕ) → k < n → slice_get (take n xs) k ≡ slice_get xs k
get_take zero xs k h = absurd (omega arith)
get_take (suc n) [] k h = refl
get_take (suc n) (x ∷ xs) zero h = refl
get_take (suc n) (x ∷ xs) (suc k) h = get_take n xs k (omega arith)

-- an element of a part of a list
pub get_range : {X : Type 0} (xs : List X) (a b k : ℕ) → k < b - a → slice_get (slice_range xs a b) k ≡ slice_get xs (a + k)
get_range xs a b k h = get_take (b - a) (drop a xs) k h ∙ get_drop a xs k

-- the next step of a fold over what stands in the list itself
pub fold_next : {A B : Type 0} (f : B → A → B) (b : B) (xs : List A) (k : ℕ) (x : A) → slice_get xs k ≡ Some x → fold f b (drop k xs) ≡ fold f (f b x) (drop (k + 1) xs)
fold_next f b xs k x e = ap (fold f b) (drop_at_some xs k x e)

-- an element of the first of two lists
pub get_before : {X : Type 0} (xs ys : List X) (k : ℕ) → k < length xs → slice_get (xs ++ ys) k ≡ slice_get xs k
get_before [] ys k h = absurd (omega arith)
get_before (x ∷ xs) ys zero h = refl
get_before (x ∷ xs) ys (suc k) h = get_before xs ys k (omega arith)

-- an element of the second of two lists
pub get_behind : {X : Type 0} (xs ys : List X) (k n : ℕ) → n ≡ length xs → n ≤ k → slice_get (xs ++ ys) k ≡ slice_get ys (k - n)
get_behind [] ys k n e h = let z : k ≡ k - n = omega arith in ap (slice_get ys) z
get_behind (x ∷ xs) ys zero n e h = absurd (omega arith)
get_behind (x ∷ xs) ys (suc k) n e h =
    let z : k - length xs ≡ suc k - n = omega arith in
    get_behind xs ys k (length xs) refl (omega arith) ∙ ap (slice_get ys) z

-- an element of a part of a list is one of the list
pub range_of : {X : Type 0} (xs : List X) (a b k : ℕ) (x : X) → slice_get (slice_range xs a b) k ≡ Some x → slice_get xs (a + k) ≡ Some x
range_of xs a b k x e =
    let within : k < length (slice_range xs a b) = slice_get_within (slice_range xs a b) k x e in
    let few : k < b - a = omega (arith, length-take (b - a) (drop a xs)) in
    sym (get_range xs a b k few) ∙ e

-- Two lists gone over together.
use Rattle.std.proofs.Common.{◌≡◌, List, [], ◌∷◌, map, drop, false, IsTrue, refl, ℕ, length, arith}
use Rattle.std.specs.List.{AllZip}

pub zip_long : {A B X Y : Type 0} (R : X → Y → Type 0) (f : A → X) (g : B → Y) (xs : List A) (ys : List B) → AllZip R (map f xs) (map g ys) → length xs ≡ length ys
zip_long R f g [] [] all = refl
zip_long R f g [] (y ∷ ys) all = elim all [ ]
zip_long R f g (x ∷ xs) [] all = elim all [ ]
zip_long R f g (x ∷ xs) (y ∷ ys) all = let rest : length xs ≡ length ys = zip_long R f g xs ys all.1 in omega (arith, rest)

abbrev pub LeftToZip : {A B X Y : Type 0} → (X → Y → Type 0) → (A → X) → (B → Y) → List A → List B → ℕ → Type 0
LeftToZip R f g xs ys i =
    (AllZip R (map f (drop i xs)) (map g (drop i ys)) → AllZip R (map f xs) (map g ys)) × (AllZip R (map f xs) (map g ys) → AllZip R (map f (drop i xs)) (map g (drop i ys)))

-- what a test says of a fact that doesn't hold
pub never : {P : Type 0} → (P → ⊥) → (IsTrue false → P) × (P → IsTrue false)
never none = (λ h. cc, λ p. absurd (none p))

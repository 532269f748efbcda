-- What files hold: a finite map from the bytes of a name to the bytes of the file.
use Rattle.std.specs.Prelude.{◌≡◌, ℕ, ◌<◌, List, length, Option, Some, None, IfSome, IsSomeAnd}
use Rattle.std.specs.Ordering.{nat_cmp}
use Rattle.std.specs.Cmp.Lexicographic.{slice_cmp}
use Rattle.std.specs.FinMap as map

abbrev pub Store : Type 0
Store = map.FinMap (slice_cmp nat_cmp) (List ℕ)

-- where the files tell what they hold, they hold these bytes under the name
abbrev pub Has : Option Store → List ℕ → List ℕ → Type 0
Has held name bytes = IfSome held (λ m. map.get m name ≡ Some bytes)

-- where the files tell what they hold, they hold more than limit bytes under the name
abbrev pub HasMore : Option Store → List ℕ → ℕ → Type 0
HasMore held name limit = IfSome held (λ m. (bytes : List ℕ) × (map.get m name ≡ Some bytes) × (limit < length bytes))

-- where the files tell what they hold, they hold no file of that name
abbrev pub Lacks : Option Store → List ℕ → Type 0
Lacks held name = IfSome held (λ m. map.get m name ≡ None)

-- where the files told what they hold, they hold these bytes under the name now, and all else as before
abbrev pub Sets : Option Store → Option Store → List ℕ → List ℕ → Type 0
Sets old new name bytes = IfSome old (λ m. new ≡ Some (map.insert m name bytes))

-- where the files told what they hold, they hold the same now under every other name
abbrev pub KeepsOthers : Option Store → Option Store → List ℕ → Type 0
KeepsOthers old new name =
    IfSome old (λ m. IsSomeAnd new (λ n. (q : List ℕ) → (q ≡ name → ⊥) → map.get n q ≡ map.get m q))

-- A list whose items are known one by one.
use Rattle.std.proofs.Common.{◌≡◌, List, [], ◌∷◌, length, Some, arith}
use Rattle.std.specs.Prelude.{slice_get}

pub list_of_five : {X : Type 0} (xs : List X) (a b c d e : X) → length xs ≡ 5 → slice_get xs 0 ≡ Some a → slice_get xs 1 ≡ Some b → slice_get xs 2 ≡ Some c
    → slice_get xs 3 ≡ Some d → slice_get xs 4 ≡ Some e → xs ≡ a ∷ b ∷ c ∷ d ∷ e ∷ []
list_of_five [] a b c d e n p q r s t = absurd (omega arith)
list_of_five (x ∷ []) a b c d e n p q r s t = absurd (omega arith)
list_of_five (x ∷ y ∷ []) a b c d e n p q r s t = absurd (omega arith)
list_of_five (x ∷ y ∷ z ∷ []) a b c d e n p q r s t = absurd (omega arith)
list_of_five (x ∷ y ∷ z ∷ w ∷ []) a b c d e n p q r s t = absurd (omega arith)
list_of_five (x ∷ y ∷ z ∷ w ∷ v ∷ []) a b c d e n p q r s t = cc
list_of_five (x ∷ y ∷ z ∷ w ∷ v ∷ u ∷ rest) a b c d e n p q r s t = absurd (omega arith)

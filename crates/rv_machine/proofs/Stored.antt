-- Memory behind a write.
use Rattle.std.proofs.Common.{◌≡◌, ℕ, ◌+◌, ◌-◌, ◌/◌, ◌%◌, ◌<◌, ◌^◌, List, [], ◌∷◌, ◌++◌, length, take, drop, slice_set, ap, ap₂, sym, ◌∙◌, arith, add-one}
use Rattle.std.proofs.lemmas.List.{append-nil, take_rest, drop-drop, drop_all, length-drop, set_split}
use borrow.Rule.Slice.PartMut.{put_mid}
use Rattle.rv_machine.specs.Machine.{with_bytes}

-- a write of one byte
pub with_byte : (xs : List ℕ) (a b : ℕ) → a < length xs → slice_set xs a b ≡ with_bytes xs a (b ∷ [])
with_byte xs a b inside = set_split xs a b inside ∙ ap (λ k. take a xs ++ b ∷ drop k xs) (sym (add-one a))

-- a write of n bytes into what stands from a place on
pub placed : (xs bs ys : List ℕ) (a n : ℕ) → length bs ≡ n → ys ≡ bs ++ drop n (take (length xs - a) (drop a xs))
    → put_mid a (length xs - a) xs ys ≡ with_bytes xs a bs
placed xs bs ys a n len e =
    let end : drop (length xs - a) (drop a xs) ≡ [] = drop_all (length xs - a) (drop a xs) (omega (arith, length-drop a xs)) in
    ap (λ zs. take a xs ++ zs)
    (ap (λ zs. ys ++ zs) end ∙ append-nil ys ∙ e ∙ ap (λ zs. bs ++ drop n zs) (take_rest xs a)
    ∙ ap (λ zs. bs ++ zs) (drop-drop n a xs) ∙ ap (λ k. bs ++ drop (a + k) xs) (sym len))

-- the bytes of a half are the low two of its word
pub half_of : (v : ℕ) → (let bs : List ℕ = v % 2 ^ 16 % 256 ∷ v % 2 ^ 16 / 256 % 256 ∷ [] in bs) ≡ v % 256 ∷ v / 256 % 256 ∷ []
half_of v =
    let low : v % 2 ^ 16 % 256 ≡ v % 256 = omega arith in
    let high : v % 2 ^ 16 / 256 % 256 ≡ v / 256 % 256 = omega arith in
    ap₂ (λ p q. let bs : List ℕ = p ∷ q ∷ [] in bs) low high

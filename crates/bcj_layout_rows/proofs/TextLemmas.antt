-- Brackets before a type, and the element behind them.
use Prim.Native.Char.{code}
use Rattle.std.proofs.Common.{◌≡◌, refl, ap, ◌∙◌, ℕ, zero, suc, ◌+◌, ◌==◌, false, List, [], ◌∷◌, drop, length, get_or, ◌<◌, add-one}
use Rattle.std.proofs.lemmas.List.{drop_more}
use Rattle.bcj_symbolic_trees.specs.Types.{PlainTy, array_type}
use Rattle.bcj_hier_rules.specs.Shapes.{type_of_text}
use Rattle.bcj_layout_rows.specs.Texts.{array_of, element_of}

-- one bracket more inside is one dimension more
pub array_of-more : (n : ℕ) (t : PlainTy) → array_of n (array_type t) ≡ array_of (n + 1) t
array_of-more n t = rw add-one (within n)
  where
    within : (n : ℕ) → array_of n (array_type t) ≡ array_type (array_of n t)
    within zero = refl
    within (suc n) = ap array_type (within n)

-- and one more outside too
pub array_of-outside : (n : ℕ) (t : PlainTy) → array_type (array_of n t) ≡ array_of (n + 1) t
array_of-outside n t = rw add-one refl

-- behind a bracket stands the component
pub text-bracket : (b : ℕ) (rest : List ℕ) → b ≡ code "[" → type_of_text (b ∷ rest) ≡ array_type (type_of_text rest)
text-bracket b rest e = rw e refl

-- where no bracket stands, the text is that of an element
pub text-element : (b : ℕ) (rest : List ℕ) → (b == code "[") ≡ false → type_of_text (b ∷ rest) ≡ element_of (b ∷ rest)
text-element b rest e = rw e refl

-- at the end there is no element
pub text-end : type_of_text [] ≡ element_of []
text-end = refl

-- a bracket at a place is one dimension more
pub text-step : (text : List ℕ) (i : ℕ) → i < length text → get_or text i 0 ≡ 91 → type_of_text text ≡ array_of i (type_of_text (drop i text)) → type_of_text text ≡ array_of (i + 1) (type_of_text (drop (i + 1) text))
text-step text i inside bracket h =
    h
    ∙ (ap (λ l. array_of i (type_of_text l)) (drop_more text i 0 inside)
    ∙ (ap (array_of i) (text-bracket (get_or text i 0) (drop (i + 1) text) bracket) ∙ array_of-more i (type_of_text (drop (i + 1) text))))

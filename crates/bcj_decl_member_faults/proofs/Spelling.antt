-- Written types are the same where their brackets are as many and what stands before these is the same.
use Rattle.std.proofs.Common.{◌≡◌, ℕ, zero, suc, false, refl, ap, subst}
use Rattle.bcj_parser_trees.specs.declared.names.Base.{Base}
use Rattle.bcj_parser_trees.specs.declared.names.Base.TheVariants as base
use Rattle.bcj_symbolic_trees.specs.Types.{PlainTy, array_type}
use Rattle.bcj_symbolic_trees.specs.Same.{same_type}
use Rattle.bcj_decl_rules.specs.World.{base_type, with_brackets}

-- under as many pairs of brackets
under_brackets : (n : ℕ) (a b : PlainTy) → same_type (with_brackets n a) (with_brackets n b) ≡ same_type a b
under_brackets zero a b = refl
under_brackets (suc n) a b = under_brackets n a b

-- as many pairs of brackets
pub same_dims : (m n : ℕ) (a b : Base) → m ≡ n → same_type (with_brackets m (base_type a)) (with_brackets n (base_type b)) ≡ same_type (base_type a) (base_type b)
same_dims m n a b e =
    let P : ℕ → Type 0 = λ k. same_type (with_brackets m (base_type a)) (with_brackets k (base_type b)) ≡ same_type (base_type a) (base_type b) in
    subst P e (under_brackets m (base_type a) (base_type b))

-- what has no brackets is no array
no_array : (a : Base) (t : PlainTy) → same_type (base_type a) (array_type t) ≡ false
no_array base.Int t = refl
no_array base.Bool t = refl
no_array base.Void t = refl
no_array (base.Named name) t = refl

-- an array is nothing without brackets
array_no : (t : PlainTy) (a : Base) → same_type (array_type t) (base_type a) ≡ false
array_no t base.Int = refl
array_no t base.Bool = refl
array_no t base.Void = refl
array_no t (base.Named name) = refl

-- more on one side
pub other_dims : (m n : ℕ) (a b : Base) → (m ≡ n → ⊥) → same_type (with_brackets m (base_type a)) (with_brackets n (base_type b)) ≡ false
other_dims zero zero a b h = absurd (h refl)
other_dims zero (suc n) a b h = no_array a (with_brackets n (base_type b))
other_dims (suc m) zero a b h = array_no (with_brackets m (base_type a)) b
other_dims (suc m) (suc n) a b h = other_dims m n a b (λ e. h (ap suc e))

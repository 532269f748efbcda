-- Each test of `Same` decides `≡`.
use Rattle.std.proofs.Common.{◌≡◌, refl, ap, subst, true, List, length}
use Rattle.std.specs.Bool.{Decides}
use Rattle.std.proofs.lemmas.Slice.Eq.{bytes_eq-Decides, slice_eq-Decides}
use Rattle.std.proofs.lemmas.Bool.Decides.{Decides-and, Decides-like}
use Rattle.bcj_symbolic_trees.specs.Types.{PlainTy, int_type, bool_type, void_type, class_type, array_type, PlainFieldRef, PlainMethodRef}
use Rattle.bcj_symbolic_trees.specs.Same.{same_type, same_types, same_field_ref, same_method_ref}

same_type-tells : (a b : PlainTy) → same_type a b ≡ true → a ≡ b
same_type-tells int_type int_type e = refl
same_type-tells bool_type bool_type e = refl
same_type-tells void_type void_type e = refl
same_type-tells (class_type a) (class_type b) e = ap class_type ((bytes_eq-Decides a b).0 e)
same_type-tells (array_type a) (array_type b) e = ap array_type (same_type-tells a b e)
same_type-tells _ _ e = cc

same_type-refl : (a : PlainTy) → same_type a a ≡ true
same_type-refl int_type = refl
same_type-refl bool_type = refl
same_type-refl void_type = refl
same_type-refl (class_type a) = (bytes_eq-Decides a a).1 refl
same_type-refl (array_type a) = same_type-refl a

pub same_type-Decides : (a b : PlainTy) → Decides (same_type a b) (a ≡ b)
same_type-Decides a b =
    (same_type-tells a b, λ e. let P : PlainTy → Type 0 = λ t. same_type a t ≡ true in subst P e (same_type-refl a))

pub same_types-Decides : (xs ys : List PlainTy) → Decides (same_types xs ys) (xs ≡ ys)
same_types-Decides xs ys = slice_eq-Decides same_type-Decides xs ys (same_types xs ys) refl

pub same_types-length : (xs ys : List PlainTy) → same_types xs ys ≡ true → length xs ≡ length ys
same_types-length xs ys e = ap length ((same_types-Decides xs ys).0 e)

pub same_field_ref-Decides : (a b : PlainFieldRef) → Decides (same_field_ref a b) (a ≡ b)
same_field_ref-Decides a b =
    Decides-like (same_field_ref a b)
    (λ e. λ i. record { class = e.0 i; name = e.1.0 i; ty = e.1.1 i })
    (λ e. (ap (λ r. r.class) e, (ap (λ r. r.name) e, ap (λ r. r.ty) e)))
    (Decides-and _ _ (bytes_eq-Decides a.class b.class)
    (Decides-and _ _ (bytes_eq-Decides a.name b.name) (same_type-Decides a.ty b.ty)))

pub same_method_ref-Decides : (a b : PlainMethodRef) → Decides (same_method_ref a b) (a ≡ b)
same_method_ref-Decides a b =
    Decides-like (same_method_ref a b)
    (λ e. λ i. record { class = e.0 i; name = e.1.0 i; params = e.1.1.0 i; result = e.1.1.1 i })
    (λ e. (ap (λ r. r.class) e, (ap (λ r. r.name) e, (ap (λ r. r.params) e, ap (λ r. r.result) e))))
    (Decides-and _ _ (bytes_eq-Decides a.class b.class)
    (Decides-and _ _ (bytes_eq-Decides a.name b.name)
    (Decides-and _ _ (same_types-Decides a.params b.params) (same_type-Decides a.result b.result))))

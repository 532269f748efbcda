-- Each test of types, names and references decides its relation.
use Rattle.std.proofs.Common.{◌≡◌, refl, sym, ap, subst, ◌⊎◌, inl, inr, ℕ, zero, suc, ℤ, pos, negsuc, FitsSigned, Bool, true, false, not, ◌||◌, List, [], ◌∷◌, slice_get, Some, option_map}
use Rattle.std.specs.Bool.{Decides}
use Rattle.std.specs.List.{list_all, list_any}
use Rattle.std.specs.Int.{w32}
use Rattle.std.proofs.lemmas.Bool.{leb-true, le-leb, ltb-true, lt-ltb, eqb-true, eq-eqb}
use Rattle.std.proofs.lemmas.Bool.Decides.{Decides-and, Decides-or, Decides-not, Decides-like}
use Rattle.std.proofs.lemmas.Slice.Eq.{bytes_eq-Decides}
use Rattle.bcj_symbolic_trees.specs.Types.{PlainTy, int_type, bool_type, void_type, class_type, array_type, PlainArg, given, null_arg, PlainFieldRef, PlainMethodRef}
use Rattle.bcj_symbolic_trees.specs.Units.{PlainPair}
use Rattle.bcj_symbolic_trees.specs.Same.{same_type}
use Rattle.bcj_symbolic_trees.proofs.SameLemmas.{same_type-Decides}
use Rattle.bcj_names.specs.Identifiers.{is_identifier}
use Rattle.bcj_symbolic_check.specs.Steps.{is_reference, is_void, has_element, is_value_type, is_result_type, object_type, is_type, is_object, is_null, same_arg, is_listed, steps_to}
use Rattle.bcj_symbolic_check.specs.Judgements.{Frame, is_constructor_name, is_value, is_array_value, is_field_ref, are_value_types, is_method_ref, is_constructor_ref, in_range, no_types, is_this}
use Rattle.bcj_symbolic_check.specs.Typing.{IsReference, class_reference, array_reference, IsReferenceOrNull, reference, null_reference, IsValue, number_value, truth_value, reference_value, HasElement, int_element, bool_element, class_element, array_element, IsValueType, AreValueTypes, Each, each_of_none, each_of_more, IsResultType, void_result, value_result, IsListed, listed_first, listed_behind, Step, same, from_null, to_object, listed, IsFieldRef, IsMethodRef, IsConstructorRef, At, at_first, at_next, IsThis}

-- ---- lists

pub of_more : {A : Type 0} {P : A → Type 0} {x : A} {xs : List A} → Each P (x ∷ xs) → P x × Each P xs
of_more (each_of_more h k) = (h, k)

pub each-Decides : {A : Type 0} {P : A → Type 0} {p : A → Bool} → ((x : A) → Decides (p x) (P x)) → (xs : List A) → Decides (list_all p xs) (Each P xs)
each-Decides d [] = (λ e. each_of_none, λ h. refl)
each-Decides {A} {P} {p} d (x ∷ xs) =
    Decides-like (list_all p (x ∷ xs)) (λ h. each_of_more h.0 h.1) of_more (Decides-and _ _ (d x) (each-Decides d xs))

pub Decides-neither : (a b : Bool) {P Q : Type 0} → Decides (not a) P → Decides (not b) Q → Decides (not (a || b)) (P × Q)
Decides-neither true b d k = (λ e. cc, λ h. d.1 h.0)
Decides-neither false b d k = (λ e. (d.0 refl, k.0 e), λ h. k.1 h.1)

-- no item is so
pub none-Decides : {A : Type 0} {P : A → Type 0} {p : A → Bool} → ((x : A) → Decides (p x) (P x)) → (xs : List A) → Decides (not (list_any p xs)) (Each (λ x. ¬ P x) xs)
none-Decides d [] = (λ e. each_of_none, λ h. refl)
none-Decides {A} {P} {p} d (x ∷ xs) =
    Decides-like (not (list_any p (x ∷ xs))) (λ h. each_of_more h.0 h.1) of_more
    (Decides-neither (p x) (list_any p xs) (Decides-not _ (d x)) (none-Decides d xs))

-- ---- types

pub is_reference-Decides : (t : PlainTy) → Decides (is_reference t) (IsReference t)
is_reference-Decides int_type = (λ e. cc, λ h. elim h [ ])
is_reference-Decides bool_type = (λ e. cc, λ h. elim h [ ])
is_reference-Decides void_type = (λ e. cc, λ h. elim h [ ])
is_reference-Decides (class_type name) = (λ e. class_reference, λ h. refl)
is_reference-Decides (array_type component) = (λ e. array_reference, λ h. refl)

of_reference : {t : PlainTy} → IsReferenceOrNull (given t) → IsReference t
of_reference (reference h) = h

pub is_object-Decides : (s : PlainArg) → Decides (is_object s) (IsReferenceOrNull s)
is_object-Decides (given t) = Decides-like (is_reference t) reference of_reference (is_reference-Decides t)
is_object-Decides null_arg = (λ e. null_reference, λ h. refl)

pub is_void-Decides : (t : PlainTy) → Decides (is_void t) (t ≡ void_type)
is_void-Decides int_type = (λ e. cc, λ e. cc)
is_void-Decides bool_type = (λ e. cc, λ e. cc)
is_void-Decides void_type = (λ e. refl, λ e. refl)
is_void-Decides (class_type name) = (λ e. cc, λ e. cc)
is_void-Decides (array_type component) = (λ e. cc, λ e. cc)

void_is_none : IsValue (given void_type) → false ≡ true
void_is_none (reference_value (reference h)) = elim h [ ]

pub is_value-Decides : (s : PlainArg) → Decides (is_value s) (IsValue s)
is_value-Decides (given int_type) = (λ e. number_value, λ h. refl)
is_value-Decides (given bool_type) = (λ e. truth_value, λ h. refl)
is_value-Decides (given void_type) = (λ e. cc, void_is_none)
is_value-Decides (given (class_type name)) = (λ e. reference_value (reference class_reference), λ h. refl)
is_value-Decides (given (array_type component)) = (λ e. reference_value (reference array_reference), λ h. refl)
is_value-Decides null_arg = (λ e. reference_value null_reference, λ h. refl)

-- an array has elements of this type
abbrev pub IsArrayOf : PlainArg → Type 0
IsArrayOf s = (component : PlainTy) × (s ≡ given (array_type component))

pub is_array-Decides : (s : PlainArg) → Decides (is_array_value s) (IsArrayOf s)
is_array-Decides (given int_type) = (λ e. cc, λ h. let e = h.1 in cc)
is_array-Decides (given bool_type) = (λ e. cc, λ h. let e = h.1 in cc)
is_array-Decides (given void_type) = (λ e. cc, λ h. let e = h.1 in cc)
is_array-Decides (given (class_type name)) = (λ e. cc, λ h. let e = h.1 in cc)
is_array-Decides (given (array_type component)) = (λ e. (component, refl), λ h. refl)
is_array-Decides null_arg = (λ e. cc, λ h. let e = h.1 in cc)

pub is_type-Decides : (t : PlainTy) (s : PlainArg) → Decides (is_type t s) (s ≡ given t)
is_type-Decides t (given s) = Decides-like (same_type s t) (ap given) (λ e. cc) (same_type-Decides s t)
is_type-Decides t null_arg = (λ e. cc, λ e. cc)

pub same_arg-Decides : (s t : PlainArg) → Decides (same_arg s t) (s ≡ t)
same_arg-Decides (given s) (given t) = Decides-like (same_type s t) (ap given) (λ e. cc) (same_type-Decides s t)
same_arg-Decides (given s) null_arg = (λ e. cc, λ e. cc)
same_arg-Decides null_arg (given t) = (λ e. cc, λ e. cc)
same_arg-Decides null_arg null_arg = (λ e. refl, λ e. refl)

pub is_null-Decides : (s : PlainArg) → Decides (is_null s) (s ≡ null_arg)
is_null-Decides (given t) = (λ e. cc, λ e. cc)
is_null-Decides null_arg = (λ e. refl, λ e. refl)

-- ---- types of values

has_element-Decides : (t : PlainTy) → Decides (has_element t) (HasElement t)
has_element-Decides int_type = (λ e. int_element, λ h. refl)
has_element-Decides bool_type = (λ e. bool_element, λ h. refl)
has_element-Decides void_type = (λ e. cc, λ h. elim h [ ])
has_element-Decides (class_type name) = (class_element, of_class)
  where
    of_class : HasElement (class_type name) → is_identifier name ≡ true
    of_class (class_element h) = h
has_element-Decides (array_type component) = Decides-like (has_element component) array_element of_array (has_element-Decides component)
  where
    of_array : HasElement (array_type component) → HasElement component
    of_array (array_element h) = h

pub is_value_type-Decides : (t : PlainTy) → Decides (is_value_type t) (IsValueType t)
unfolding is_value_type
is_value_type-Decides t =
    Decides-like (is_value_type t)
    (λ h. record { element = h.0; flat = h.1 })
    (λ h. (h.element, h.flat))
    (Decides-and _ _ (has_element-Decides t) (leb-true _ _, le-leb _ _))

pub are_value_types-Decides : (ts : List PlainTy) → Decides (are_value_types ts) (AreValueTypes ts)
unfolding are_value_types
are_value_types-Decides ts = each-Decides is_value_type-Decides ts

to_result : (t : PlainTy) → (t ≡ void_type) ⊎ IsValueType t → IsResultType t
to_result t (inl e) = subst IsResultType (sym e) void_result
to_result t (inr h) = value_result h

of_result : {t : PlainTy} → IsResultType t → (t ≡ void_type) ⊎ IsValueType t
of_result void_result = inl refl
of_result (value_result h) = inr h

pub is_result_type-Decides : (t : PlainTy) → Decides (is_result_type t) (IsResultType t)
unfolding is_result_type
is_result_type-Decides t =
    Decides-like (is_result_type t) (to_result t) of_result (Decides-or _ _ (is_void-Decides t) (is_value_type-Decides t))

-- ---- references

pub is_field_ref-Decides : (f : PlainFieldRef) → Decides (is_field_ref f) (IsFieldRef f)
unfolding is_field_ref
is_field_ref-Decides f =
    Decides-like (is_field_ref f)
    (λ h. record { class = h.0; name = h.1.0; ty = h.1.1 })
    (λ h. (h.class, (h.name, h.ty)))
    (Decides-and _ _ (λ e. e, λ e. e) (Decides-and _ _ (λ e. e, λ e. e) (is_value_type-Decides f.ty)))

pub is_method_ref-Decides : (m : PlainMethodRef) → Decides (is_method_ref m) (IsMethodRef m)
unfolding is_method_ref
is_method_ref-Decides m =
    Decides-like (is_method_ref m)
    (λ h. record { class = h.0; name = h.1.0; params = h.1.1.0; result = h.1.1.1 })
    (λ h. (h.class, (h.name, (h.params, h.result))))
    (Decides-and _ _ (λ e. e, λ e. e)
    (Decides-and _ _ (λ e. e, λ e. e)
    (Decides-and _ _ (are_value_types-Decides m.params) (is_result_type-Decides m.result))))

pub is_constructor_ref-Decides : (m : PlainMethodRef) → Decides (is_constructor_ref m) (IsConstructorRef m)
unfolding is_constructor_ref is_constructor_name
is_constructor_ref-Decides m =
    Decides-like (is_constructor_ref m)
    (λ h. record { class = h.0; name = h.1.0; params = h.1.1.0; result = h.1.1.1 })
    (λ h. (h.class, (h.name, (h.params, h.result))))
    (Decides-and _ _ (λ e. e, λ e. e)
    (Decides-and _ _ (bytes_eq-Decides m.name _)
    (Decides-and _ _ (are_value_types-Decides m.params) (is_void-Decides m.result))))

-- ---- steps

-- a pair from the one type to the other
abbrev pub IsPair : List PlainPair → PlainArg → PlainArg → Type 0
IsPair pairs s t = (p : PlainPair) × IsListed p pairs × (given p.from ≡ s) × (given p.to ≡ t)

is_listed-Decides : (pairs : List PlainPair) (s t : PlainArg) → Decides (is_listed pairs s t) (IsPair pairs s t)
unfolding is_listed
is_listed-Decides [] s t = (λ e. cc, λ h. elim h.1 [ ])
is_listed-Decides (p ∷ ps) s t =
    Decides-like (is_listed (p ∷ ps) s t) found either
    (Decides-or _ _ (Decides-and _ _ (same_arg-Decides (given p.from) s) (same_arg-Decides (given p.to) t)) (is_listed-Decides ps s t))
  where
    found : ((given p.from ≡ s) × (given p.to ≡ t)) ⊎ IsPair ps s t → IsPair (p ∷ ps) s t
    found (inl h) = (p, listed_first, h.0, h.1)
    found (inr h) = (h.0, listed_behind h.1, h.2, h.3)

    by : {q : PlainPair} → IsListed q (p ∷ ps) → given q.from ≡ s → given q.to ≡ t → ((given p.from ≡ s) × (given p.to ≡ t)) ⊎ IsPair ps s t
    by listed_first e f = inl (e, f)
    by (listed_behind {p = q} h) e f = inr (q, h, e, f)

    either : IsPair (p ∷ ps) s t → ((given p.from ≡ s) × (given p.to ≡ t)) ⊎ IsPair ps s t
    either h = by h.1 h.2 h.3

abbrev pub StepCases : List PlainPair → PlainArg → PlainArg → Type 0
StepCases pairs s t = (s ≡ t) ⊎ (((s ≡ null_arg) × IsReferenceOrNull t) ⊎ ((IsReferenceOrNull s × (t ≡ given object_type)) ⊎ IsPair pairs s t))

step_from_null : {pairs : List PlainPair} {t : PlainArg} → IsReferenceOrNull t → Step pairs null_arg t
step_from_null (reference h) = from_null h
step_from_null null_reference = same

step_to_object : {pairs : List PlainPair} {s : PlainArg} → IsReferenceOrNull s → Step pairs s (given object_type)
step_to_object (reference h) = to_object h
step_to_object null_reference = from_null class_reference

pub to_step : {pairs : List PlainPair} {s t : PlainArg} → StepCases pairs s t → Step pairs s t
to_step {pairs} {s} {t} (inl e) = subst (Step pairs s) e same
to_step {pairs} {s} {t} (inr (inl h)) = subst (λ (a : PlainArg). Step pairs a t) (sym h.0) (step_from_null h.1)
to_step {pairs} {s} {t} (inr (inr (inl h))) = subst (Step pairs s) (sym h.1) (step_to_object h.0)
to_step {pairs} {s} {t} (inr (inr (inr h))) =
    subst (λ (a : PlainArg). Step pairs a t) h.2 (subst (Step pairs (given h.0.from)) h.3 (listed h.1))

pub of_step : {pairs : List PlainPair} {s t : PlainArg} → Step pairs s t → StepCases pairs s t
of_step same = inl refl
of_step (from_null h) = inr (inl (refl, reference h))
of_step (to_object h) = inr (inr (inl (reference h, refl)))
of_step (listed {p = p} h) = inr (inr (inr (p, h, refl, refl)))

pub steps_to-Decides : (pairs : List PlainPair) (s t : PlainArg) → Decides (steps_to pairs s t) (Step pairs s t)
unfolding steps_to
steps_to-Decides pairs s t =
    Decides-like (steps_to pairs s t) to_step of_step
    (Decides-or _ _ (same_arg-Decides s t)
    (Decides-or _ _ (Decides-and _ _ (is_null-Decides s) (is_object-Decides t))
    (Decides-or _ _ (Decides-and _ _ (is_object-Decides s) (is_type-Decides object_type t)) (is_listed-Decides pairs s t))))

-- ---- numbers and locals

pub in_range-Decides : (n : ℤ) → Decides (in_range n) (FitsSigned w32 n)
unfolding in_range
in_range-Decides (pos n) = (λ e. record { sfits = ltb-true _ _ e }, λ h. lt-ltb _ _ h.sfits)
in_range-Decides (negsuc n) = (λ e. record { sfits = ltb-true _ _ e }, λ h. lt-ltb _ _ h.sfits)

pub no_types-Decides : (ts : List PlainTy) → Decides (no_types ts) (ts ≡ [])
unfolding no_types
no_types-Decides [] = (λ e. refl, λ e. refl)
no_types-Decides (t ∷ ts) = (λ e. cc, λ e. cc)

pub is_this-Decides : (frame : Frame) (i : ℕ) → Decides (is_this frame i) (IsThis frame i)
unfolding is_this
is_this-Decides frame i = Decides-and _ _ (λ e. e, λ e. e) (eqb-true i 0, eq-eqb i 0)

-- the local with this number
pub at : (ts : List PlainTy) (i : ℕ) (s : PlainArg) → option_map given (slice_get ts i) ≡ Some s → (t : PlainTy) × (s ≡ given t) × At ts i t
at [] i s e = cc
at (t ∷ ts) zero s e = (t, cc, at_first)
at (t ∷ ts) (suc i) s e = let h = at ts i s e in (h.0, h.1, at_next h.2)

pub there : {ts : List PlainTy} {i : ℕ} {t : PlainTy} → At ts i t → option_map given (slice_get ts i) ≡ Some (given t)
there at_first = refl
there (at_next h) = there h

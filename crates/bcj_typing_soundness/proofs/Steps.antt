-- Steps from one type to another, and the pairs that list them.
use Rattle.std.proofs.Common.{◌≡◌, refl, sym, ap, subst, ◌⊎◌, inl, inr, ℕ, Bool, true, false, not, List, [], ◌∷◌, ◌++◌}
use Rattle.std.proofs.lemmas.Bool.{cases_Bool, and_parts, and_from}
use Rattle.bcj_symbolic_trees.specs.Types.{PlainTy, int_type, bool_type, void_type, class_type, array_type, PlainArg, given, null_arg}
use Rattle.bcj_symbolic_trees.specs.Units.{PlainPair}
use Rattle.bcj_symbolic_trees.specs.Names.{object_name}
use Rattle.bcj_symbolic_trees.specs.Same.{same_type}
use Rattle.bcj_symbolic_trees.proofs.SameLemmas.{same_type-Decides}
use Rattle.bcj_symbolic_check.specs.Typing.{IsReference, class_reference, array_reference, IsReferenceOrNull, reference, null_reference, IsValue, number_value, truth_value, reference_value, IsListed, listed_first, listed_behind, Step, same, from_null, to_object, listed}
use Rattle.bcj_decl_rules.specs.World.{World}
use Rattle.bcj_decl_rules.specs.Subtypes.{is_reference, Sub, Subtype, itself, of_class, of_component, of_array, Fits, typed, null}
use Rattle.bcj_typing_rules.specs.Operators.{is_value, is_object}
use Rattle.bcj_typing_rules.specs.Casting.{Steps, fits, both_null, uses, uses_between}
use Rattle.bcj_typing_rules.specs.Members.{object_type}
use Rattle.bcj_typing_soundness.specs.World.{names_type, IsKnown, IsKnownResult, no_result, a_result, IsKnownArg, known_type, AreSoundSteps, Covers}

-- ---- lists of pairs

-- a pair of the first list
pub listed_left : {p : PlainPair} {xs : List PlainPair} (ys : List PlainPair) → IsListed p xs → IsListed p (xs ++ ys)
listed_left ys listed_first = listed_first
listed_left ys (listed_behind h) = listed_behind (listed_left ys h)

-- a pair of the second
pub listed_right : {p : PlainPair} (xs : List PlainPair) {ys : List PlainPair} → IsListed p ys → IsListed p (xs ++ ys)
listed_right [] h = h
listed_right (x ∷ xs) h = listed_behind (listed_right xs h)

-- a pair of two lists is one of the first or of the second
pub listed_either : {p : PlainPair} (xs ys : List PlainPair) → IsListed p (xs ++ ys) → IsListed p xs ⊎ IsListed p ys
listed_either [] ys h = inr h
listed_either (x ∷ xs) ys listed_first = inl listed_first
listed_either (x ∷ xs) ys (listed_behind h) =
    elim (listed_either xs ys h) [ inl k ↦ inl (listed_behind k) | inr k ↦ inr k ]

-- the pairs hold the steps before
pub covers_left : {pairs : List PlainPair} (xs ys : List PlainPair) → Covers pairs (xs ++ ys) → Covers pairs xs
covers_left xs ys k p h = k p (listed_left ys h)

-- and those behind
pub covers_right : {pairs : List PlainPair} (xs ys : List PlainPair) → Covers pairs (xs ++ ys) → Covers pairs ys
covers_right xs ys k p h = k p (listed_right xs h)

-- no step is sound
pub none_sound : {w : World} → AreSoundSteps w []
none_sound p h = elim h [ ]

-- steps behind steps
pub both_sound : {w : World} {xs ys : List PlainPair} → AreSoundSteps w xs → AreSoundSteps w ys → AreSoundSteps w (xs ++ ys)
both_sound {w} {xs} {ys} f g p h = elim (listed_either xs ys h) [ inl k ↦ f p k | inr k ↦ g p k ]

-- ---- types

-- a class or an array
pub reference_of : (t : PlainTy) → is_reference t ≡ true → IsReference t
reference_of int_type h = cc
reference_of bool_type h = cc
reference_of void_type h = cc
reference_of (class_type name) h = class_reference
reference_of (array_type component) h = array_reference

-- the same the other way
pub is_reference_of : {t : PlainTy} → IsReference t → is_reference t ≡ true
is_reference_of class_reference = refl
is_reference_of array_reference = refl

-- one of these or null
pub object_of : (s : PlainArg) → is_object s ≡ true → IsReferenceOrNull s
object_of (given t) h = reference (reference_of t h)
object_of null_arg h = null_reference

-- anything but `void`
pub value_of : (s : PlainArg) → is_value s ≡ true → IsValue s
value_of (given int_type) h = number_value
value_of (given bool_type) h = truth_value
value_of (given void_type) h = cc
value_of (given (class_type name)) h = reference_value (reference class_reference)
value_of (given (array_type component)) h = reference_value (reference array_reference)
value_of null_arg h = reference_value null_reference

-- a type of values that is a result
pub known_reference : {w : World} {t : PlainTy} → IsKnownResult w t → is_reference t ≡ true → IsKnown w t
known_reference no_result h = cc
known_reference (a_result k) h = k

-- a result by the argument that it is
pub known_given : {w : World} {t : PlainTy} → IsKnownArg w (given t) → IsKnownResult w t
known_given (known_type k) = k

-- two types that aren't the same are references where one is a subtype of the other
pub apart_references : {w : World} {s t : PlainTy} → Subtype w s t → same_type s t ≡ false → (is_reference s ≡ true) × (is_reference t ≡ true)
apart_references {w} {s} itself h =
    let e : same_type s s ≡ true = (same_type-Decides s s).1 refl in cc
apart_references (of_class k) h = (refl, refl)
apart_references (of_component r k) h = (refl, refl)
apart_references of_array h = (refl, refl)

-- ---- steps that are used

not_false : (b : Bool) → not b ≡ true → b ≡ false
not_false false h = refl
not_false true h = cc

abbrev pair : PlainTy → PlainTy → PlainPair
pair s t = record { from = s; to = t }

sub_step : {w : World} {s t : PlainTy} {pairs : List PlainPair} → Subtype w s t → Covers pairs (pair s t ∷ []) → Step pairs (given s) (given t)
sub_step {w} {s} {t} {pairs} k covers =
    elim (cases_Bool (same_type s t)) [
      | inl e ↦
          let P : PlainTy → Type 0 = λ u. Step pairs (given s) (given u) in subst P ((same_type-Decides s t).0 e) same
      | inr e ↦
          elim (cases_Bool (same_type t object_type)) [
            | inl o ↦
                let P : PlainTy → Type 0 = λ u. Step pairs (given s) (given u) in
                subst P (sym ((same_type-Decides t object_type).0 o)) (to_object (reference_of s (apart_references k e).0))
            | inr o ↦ listed (covers (pair s t) listed_first (and_from (not (same_type s t)) (not (same_type t object_type)) (ap not e) (ap not o)))
          ]
    ]

-- what fits a type steps to it by the pairs that it uses
pub fits_step : {w : World} {s : PlainArg} {t : PlainTy} {pairs : List PlainPair} → Fits w s t → Covers pairs (uses s t) → Step pairs s (given t)
fits_step (typed k) covers = sub_step k covers
fits_step {t = t} (null r) covers = from_null (reference_of t r)

-- the pairs that are used are of types that are there
pub uses_sound : {w : World} {s : PlainArg} {t : PlainTy} → IsKnownArg w s → (is_reference t ≡ true → IsKnown w t) → Fits w s t → AreSoundSteps w (uses s t)
uses_sound {s = given s} {t = t} ks kt (typed k) p listed_first is =
    let apart : same_type s t ≡ false = not_false (same_type s t) (and_parts (not (same_type s t)) (not (same_type t object_type)) is).0 in
    let references : (is_reference s ≡ true) × (is_reference t ≡ true) = apart_references k apart in
    record { from = known_reference (known_given ks) references.0; to = kt references.1; below = k }
uses_sound ks kt (typed k) p (listed_behind h) is = elim h [ ]
uses_sound ks kt (null r) p h is = elim h [ ]

-- ---- steps of a choice

-- the part of a choice steps to the other
pub steps_step : {w : World} {s t : PlainArg} {pairs : List PlainPair} → Steps w s t → Covers pairs (uses_between s t) → Step pairs s t
steps_step (fits k) covers = fits_step k covers
steps_step both_null covers = same

-- the pairs of a choice are of types that are there
pub between_sound : {w : World} {s t : PlainArg} → IsKnownArg w s → IsKnownArg w t → Steps w s t → AreSoundSteps w (uses_between s t)
between_sound ks kt (fits k) = uses_sound ks (known_reference (known_given kt)) k
between_sound ks kt both_null = none_sound

module _ {w : World} (below_object : (name : List ℕ) → names_type w (class_type name) ≡ true → Sub w name object_name) where
  below : {s : PlainTy} → IsKnownResult w s → IsReference s → Fits w (given s) object_type
  below k array_reference = typed of_array
  below (a_result k) (class_reference {name = name}) = typed (of_class (below_object name k.named))

  -- a step by pairs to supertypes is one to a supertype
  pub step_steps : {s t : PlainArg} {pairs : List PlainPair} → ((p : PlainPair) → IsListed p pairs → Subtype w p.from p.to) → IsKnownArg w s → Step pairs s t → Steps w s t
  step_steps {s = given s} sound k same = fits (typed itself)
  step_steps {s = null_arg} sound k same = both_null
  step_steps sound k (from_null r) = fits (null (is_reference_of r))
  step_steps sound k (to_object r) = fits (below (known_given k) r)
  step_steps sound k (listed {p = p} h) = fits (typed (sound p h))

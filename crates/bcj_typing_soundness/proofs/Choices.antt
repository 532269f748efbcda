-- Casts and choices of two values are typed.
use Rattle.std.proofs.Common.{◌≡◌, refl, true, List}
use Rattle.bcj_symbolic_trees.specs.Trees as tree
use Rattle.bcj_symbolic_trees.specs.Types.{PlainTy, int_type, bool_type, void_type, class_type, array_type, PlainArg, given, null_arg}
use Rattle.bcj_symbolic_trees.specs.Units.{PlainPair}
use Rattle.bcj_symbolic_check.specs.Judgements.{Frame}
use Rattle.bcj_symbolic_check.specs.Typing as typing
use Rattle.bcj_symbolic_check.specs.Typing.{HasElement, IsValue, IsListed, Step, HasType, Joined}
use Rattle.bcj_decl_rules.specs.World.{World}
use Rattle.bcj_decl_rules.specs.Subtypes.{is_reference, Subtype, itself, of_class, of_component, of_array, Fits, typed, null}
use Rattle.bcj_typing_rules.specs.Context.{Context, world_at}
use Rattle.bcj_typing_rules.specs.Operators.{is_value}
use Rattle.bcj_typing_rules.specs.Casting.{Steps, fits, both_null, CastForm, CastAs, to_same, to_supertype, to_other, to_none, Join, Joins, joins_second, joins_first, void_parts, joins_none}
use Rattle.bcj_typing_rules.specs.Expressions.{cast_tree, cast_steps, is_cast, is_joined, joined_type, joined_steps}
use Rattle.bcj_typing_soundness.specs.World.{IsKnown, IsKnownArg, WorldIsSound, AreSoundSteps, Covers}
use Rattle.bcj_typing_soundness.proofs.Steps.{none_sound, reference_of, value_of, fits_step, uses_sound, steps_step, between_sound, step_steps}
use Rattle.bcj_typing_soundness.proofs.Operations.{together_references}

-- ---- what fits a type of values is a value

reference_value : (t : PlainTy) → is_reference t ≡ true → is_value (given t) ≡ true
reference_value (class_type n) h = refl
reference_value (array_type t) h = refl
reference_value int_type h = cc
reference_value bool_type h = cc
reference_value void_type h = cc

element_value : {t : PlainTy} → HasElement t → is_value (given t) ≡ true
element_value typing.int_element = refl
element_value typing.bool_element = refl
element_value (typing.class_element n) = refl
element_value (typing.array_element h) = refl

below_value : {w : World} {s t : PlainTy} → Subtype w s t → is_value (given t) ≡ true → is_value (given s) ≡ true
below_value itself h = h
below_value (of_class k) h = refl
below_value (of_component r k) h = refl
below_value of_array h = refl

above_value : {w : World} {s t : PlainTy} → Subtype w s t → is_value (given s) ≡ true → is_value (given t) ≡ true
above_value itself h = h
above_value (of_class k) h = refl
above_value (of_component r k) h = refl
above_value of_array h = refl

fitting_value : {w : World} {s : PlainArg} {t : PlainTy} → is_value (given t) ≡ true → Fits w s t → is_value s ≡ true
fitting_value h (typed k) = below_value k h
fitting_value h (null r) = refl

-- what fits a type of values
pub fits_value : {w : World} {s : PlainArg} {t : PlainTy} → IsKnown w t → Fits w s t → IsValue s
fits_value {s = s} k f = value_of s (fitting_value (element_value k.value.element) f)

steps_value : {w : World} {s t : PlainArg} → is_value s ≡ true → Steps w s t → is_value t ≡ true
steps_value h (fits (typed k)) = above_value k h
steps_value h (fits (null {t = t} r)) = reference_value t r
steps_value h both_null = refl

void_above : {w : World} {t : PlainTy} → Subtype w void_type t → Steps w (given t) (given void_type)
void_above itself = fits (typed itself)

void_steps : {w : World} {t : PlainArg} → Steps w (given void_type) t → Steps w t (given void_type)
void_steps (fits (typed k)) = void_above k

-- what steps to a value that doesn't step back is one
one_way_value : {w : World} (s t : PlainArg) → (Steps w s t → ⊥) → Steps w t s → is_value t ≡ true
one_way_value s (given int_type) n k = refl
one_way_value s (given bool_type) n k = refl
one_way_value s (given void_type) n k = absurd (n (void_steps k))
one_way_value s (given (class_type x)) n k = refl
one_way_value s (given (array_type t)) n k = refl
one_way_value s null_arg n k = refl

-- ---- casts

other_reference : {w : World} {s : PlainArg} {t : PlainTy} → (s ≡ given t → ⊥) → Fits w s t → is_reference t ≡ true
other_reference n (typed itself) = absurd (n refl)
other_reference n (typed (of_class k)) = refl
other_reference n (typed (of_component r k)) = refl
other_reference n (typed of_array) = refl
other_reference n (null r) = r

-- a cast by its form
pub cast_has : {w : World} {frame : Frame} {s : PlainArg} {t : PlainTy} {form : CastForm} {e : tree.PlainExpr} → CastAs w s t form → is_cast form ≡ true → IsKnown w t → Covers frame.pairs (cast_steps form s t)
    → HasType frame e s → HasType frame (cast_tree form t e) (given t)
cast_has to_same h k covers x = x
cast_has {t = t} (to_supertype n f) h k covers x = typing.widen (reference_of t (other_reference n f)) k.value x (fits_step f covers)
cast_has {t = t} (to_other n g) h k covers x = let p = together_references g in typing.cast (reference_of t p.1) k.value x p.0
cast_has (to_none n m) h k covers x = cc

-- the steps of a cast
pub cast_sound : {w : World} {s : PlainArg} {t : PlainTy} {form : CastForm} → CastAs w s t form → IsKnown w t → IsKnownArg w s → AreSoundSteps w (cast_steps form s t)
cast_sound to_same k x = none_sound
cast_sound (to_supertype n f) k x = uses_sound x (λ r. k) f
cast_sound (to_other n g) k x = none_sound
cast_sound (to_none n m) k x = none_sound

-- ---- choices

-- both parts are values, of which the one steps to the other
pub record IsJoinedAs (w : World) (s t : PlainArg) (j : Join) : Type 0 where
  pub first : IsValue s
  pub second : IsValue t
  pub sound : IsKnownArg w s → IsKnownArg w t → AreSoundSteps w (joined_steps j s t)
  pub known : IsKnownArg w s → IsKnownArg w t → IsKnownArg w (joined_type j s t)
  pub joins : (pairs : List PlainPair) → ((p : PlainPair) → IsListed p pairs → Subtype w p.from p.to) → IsKnownArg w s → Covers pairs (joined_steps j s t) → Joined pairs s t (joined_type j s t)

-- the parts of a choice
pub joined_as : (c : Context) → WorldIsSound c.units → {s t : PlainArg} {j : Join} → Joins (world_at c) s t j → is_joined j ≡ true → IsJoinedAs (world_at c) s t j
joined_as c sound {s} {t} (joins_second v k) h =
    record {
      first = value_of s v;
      second = value_of t (steps_value v k);
      sound = λ x y. between_sound x y k;
      known = λ x y. y;
      joins = λ pairs below x covers. typing.to_second (steps_step k covers);
    }
joined_as c sound {s} {t} (joins_first n k) h =
    let v = one_way_value s t n k in
    record {
      first = value_of s (steps_value v k);
      second = value_of t v;
      sound = λ x y. between_sound y x k;
      known = λ x y. x;
      joins = λ pairs below x covers. typing.to_first (λ u. n (step_steps sound.below_object below x u)) (steps_step k covers);
    }
joined_as c sound (void_parts n k) h = cc
joined_as c sound (joins_none n m) h = cc

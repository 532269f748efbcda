-- Conversions between types (JLS 5.2, 5.5, 15.25), by subtyping alone.
use Rattle.std.specs.Prelude.{◌≡◌, true, List, [], ◌∷◌, Some}
use Rattle.bcj_symbolic_trees.specs.Types.{PlainTy, class_type, array_type, PlainArg, given, null_arg}
use Rattle.bcj_symbolic_trees.specs.Units.{PlainPair}
use Rattle.bcj_decl_rules.specs.World.{Named, Declared, World, type_named}
use Rattle.bcj_decl_rules.specs.Subtypes.{is_reference, Subtype, Fits}
use Rattle.bcj_typing_rules.specs.Operators.{is_value, is_object}

-- One reference type can be cast to the other (JLS 5.5.1). No class is final, so a class and an interface always go together, and
-- so do two interfaces.
pub data Castable (w : World) : PlainTy → PlainTy → Type 0 where
  up : {s t : PlainTy} → is_reference s ≡ true → Subtype w s t → Castable w s t
  down : {s t : PlainTy} → is_reference t ≡ true → Subtype w t s → Castable w s t
  to_interface : {s t : Named} (d : Declared) → type_named w t ≡ Some d → d.interface ≡ true → Castable w (class_type s) (class_type t)
  from_interface : {s t : Named} (d : Declared) → type_named w s ≡ Some d → d.interface ≡ true → Castable w (class_type s) (class_type t)
  of_components : {s t : PlainTy} → Castable w s t → Castable w (array_type s) (array_type t)

-- the same of types of values, where that of null goes with every reference
pub data GoTogether (w : World) : PlainArg → PlainArg → Type 0 where
  two_types : {s t : PlainTy} → Castable w s t → GoTogether w (given s) (given t)
  null_first : {t : PlainArg} → is_object t ≡ true → GoTogether w null_arg t
  null_second : {s : PlainArg} → is_object s ≡ true → GoTogether w s null_arg

-- ---- casts (JLS 15.16)

-- what a cast is: nothing where the type is the same, a subtype step where it is a supertype's, or a test
pub data CastForm : Type 0 where
  of_same : CastForm
  of_supertype : CastForm
  of_other : CastForm
  no_cast : CastForm

pub data CastAs (w : World) : PlainArg → PlainTy → CastForm → Type 0 where
  to_same : {t : PlainTy} → CastAs w (given t) t of_same
  to_supertype : {s : PlainArg} {t : PlainTy} → (s ≡ given t → ⊥) → Fits w s t → CastAs w s t of_supertype
  to_other : {s : PlainArg} {t : PlainTy} → (Fits w s t → ⊥) → GoTogether w s (given t) → CastAs w s t of_other
  to_none : {s : PlainArg} {t : PlainTy} → (Fits w s t → ⊥) → (GoTogether w s (given t) → ⊥) → CastAs w s t no_cast

-- ---- a choice of two values (JLS 15.25)

pub data Steps (w : World) : PlainArg → PlainArg → Type 0 where
  fits : {s : PlainArg} {t : PlainTy} → Fits w s t → Steps w s (given t)
  both_null : Steps w null_arg null_arg

-- the second's type where the first steps to it, else the first's where the second does
pub data Join : Type 0 where
  to_second : Join
  to_first : Join
  apart : Join

pub data Joins (w : World) (s t : PlainArg) : Join → Type 0 where
  joins_second : is_value s ≡ true → Steps w s t → Joins w s t to_second
  joins_first : (Steps w s t → ⊥) → Steps w t s → Joins w s t to_first
  void_parts : (is_value s ≡ true → ⊥) → Steps w s t → Joins w s t apart
  joins_none : (Steps w s t → ⊥) → (Steps w t s → ⊥) → Joins w s t apart

-- ---- the steps that are used

-- from null there is none to list
abbrev pub uses : PlainArg → PlainTy → List PlainPair
uses (given s) t = record { from = s; to = t } ∷ []
uses null_arg t = []

abbrev pub uses_between : PlainArg → PlainArg → List PlainPair
uses_between s (given t) = uses s t
uses_between s null_arg = []

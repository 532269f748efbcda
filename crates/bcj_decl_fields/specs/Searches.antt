-- What the searches go over, as lists of types and as lists of places.
use Rattle.std.specs.Prelude.{ℕ, zero, suc, Bool, true, false, ◌||◌, List, [], ◌∷◌, length, Option, None, Some, slice_get}
use Rattle.std.specs.List.{list_any}
use Rattle.std.specs.Option.{option_and_then, option_map_or}
use Rattle.std.specs.Str.{bytes_eq}
use Rattle.bcj_symbolic_trees.specs.Types.{PlainTy, int_type, bool_type, void_type, class_type, array_type, PlainArg, given, null_arg}
use Rattle.bcj_symbolic_trees.specs.Names.{object_name}
use Rattle.bcj_decl_rules.specs.World.{Named, Declared, World, type_named, is_named}
use Rattle.bcj_decl_rules.specs.Subtypes.{is_reference}
use Rattle.bcj_decl_rules.specs.function.Above.{types_searched}
use Rattle.bcj_decl_listing.specs.Places.{place_of}
use Rattle.bcj_decl_orders.specs.Orders.{list_at}

-- the superclasses from a name up
abbrev pub superclasses : ℕ → World → Option Named → List Declared
superclasses zero w name = []
superclasses (suc n) w None = []
superclasses (suc n) w (Some name) = elim (type_named w name) [ None ↦ [] | Some t ↦ t ∷ superclasses n w t.superclass ]

-- ---- by places

-- the place of the superclass of the type at a place
abbrev pub superclass_place : World → ℕ → Option ℕ
superclass_place w k = option_and_then (λ t. option_and_then (place_of w) t.superclass) (slice_get w k)

-- the places from a class up
abbrev pub places_up : ℕ → World → Option ℕ → List ℕ
places_up zero w place = []
places_up (suc n) w None = []
places_up (suc n) w (Some k) = k ∷ places_up n w (superclass_place w k)

-- ---- subtypes

-- whether the type at a place has the name
abbrev pub is_named_at : World → Named → ℕ → Bool
is_named_at w name k = option_map_or (is_named name) (slice_get w k) false

-- whether the class at a place, or an interface over it, has the name
abbrev pub meets : World → List (List ℕ) → Named → ℕ → Bool
meets w orders name k = is_named_at w name k || list_any (is_named_at w name) (list_at orders k)

-- the same of the classes from a place up
abbrev pub any_meets : World → List (List ℕ) → Named → ℕ → Option ℕ → Bool
any_meets w orders name n place = list_any (meets w orders name) (places_up n w place)

-- whether a type of the name stands above the type at a place or is it; Object stands above all
abbrev pub is_above : World → List (List ℕ) → Named → ℕ → Bool
is_above w orders name k = bytes_eq name object_name || (meets w orders name k || any_meets w orders name (length w) (superclass_place w k))

-- whether a named type is the other, or the other stands above it; Object stands above all
abbrev pub is_sub : World → Named → Named → Bool
is_sub w s t = bytes_eq s t || option_map_or (λ u. bytes_eq t object_name || list_any (is_named t) (types_searched w u)) (type_named w s) false

-- the same of all types
abbrev pub is_subtype : World → PlainTy → PlainTy → Bool
is_subtype w int_type int_type = true
is_subtype w bool_type bool_type = true
is_subtype w void_type void_type = true
is_subtype w (class_type s) (class_type t) = is_sub w s t
is_subtype w (array_type s) (array_type t) = is_subtype w s t
is_subtype w (array_type s) (class_type t) = bytes_eq t object_name
is_subtype w _ _ = false

abbrev pub does_fit : World → PlainArg → PlainTy → Bool
does_fit w (given s) t = is_subtype w s t
does_fit w null_arg t = is_reference t

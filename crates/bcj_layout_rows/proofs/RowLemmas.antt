-- The rows of types that load stand before those of array types.
use Rattle.std.proofs.Common.{◌≡◌, refl, ap, ◌∙◌, ◌+◌, Bool, true, false, List, [], ◌∷◌, ◌++◌, map, length, position, Option, Some, None, if◌then◌else◌}
use Rattle.std.specs.Option.{option_map, option_or}
use Rattle.std.specs.List.{fold, list_any, AllByRecursion}
use Rattle.bcj_symbolic_trees.specs.Types.{PlainTy, int_type, bool_type, void_type, class_type, array_type}
use Rattle.bcj_symbolic_trees.specs.Same.{same_type}
use Rattle.bcj_hier_rules.specs.Shapes.{Named}
use Rattle.bcj_layout_rules.specs.Rows.{Classes, arrays_in, with_type, with_arrays, mentioned, arguments_type, element_loads, array_types, loaded}
use Rattle.std.proofs.lemmas.List.{length-map}
use Rattle.bcj_layout_rows.specs.Laws as law
use Rattle.bcj_layout_rows.proofs.ListLemmas.{each-push, each-kept, position-append, position-none, position-made}

-- ---- no class is an array type

-- each is another type than this class
abbrev not-this : Named → List PlainTy → Type 0
not-this name = AllByRecursion (λ t. same_type (class_type name) t ≡ false)

-- the array types of a type
arrays-apart : (name : Named) (t : PlainTy) → not-this name (arrays_in t)
arrays-apart name int_type = tt
arrays-apart name bool_type = tt
arrays-apart name void_type = tt
arrays-apart name (class_type other) = tt
arrays-apart name (array_type component) = each-push (λ t. same_type (class_type name) t ≡ false) (arrays_in component) (array_type component) (arrays-apart name component) refl

-- one type more
type-apart : (name : Named) (types : List PlainTy) (t : PlainTy) → not-this name types → same_type (class_type name) t ≡ false → not-this name (with_type types t)
type-apart name types t h other = by (list_any (same_type t) types)
  where
    by : (b : Bool) → not-this name (if b then types else types ++ t ∷ [])
    by true = h
    by false = each-push (λ t. same_type (class_type name) t ≡ false) types t h other

-- several types more
types-apart : (name : Named) (types ts : List PlainTy) → not-this name types → not-this name ts → not-this name (fold with_type types ts)
types-apart name types [] h others = h
types-apart name types (t ∷ ts) h others = types-apart name (with_type types t) ts (type-apart name types t h others.0) others.1

-- the array types of several types more
all-apart : (name : Named) (types ts : List PlainTy) → not-this name types → not-this name (fold with_arrays types ts)
all-apart name types [] h = h
all-apart name types (t ∷ ts) h = all-apart name (with_arrays types t) ts (types-apart name types (arrays_in t) h (arrays-apart name t))

-- a class has no place among the array types
no-class : (cs : Classes) (name : Named) → position (same_type (class_type name)) (array_types cs) ≡ None
no-class cs name =
    position-none (same_type (class_type name)) (array_types cs)
    (each-kept (λ t. same_type (class_type name) t ≡ false) (element_loads cs) (fold with_arrays [] (mentioned cs ++ arguments_type ∷ [])) (all-apart name [] (mentioned cs ++ arguments_type ∷ []) tt))

-- so its row is one of those of the types that load
pub classes_first : law.ClassesFirst
classes_first cs name =
    position-append (same_type (class_type name)) (map class_type (loaded cs)) (array_types cs)
    ∙ (ap (λ o. option_or (position (same_type (class_type name)) (map class_type (loaded cs))) (option_map (λ k. length (map class_type (loaded cs)) + k) o)) (no-class cs name)
    ∙ (alone (position (same_type (class_type name)) (map class_type (loaded cs))) ∙ position-made class_type (same_type (class_type name)) (loaded cs)))
  where
    alone : {A : Type 0} (o : Option A) → option_or o None ≡ o
    alone None = refl
    alone (Some x) = refl

-- ---- and no array type is a class

-- an array type is none of the types that load
no-array : (component : PlainTy) (names : List Named) → AllByRecursion (λ t. same_type (array_type component) t ≡ false) (map class_type names)
no-array component [] = tt
no-array component (n ∷ ns) = (refl, no-array component ns)

-- so its row is one of those behind them
pub arrays_behind : law.ArraysBehind
arrays_behind cs component =
    position-append (same_type (array_type component)) (map class_type (loaded cs)) (array_types cs)
    ∙ (ap (λ o. option_or o (option_map (λ k. length (map class_type (loaded cs)) + k) (position (same_type (array_type component)) (array_types cs)))) (position-none (same_type (array_type component)) (map class_type (loaded cs)) (no-array component (loaded cs)))
    ∙ ap (λ n. option_map (λ k. n + k) (position (same_type (array_type component)) (array_types cs))) (length-map (loaded cs) class_type))

-- both count places from 1
pub numbered_from_one : law.NumberedFromOne
numbered_from_one cs r = refl

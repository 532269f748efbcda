-- Which types load (JVMS 5.3.5), and the steps between those that do. A search goes over names; it takes as many turns as the mixture has types
-- and one more, which is enough, since no name comes twice on a way.
use Rattle.std.specs.Prelude.{◌≡◌, ℕ, zero, suc, Bool, true, false, not, ◌&&◌, ◌||◌, List, [], ◌∷◌, ◌++◌, length, Option, None, Some, if◌then◌else◌}
use Rattle.std.specs.List.{list_any}
use Rattle.std.specs.Option.{option_or, option_map_or}
use Rattle.std.specs.Str.{bytes_eq}
use Rattle.bcj_hier_rules.specs.declared.link_error.LinkError.{LinkError}
use Rattle.bcj_hier_rules.specs.declared.link_error.LinkError.TheVariants as error
use Rattle.bcj_hier_rules.specs.Shapes.{Named, Shape, Mixture, found}

abbrev pub is_interface : Mixture → Named → Bool
is_interface m name = option_map_or (λ s. s.head.interface) (found m name) false

-- the turns of a search
abbrev pub turns : Mixture → ℕ
turns m = suc (length m)

-- ---- loading

abbrev pub error_where : Bool → LinkError → Option LinkError
error_where wrong e = if wrong then Some e else None

module _ (m : Mixture) where
  -- the superclass loads, and is a class
  abbrev pub superclass_error : (Named → Option LinkError) → Option Named → Option LinkError
  superclass_error load None = None
  superclass_error load (Some name) = option_or (load name) (error_where (is_interface m name) error.IncompatibleClassChange)

  -- each superinterface loads, and is an interface
  abbrev pub interfaces_error : (Named → Option LinkError) → List Named → Option LinkError
  interfaces_error load [] = None
  interfaces_error load (name ∷ rest) =
      option_or (option_or (load name) (error_where (not (is_interface m name)) error.IncompatibleClassChange)) (interfaces_error load rest)

  abbrev pub head_error : (Named → Option LinkError) → Shape → Option LinkError
  head_error load s = option_or (superclass_error load s.head.superclass) (interfaces_error load s.head.interfaces)

  -- with the names that are on the way
  abbrev pub load_within : ℕ → List Named → Named → Option LinkError
  load_within zero way name = Some error.ClassCircularity
  load_within (suc n) way name = elim (found m name) [
    | None ↦ Some error.NoClassDefFound
    | Some s ↦ if list_any (bytes_eq name) way then Some error.ClassCircularity else head_error (load_within n (name ∷ way)) s
  ]

  -- why a type doesn't load; none where it does
  abbrev pub load_error : Named → Option LinkError
  load_error name = load_within (turns m) [] name

-- ---- steps between types

-- superclass steps lead from a class to a class, in none or more
pub data Below (m : Mixture) : Named → Named → Type 0 where
  same : {c : Named} {s : Shape} → found m c ≡ Some s → s.head.interface ≡ false → Below m c c
  step : {c p d : Named} {s : Shape} → found m c ≡ Some s → s.head.interface ≡ false → s.head.superclass ≡ Some p → Below m p d → Below m c d

-- a step to a supertype
pub data Super (s : Shape) : Named → Type 0 where
  superclass : {p : Named} → s.head.superclass ≡ Some p → Super s p
  interface : {i : Named} (front back : List Named) → s.head.interfaces ≡ front ++ i ∷ back → Super s i

-- superclass and superinterface steps lead from a type to an interface
pub data Implements (m : Mixture) : Named → Named → Type 0 where
  self : {i : Named} {s : Shape} → found m i ≡ Some s → s.head.interface ≡ true → Implements m i i
  through : {c p i : Named} {s : Shape} → found m c ≡ Some s → Super s p → Implements m p i → Implements m c i

-- ---- the same by search

module _ (m : Mixture) where
  abbrev pub below_within : ℕ → Named → Named → Bool
  below_within zero c d = false
  below_within (suc n) c d = elim (found m c) [
    | None ↦ false
    | Some s ↦ not s.head.interface && (bytes_eq c d || option_map_or (λ p. below_within n p d) s.head.superclass false)
  ]

  abbrev pub is_below : Named → Named → Bool
  is_below = below_within (turns m)

  abbrev pub implements_within : ℕ → Named → Named → Bool
  implements_within zero c i = false
  implements_within (suc n) c i = elim (found m c) [
    | None ↦ false
    | Some s ↦ s.head.interface && bytes_eq c i
        || (option_map_or (λ p. implements_within n p i) s.head.superclass false || list_any (λ p. implements_within n p i) s.head.interfaces)
  ]

  abbrev pub implements : Named → Named → Bool
  implements = implements_within (turns m)

-- What makes searches of a world end.
use Rattle.std.specs.Prelude.{◌≡◌, ◌≤◌, ℕ, List, Option, length}
use Rattle.bcj_parser_trees.specs.Trees.{PlainUnit}
use Rattle.bcj_decl_rules.specs.World.{Named, Declared, World, world_of}
use Rattle.bcj_decl_rules.specs.Members.{superclasses_above, interfaces_above}
use Rattle.bcj_decl_rules.specs.Faults.{IsDeclared}
use Rattle.bcj_decl_rules.specs.function.Above.{IsAcyclic, types_above}

-- where nothing is refused, no type stands above itself
abbrev pub DeclaredWorldsAreAcyclic : Type 0
DeclaredWorldsAreAcyclic = (units : List PlainUnit) → IsDeclared units → IsAcyclic (world_of units)

-- with as many steps as the world has types, a search finds what it finds with more
abbrev pub TypesAboveEnd : Type 0
TypesAboveEnd = (w : World) → IsAcyclic w → (n : ℕ) → length w ≤ n → (names : List Named) → types_above n w names ≡ types_above (length w) w names

-- the same of the superclasses
abbrev pub SuperclassesEnd : Type 0
SuperclassesEnd =
    (w : World) → IsAcyclic w → (n : ℕ) → length w ≤ n → (way : List Declared) (name : Option Named) → superclasses_above n w way name ≡ superclasses_above (length w) w way name

-- and of the superinterfaces with their ways
abbrev pub InterfacesEnd : Type 0
InterfacesEnd =
    (w : World) → IsAcyclic w → (n : ℕ) → length w ≤ n → (way : List Declared) (names : List Named) → interfaces_above n w way names ≡ interfaces_above (length w) w way names

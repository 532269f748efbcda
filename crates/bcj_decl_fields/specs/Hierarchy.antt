-- What a search needs of a world besides that no type stands above itself. Each declared world has it.
use Rattle.std.specs.Prelude.{◌≡◌, true, false, map, None, Some}
use Rattle.std.specs.List.{Contains, All}
use Rattle.bcj_symbolic_trees.specs.Names.{object_name}
use Rattle.bcj_decl_rules.specs.World.{Named, Declared, World, type_named, has_type}
use Rattle.bcj_decl_rules.specs.Subtypes.{StepsTo, Sub}
use Rattle.bcj_decl_rules.specs.Faults.{stands_twice}

-- a step leads to a type of the world
abbrev pub HeadsAreKnown : World → Type 0
HeadsAreKnown w = (s u : Named) → StepsTo w s u → has_type w u ≡ true

-- from each type a chain of steps leads to Object
abbrev pub AllReachObject : World → Type 0
AllReachObject w = (s : Named) → has_type w s ≡ true → Sub w s object_name

-- Object steps nowhere
abbrev pub ObjectIsTop : World → Type 0
ObjectIsTop w = (t : Named) → StepsTo w object_name t → ⊥

-- what a type names as its interface is one
abbrev pub InterfacesAreInterfaces : World → Type 0
InterfacesAreInterfaces w = (s : Named) (t : Declared) → type_named w s ≡ Some t → (name : Named) (u : Declared) → Contains t.interfaces name → type_named w name ≡ Some u → u.interface ≡ true

-- an interface has no superclass
abbrev pub InterfacesExtendNoClass : World → Type 0
InterfacesExtendNoClass w = (s : Named) (t : Declared) → type_named w s ≡ Some t → t.interface ≡ true → t.superclass ≡ None

pub record IsHierarchy (w : World) : Type 0 where
  pub known : HeadsAreKnown w
  pub reach : AllReachObject w
  pub top : ObjectIsTop w
  pub interfaces : InterfacesAreInterfaces w
  pub no_class : InterfacesExtendNoClass w

-- ---- fields

-- a field of an interface isn't private
abbrev pub InterfaceFieldsAreOpen : World → Type 0
InterfaceFieldsAreOpen w = (s : Named) (t : Declared) → type_named w s ≡ Some t → t.interface ≡ true → All (λ f. f.is_private ≡ false) t.fields

-- no type has two fields of one name
abbrev pub FieldsStandOnce : World → Type 0
FieldsStandOnce w = (s : Named) (t : Declared) → type_named w s ≡ Some t → stands_twice (map (λ f. f.name) t.fields) ≡ false

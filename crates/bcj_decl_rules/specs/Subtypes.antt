-- Subtypes (JLS 4.10) by chains of named steps.
use Rattle.std.specs.Prelude.{◌≡◌, Bool, true, false, List, [], ◌∷◌, ◌++◌, Some}
use Rattle.std.specs.List.{Contains}
use Rattle.std.specs.Option.{option_to_list}
use Rattle.bcj_symbolic_trees.specs.Types.{PlainTy, class_type, array_type, PlainArg, given, null_arg}
use Rattle.bcj_symbolic_trees.specs.Names.{object_name}
use Rattle.bcj_decl_rules.specs.World.{Named, Declared, World, type_named}

-- what a type steps to: its superclass and its superinterfaces, and an interface without superinterfaces to Object (JLS 4.10.2)
abbrev pub or_object : Bool → List Named → List Named
or_object true [] = object_name ∷ []
or_object _ names = names

abbrev pub direct_supertypes : Declared → List Named
direct_supertypes t = option_to_list t.superclass ++ or_object t.interface t.interfaces

-- one step in the world
pub record StepsTo (w : World) (s t : Named) : Type 0 where
  pub type : Declared
  pub is_it : type_named w s ≡ Some type
  pub names_it : Contains (direct_supertypes type) t

-- `sub`: a chain of steps, which may be empty
pub data Sub (w : World) : Named → Named → Type 0 where
  same : {s : Named} → Sub w s s
  through : {s u t : Named} → StepsTo w s u → Sub w u t → Sub w s t

-- a chain of one step at least
pub record ProperSub (w : World) (s t : Named) : Type 0 where
  pub between : Named
  pub first : StepsTo w s between
  pub rest : Sub w between t

abbrev pub is_reference : PlainTy → Bool
is_reference (class_type name) = true
is_reference (array_type component) = true
is_reference _ = false

-- subtypes of all types: a class or interface by a chain; an array of references by its component (JLS 4.10.3), every array of Object
pub data Subtype (w : World) : PlainTy → PlainTy → Type 0 where
  itself : {t : PlainTy} → Subtype w t t
  of_class : {s t : Named} → Sub w s t → Subtype w (class_type s) (class_type t)
  of_component : {s t : PlainTy} → is_reference s ≡ true → Subtype w s t → Subtype w (array_type s) (array_type t)
  of_array : {s : PlainTy} → Subtype w (array_type s) (class_type object_name)

-- an argument fits a parameter (JLS 15.12.2.2, by subtyping alone)
pub data Fits (w : World) : PlainArg → PlainTy → Type 0 where
  typed : {s t : PlainTy} → Subtype w s t → Fits w (given s) t
  null : {t : PlainTy} → is_reference t ≡ true → Fits w null_arg t

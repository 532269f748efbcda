-- What a declared world of well-formed units gives the typing of bodies: each type that is named there is one of values whose class
-- names are names of types, and so are the types of fields and methods.
use Rattle.std.specs.Prelude.{◌≡◌, Bool, true, List, [], Some}
use Rattle.std.specs.List.{Contains}
use Rattle.bcj_parser_trees.specs.Trees as source
use Rattle.bcj_symbolic_trees.specs.Types.{PlainTy, void_type, class_type, array_type, PlainArg, given, null_arg}
use Rattle.bcj_symbolic_trees.specs.Units.{PlainPair}
use Rattle.bcj_symbolic_trees.specs.Names.{object_name, throwable_name, constructor_name}
use Rattle.bcj_names.specs.Identifiers.{is_identifier}
use Rattle.bcj_symbolic_check.specs.Typing.{IsValueType, Each, IsListed}
use Rattle.bcj_decl_rules.specs.World.{Named, Field, Method, Declared, World, world_of, type_named, has_type}
use Rattle.bcj_decl_rules.specs.Subtypes.{Sub, Subtype}
use Rattle.bcj_decl_rules.specs.Members.{field_of, methods_of_type}
use Rattle.bcj_typing_rules.specs.Members.{is_listed}

-- ---- types

-- the class name in a type, where it has one, is that of a type
abbrev pub names_type : World → PlainTy → Bool
names_type w (class_type name) = has_type w name
names_type w (array_type component) = names_type w component
names_type w _ = true

-- a type of values that is there
pub record IsKnown (w : World) (t : PlainTy) : Type 0 where
  pub value : IsValueType t
  pub named : names_type w t ≡ true

-- the same of a result
pub data IsKnownResult (w : World) : PlainTy → Type 0 where
  no_result : IsKnownResult w void_type
  a_result : {t : PlainTy} → IsKnown w t → IsKnownResult w t

-- the type of an expression
pub data IsKnownArg (w : World) : PlainArg → Type 0 where
  known_type : {t : PlainTy} → IsKnownResult w t → IsKnownArg w (given t)
  known_null : IsKnownArg w null_arg

-- ---- members

-- a field by its name and its type
pub record IsSoundField (w : World) (f : Field) : Type 0 where
  pub name : is_identifier f.name ≡ true
  pub ty : IsKnown w f.ty

-- a method or constructor of the type of that name
pub record IsSoundMethod (w : World) (class : Named) (m : Method) : Type 0 where
  pub params : Each (IsKnown w) m.params
  pub result : IsKnownResult w m.result
  pub constructor : m.name ≡ constructor_name → m.result ≡ void_type
  pub of_object : class ≡ object_name → (m.name ≡ constructor_name) × (m.params ≡ [])

-- ---- worlds

-- what a declared world of well-formed units is
pub record WorldIsSound (units : List source.PlainUnit) : Type 0 where
  -- the names of types
  pub named : (name : Named) → has_type (world_of units) name ≡ true → is_identifier name ≡ true
  pub object : has_type (world_of units) object_name ≡ true
  pub throwable : has_type (world_of units) throwable_name ≡ true
  -- each type stands below Object, and a superclass is one of the types
  pub below_object : (name : Named) → has_type (world_of units) name ≡ true → Sub (world_of units) name object_name
  pub superclass : (name class : Named) (t : Declared) → type_named (world_of units) name ≡ Some t → t.superclass ≡ Some class → has_type (world_of units) class ≡ true
  pub fields : (class name : Named) (f : Field) → field_of (world_of units) class name ≡ Some f → IsSoundField (world_of units) f
  pub methods : (class : Named) (t : Declared) (m : Method) → type_named (world_of units) class ≡ Some t → Contains (methods_of_type (world_of units) t) m
      → IsSoundMethod (world_of units) class m

-- ---- steps

-- a step between types that are there, from a subtype to its supertype
pub record IsSoundStep (w : World) (p : PlainPair) : Type 0 where
  pub from : IsKnown w p.from
  pub to : IsKnown w p.to
  pub below : Subtype w p.from p.to

-- each that a class lists
abbrev pub AreSoundSteps : World → List PlainPair → Type 0
AreSoundSteps w steps = (p : PlainPair) → IsListed p steps → is_listed p ≡ true → IsSoundStep w p

-- the pairs hold each that a class lists
abbrev pub Covers : List PlainPair → List PlainPair → Type 0
Covers pairs steps = (p : PlainPair) → IsListed p steps → is_listed p ≡ true → IsListed p pairs

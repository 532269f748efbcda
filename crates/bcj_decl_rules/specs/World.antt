-- The world: the boot types and then the types of a list of units, each with its head and its members (JLS 8, 9). Names are all
-- in one package; where a name stands twice the first type has it.
use Rattle.std.specs.Prelude.{if◌then◌else◌, ℕ, Bool, true, false, ◌||◌, List, [], ◌∷◌, ◌++◌, map, Option, None, Some, codes, zero, suc}
use Rattle.std.specs.List.{find, filter_map, list_any, flat_map}
use Rattle.std.specs.Option.{option_map_or}
use Rattle.std.specs.Str.{bytes_eq}
use Rattle.bcj_parser_trees.specs.declared.names.Base.{Base}
use Rattle.bcj_parser_trees.specs.declared.names.Base.TheVariants as base
use Rattle.bcj_parser_trees.specs.declared.names.TypeName.{TypeName}
use Rattle.bcj_parser_trees.specs.declared.names.Access.TheVariants as access
use Rattle.bcj_parser_trees.specs.declared.names.Mods.{Mods}
use Rattle.bcj_parser_trees.specs.declared.names.Param.{Param}
use Rattle.bcj_parser_trees.specs.Trees.{PlainOption, absent, PlainMember, field_member, method_member, constructor_member, PlainType, PlainUnit}
use Rattle.bcj_symbolic_trees.specs.declared.class_tree.MethodKind.{MethodKind}
use Rattle.bcj_symbolic_trees.specs.declared.class_tree.MethodKind.TheVariants as kind
use Rattle.bcj_symbolic_trees.specs.Types.{PlainTy, int_type, bool_type, void_type, class_type, array_type}
use Rattle.bcj_symbolic_trees.specs.Units.{PlainField, PlainMethod, PlainClass}
use Rattle.bcj_symbolic_trees.specs.Names.{object_name, constructor_name}
use Rattle.bcj_symbolic_boot.specs.BootUnit.{boot_classes}

abbrev pub Named : Type 0
Named = List ℕ

-- a field with the type that declares it
pub record Field : Type 0 where
  pub class : Named
  pub name : Named
  pub ty : PlainTy
  pub is_static : Bool
  pub is_final : Bool
  pub is_private : Bool

-- a method or constructor with the type that declares it; a constructor's name is `<init>`
pub record Method : Type 0 where
  pub class : Named
  pub name : Named
  pub params : List PlainTy
  pub result : PlainTy
  pub kind : MethodKind
  pub is_private : Bool

-- a class or interface. Every class but Object has a superclass; an interface has none, and its superinterfaces are `interfaces`
pub record Declared : Type 0 where
  pub name : Named
  pub interface : Bool
  pub is_abstract : Bool
  pub superclass : Option Named
  pub interfaces : List Named
  pub fields : List Field
  pub methods : List Method

abbrev pub World : Type 0
World = List Declared

-- ---- types (JLS 4.3, 10.1)

abbrev pub base_type : Base → PlainTy
base_type base.Int = int_type
base_type base.Bool = bool_type
base_type base.Void = void_type
base_type (base.Named name) = class_type name

abbrev pub with_brackets : ℕ → PlainTy → PlainTy
with_brackets zero t = t
with_brackets (suc n) t = array_type (with_brackets n t)

-- the type that a written name with its brackets stands for
abbrev pub type_of : TypeName → PlainTy
type_of t = with_brackets t.dims (base_type t.base)

abbrev pub param_types : List Param → List PlainTy
param_types = map (λ p. type_of p.ty)

abbrev pub is_private : Mods → Bool
is_private m = elim m.access [ access.Private ↦ true | _ ↦ false ]

-- ---- members of a source type (JLS 8.3, 8.4, 8.8, 9.3, 9.4)

-- a field of an interface is static and final
abbrev pub field_with : Bool → Named → Mods → TypeName → Named → Field
field_with interface class mods ty name =
    record {
      class = class;
      name = name;
      ty = type_of ty;
      is_static = interface || mods.is_static;
      is_final = interface || mods.is_final;
      is_private = is_private mods;
    }

abbrev pub field_in : Bool → Named → PlainMember → Option Field
field_in interface class (field_member at mods ty name init) = Some (field_with interface class mods ty name)
field_in interface class _ = None

-- a method of an interface is abstract
abbrev pub kind_in : Bool → Mods → MethodKind
kind_in true mods = kind.Abstract
kind_in false mods = elim mods.is_abstract [ true ↦ kind.Abstract | false ↦ elim mods.is_static [ true ↦ kind.Static | false ↦ kind.Instance ] ]

abbrev pub constructor_with : Named → List PlainTy → Bool → Method
constructor_with class params hidden =
    record { class = class; name = constructor_name; params = params; result = void_type; kind = kind.Constructor; is_private = hidden }

abbrev pub method_with : Bool → Named → Mods → TypeName → Named → List Param → Method
method_with interface class mods result name params =
    record {
      class = class;
      name = name;
      params = param_types params;
      result = type_of result;
      kind = kind_in interface mods;
      is_private = is_private mods;
    }

abbrev pub method_in : Bool → Named → PlainMember → Option Method
method_in interface class (method_member at mods result name params throws body) = Some (method_with interface class mods result name params)
method_in interface class _ = None

abbrev pub constructor_in : Named → PlainMember → Option Method
constructor_in class (constructor_member at mods name params throws first body) =
    Some (constructor_with class (param_types params) (is_private mods))
constructor_in class _ = None

-- a class that writes no constructor has one without parameters (JLS 8.8.9)
abbrev pub or_default : Named → List Method → List Method
or_default class [] = constructor_with class [] false ∷ []
or_default class (m ∷ ms) = m ∷ ms

abbrev pub constructors_of : PlainType → List Method
constructors_of t = elim t.interface [ true ↦ [] | false ↦ or_default t.name (filter_map (constructor_in t.name) t.members) ]

-- constructors stand before the methods, both in text order
abbrev pub methods_of : PlainType → List Method
methods_of t = constructors_of t ++ filter_map (method_in t.interface t.name) t.members

-- what a class extends, which is Object where it writes nothing
abbrev pub superclass_in : List Named → Named
superclass_in [] = object_name
superclass_in (name ∷ names) = name

abbrev pub superclass_of : PlainType → Option Named
superclass_of t = elim t.interface [ true ↦ None | false ↦ Some (superclass_in t.extends) ]

abbrev pub interfaces_of : PlainType → List Named
interfaces_of t = elim t.interface [ true ↦ t.extends | false ↦ t.implements ]

abbrev pub declared_type : PlainType → Declared
declared_type t =
    record {
      name = t.name;
      interface = t.interface;
      is_abstract = t.is_abstract;
      superclass = superclass_of t;
      interfaces = interfaces_of t;
      fields = filter_map (field_in t.interface t.name) t.members;
      methods = methods_of t;
    }

-- ---- boot types

abbrev pub boot_field : Named → PlainField → Field
boot_field class f =
    record {
      class = class;
      name = f.name;
      ty = f.ty;
      is_static = f.is_static;
      is_final = f.is_final;
      is_private = f.is_private;
    }

abbrev pub boot_method : Named → PlainMethod → Method
boot_method class m =
    record { class = class; name = m.name; params = m.params; result = m.result; kind = m.kind; is_private = m.is_private }

-- Object has a constructor without parameters, for which the boot unit has no code
abbrev pub object_constructor : Named → List Method
object_constructor class = if bytes_eq class object_name then constructor_with class [] false ∷ [] else []

abbrev pub boot_methods : PlainClass → List Method
boot_methods c = object_constructor c.head.name ++ map (boot_method c.head.name) c.methods

abbrev pub boot_type : PlainClass → Declared
boot_type c =
    record {
      name = c.head.name;
      interface = c.head.interface;
      is_abstract = c.head.is_abstract;
      superclass = c.head.superclass;
      interfaces = c.head.interfaces;
      fields = map (boot_field c.head.name) c.fields;
      methods = boot_methods c;
    }

-- ---- the world

abbrev pub boot_types : World
boot_types = map boot_type boot_classes

abbrev pub source_types : List PlainUnit → List PlainType
source_types units = flat_map (λ u. u) units

unfoldable pub world_of : List PlainUnit → World
world_of units = boot_types ++ map declared_type (source_types units)

abbrev pub is_named : Named → Declared → Bool
is_named name t = bytes_eq t.name name

-- the type of a name
abbrev pub type_named : World → Named → Option Declared
type_named w name = find (is_named name) w

abbrev pub has_type : World → Named → Bool
has_type w name = list_any (is_named name) w

-- ---- initialisers

abbrev pub initialiser_in : Named → List PlainMember → PlainOption
initialiser_in name [] = absent
initialiser_in name (field_member at mods ty other init ∷ ms) = elim (bytes_eq other name) [ true ↦ init | false ↦ initialiser_in name ms ]
initialiser_in name (m ∷ ms) = initialiser_in name ms

-- what a field of a source type is initialised with; a boot field has no initialiser
unfoldable pub initialiser_of : List PlainUnit → Field → PlainOption
initialiser_of units f =
    option_map_or (λ t. initialiser_in f.name t.members) (find (λ t. bytes_eq t.name f.class) (source_types units)) absent

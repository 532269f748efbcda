-- What a reader expects of the declared world.
use Rattle.std.specs.Prelude.{◌≡◌, false, List, ◌∷◌, ◌++◌, Some}
use Rattle.std.specs.List.{Contains}
use Rattle.bcj_parser_trees.specs.Trees.{PlainExpr, PlainUnit}
use Rattle.bcj_symbolic_trees.specs.Types.{PlainTy}
use Rattle.bcj_symbolic_trees.specs.Names.{object_name}
use Rattle.bcj_decl_rules.specs.World.{Named, Field, Declared, World, world_of, has_type}
use Rattle.bcj_decl_rules.specs.Subtypes.{Sub, Subtype}
use Rattle.bcj_decl_rules.specs.declared.value.Value.{Value}
use Rattle.bcj_decl_rules.specs.Constants.{IsConstant, IsConstantField}
use Rattle.bcj_decl_rules.specs.function.Constants.{Known, value_in, field_value}
use Rattle.bcj_decl_rules.specs.Faults.{IsDeclared}

abbrev pub EachIsItsOwnSubtype : Type 0
EachIsItsOwnSubtype = (w : World) → (t : PlainTy) → Subtype w t t

-- the boot types stand first in a world, so that nothing stands above Object
abbrev pub SubtypesGoOn : Type 0
SubtypesGoOn = (units : List PlainUnit) (s u t : PlainTy) → Subtype (world_of units) s u → Subtype (world_of units) u t → Subtype (world_of units) s t

abbrev pub EachNameIsOneType : Type 0
EachNameIsOneType = (units : List PlainUnit) → IsDeclared units → (before : List Declared) (t : Declared) (behind : List Declared) → world_of units ≡ before ++ t ∷ behind → has_type before t.name ≡ false

abbrev pub EachTypeReachesObject : Type 0
EachTypeReachesObject = (units : List PlainUnit) → IsDeclared units → (t : Declared) → Contains (world_of units) t → Sub (world_of units) t.name object_name

-- values that are known are those of constant fields
abbrev pub IsRight : List PlainUnit → Known → Type 0
IsRight units known = (f : Field) (v : Value) → known f ≡ Some v → IsConstantField units f v

-- what the values say of each field is known already
abbrev pub IsWhole : List PlainUnit → Known → Type 0
IsWhole units known = (f : Field) (v : Value) → field_value units known f ≡ Some v → known f ≡ Some v

-- the function finds constants, and all of them where the values are whole
abbrev pub EachValueIsConstant : Type 0
EachValueIsConstant =
    (units : List PlainUnit) (known : Known) → IsRight units known → (from : Named) (e : PlainExpr) (v : Value) → value_in (world_of units) known from e ≡ Some v → IsConstant units from e v

abbrev pub EachConstantIsFound : Type 0
EachConstantIsFound =
    (units : List PlainUnit) (known : Known) → IsWhole units known → (from : Named) (e : PlainExpr) (v : Value) → IsConstant units from e v → value_in (world_of units) known from e ≡ Some v

abbrev pub EachConstantFieldIsFound : Type 0
EachConstantFieldIsFound = (units : List PlainUnit) (known : Known) → IsWhole units known → (f : Field) (v : Value) → IsConstantField units f v → known f ≡ Some v

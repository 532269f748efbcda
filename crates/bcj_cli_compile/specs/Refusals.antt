-- Why sources give no object, in the order of the steps: each source in its order is read, then all are declared, and then the one
-- that is compiled is typed and measured.
use Rattle.std.specs.Prelude.{◌≡◌, ℕ, List, ◌++◌, Some, codes, take, slice_get}
use Rattle.std.specs.List.{AllZip}
use Rattle.bcj_parser_trees.specs.Trees.{PlainUnit}
use Rattle.bcj_decl_rules.specs.World.{Named}
use Rattle.bcj_decl_rules.specs.Faults.{Place, Refusal, duplicate, unknown, bad_hierarchy, bad_member, IsFirstFault, IsDeclared}
use Rattle.bcj_typing_rules.specs.declared.kind.Kind.{Kind}
use Rattle.bcj_typing_rules.specs.Faults.{IsUntyped}
use Rattle.bcj_typing.specs.declared.stop.Limited.{Limited}
use Rattle.bcj_typing.specs.Limits.{IsTooLarge}
use Rattle.bcj_cli_compile.specs.Names.{kind_name, limit_name}
use Rattle.bcj_cli_compile.specs.Texts.{Parses, IsTextRefusal}

-- the source with this number has this text, and each source before it is a unit
pub record ComesTo (sources : List (List ℕ)) (file : ℕ) (text : List ℕ) : Type 0 where
  pub units : List PlainUnit
  pub before : AllZip Parses (take file sources) units
  pub is : slice_get sources file ≡ Some text

-- the sources are these units, whose first fault is this one
pub record Misdeclares (sources : List (List ℕ)) (place : Place) (refusal : Refusal) : Type 0 where
  pub units : List PlainUnit
  pub parsed : AllZip Parses sources units
  pub first : IsFirstFault units place refusal

-- the sources are these units, of which nothing is refused
pub record Declares (sources : List (List ℕ)) (units : List PlainUnit) : Type 0 where
  pub parsed : AllZip Parses sources units
  pub declared : IsDeclared units

-- why there is no object of the source with the number `own`: in the source with this number, at this place, of this kind
pub data IsRefusal (sources : List (List ℕ)) (own : ℕ) : ℕ → ℕ → List ℕ → Type 0 where
  no_unit : {file at : ℕ} {text kind : List ℕ} → ComesTo sources file text → IsTextRefusal text at kind → IsRefusal sources own file at kind
  duplicate_type : {place : Place} {name : Named} → Misdeclares sources place (duplicate name) → IsRefusal sources own place.file place.at (codes "duplicate " ++ name)
  unknown_type : {place : Place} {name : Named} → Misdeclares sources place (unknown name) → IsRefusal sources own place.file place.at (codes "unknown " ++ name)
  hierarchy : {place : Place} → Misdeclares sources place bad_hierarchy → IsRefusal sources own place.file place.at (codes "bad hierarchy")
  member : {place : Place} → Misdeclares sources place bad_member → IsRefusal sources own place.file place.at (codes "bad member")
  untyped : {units : List PlainUnit} {at : ℕ} {kind : Kind} → Declares sources units → IsUntyped units own at kind
      → IsRefusal sources own own at (codes "type: " ++ kind_name kind)
  too_large : {units : List PlainUnit} {at : ℕ} {what : Limited} → Declares sources units → IsTooLarge units own what at
      → IsRefusal sources own own at (codes "too large: " ++ limit_name what)

-- What a finished table has to do with the constants of the units.
use Rattle.std.specs.Prelude.{◌≡◌, ◌↔◌, ℕ, List, length, Option, Some, slice_get}
use Rattle.bcj_parser_trees.specs.Trees.{PlainOption, PlainUnit}
use Rattle.bcj_decl_rules.specs.declared.value.Value.{Value}
use Rattle.bcj_decl_rules.specs.World.{Field, world_of, initialiser_of}
use Rattle.bcj_decl_rules.specs.Constants.{IsConstantField}
use Rattle.bcj_decl_constants.specs.Needs.{fields_in}
use Rattle.bcj_decl_constants.specs.Numbers.{EachOnce, worth}
use Rattle.bcj_decl_constants.specs.Waiting.{Table, IsDone}

-- the initialisers at the fields' numbers are theirs
abbrev pub AreInitialisers : List PlainUnit → List PlainOption → Type 0
AreInitialisers units inits = (n : ℕ) (f : Field) → slice_get (fields_in (world_of units)) n ≡ Some f → slice_get inits n ≡ Some (initialiser_of units f)

-- a finished table has only constants
abbrev pub EachValueIsAConstant : Type 0
EachValueIsAConstant =
    (units : List PlainUnit) (inits : List PlainOption) → AreInitialisers units inits → (values : Table) → IsDone (worth (world_of units) inits) (length (fields_in (world_of units))) values
    → (n : ℕ) (f : Field) (v : Value) → slice_get (fields_in (world_of units)) n ≡ Some f → slice_get values n ≡ Some (Some v) → IsConstantField units f v

-- and all of them
abbrev pub EachConstantIsThere : Type 0
EachConstantIsThere =
    (units : List PlainUnit) (inits : List PlainOption) → EachOnce (fields_in (world_of units)) → AreInitialisers units inits → (values : Table)
    → IsDone (worth (world_of units) inits) (length (fields_in (world_of units))) values → (n : ℕ) (f : Field) (v : Value) → slice_get (fields_in (world_of units)) n ≡ Some f → IsConstantField units f v → slice_get values n ≡ Some (Some v)

-- the values at the fields' numbers are those of the constant variables, and no others
pub record AreConstants (units : List PlainUnit) (values : List (Option Value)) : Type 0 where
  pub many : length values ≡ length (fields_in (world_of units))
  pub each : (n : ℕ) (f : Field) (v : Value) → slice_get (fields_in (world_of units)) n ≡ Some f → (slice_get values n ≡ Some (Some v)) ↔ IsConstantField units f v

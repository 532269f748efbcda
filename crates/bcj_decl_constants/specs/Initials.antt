-- The initialisers of all fields in the world's order.
use Rattle.std.specs.Prelude.{List, ◌++◌, map, Option, None, Some}
use Rattle.std.specs.List.{filter_map, flat_map}
use Rattle.bcj_parser_trees.specs.Trees.{PlainOption, absent, PlainMember, field_member, PlainType, PlainUnit}
use Rattle.bcj_decl_rules.specs.World.{boot_types, source_types, world_of}
use Rattle.bcj_decl_rules.specs.Faults.{IsDeclared}
use Rattle.bcj_decl_constants.specs.Needs.{fields_in}
use Rattle.bcj_decl_constants.specs.Numbers.{EachOnce}
use Rattle.bcj_decl_constants.specs.Laws.{AreInitialisers}

-- a boot field has no initialiser
abbrev pub boot_initials : List PlainOption
boot_initials = map (λ f. absent) (fields_in boot_types)

abbrev pub initial_in : PlainMember → Option PlainOption
initial_in (field_member at mods ty name init) = Some init
initial_in _ = None

abbrev pub initials_of_type : PlainType → List PlainOption
initials_of_type t = filter_map initial_in t.members

abbrev pub initials_in : List PlainUnit → List PlainOption
initials_in units = boot_initials ++ flat_map initials_of_type (source_types units)

-- no field of the world is another's double, and the initialiser that stands with each field is the one that its names mean
pub record FieldsStandOnce (units : List PlainUnit) : Type 0 where
  pub once : EachOnce (fields_in (world_of units))
  pub own : AreInitialisers units (initials_in units)

-- in a declared world each initialiser stands at the number of its own field
abbrev pub DeclaredInitialisersAreOwn : Type 0
DeclaredInitialisersAreOwn = (units : List PlainUnit) → IsDeclared units → AreInitialisers units (initials_in units)

use Rattle.std.proofs.Common.{◌≡◌, ◌++◌, drop, map}
use Rattle.std.specs.List.{flat_map}
use Rattle.bcj_parser_trees.specs.Plain as tree
use Rattle.bcj_decl_rules.specs.World.{source_types}
use Rattle.bcj_decl_constants.specs.Books.{initial_of}
use Rattle.bcj_decl_constants.specs.Initials.{initials_of_type}
use Rattle.bcj_decl_constants.proofs.initials.push_units.Given as goal

abbrev pub invariant-loop-unit : goal.invariant-loop-unit
invariant-loop-unit l =
    map initial_of l.items.items ++ flat_map initials_of_type (source_types (map tree.unit_of (drop l.unit-index l.units))) ≡ map initial_of l.fn.items.items ++ flat_map initials_of_type (source_types (map tree.unit_of l.units))

use Rattle.std.proofs.Common.{◌≡◌, ◌++◌, drop, map}
use Rattle.std.specs.List.{flat_map}
use Rattle.bcj_parser_trees.specs.Plain as tree
use Rattle.bcj_decl_constants.specs.Books.{initial_of}
use Rattle.bcj_decl_constants.specs.Initials.{initials_of_type}
use Rattle.bcj_decl_constants.proofs.initials.push_unit.Given as goal

abbrev pub invariant-loop-decl : goal.invariant-loop-decl
invariant-loop-decl l =
    map initial_of l.items.items ++ flat_map initials_of_type (map tree.type_of (drop l.decl-index l.unit.types)) ≡ map initial_of l.fn.items.items ++ flat_map initials_of_type (tree.unit_of l.unit)

use Rattle.std.proofs.Common.{◌≡◌, ◌++◌, drop, map}
use Rattle.std.specs.List.{filter_map}
use Rattle.bcj_parser_trees.specs.Plain as tree
use Rattle.bcj_decl_constants.specs.Books.{initial_of}
use Rattle.bcj_decl_constants.specs.Initials.{initial_in, initials_of_type}
use Rattle.bcj_decl_constants.proofs.initials.push_type.Given as goal

abbrev pub invariant-loop-member : goal.invariant-loop-member
invariant-loop-member l =
    map initial_of l.items.items ++ filter_map initial_in (map tree.member_of (drop l.member-index l.decl.members)) ≡ map initial_of l.fn.items.items ++ initials_of_type (tree.type_of l.decl)

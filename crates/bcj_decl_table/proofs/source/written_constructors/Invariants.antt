use Rattle.std.proofs.Common.{◌≡◌, ◌++◌, drop, map}
use Rattle.std.specs.List.{filter_map}
use Rattle.bcj_parser_trees.specs.Plain as tree
use Rattle.bcj_decl_rules.specs.World as spec
use Rattle.bcj_decl_table.specs.Views.{method_of_info}
use Rattle.bcj_decl_table.proofs.source.written_constructors.Given as goal

abbrev pub invariant-loop-member : goal.invariant-loop-member
invariant-loop-member l =
    map method_of_info l.methods ++ filter_map (spec.constructor_in l.decl.name) (map tree.member_of (drop l.member-index l.decl.members)) ≡ filter_map (spec.constructor_in l.decl.name) (map tree.member_of l.decl.members)

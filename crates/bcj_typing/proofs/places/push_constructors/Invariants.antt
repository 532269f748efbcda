use Rattle.std.proofs.Common.{◌≡◌, ◌++◌, drop, map, filter}
use Rattle.bcj_parser_trees.specs.Plain as tree
use Rattle.bcj_decl_rules.specs.Faults.{member_at}
use Rattle.bcj_typing_rules.specs.Members as rules
use Rattle.bcj_typing.proofs.places.push_constructors.Given as goal

abbrev pub invariant-loop-member : goal.invariant-loop-member
invariant-loop-member l =
    l.places ++ map member_at (filter rules.is_constructor_member (map tree.member_of (drop l.member-index l.members))) ≡ l.fn.places ++ map member_at (filter rules.is_constructor_member (map tree.member_of l.members))

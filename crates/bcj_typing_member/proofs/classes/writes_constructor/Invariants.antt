use Rattle.std.proofs.Common.{◌≡◌, map, drop}
use Rattle.std.specs.List.{list_any}
use Rattle.bcj_parser_trees.specs.Plain as source
use Rattle.bcj_typing_rules.specs.Members as spec
use Rattle.bcj_typing_member.proofs.classes.writes_constructor.Given as goal

abbrev pub invariant-loop-member : goal.invariant-loop-member
invariant-loop-member l =
    list_any spec.is_constructor_member (map source.member_of (drop l.member-index l.members)) ≡ list_any spec.is_constructor_member (map source.member_of l.members)

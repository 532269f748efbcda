use Rattle.std.proofs.Common.{◌≡◌, map, drop, []}
use Rattle.bcj_parser_trees.specs.Plain as source
use Rattle.bcj_symbolic_trees.specs.Types.{types_of}
use Rattle.bcj_typing_rules.specs.function.Members as function
use Rattle.bcj_typing_scope.specs.Surroundings.{answers_at, units_at}
use Rattle.bcj_typing_member.specs.Gathered.{no_members, outcome_map, with_members}
use Rattle.bcj_typing_member.specs.Typed.{members_of}
use Rattle.bcj_typing_member.proofs.gather.each_gathered.Given as goal

abbrev pub invariant-loop-member : goal.invariant-loop-member
invariant-loop-member l =
    outcome_map (with_members (members_of l.members))
    (function.type_members (answers_at l.world) (units_at l.world) (source.type_of l.world.decl) (types_of l.members.types) (map source.member_of (drop l.member-index l.each)))
    ≡ outcome_map (with_members no_members) (function.type_members (answers_at l.world) (units_at l.world) (source.type_of l.world.decl) [] (map source.member_of l.each))

use Rattle.std.proofs.Common.{◌≡◌, map, drop}
use Rattle.bcj_parser_trees.specs.Plain as source
use Rattle.bcj_typing_rules.specs.function.Members as function
use Rattle.bcj_typing_scope.specs.Surroundings.{answers_at, units_at}
use Rattle.bcj_typing_member.specs.Gathered.{outcome_map}
use Rattle.bcj_typing_member.specs.Typed.{added_of}
use Rattle.bcj_typing_member.proofs.initial.each_initialiser.Given as goal

abbrev pub invariant-loop-member : goal.invariant-loop-member
invariant-loop-member l =
    outcome_map (function.both_added (added_of l.added))
    (function.type_initialisers (answers_at l.world) (units_at l.world) (source.type_of l.world.decl) (map source.member_of (drop l.member-index l.each)))
    ≡ function.type_initialisers (answers_at l.world) (units_at l.world) (source.type_of l.world.decl) (map source.member_of l.each)

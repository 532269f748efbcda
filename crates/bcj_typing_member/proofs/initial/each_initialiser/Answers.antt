use Rattle.std.proofs.Common.{arith}
use Rattle.bcj_parser_trees.specs.Plain as source
use Rattle.bcj_typing_scope.specs.Surroundings.{answers_at, units_at}
use Rattle.bcj_typing_member.specs.Typed.{added_of}
use Rattle.bcj_typing_member.proofs.Loops.{initial_more}
use Rattle.bcj_typing_member.proofs.initial.each_initialiser.Goals as goal

pub loop-member-preserved : goal.loop-member-preserved
loop-member-preserved c =
    initial_more (answers_at c.args.world.now) (units_at c.args.world.now) (source.type_of c.args.world.now.decl) c.args.each.now c.loop-member.member-index c.member-item.result (omega arith) c.member-item.is
    (added_of c.loop-member.added) (added_of c.in_ok-added.added) c.in_ok-added.ensures _ c.loop-member.invariant

use Rattle.std.proofs.Common.{ap}
use Rattle.bcj_parser_trees.specs.Plain as source
use Rattle.bcj_typing_scope.specs.Surroundings.{answers_at}
use Rattle.bcj_typing_member.proofs.Missing.{run_moved}
use Rattle.bcj_typing_member.proofs.constructor.body_of.Goals as goal

pub returns : goal.returns
returns c =
    run_moved _ _ _ _ _ _ (source.stmts_of c.args.body.now) c.run.result (ap answers_at c.in_ok-scope.ensures.world) c.in_ok-scope.ensures.context c.in_ok-scope.ensures.types c.run.ensures

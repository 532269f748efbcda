use Rattle.std.proofs.Common.{ap}
use Rattle.bcj_parser_trees.specs.Plain as source
use Rattle.bcj_typing_scope.specs.Surroundings.{answers_at}
use Rattle.bcj_typing_member.proofs.Missing.{run_moved}
use Rattle.bcj_typing_member.proofs.gather.block_of.Goals as goal

pub returns : goal.returns
returns c =
    run_moved _ _ _ _ _ _ (source.stmts_of c.args.body.now) c.run.result (ap answers_at c.initialiser_scope-scope.ensures.world) c.initialiser_scope-scope.ensures.context c.initialiser_scope-scope.ensures.types c.run.ensures

use Rattle.std.proofs.Common.{◌≡◌, Err, rules, ap}
use Rattle.bcj_typing_node.specs.declared.miss.Miss.TheVariants.{NoMemory}
use Rattle.bcj_parser_trees.specs.Plain as source
use Rattle.bcj_typing_scope.specs.Surroundings.{answers_at}
use Rattle.bcj_typing_member.proofs.Missing.{run_moved}
use Rattle.bcj_typing_member.proofs.method.body_of.Goals as goal

pub returns : goal.returns
returns c =
    run_moved _ _ _ _ _ _ (source.stmts_of c.args.body.now) c.run.result (ap answers_at c.in_ok-scope.ensures.world) c.in_ok-scope.ensures.context c.in_ok-scope.ensures.types c.run.ensures

pub returns-in_err-scope : goal.returns-in_err-scope
returns-in_err-scope c =
    let failed : c.from_residual.result ≡ Err NoMemory = first_of (cc, search rules) in
    rw failed tt

use Rattle.std.proofs.lemmas.Result.{on_ok_weaker}
use Rattle.bcj_linker_code.proofs.StartCode.{start_put}
use Rattle.bcj_linker_code.proofs.start.push_start.Goals as goal

pub returns : goal.returns
returns c =
    on_ok_weaker c.push_run.result
    (λ run cs main h.
    start_put cs main c.args.places.now c.in_ok-arguments.arguments c.in_ok-method.method c.args.words.now c.push_use.new.words c.push_use-2.new.words c.push_address.new.words c.push_initialise.new.words
    c.push_arguments.new.words c.push_fetch.new.words c.push_run.new.words c.in_ok-arguments.ensures c.in_ok-method.ensures c.in_ok-push_use.ensures c.in_ok-push_use-2.ensures
    c.in_ok-push_address.ensures c.in_ok-push_initialise.ensures c.in_ok-push_arguments.ensures c.in_ok-push_fetch.ensures run h)
    c.push_run.ensures

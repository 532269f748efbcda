use Rattle.std.proofs.lemmas.Result.{err_from_is_err_and}
use Rattle.bcj_cli_compile.proofs.compiling.compile.Goals as goal

pub returns-in_err-units-clause-stopped : goal.returns-in_err-units-clause-stopped
returns-in_err-units-clause-stopped c =
    let p = err_from_is_err_and c.from_residual.result c.from_residual.ensures.1 in
    rw (p.1, p.2) (c.in_err-units.ensures.stopped c.args.own)

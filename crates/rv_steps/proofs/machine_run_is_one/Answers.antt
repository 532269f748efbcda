use Rattle.rv_steps.proofs.Laws as laws
use Rattle.rv_steps.proofs.machine_run_is_one.Goals as goal

pub returns : goal.returns
returns g c = laws.machine_runs g.row.W.Denot g.row.E.Denot

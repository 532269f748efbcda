use Rattle.rv_steps.proofs.Laws as laws
use Rattle.rv_steps.proofs.run_refines.Goals as goal

pub returns : goal.returns
returns g c = laws.runs_up g.row.W.Denot g.row.E.Denot

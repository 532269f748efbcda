use Rattle.rv_steps.proofs.Laws as laws
use Rattle.rv_steps.proofs.code_laws.Goals as goal

pub returns : goal.returns
returns g c = laws.code_laws g.row.W.Denot g.row.E.Denot

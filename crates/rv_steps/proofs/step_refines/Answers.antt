use Rattle.rv_steps.proofs.Laws as laws
use Rattle.rv_steps.proofs.step_refines.Goals as goal

pub returns : goal.returns
returns g c = record { steps = laws.steps_up g.row.W.Denot g.row.E.Denot; calls = laws.calls_up g.row.W.Denot g.row.E.Denot }

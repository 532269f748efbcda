use Rattle.rv_steps.proofs.Laws as laws
use Rattle.rv_steps.proofs.memory_laws.Goals as goal

pub returns : goal.returns
returns c = record { words = laws.memory_laws; sums = laws.sum_laws }

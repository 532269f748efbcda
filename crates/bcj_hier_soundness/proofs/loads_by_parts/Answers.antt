use Rattle.bcj_hier_soundness.proofs.Free as free
use Rattle.bcj_hier_soundness.proofs.loads_by_parts.Goals as goal

pub returns : goal.returns
returns c = record { parts = free.loads_by_parts }

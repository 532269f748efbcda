use Rattle.bcj_hier_soundness.proofs.Free as free
use Rattle.bcj_hier_soundness.proofs.Hierarchies as hierarchies
use Rattle.bcj_hier_soundness.proofs.circles_fail.Goals as goal

pub returns-clause-circles : goal.returns-clause-circles
returns-clause-circles c = free.circles_fail

pub returns-clause-met : goal.returns-clause-met
returns-clause-met c = hierarchies.some_wait

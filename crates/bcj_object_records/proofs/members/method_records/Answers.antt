use Rattle.bcj_object_records.proofs.Steps.{codes-done}
use Rattle.bcj_object_records.proofs.members.method_records.Goals as goal

pub returns-then-index-rest : goal.returns-then-index-rest
returns-then-index-rest c = codes-done _ _ _ _ _ _ c.loop-index.invariant c.if-index-rest.true

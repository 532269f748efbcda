use Rattle.bcj_symbolic_check.proofs.StepLemmas.{methods_more, methods_done}
use Rattle.bcj_symbolic_check.proofs.class.methods.Goals as goal

pub loop-method-preserved : goal.loop-method-preserved
loop-method-preserved c = methods_more _ _ _ _ _ _ _ _ _ c.loop-method-test.true c.method-item.is c.as_slice.ensures c.method_body-body.ensures c.statements.ensures c.loop-method.invariant

pub returns : goal.returns
returns c = methods_done _ _ _ _ _ c.loop-method-test.false c.loop-method.invariant

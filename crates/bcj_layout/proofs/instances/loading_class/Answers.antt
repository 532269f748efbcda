use Rattle.bcj_layout.proofs.InstanceLemmas.{called, missing, failing}
use Rattle.bcj_layout.proofs.instances.loading_class.Goals as goal

pub returns-in-None-clause-none : goal.returns-in-None-clause-none
returns-in-None-clause-none c = missing c.args.hier.now c.args.name.now c.in-None.ensures.number

pub returns-in-Ok-clause-named : goal.returns-in-Ok-clause-named
returns-in-Ok-clause-named c = called c.args.hier.now c.args.name.now c.in-Some.class c.in-Some.ensures.number

pub returns-in-Err-clause-none : goal.returns-in-Err-clause-none
returns-in-Err-clause-none c = failing c.args.hier.now c.args.name.now c.in-Some.class c.in-Err.field-0 c.in-Some.ensures.number c.in-Err.ensures

use Rattle.bcj_hier_soundness.proofs.Steps as steps
use Rattle.bcj_hier_soundness.proofs.searches_find_steps.Goals as goal

pub returns-clause-below : goal.returns-clause-below
returns-clause-below c = steps.each_class_below_is_found

pub returns-clause-implements : goal.returns-clause-implements
returns-clause-implements c = steps.each_interface_is_found

use Rattle.bcj_decl_orders.proofs.Steps as steps
use Rattle.bcj_decl_orders.proofs.searches_end.Goals as goal

pub returns-clause-types : goal.returns-clause-types
returns-clause-types c = steps.types_above_end

pub returns-clause-classes : goal.returns-clause-classes
returns-clause-classes c = steps.superclasses_end

pub returns-clause-interfaces : goal.returns-clause-interfaces
returns-clause-interfaces c = steps.interfaces_end

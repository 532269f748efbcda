use Rattle.bcj_hier_soundness.proofs.Loads as loads
use Rattle.bcj_hier_soundness.proofs.more_turns_change_nothing.Goals as goal

pub returns-clause-turns : goal.returns-clause-turns
returns-clause-turns c = loads.turns_suffice

pub returns-clause-there : goal.returns-clause-there
returns-clause-there c = loads.each_that_loads_is_there

pub returns-clause-superclasses : goal.returns-clause-superclasses
returns-clause-superclasses c = loads.superclasses_load

pub returns-clause-superinterfaces : goal.returns-clause-superinterfaces
returns-clause-superinterfaces c = loads.superinterfaces_load

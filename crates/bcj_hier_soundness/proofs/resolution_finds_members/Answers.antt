use Rattle.bcj_hier_soundness.proofs.Resolving as resolving
use Rattle.bcj_hier_soundness.proofs.resolution_finds_members.Goals as goal

pub returns-clause-fields : goal.returns-clause-fields
returns-clause-fields c = resolving.fields_are_members

pub returns-clause-methods : goal.returns-clause-methods
returns-clause-methods c = resolving.methods_are_members

pub returns-clause-constructors : goal.returns-clause-constructors
returns-clause-constructors c = resolving.constructors_are_own

pub returns-clause-interface_methods : goal.returns-clause-interface_methods
returns-clause-interface_methods c = resolving.interface_methods_are_members

use Rattle.bcj_decl_fields.proofs.Declared as declared
use Rattle.bcj_decl_fields.proofs.declared_worlds_are_hierarchies.Goals as goal

pub returns-clause-hierarchy : goal.returns-clause-hierarchy
returns-clause-hierarchy c = declared.hierarchy

pub returns-clause-open : goal.returns-clause-open
returns-clause-open c = declared.fields_open

pub returns-clause-once : goal.returns-clause-once
returns-clause-once c = declared.fields_once

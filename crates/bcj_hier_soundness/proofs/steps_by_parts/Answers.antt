use Rattle.bcj_hier_soundness.proofs.Parts as parts
use Rattle.bcj_hier_soundness.proofs.steps_by_parts.Goals as goal

pub returns-clause-implements : goal.returns-clause-implements
returns-clause-implements c = parts.implements_by_parts

pub returns-clause-below : goal.returns-clause-below
returns-clause-below c = parts.below_by_parts

pub returns-clause-loading : goal.returns-clause-loading
returns-clause-loading c = parts.classes_above_load

use Rattle.bcj_typing_soundness.proofs.Units.{elaborated, each_elaboration}
use Rattle.bcj_typing_soundness.proofs.elaborations_are_well_typed.Goals as goal

pub returns-clause-derived : goal.returns-clause-derived
returns-clause-derived _ = each_elaboration

pub returns-clause-formed : goal.returns-clause-formed
returns-clause-formed _ = elaborated

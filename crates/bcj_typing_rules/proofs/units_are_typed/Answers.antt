use Rattle.std.proofs.Common.{subst}
use Rattle.bcj_typing_rules.specs.Units.{Elaborates}
use Rattle.bcj_typing_rules.specs.Faults.{IsUntyped}
use Rattle.bcj_typing_rules.proofs.Soundness.{Meets}
use Rattle.bcj_typing_rules.proofs.UnitsFound.{unit_says, unit_found, unit_fails, decided, not_both, one_fault}
use Rattle.bcj_typing_rules.proofs.units_are_typed.Goals as goal

pub returns-clause-results : goal.returns-clause-results
returns-clause-results _ units a right own w u h = subst (Meets (Elaborates units own) (IsUntyped units own)) h (unit_says units a right own w.unit w.is_there w.is_whole)

pub returns-clause-faults : goal.returns-clause-faults
returns-clause-faults _ units a right own w at k h = subst (Meets (Elaborates units own) (IsUntyped units own)) h (unit_says units a right own w.unit w.is_there w.is_whole)

pub returns-clause-found : goal.returns-clause-found
returns-clause-found _ units a right only own w u h = unit_found units a right only own w.unit w.is_there w.is_whole u h

pub returns-clause-faults_found : goal.returns-clause-faults_found
returns-clause-faults_found _ units a right only own w at k h = unit_fails units a right only own w.unit w.is_there w.is_whole at k h

pub returns-clause-decided : goal.returns-clause-decided
returns-clause-decided _ units a right own w = decided units a right own w.unit w.is_there w.is_whole

pub returns-clause-excluded : goal.returns-clause-excluded
returns-clause-excluded _ units a right only own w u at k h x =
    not_both _ u at k (unit_found units a right only own w.unit w.is_there w.is_whole u h) (unit_fails units a right only own w.unit w.is_there w.is_whole at k x)

pub returns-clause-one : goal.returns-clause-one
returns-clause-one _ units a right only own w at place k l h x =
    one_fault _ at place k l (unit_fails units a right only own w.unit w.is_there w.is_whole at k h) (unit_fails units a right only own w.unit w.is_there w.is_whole place l x)

use Rattle.std.proofs.Common.{subst}
use Rattle.bcj_typing_rules.specs.Members.{BecomesClass}
use Rattle.bcj_typing_rules.specs.Faults.{TypeFault}
use Rattle.bcj_typing_rules.proofs.Soundness.{Meets}
use Rattle.bcj_typing_rules.proofs.Classes.{type_says}
use Rattle.bcj_typing_rules.proofs.ClassesFound.{class_found, type_fails}
use Rattle.bcj_typing_rules.proofs.types_are_typed.Goals as goal

pub returns-clause-results : goal.returns-clause-results
returns-clause-results _ units a right t w x h = subst (Meets (BecomesClass units t) (TypeFault units t)) h (type_says units a right t w)

pub returns-clause-faults : goal.returns-clause-faults
returns-clause-faults _ units a right t w at k h = subst (Meets (BecomesClass units t) (TypeFault units t)) h (type_says units a right t w)

pub returns-clause-found : goal.returns-clause-found
returns-clause-found _ units a right only t w x h = class_found units a right only t w x h

pub returns-clause-faults_found : goal.returns-clause-faults_found
returns-clause-faults_found _ units a right only t at k h = type_fails units a right only t at k h

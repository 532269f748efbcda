use Rattle.bcj_typing_rules.proofs.ExprFaults.{expr_fails}
use Rattle.bcj_typing_rules.proofs.StmtFaults.{stmt_fails}
use Rattle.bcj_typing_rules.proofs.faults_are_found.Goals as goal

pub returns-clause-expressions : goal.returns-clause-expressions
returns-clause-expressions _ c a right only e at k x = expr_fails c a right only e at k x

pub returns-clause-statements : goal.returns-clause-statements
returns-clause-statements _ c a right only types s at k x = stmt_fails c a right only types s at k x

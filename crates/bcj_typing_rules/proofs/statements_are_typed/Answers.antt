use Rattle.std.proofs.Common.{◌≡◌, subst, sym, ◌∙◌}
use Rattle.bcj_typing_rules.specs.Statements.{Effect, HasEffect}
use Rattle.bcj_typing_rules.specs.Faults.{StmtFault}
use Rattle.bcj_typing_rules.proofs.Soundness.{Meets}
use Rattle.bcj_typing_rules.proofs.Statements.{says_stmt}
use Rattle.bcj_typing_rules.specs.function.Expressions.{Outcome, result}
use Rattle.bcj_typing_rules.proofs.Effects.{stmt_found}
use Rattle.bcj_typing_rules.proofs.statements_are_typed.Goals as goal

pub returns-clause-results : goal.returns-clause-results
returns-clause-results _ c a right types s e h = subst (Meets (HasEffect c types s) (StmtFault c types s)) h (says_stmt c a right types s)

pub returns-clause-faults : goal.returns-clause-faults
returns-clause-faults _ c a right types s at k h = subst (Meets (HasEffect c types s) (StmtFault c types s)) h (says_stmt c a right types s)

pub returns-clause-found : goal.returns-clause-found
returns-clause-found _ c a right only types s e x = stmt_found c a right only types s e x

same_result : (s t : Effect) (o : Outcome Effect) → o ≡ result s → o ≡ result t → s ≡ t
same_result s t o h k = let both : result s ≡ result t = sym h ∙ k in cc

pub returns-clause-one : goal.returns-clause-one
returns-clause-one _ c a right only types s e f x y = same_result e f _ (stmt_found c a right only types s e x) (stmt_found c a right only types s f y)

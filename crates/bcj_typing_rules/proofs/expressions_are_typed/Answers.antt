use Rattle.std.proofs.Common.{◌≡◌, subst, sym, ◌∙◌}
use Rattle.bcj_typing_rules.specs.Expressions.{Typing, Types}
use Rattle.bcj_typing_rules.specs.Faults.{a_value, ExprFault}
use Rattle.bcj_typing_rules.proofs.Soundness.{Meets, says_expr}
use Rattle.bcj_typing_rules.specs.function.Expressions.{Outcome, result}
use Rattle.bcj_typing_rules.proofs.Completeness.{expr_found}
use Rattle.bcj_typing_rules.proofs.expressions_are_typed.Goals as goal

pub returns-clause-results : goal.returns-clause-results
returns-clause-results _ c a right e t h = subst (Meets (Types c e) (ExprFault c (a_value e))) h (says_expr c a right e)

pub returns-clause-faults : goal.returns-clause-faults
returns-clause-faults _ c a right e at k h = subst (Meets (Types c e) (ExprFault c (a_value e))) h (says_expr c a right e)

pub returns-clause-found : goal.returns-clause-found
returns-clause-found _ c a right only e t x = expr_found c a right only e t x

same_result : (s t : Typing) (o : Outcome Typing) → o ≡ result s → o ≡ result t → s ≡ t
same_result s t o h k = let both : result s ≡ result t = sym h ∙ k in cc

pub returns-clause-one : goal.returns-clause-one
returns-clause-one _ c a right only e s t x y = same_result s t _ (expr_found c a right only e s x) (expr_found c a right only e t y)

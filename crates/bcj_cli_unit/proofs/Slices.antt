-- Lists of one item, and of more.
use Rattle.std.proofs.Common.{◌≡◌, ◌<◌, ◌≤◌, false, List, [], ◌∷◌, length, get_or, sym, ap, ◌∙◌, refl, arith, Some, None, option_and_then}
use Rattle.bcj_cli_language.specs.declared.tree.Expression.{Expression}
use Rattle.bcj_cli_language.specs.declared.tree.Statement.TheVariants.{Print}
use Rattle.bcj_cli_language.specs.Plain.{sum_of, act_of}
use Rattle.bcj_cli_language.specs.Tree.{print}
use Rattle.bcj_cli_language.proofs.PlainLemmas.{act-Print}
use Rattle.bcj_parser_trees.specs.declared.expression.Expr.{Expr}
use Rattle.bcj_parser_trees.specs.Plain.{expr_of, exprs_of}
use Rattle.bcj_cli_unit.specs.Kinds.{is_one_sum}
use Rattle.bcj_cli_unit.specs.function.Built.{sum_built, print_built}

list_one : {A : Type 0} (xs : List A) (x : A) → 1 ≤ length xs → length xs < 2 → x ≡ get_or xs 0 x → xs ≡ x ∷ []
list_one [] x h k e = absurd (omega arith)
list_one (y ∷ []) x h k e = ap (λ z. z ∷ []) (sym e)
list_one (y ∷ z ∷ r) x h k e = absurd (omega arith)

pub print_many : (es : List Expr) → 2 ≤ length es → print_built (exprs_of es) ≡ None
print_many [] h = absurd (omega arith)
print_many (e ∷ []) h = absurd (omega arith)
print_many (e ∷ f ∷ es) h = refl

pub no_sum_of_many : (es : List Expr) → 2 ≤ length es → false ≡ is_one_sum (exprs_of es)
no_sum_of_many [] h = absurd (omega arith)
no_sum_of_many (e ∷ []) h = absurd (omega arith)
no_sum_of_many (e ∷ f ∷ es) h = refl

pub print_one : (es : List Expr) (e : Expr) (v : Expression) → 1 ≤ length es → length es < 2 → e ≡ get_or es 0 e → sum_built (expr_of e) ≡ Some (sum_of v) → print_built (exprs_of es) ≡ Some (act_of (Print v))
print_one es e v h k is m = ap (λ l. print_built (exprs_of l)) (list_one es e h k is) ∙ ap (λ o. option_and_then (λ s. Some (print s)) o) m ∙ ap Some (sym (act-Print v))

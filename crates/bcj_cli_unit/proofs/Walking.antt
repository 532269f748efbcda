-- The walk over an `if`.
use Rattle.std.proofs.Common.{◌≡◌, ℕ, Bool, true, Option, None, Result, sym, ap, ◌∙◌, subst}
use Rattle.bcj_parser_trees.specs.declared.expression.Expr.{Expr}
use Rattle.bcj_parser_trees.specs.declared.statement.Stmt.{Stmt}
use Rattle.bcj_parser_trees.specs.declared.statement.Stmt.TheVariants.{If}
use Rattle.bcj_parser_trees.specs.Plain.{expr_of, stmt_of, else_of}
use Rattle.bcj_parser_trees.proofs.PlainLemmas.{stmt-If}
use Rattle.bcj_cli_unit.specs.declared.stop.UnitStop.{UnitStop}
use Rattle.bcj_cli_unit.specs.Kinds.{is_choice}
use Rattle.bcj_cli_unit.specs.Lacking.{first_of, unless, lacking_in, ScopeState, behind, else_behind, lacks, else_lacks}
use Rattle.bcj_cli_unit.specs.function.Outcomes.{Walks}

pub if_walks : (body : Bool) (b : ℕ) (p q new : ScopeState) (s : Stmt) (at : ℕ) (cond : Expr) (first got again : Stmt) (second : Option Stmt) (t : Bool) (result : Result (Unit {0}) UnitStop)
    → s ≡ If at cond first second → lacking_in p.names (expr_of cond) ≡ None → got ≡ first → (lacks true b p (stmt_of got) ≡ None) × (q ≡ behind p (stmt_of got))
    → again ≡ first → t ≡ is_choice (expr_of cond) (stmt_of again) (else_of second)
    → Walks (first_of (else_lacks b q (else_of second)) (unless t at)) (else_behind q (else_of second)) result new → Walks (lacks body b p (stmt_of s)) (behind p (stmt_of s)) result new
if_walks body b p q new s at cond first got again second t result is tested eg walked ea et h =
    let end : ScopeState → Bool → Option ℕ = λ r u. first_of (else_lacks b r (else_of second)) (unless u at) in
    let choice = is_choice (expr_of cond) (stmt_of first) (else_of second) in
    let same_choice : t ≡ choice = et ∙ ap (λ g. is_choice (expr_of cond) (stmt_of g) (else_of second)) ea in
    let found : lacks body b p (stmt_of s) ≡ end q t =
    ap (λ x. lacks body b p (stmt_of x)) is ∙ ap (lacks body b p) (stmt-If at cond first second)
    ∙ ap (λ o. first_of o (first_of (lacks true b p (stmt_of first)) (end (behind p (stmt_of first)) choice))) tested
    ∙ ap (λ g. first_of (lacks true b p (stmt_of g)) (end (behind p (stmt_of g)) choice)) (sym eg)
    ∙ ap (λ o. first_of o (end (behind p (stmt_of got)) choice)) walked.0
    ∙ ap (λ r. end r choice) (sym walked.1) ∙ ap (end q) (sym same_choice) in
    let reached : behind p (stmt_of s) ≡ else_behind q (else_of second) =
    ap (λ x. behind p (stmt_of x)) is ∙ ap (behind p) (stmt-If at cond first second)
    ∙ ap (λ g. else_behind (behind p (stmt_of g)) (else_of second)) (sym eg) ∙ ap (λ r. else_behind r (else_of second)) (sym walked.1) in
    subst (λ o. Walks o (behind p (stmt_of s)) result new) (sym found) (subst (λ r. Walks (end q t) r result new) (sym reached) h)

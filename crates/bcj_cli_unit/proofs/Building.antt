-- Statements that are built one after the other.
use Rattle.std.proofs.Common.{◌≡◌, ℕ, suc, ◌+◌, ◌<◌, ◌≤◌, List, [], ◌∷◌, ◌++◌, length, drop, refl, sym, ap, ◌∙◌, arith, Option, Some, None, option_and_then, get_or}
use Rattle.std.proofs.Math.Seq.{drop-cons}
use Rattle.std.proofs.Math.ListN.{drop_of_length-le}
use Rattle.bcj_cli_language.specs.declared.tree.Statement.{Statement}
use Rattle.bcj_cli_language.specs.Plain.{act_of, acts_of}
use Rattle.bcj_cli_language.specs.Tree.{Acts, nil, cons}
use Rattle.bcj_cli_language.specs.Plain.{test_of}
use Rattle.bcj_cli_language.specs.declared.tree.Condition.{Condition}
use Rattle.bcj_cli_language.specs.declared.tree.Statement.TheVariants.{If as Choose}
use Rattle.bcj_cli_language.proofs.PlainLemmas.{act-If}
use Rattle.bcj_parser_trees.specs.declared.expression.Expr.{Expr}
use Rattle.bcj_parser_trees.specs.declared.statement.Stmt.{Stmt}
use Rattle.bcj_parser_trees.specs.declared.statement.Stmt.TheVariants.{If}
use Rattle.bcj_parser_trees.specs.Plain.{expr_of, else_of}
use Rattle.bcj_parser_trees.proofs.PlainLemmas.{stmt-If}
use Rattle.bcj_parser_trees.specs.Plain.{stmt_of, stmts_of}
use Rattle.bcj_cli_unit.specs.function.Built.{with_both, choice_built, test_built, act_built, acts_built, block_built, else_built}

abbrev pub put_before : List Statement → Acts → Acts
put_before [] p = p
put_before (s ∷ ss) p = cons (act_of s) (put_before ss p)

-- what is built, and what comes behind it
abbrev pub built_so_far : List Statement → Option Acts → Option Acts
built_so_far built rest = option_and_then (λ p. Some (put_before built p)) rest

put_last : (built : List Statement) (s : Statement) (p : Acts) → put_before (built ++ s ∷ []) p ≡ put_before built (cons (act_of s) p)
put_last [] s p = refl
put_last (b ∷ built) s p = ap (cons (act_of b)) (put_last built s p)

put_none : (built : List Statement) → put_before built nil ≡ acts_of built
put_none [] = refl
put_none (b ∷ built) = ap (cons (act_of b)) (put_none built)

stmts_at : (all : List Stmt) (i : ℕ) (s : Stmt) → i < length all → s ≡ get_or all i s → acts_built (stmts_of (drop i all)) ≡ with_both cons (act_built (stmt_of s)) (acts_built (stmts_of (drop (i + 1) all)))
stmts_at all i s lt e =
    ap (λ l. acts_built (stmts_of l)) (drop-cons all i s lt)
    ∙ ap (λ x. with_both cons (act_built (stmt_of x)) (acts_built (stmts_of (drop (suc i) all)))) (sym e)
    ∙ ap (λ k. with_both cons (act_built (stmt_of s)) (acts_built (stmts_of (drop k all)))) (let k : suc i ≡ i + 1 = omega arith in k)

put_rest : (built : List Statement) (s : Statement) (rest : Option Acts) → built_so_far built (with_both cons (Some (act_of s)) rest) ≡ built_so_far (built ++ s ∷ []) rest
put_rest built s None = refl
put_rest built s (Some p) = ap Some (sym (put_last built s p))

pub build_more : (all : List Stmt) (i : ℕ) (s : Stmt) (built new : List Statement) (b : Statement) (o : Option Acts) → i < length all → s ≡ get_or all i s
    → act_built (stmt_of s) ≡ Some (act_of b) → new ≡ built ++ b ∷ []
    → built_so_far built (acts_built (stmts_of (drop i all))) ≡ o → built_so_far new (acts_built (stmts_of (drop (i + 1) all))) ≡ o
build_more all i s built new b o lt e m n h =
    let rest = acts_built (stmts_of (drop (i + 1) all)) in
    ap (λ l. built_so_far l rest) n ∙ sym (put_rest built b rest) ∙ ap (λ a. built_so_far built (with_both cons a rest)) (sym m) ∙ ap (built_so_far built) (sym (stmts_at all i s lt e)) ∙ h

-- one of them has no form
pub build_missed : (all : List Stmt) (i : ℕ) (s : Stmt) (built : List Statement) (o : Option Acts) → i < length all → s ≡ get_or all i s
    → act_built (stmt_of s) ≡ None → built_so_far built (acts_built (stmts_of (drop i all))) ≡ o → o ≡ None
build_missed all i s built o lt e m h =
    let rest = acts_built (stmts_of (drop (i + 1) all)) in
    sym h ∙ ap (built_so_far built) (stmts_at all i s lt e) ∙ ap (λ a. built_so_far built (with_both cons a rest)) m

pub build_done : (all : List Stmt) (i : ℕ) (built : List Statement) (o : Option Acts) → length all ≤ i → built_so_far built (acts_built (stmts_of (drop i all))) ≡ o → o ≡ Some (acts_of built)
build_done all i built o le h = sym h ∙ ap (λ l. built_so_far built (acts_built (stmts_of l))) (drop_of_length-le all {i = i} le) ∙ ap Some (put_none built)

pub chosen : (s : Stmt) (at : ℕ) (cond : Expr) (first got : Stmt) (second : Option Stmt) (t : Condition) (p q : List Statement)
    → s ≡ If at cond first second → test_built (expr_of cond) ≡ Some (test_of t) → got ≡ first → block_built (stmt_of got) ≡ Some (acts_of p) → else_built (else_of second) ≡ Some (acts_of q)
    → act_built (stmt_of s) ≡ Some (act_of (Choose t p q))
chosen s at cond first got second t p q is et eg ep eq =
    ap (λ x. act_built (stmt_of x)) is ∙ ap act_built (stmt-If at cond first second)
    ∙ ap (λ o. choice_built o (block_built (stmt_of first)) (else_built (else_of second))) et
    ∙ ap (λ g. choice_built (Some (test_of t)) (block_built (stmt_of g)) (else_built (else_of second))) (sym eg)
    ∙ ap (λ o. choice_built (Some (test_of t)) o (else_built (else_of second))) ep
    ∙ ap (λ o. choice_built (Some (test_of t)) (Some (acts_of p)) o) eq
    ∙ ap Some (sym (act-If t p q))

-- Lists of expressions that are known by their lengths.
use Rattle.std.proofs.Common.{◌≡◌, refl, ◌<◌, ◌≤◌, ◌==◌, false, List, [], ◌∷◌, length, arith}
use Rattle.std.proofs.lemmas.Grind.{common_steps}
use Rattle.bcj_symbolic_trees.specs.declared.expression.PrintKind.{PrintKind}
use Rattle.bcj_symbolic_trees.specs.declared.expression.PrintKind.TheVariants as print_kind
use Rattle.bcj_symbolic_trees.specs.declared.expression.SymExpr.{SymExpr}
use Rattle.bcj_symbolic_trees.specs.Plain.{exprs_of, stmts_of}
use Rattle.bcj_symbolic_check.specs.Judgements.{Frame, print_takes, sorts}
use Rattle.bcj_symbolic_trees.specs.declared.statement.SymStmt.{SymStmt}
use Rattle.bcj_symbolic_check.specs.Classes.{is_empty}
use Rattle.bcj_symbolic_check.specs.Statements.{are_none, exprs_marks}

pub none_by_length : (es : List SymExpr) → are_none (exprs_of es) ≡ (length es == 0)
none_by_length [] = refl
none_by_length (e ∷ es) = grind (arith, common_steps)

pub no_marks : (f : Frame) (es : List SymExpr) → length es < 1 → exprs_marks f (exprs_of es) ≡ []
no_marks f [] h = refl
no_marks f (e ∷ es) h = absurd (omega arith)

pub no_sorts : (f : Frame) (es : List SymExpr) → length es < 1 → sorts f (exprs_of es) ≡ []
no_sorts f [] h = refl
no_sorts f (e ∷ es) h = absurd (omega arith)

pub too_many : (k : PrintKind) (f : Frame) (es : List SymExpr) → 2 ≤ length es → print_takes k (sorts f (exprs_of es)) ≡ false
too_many k f [] h = absurd (omega arith)
too_many k f (e ∷ []) h = absurd (omega arith)
too_many print_kind.Int f (e ∷ d ∷ es) h = refl
too_many print_kind.Bool f (e ∷ d ∷ es) h = refl
too_many print_kind.Line f (e ∷ d ∷ es) h = refl
too_many print_kind.Byte f (e ∷ d ∷ es) h = refl

pub empty_by_length : (ss : List SymStmt) → is_empty (stmts_of ss) ≡ (length ss == 0)
empty_by_length [] = refl
empty_by_length (s ∷ ss) = grind (arith, common_steps)

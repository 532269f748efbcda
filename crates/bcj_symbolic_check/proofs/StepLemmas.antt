-- A walk over a list of nodes, one after the other.
use Rattle.std.proofs.Common.{◌≡◌, refl, ap, sym, ◌∙◌, ℕ, ◌+◌, ◌<◌, ◌≤◌, Bool, true, false, ◌&&◌, List, [], ◌∷◌, ◌++◌, drop, length, get_or, map, arith}
use Rattle.std.proofs.lemmas.List.{drop_more}
use Rattle.std.proofs.lemmas.Grind.{common_steps}
use Rattle.bcj_symbolic_trees.specs.declared.expression.SymExpr.{SymExpr}
use Rattle.bcj_symbolic_trees.specs.declared.statement.SymStmt.{SymStmt}
use Rattle.bcj_symbolic_trees.specs.declared.statement.SymCatch.{SymCatch}
use Rattle.bcj_symbolic_trees.specs.declared.class_tree.SymMethod.{SymMethod}
use Rattle.bcj_symbolic_trees.specs.Types.{PlainTy}
use Rattle.bcj_symbolic_trees.specs.Plain.{expr_of, exprs_of, stmt_of, stmts_of, catches_of}
use Rattle.bcj_symbolic_check.specs.declared.walk.Walk.{Walk}
use Rattle.bcj_symbolic_check.specs.Judgements.{Frame, Known, judge, sorts, arguments_step, no_types}
use Rattle.bcj_symbolic_check.specs.function.Arguments.{steps_to_first, behind_first}
use Rattle.bcj_symbolic_check.specs.Statements.{expr_marks, exprs_marks, stmt_marks, stmts_marks, catches_marks}
use Rattle.bcj_symbolic_trees.specs.Units.{PlainClass, PlainPair, method_of}
use Rattle.bcj_symbolic_check.specs.Classes.{method_frame, methods_marks}
use Rattle.bcj_symbolic_check.specs.function.Walks.{noted}
use Rattle.bcj_symbolic_check.proofs.WalkLemmas.{noted-nil, noted-append}

pub drops_all : {X : Type 0} (xs : List X) (i : ℕ) → length xs ≤ i → drop i xs ≡ []
drops_all xs i h = grind (arith, common_steps)

pub walk_more : {X : Type 0} (M : List X → List Bool) (m : X → List Bool) → ((x : X) (xs : List X) → M (x ∷ xs) ≡ m x ++ M xs)
    → (w v u : Walk) (xs : List X) (i : ℕ) (d : X) → i < length xs → d ≡ get_or xs i d → v ≡ noted w (m d) → noted w (M (drop i xs)) ≡ u
    → noted v (M (drop (i + 1) xs)) ≡ u
walk_more {X = X} M m more w v u xs i d h is ev e =
    ap (λ (a : Walk). noted a (M (drop (i + 1) xs))) ev
    ∙ noted-append w (m d) (M (drop (i + 1) xs))
    ∙ ap (noted w) (sym (more d (drop (i + 1) xs)))
    ∙ ap (λ (x : X). noted w (M (x ∷ drop (i + 1) xs))) is
    ∙ ap (λ (l : List X). noted w (M l)) (sym (drop_more xs i d h))
    ∙ e

pub walk_done : {X : Type 0} (M : List X → List Bool) → M [] ≡ [] → (w u : Walk) (xs : List X) (i : ℕ) → length xs ≤ i → noted w (M (drop i xs)) ≡ u → w ≡ u
walk_done {X = X} M none w u xs i h e =
    sym (noted-nil w) ∙ ap (noted w) (sym none) ∙ ap (λ (l : List X). noted w (M l)) (sym (drops_all xs i h)) ∙ e

pub exprs_more : (f : Frame) (w v u : Walk) (xs : List SymExpr) (i : ℕ) (d : SymExpr) → i < length xs → d ≡ get_or xs i d → v ≡ noted w (expr_marks f (expr_of d))
    → noted w (exprs_marks f (exprs_of (drop i xs))) ≡ u → noted v (exprs_marks f (exprs_of (drop (i + 1) xs))) ≡ u
exprs_more f w v u xs i d h is ev e = walk_more (λ l. exprs_marks f (exprs_of l)) (λ x. expr_marks f (expr_of x)) (λ x l. refl) w v u xs i d h is ev e

pub exprs_done : (f : Frame) (w u : Walk) (xs : List SymExpr) (i : ℕ) → length xs ≤ i → noted w (exprs_marks f (exprs_of (drop i xs))) ≡ u → w ≡ u
exprs_done f w u xs i h e = walk_done (λ l. exprs_marks f (exprs_of l)) refl w u xs i h e

pub stmts_more : (f : Frame) (looped : Bool) (w v u : Walk) (xs : List SymStmt) (i : ℕ) (d : SymStmt) → i < length xs → d ≡ get_or xs i d → v ≡ noted w (stmt_marks f looped (stmt_of d))
    → noted w (stmts_marks f looped (stmts_of (drop i xs))) ≡ u → noted v (stmts_marks f looped (stmts_of (drop (i + 1) xs))) ≡ u
stmts_more f looped w v u xs i d h is ev e = walk_more (λ l. stmts_marks f looped (stmts_of l)) (λ x. stmt_marks f looped (stmt_of x)) (λ x l. refl) w v u xs i d h is ev e

pub stmts_done : (f : Frame) (looped : Bool) (w u : Walk) (xs : List SymStmt) (i : ℕ) → length xs ≤ i → noted w (stmts_marks f looped (stmts_of (drop i xs))) ≡ u → w ≡ u
stmts_done f looped w u xs i h e = walk_done (λ l. stmts_marks f looped (stmts_of l)) refl w u xs i h e

pub catches_more : (f : Frame) (looped : Bool) (w v u : Walk) (xs : List SymCatch) (i : ℕ) (d : SymCatch) (b : List SymStmt) → i < length xs → d ≡ get_or xs i d → b ≡ d.body → v ≡ noted w (stmts_marks f looped (stmts_of b))
    → noted w (catches_marks f looped (catches_of (drop i xs))) ≡ u → noted v (catches_marks f looped (catches_of (drop (i + 1) xs))) ≡ u
catches_more f looped w v u xs i d b h is eb ev e =
    walk_more (λ l. catches_marks f looped (catches_of l)) (λ (x : SymCatch). stmts_marks f looped (stmts_of x.body)) (λ x l. refl) w v u xs i d h is
    (ev ∙ ap (λ (l : List SymStmt). noted w (stmts_marks f looped (stmts_of l))) eb) e

pub catches_done : (f : Frame) (looped : Bool) (w u : Walk) (xs : List SymCatch) (i : ℕ) → length xs ≤ i → noted w (catches_marks f looped (catches_of (drop i xs))) ≡ u → w ≡ u
catches_done f looped w u xs i h e = walk_done (λ l. catches_marks f looped (catches_of l)) refl w u xs i h e

and_assoc : (a b c : Bool) → ((a && b) && c) ≡ (a && (b && c))
and_assoc true b c = refl
and_assoc false b c = refl

-- the first argument steps to the first parameter, and the others to those behind it
arguments_first : (pairs : List PlainPair) (k : Known) (ks : List Known) (ts : List PlainTy)
    → arguments_step pairs (k ∷ ks) ts ≡ (steps_to_first pairs ts k && arguments_step pairs ks (behind_first ts))
unfolding steps_to_first behind_first
arguments_first pairs k ks [] = refl
arguments_first pairs k ks (t ∷ ts) = refl

-- where no argument is left, no parameter is
no_arguments : (pairs : List PlainPair) (ts : List PlainTy) → arguments_step pairs [] ts ≡ no_types ts
unfolding no_types
no_arguments pairs [] = refl
no_arguments pairs (t ∷ ts) = refl

-- whether the arguments fit, one argument on
pub fit_more : (f : Frame) (es : List SymExpr) (i : ℕ) (d : SymExpr) (fit after fits : Bool) (ts others : List PlainTy) (k : Known) (u : Bool)
    → i < length es → d ≡ get_or es i d → k ≡ (judge f (expr_of d)).gives → fits ≡ steps_to_first f.pairs ts k → others ≡ behind_first ts → after ≡ (fit && fits)
    → (fit && arguments_step f.pairs (sorts f (exprs_of (drop i es))) ts) ≡ u → (after && arguments_step f.pairs (sorts f (exprs_of (drop (i + 1) es))) others) ≡ u
fit_more f es i d fit after fits ts others k u h is known ef eo ea e =
    let step : arguments_step f.pairs (sorts f (exprs_of (drop i es))) ts ≡ (steps_to_first f.pairs ts (judge f (expr_of (get_or es i d))).gives && arguments_step f.pairs (sorts f (exprs_of (drop (i + 1) es))) (behind_first ts))
    = ap (λ (l : List SymExpr). arguments_step f.pairs (sorts f (exprs_of l)) ts) (drop_more es i d h) ∙ arguments_first f.pairs _ _ ts in
    let same : judge f (expr_of d) ≡ judge f (expr_of (get_or es i d)) = ap (λ (x : SymExpr). judge f (expr_of x)) is in
    let assoc : ((fit && fits) && arguments_step f.pairs (sorts f (exprs_of (drop (i + 1) es))) others) ≡ (fit && (fits && arguments_step f.pairs (sorts f (exprs_of (drop (i + 1) es))) others)) = and_assoc fit fits (arguments_step f.pairs (sorts f (exprs_of (drop (i + 1) es))) others) in
    cc

-- whether the arguments fit, behind the last
pub fit_done : (f : Frame) (es : List SymExpr) (i : ℕ) (fit none fits : Bool) (ts : List PlainTy) (u : Bool)
    → length es ≤ i → none ≡ no_types ts → fits ≡ (fit && none) → (fit && arguments_step f.pairs (sorts f (exprs_of (drop i es))) ts) ≡ u → fits ≡ u
fit_done f es i fit none fits ts u h en ef e =
    let at_end : arguments_step f.pairs (sorts f (exprs_of (drop i es))) ts ≡ no_types ts
    = ap (λ (l : List SymExpr). arguments_step f.pairs (sorts f (exprs_of l)) ts) (drops_all es i h) ∙ no_arguments f.pairs ts in
    cc

pub methods_more : (p : PlainClass) (w v u : Walk) (xs : List SymMethod) (i : ℕ) (d : SymMethod) (f : Frame) (b : List SymStmt) → i < length xs → d ≡ get_or xs i d
    → b ≡ d.body → f ≡ method_frame p (method_of d) → v ≡ noted w (stmts_marks f false (stmts_of b))
    → noted w (methods_marks p (map method_of (drop i xs))) ≡ u → noted v (methods_marks p (map method_of (drop (i + 1) xs))) ≡ u
methods_more p w v u xs i d f b h is eb ef ev e =
    walk_more (λ l. methods_marks p (map method_of l)) (λ (x : SymMethod). stmts_marks (method_frame p (method_of x)) false (stmts_of x.body)) (λ x l. refl) w v u xs i d h is
    (ev ∙ ap (λ (l : List SymStmt). noted w (stmts_marks f false (stmts_of l))) eb ∙ ap (λ (g : Frame). noted w (stmts_marks g false (stmts_of d.body))) ef) e

pub methods_done : (p : PlainClass) (w u : Walk) (xs : List SymMethod) (i : ℕ) → length xs ≤ i → noted w (methods_marks p (map method_of (drop i xs))) ≡ u → w ≡ u
methods_done p w u xs i h e = walk_done (λ l. methods_marks p (map method_of l)) refl w u xs i h e

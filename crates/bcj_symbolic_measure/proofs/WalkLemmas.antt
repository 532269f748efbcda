-- Counts over arguments, expressions, statements, catches and methods, one after the other.
use Rattle.std.proofs.Common.{◌≡◌, refl, ap, sym, ◌∙◌, ℕ, ◌+◌, ◌<◌, ◌≤◌, List, [], ◌∷◌, ◌++◌, drop, length, get_or, map, append_assoc}
use Rattle.std.proofs.lemmas.List.{drop_more}
use Rattle.bcj_symbolic_trees.specs.declared.expression.SymExpr.{SymExpr}
use Rattle.bcj_symbolic_trees.specs.declared.statement.SymStmt.{SymStmt}
use Rattle.bcj_symbolic_trees.specs.declared.statement.SymCatch.{SymCatch}
use Rattle.bcj_symbolic_trees.specs.declared.class_tree.SymMethod.{SymMethod}
use Rattle.bcj_symbolic_trees.specs.Plain.{expr_of, exprs_of, stmt_of, stmts_of, catches_of}
use Rattle.bcj_symbolic_trees.specs.Units.{PlainClass, method_of}
use Rattle.bcj_symbolic_check.specs.Judgements.{Frame}
use Rattle.bcj_symbolic_measure.specs.Scheme.{Piece, plain, handled, entry, expr_pieces, exprs_pieces, args_pieces, stmt_pieces, stmts_pieces, catches_pieces}
use Rattle.bcj_symbolic_measure.specs.Bodies.{method_pieces, methods_pieces, init_end}
use Rattle.bcj_symbolic_measure.specs.function.Counts.{Counts, noted, closed, bodies_noted}
use Rattle.bcj_symbolic_measure.proofs.CountLemmas.{noted-append}
use Rattle.bcj_symbolic_measure.proofs.StepLemmas.{pieces_more, pieces_done, drops_all}

pub args_more : (f : Frame) (w v r u : Counts) (xs : List SymExpr) (i : ℕ) (d : SymExpr) → i < length xs → d ≡ get_or xs i d
    → v ≡ noted w (expr_pieces f (expr_of d)) → r ≡ noted v (plain 1 ∷ []) → noted w (args_pieces f (exprs_of (drop i xs))) ≡ u
    → noted r (args_pieces f (exprs_of (drop (i + 1) xs))) ≡ u
args_more f w v r u xs i d h is ev er e =
    pieces_more (λ l. args_pieces f (exprs_of l)) (λ (x : SymExpr). expr_pieces f (expr_of x) ++ plain 1 ∷ [])
    (λ x l. sym (append_assoc (expr_pieces f (expr_of x)) (plain 1 ∷ []) (args_pieces f (exprs_of l))))
    w r u xs i d h is
    (er ∙ ap (λ (a : Counts). noted a (plain 1 ∷ [])) ev ∙ noted-append w (expr_pieces f (expr_of d)) (plain 1 ∷ []))
    e

pub args_done : (f : Frame) (w u : Counts) (xs : List SymExpr) (i : ℕ) → length xs ≤ i → noted w (args_pieces f (exprs_of (drop i xs))) ≡ u → w ≡ u
args_done f w u xs i h e = pieces_done (λ l. args_pieces f (exprs_of l)) refl w u xs i h e

pub exprs_more : (f : Frame) (w v u : Counts) (xs : List SymExpr) (i : ℕ) (d : SymExpr) → i < length xs → d ≡ get_or xs i d
    → v ≡ noted w (expr_pieces f (expr_of d)) → noted w (exprs_pieces f (exprs_of (drop i xs))) ≡ u → noted v (exprs_pieces f (exprs_of (drop (i + 1) xs))) ≡ u
exprs_more f w v u xs i d h is ev e = pieces_more (λ l. exprs_pieces f (exprs_of l)) (λ (x : SymExpr). expr_pieces f (expr_of x)) (λ x l. refl) w v u xs i d h is ev e

pub exprs_done : (f : Frame) (w u : Counts) (xs : List SymExpr) (i : ℕ) → length xs ≤ i → noted w (exprs_pieces f (exprs_of (drop i xs))) ≡ u → w ≡ u
exprs_done f w u xs i h e = pieces_done (λ l. exprs_pieces f (exprs_of l)) refl w u xs i h e

pub stmts_more : (f : Frame) (w v u : Counts) (xs : List SymStmt) (i : ℕ) (d : SymStmt) → i < length xs → d ≡ get_or xs i d
    → v ≡ noted w (stmt_pieces f (stmt_of d)) → noted w (stmts_pieces f (stmts_of (drop i xs))) ≡ u → noted v (stmts_pieces f (stmts_of (drop (i + 1) xs))) ≡ u
stmts_more f w v u xs i d h is ev e = pieces_more (λ l. stmts_pieces f (stmts_of l)) (λ (x : SymStmt). stmt_pieces f (stmt_of x)) (λ x l. refl) w v u xs i d h is ev e

pub stmts_done : (f : Frame) (w u : Counts) (xs : List SymStmt) (i : ℕ) → length xs ≤ i → noted w (stmts_pieces f (stmts_of (drop i xs))) ≡ u → w ≡ u
stmts_done f w u xs i h e = pieces_done (λ l. stmts_pieces f (stmts_of l)) refl w u xs i h e

catch_pieces : Frame → SymCatch → List Piece
catch_pieces f x = handled x.class ∷ plain 1 ∷ (stmts_pieces f (stmts_of x.body) ++ plain 1 ∷ [])

catch_more : (f : Frame) (x : SymCatch) (l : List SymCatch) → catches_pieces f (catches_of (x ∷ l)) ≡ catch_pieces f x ++ catches_pieces f (catches_of l)
unfolding catch_pieces
catch_more f x l =
    ap (λ (ps : List Piece). handled x.class ∷ plain 1 ∷ ps)
    (sym (append_assoc (stmts_pieces f (stmts_of x.body)) (plain 1 ∷ []) (catches_pieces f (catches_of l))))

catch_noted : (f : Frame) (x : SymCatch) (w v r s t : Counts) (b : List SymStmt) (class : List ℕ) → class ≡ x.class → b ≡ x.body
    → v ≡ noted w (handled class ∷ []) → r ≡ noted v (plain 1 ∷ []) → s ≡ noted r (stmts_pieces f (stmts_of b)) → t ≡ noted s (plain 1 ∷ [])
    → t ≡ noted w (catch_pieces f x)
unfolding catch_pieces
catch_noted f x w v r s t b class ec eb ev er es et =
    et
    ∙ ap (λ (a : Counts). noted a (plain 1 ∷ [])) (es ∙ ap (λ (l : List SymStmt). noted r (stmts_pieces f (stmts_of l))) eb)
    ∙ noted-append r (stmts_pieces f (stmts_of x.body)) (plain 1 ∷ [])
    ∙ ap (λ (a : Counts). noted a (stmts_pieces f (stmts_of x.body) ++ plain 1 ∷ [])) er
    ∙ noted-append v (plain 1 ∷ []) (stmts_pieces f (stmts_of x.body) ++ plain 1 ∷ [])
    ∙ ap (λ (a : Counts). noted a (plain 1 ∷ (stmts_pieces f (stmts_of x.body) ++ plain 1 ∷ []))) (ev ∙ ap (λ (c : List ℕ). noted w (handled c ∷ [])) ec)
    ∙ noted-append w (handled x.class ∷ []) (plain 1 ∷ (stmts_pieces f (stmts_of x.body) ++ plain 1 ∷ []))

pub catches_more : (f : Frame) (w v r s t u : Counts) (xs : List SymCatch) (i : ℕ) (d : SymCatch) (b : List SymStmt) (class : List ℕ) → i < length xs → d ≡ get_or xs i d
    → class ≡ d.class → b ≡ d.body → v ≡ noted w (handled class ∷ []) → r ≡ noted v (plain 1 ∷ []) → s ≡ noted r (stmts_pieces f (stmts_of b)) → t ≡ noted s (plain 1 ∷ [])
    → noted w (catches_pieces f (catches_of (drop i xs))) ≡ u → noted t (catches_pieces f (catches_of (drop (i + 1) xs))) ≡ u
catches_more f w v r s t u xs i d b class h is ec eb ev er es et e =
    pieces_more (λ l. catches_pieces f (catches_of l)) (catch_pieces f) (catch_more f) w t u xs i d h is (catch_noted f d w v r s t b class ec eb ev er es et) e

pub catches_done : (f : Frame) (w u : Counts) (xs : List SymCatch) (i : ℕ) → length xs ≤ i → noted w (catches_pieces f (catches_of (drop i xs))) ≡ u → w ≡ u
catches_done f w u xs i h e = pieces_done (λ l. catches_pieces f (catches_of l)) refl w u xs i h e

-- ---- bodies, each closed

pub methods_more : (p : PlainClass) (w v r u : Counts) (xs : List SymMethod) (i : ℕ) (d : SymMethod) → i < length xs → d ≡ get_or xs i d
    → v ≡ noted w (method_pieces p (method_of d)) → r ≡ closed v → bodies_noted w (methods_pieces p (map method_of (drop i xs))) ≡ u
    → bodies_noted r (methods_pieces p (map method_of (drop (i + 1) xs))) ≡ u
unfolding bodies_noted
methods_more p w v r u xs i d h is ev er e =
    ap (λ (a : Counts). bodies_noted a (methods_pieces p (map method_of (drop (i + 1) xs)))) (er ∙ ap closed ev)
    ∙ ap (λ (x : SymMethod). bodies_noted w (methods_pieces p (map method_of (x ∷ drop (i + 1) xs)))) is
    ∙ ap (λ (l : List SymMethod). bodies_noted w (methods_pieces p (map method_of l))) (sym (drop_more xs i d h))
    ∙ e

pub methods_done : (p : PlainClass) (w u : Counts) (xs : List SymMethod) (i : ℕ) → length xs ≤ i → bodies_noted w (methods_pieces p (map method_of (drop i xs))) ≡ u → w ≡ u
unfolding bodies_noted
methods_done p w u xs i h e = ap (λ (l : List SymMethod). bodies_noted w (methods_pieces p (map method_of l))) (sym (drops_all xs i h)) ∙ e

pub bodies-begin : (w : Counts) (b : List Piece) (bs : List (List Piece)) → bodies_noted (closed (noted w b)) bs ≡ bodies_noted w (b ∷ bs)
unfolding bodies_noted
bodies-begin w b bs = refl

-- the pieces of a class initialiser, in turn
pub init-noted : (w a b d e f : Counts) (n m : ℕ) (s : List Piece) (g h : Frame) (x y : List SymStmt) → a ≡ noted w (plain entry ∷ []) → b ≡ noted a (plain n ∷ []) → d ≡ noted b s
    → e ≡ noted d (stmts_pieces g (stmts_of x)) → f ≡ noted e init_end → n ≡ m → g ≡ h → x ≡ y
    → f ≡ noted w (plain entry ∷ plain m ∷ (s ++ (stmts_pieces h (stmts_of y) ++ init_end)))
init-noted w a b d e f n m s g h x y ea eb ed ee ef en eg ex =
    ef
    ∙ ap (λ (k : Counts). noted k init_end) ee
    ∙ noted-append d (stmts_pieces g (stmts_of x)) init_end
    ∙ ap (λ (k : Counts). noted k (stmts_pieces g (stmts_of x) ++ init_end)) ed
    ∙ noted-append b s (stmts_pieces g (stmts_of x) ++ init_end)
    ∙ ap (λ (k : Counts). noted k (s ++ (stmts_pieces g (stmts_of x) ++ init_end))) eb
    ∙ noted-append a (plain n ∷ []) (s ++ (stmts_pieces g (stmts_of x) ++ init_end))
    ∙ ap (λ (k : Counts). noted k (plain n ∷ (s ++ (stmts_pieces g (stmts_of x) ++ init_end)))) ea
    ∙ noted-append w (plain entry ∷ []) (plain n ∷ (s ++ (stmts_pieces g (stmts_of x) ++ init_end)))
    ∙ (λ i. noted w (plain entry ∷ plain (en i) ∷ (s ++ (stmts_pieces (eg i) (stmts_of (ex i)) ++ init_end))))

-- Lines, ranges and labels of arguments, expressions, statements and catches, one after the other.
use Rattle.std.proofs.Common.{◌≡◌, refl, ap, sym, ◌∙◌, ℕ, ◌+◌, ◌<◌, ◌≤◌, List, [], ◌∷◌, ◌++◌, drop, length, get_or, append_assoc, Some, arith}
use Rattle.std.proofs.lemmas.Grind.{common_steps}
use Rattle.bcj_symbolic_trees.specs.declared.expression.SymExpr.{SymExpr}
use Rattle.bcj_symbolic_trees.specs.declared.statement.SymStmt.{SymStmt}
use Rattle.bcj_symbolic_trees.specs.declared.statement.SymCatch.{SymCatch}
use Rattle.bcj_symbolic_trees.specs.Types.{PlainMethodRef}
use Rattle.bcj_symbolic_trees.specs.Plain.{expr_of, exprs_of, stmt_of, stmts_of, catches_of}
use Rattle.bcj_symbolic_measure.specs.Entries.{PlainEntry, new_entry}
use Rattle.rv_steps.specs.Services as services
use Rattle.bcj_lower_rules.specs.Lines.{Line, place, jump}
use Rattle.bcj_lower_rules.specs.Words.{save, set_local_word, initialised, read_at, take_entry, service}
use Rattle.bcj_lower_rules.specs.Nodes.{Context, Around, expr_lines, args_lines, exprs_lines, stmt_lines, stmts_lines, catches_lines, static_lines, made, expr_labels, exprs_labels, stmt_labels, stmts_labels, catches_labels, catch_count}
use Rattle.bcj_lower_rules.specs.Ranges.{LabelRange, stmt_ranges, stmts_ranges, catches_ranges, own_ranges}
use Rattle.bcj_lower_bodies.proofs.Steps.{list_more, list_done, sum_more, sum_done}

-- ---- the parts of a node that are no part of its tree

pub static-is : (cx : Context) (e : PlainEntry) → static_lines cx e ≡ initialised e ++ read_at 0
unfolding static_lines
static-is cx e = refl

pub made-is : (cx : Context) (m : PlainMethodRef) → made cx m ≡ initialised (new_entry m.class) ++ (take_entry ++ service services.new)
unfolding made
made-is cx m = refl

-- ---- expressions

module _ (cx : Context) where
  pub args_more : (w v r u : List Line) (d f k n : ℕ) (xs : List SymExpr) (i : ℕ) (e : SymExpr) → i < length xs → e ≡ get_or xs i e
      → v ≡ w ++ expr_lines cx d k (expr_of e) → r ≡ v ++ save d → f ≡ d + 1 → n ≡ k + expr_labels (expr_of e)
      → w ++ args_lines cx d k (exprs_of (drop i xs)) ≡ u → r ++ args_lines cx f n (exprs_of (drop (i + 1) xs)) ≡ u
  args_more w v r u d f k n xs i e h is ev er ef en p =
      (λ j. r ++ args_lines cx (ef j) (en j) (exprs_of (drop (i + 1) xs)))
      ∙ list_more (λ l. args_lines cx d k (exprs_of l)) (expr_lines cx d k (expr_of e) ++ save d)
      (args_lines cx (d + 1) (k + expr_labels (expr_of e)) (exprs_of (drop (i + 1) xs))) w r u xs i e h is
      (sym (append_assoc (expr_lines cx d k (expr_of e)) (save d) (args_lines cx (d + 1) (k + expr_labels (expr_of e)) (exprs_of (drop (i + 1) xs)))))
      (er ∙ ap (λ (a : List Line). a ++ save d) ev ∙ append_assoc w (expr_lines cx d k (expr_of e)) (save d))
      p

  pub args_done : (w u : List Line) (d k : ℕ) (xs : List SymExpr) (i : ℕ) → length xs ≤ i → w ++ args_lines cx d k (exprs_of (drop i xs)) ≡ u → w ≡ u
  args_done w u d k xs i h e = list_done (λ l. args_lines cx d k (exprs_of l)) refl w u xs i h e

  pub exprs_more : (w v u : List Line) (d k n : ℕ) (xs : List SymExpr) (i : ℕ) (e : SymExpr) → i < length xs → e ≡ get_or xs i e
      → v ≡ w ++ expr_lines cx d k (expr_of e) → n ≡ k + expr_labels (expr_of e)
      → w ++ exprs_lines cx d k (exprs_of (drop i xs)) ≡ u → v ++ exprs_lines cx d n (exprs_of (drop (i + 1) xs)) ≡ u
  exprs_more w v u d k n xs i e h is ev en p =
      ap (λ (a : ℕ). v ++ exprs_lines cx d a (exprs_of (drop (i + 1) xs))) en
      ∙ list_more (λ l. exprs_lines cx d k (exprs_of l)) (expr_lines cx d k (expr_of e))
      (exprs_lines cx d (k + expr_labels (expr_of e)) (exprs_of (drop (i + 1) xs))) w v u xs i e h is refl ev p

  pub exprs_done : (w u : List Line) (d k : ℕ) (xs : List SymExpr) (i : ℕ) → length xs ≤ i → w ++ exprs_lines cx d k (exprs_of (drop i xs)) ≡ u → w ≡ u
  exprs_done w u d k xs i h e = list_done (λ l. exprs_lines cx d k (exprs_of l)) refl w u xs i h e

pub exprs_counted : (k n u : ℕ) (xs : List SymExpr) (i : ℕ) (e : SymExpr) → i < length xs → e ≡ get_or xs i e → n ≡ k + expr_labels (expr_of e)
    → k + exprs_labels (exprs_of (drop i xs)) ≡ u → n + exprs_labels (exprs_of (drop (i + 1) xs)) ≡ u
exprs_counted k n u xs i e h is en p =
    sum_more (λ l. exprs_labels (exprs_of l)) (expr_labels (expr_of e)) (exprs_labels (exprs_of (drop (i + 1) xs))) k n u xs i e h is refl en p

pub exprs_count : (k u : ℕ) (xs : List SymExpr) (i : ℕ) → length xs ≤ i → k + exprs_labels (exprs_of (drop i xs)) ≡ u → k ≡ u
exprs_count k u xs i h e = sum_done (λ l. exprs_labels (exprs_of l)) refl k u xs i h e

-- ---- statements

module _ (cx : Context) (around : Around) where
  pub stmts_more : (w v u : List Line) (k n : ℕ) (xs : List SymStmt) (i : ℕ) (s : SymStmt) → i < length xs → s ≡ get_or xs i s
      → v ≡ w ++ stmt_lines cx around k (stmt_of s) → n ≡ k + stmt_labels (stmt_of s)
      → w ++ stmts_lines cx around k (stmts_of (drop i xs)) ≡ u → v ++ stmts_lines cx around n (stmts_of (drop (i + 1) xs)) ≡ u
  stmts_more w v u k n xs i s h is ev en p =
      ap (λ (a : ℕ). v ++ stmts_lines cx around a (stmts_of (drop (i + 1) xs))) en
      ∙ list_more (λ l. stmts_lines cx around k (stmts_of l)) (stmt_lines cx around k (stmt_of s))
      (stmts_lines cx around (k + stmt_labels (stmt_of s)) (stmts_of (drop (i + 1) xs))) w v u xs i s h is refl ev p

  pub stmts_done : (w u : List Line) (k : ℕ) (xs : List SymStmt) (i : ℕ) → length xs ≤ i → w ++ stmts_lines cx around k (stmts_of (drop i xs)) ≡ u → w ≡ u
  stmts_done w u k xs i h e = list_done (λ l. stmts_lines cx around k (stmts_of l)) refl w u xs i h e

pub stmts_counted : (k n u : ℕ) (xs : List SymStmt) (i : ℕ) (s : SymStmt) → i < length xs → s ≡ get_or xs i s → n ≡ k + stmt_labels (stmt_of s)
    → k + stmts_labels (stmts_of (drop i xs)) ≡ u → n + stmts_labels (stmts_of (drop (i + 1) xs)) ≡ u
stmts_counted k n u xs i s h is en p =
    sum_more (λ l. stmts_labels (stmts_of l)) (stmt_labels (stmt_of s)) (stmts_labels (stmts_of (drop (i + 1) xs))) k n u xs i s h is refl en p

pub stmts_count : (k u : ℕ) (xs : List SymStmt) (i : ℕ) → length xs ≤ i → k + stmts_labels (stmts_of (drop i xs)) ≡ u → k ≡ u
stmts_count k u xs i h e = sum_done (λ l. stmts_labels (stmts_of l)) refl k u xs i h e

pub stmts_ranged : (w v u : List LabelRange) (k n : ℕ) (xs : List SymStmt) (i : ℕ) (s : SymStmt) → i < length xs → s ≡ get_or xs i s
    → v ≡ w ++ stmt_ranges k (stmt_of s) → n ≡ k + stmt_labels (stmt_of s)
    → w ++ stmts_ranges k (stmts_of (drop i xs)) ≡ u → v ++ stmts_ranges n (stmts_of (drop (i + 1) xs)) ≡ u
stmts_ranged w v u k n xs i s h is ev en p =
    ap (λ (a : ℕ). v ++ stmts_ranges a (stmts_of (drop (i + 1) xs))) en
    ∙ list_more (λ l. stmts_ranges k (stmts_of l)) (stmt_ranges k (stmt_of s)) (stmts_ranges (k + stmt_labels (stmt_of s)) (stmts_of (drop (i + 1) xs))) w v u xs i s h is refl ev p

pub stmts_range : (w u : List LabelRange) (k : ℕ) (xs : List SymStmt) (i : ℕ) → length xs ≤ i → w ++ stmts_ranges k (stmts_of (drop i xs)) ≡ u → w ≡ u
stmts_range w u k xs i h e = list_done (λ l. stmts_ranges k (stmts_of l)) refl w u xs i h e

-- ---- catches

four_apart : (a b c d n : List Line) → a ++ (b ++ (c ++ (d ++ n))) ≡ (a ++ (b ++ (c ++ d))) ++ n
four_apart a b c d n = simp append_assoc

four_behind : (w v q s r a b c d : List Line) → v ≡ w ++ a → q ≡ v ++ b → s ≡ q ++ c → r ≡ s ++ d → r ≡ w ++ (a ++ (b ++ (c ++ d)))
four_behind w v q s r a b c d ev eq es er =
    er ∙ ap (λ (l : List Line). l ++ d) (es ∙ ap (λ (l : List Line). l ++ c) (eq ∙ ap (λ (l : List Line). l ++ b) ev)) ∙ simp append_assoc

module _ (cx : Context) (around : Around) (end : ℕ) where
  -- a catch alone
  catch_lines : (t k : ℕ) → SymCatch → List Line
  catch_lines t k c = place t ++ (set_local_word cx.frame c.local ++ (stmts_lines cx around k (stmts_of c.body) ++ jump end))

  pub catches_more : (w v q s r u : List Line) (t f k n : ℕ) (xs : List SymCatch) (i : ℕ) (c : SymCatch) (b : List SymStmt) → i < length xs → c ≡ get_or xs i c → b ≡ c.body
      → v ≡ w ++ place t → q ≡ v ++ set_local_word cx.frame c.local → s ≡ q ++ stmts_lines cx around k (stmts_of b) → r ≡ s ++ jump end → f ≡ t + 1 → n ≡ k + stmts_labels (stmts_of b)
      → w ++ catches_lines cx around end t k (catches_of (drop i xs)) ≡ u → r ++ catches_lines cx around end f n (catches_of (drop (i + 1) xs)) ≡ u
  unfolding catch_lines
  catches_more w v q s r u t f k n xs i c b h is eb ev eq es er ef en p =
      (λ j. r ++ catches_lines cx around end (ef j) ((en ∙ ap (λ (l : List SymStmt). k + stmts_labels (stmts_of l)) eb) j) (catches_of (drop (i + 1) xs)))
      ∙ list_more (λ l. catches_lines cx around end t k (catches_of l)) (catch_lines t k c)
      (catches_lines cx around end (t + 1) (k + stmts_labels (stmts_of c.body)) (catches_of (drop (i + 1) xs))) w r u xs i c h is
      (four_apart (place t) (set_local_word cx.frame c.local) (stmts_lines cx around k (stmts_of c.body)) (jump end)
      (catches_lines cx around end (t + 1) (k + stmts_labels (stmts_of c.body)) (catches_of (drop (i + 1) xs))))
      (four_behind w v q s r (place t) (set_local_word cx.frame c.local) (stmts_lines cx around k (stmts_of c.body)) (jump end) ev eq
      (es ∙ ap (λ (l : List SymStmt). q ++ stmts_lines cx around k (stmts_of l)) eb) er)
      p

  pub catches_done : (w u : List Line) (t k : ℕ) (xs : List SymCatch) (i : ℕ) → length xs ≤ i → w ++ catches_lines cx around end t k (catches_of (drop i xs)) ≡ u → w ≡ u
  catches_done w u t k xs i h e = list_done (λ l. catches_lines cx around end t k (catches_of l)) refl w u xs i h e

pub catches_counted : (k n u : ℕ) (xs : List SymCatch) (i : ℕ) (c : SymCatch) (b : List SymStmt) → i < length xs → c ≡ get_or xs i c → b ≡ c.body → n ≡ k + stmts_labels (stmts_of b)
    → k + catches_labels (catches_of (drop i xs)) ≡ u → n + catches_labels (catches_of (drop (i + 1) xs)) ≡ u
catches_counted k n u xs i c b h is eb en p =
    sum_more (λ l. catches_labels (catches_of l)) (stmts_labels (stmts_of c.body)) (catches_labels (catches_of (drop (i + 1) xs))) k n u xs i c h is refl
    (en ∙ ap (λ (l : List SymStmt). k + stmts_labels (stmts_of l)) eb) p

pub catches_count : (k u : ℕ) (xs : List SymCatch) (i : ℕ) → length xs ≤ i → k + catches_labels (catches_of (drop i xs)) ≡ u → k ≡ u
catches_count k u xs i h e = sum_done (λ l. catches_labels (catches_of l)) refl k u xs i h e

pub catches_ranged : (w v u : List LabelRange) (k n : ℕ) (xs : List SymCatch) (i : ℕ) (c : SymCatch) (b : List SymStmt) → i < length xs → c ≡ get_or xs i c → b ≡ c.body
    → v ≡ w ++ stmts_ranges k (stmts_of b) → n ≡ k + stmts_labels (stmts_of b)
    → w ++ catches_ranges k (catches_of (drop i xs)) ≡ u → v ++ catches_ranges n (catches_of (drop (i + 1) xs)) ≡ u
catches_ranged w v u k n xs i c b h is eb ev en p =
    ap (λ (a : ℕ). v ++ catches_ranges a (catches_of (drop (i + 1) xs))) (en ∙ ap (λ (l : List SymStmt). k + stmts_labels (stmts_of l)) eb)
    ∙ list_more (λ l. catches_ranges k (catches_of l)) (stmts_ranges k (stmts_of c.body)) (catches_ranges (k + stmts_labels (stmts_of c.body)) (catches_of (drop (i + 1) xs))) w v u xs i c h is refl
    (ev ∙ ap (λ (l : List SymStmt). w ++ stmts_ranges k (stmts_of l)) eb) p

pub catches_range : (w u : List LabelRange) (k : ℕ) (xs : List SymCatch) (i : ℕ) → length xs ≤ i → w ++ catches_ranges k (catches_of (drop i xs)) ≡ u → w ≡ u
catches_range w u k xs i h e = list_done (λ l. catches_ranges k (catches_of l)) refl w u xs i h e

pub catch-length : (cs : List SymCatch) → catch_count (catches_of cs) ≡ length cs
catch-length [] = refl
catch-length (c ∷ cs) = grind (arith, common_steps, catch-length cs)

-- ---- the ranges of a `try` itself

pub own_more : (w r u : List LabelRange) (start end t f : ℕ) (xs : List SymCatch) (i : ℕ) (c : SymCatch) → i < length xs → c ≡ get_or xs i c
    → r ≡ w ++ record { start = start; end = end; target = t; class = Some c.class } ∷ [] → f ≡ t + 1
    → w ++ own_ranges start end t (catches_of (drop i xs)) ≡ u → r ++ own_ranges start end f (catches_of (drop (i + 1) xs)) ≡ u
own_more w r u start end t f xs i c h is er ef p =
    ap (λ (a : ℕ). r ++ own_ranges start end a (catches_of (drop (i + 1) xs))) ef
    ∙ list_more (λ l. own_ranges start end t (catches_of l)) (record { start = start; end = end; target = t; class = Some c.class } ∷ []) (own_ranges start end (t + 1) (catches_of (drop (i + 1) xs))) w r u xs i c h is refl er p

pub own_done : (w u : List LabelRange) (start end t : ℕ) (xs : List SymCatch) (i : ℕ) → length xs ≤ i → w ++ own_ranges start end t (catches_of (drop i xs)) ≡ u → w ≡ u
own_done w u start end t xs i h e = list_done (λ l. own_ranges start end t (catches_of l)) refl w u xs i h e

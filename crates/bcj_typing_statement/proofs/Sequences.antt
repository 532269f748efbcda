-- Statements one behind the other, by those before them.
use Rattle.std.proofs.Common.{◌≡◌, refl, ap, sym, ◌∙◌, ℕ, ◌+◌, ◌<◌, ◌≤◌, List, [], ◌∷◌, ◌++◌, drop, length, get_or, append_assoc}
use Rattle.std.proofs.lemmas.List.{append-nil}
use Rattle.bcj_parser_trees.specs.Trees as source
use Rattle.bcj_parser_trees.specs.declared.statement.Stmt.{Stmt}
use Rattle.bcj_parser_trees.specs.Plain.{stmt_of, stmts_of}
use Rattle.bcj_symbolic_trees.specs.Trees as tree
use Rattle.bcj_symbolic_trees.specs.Types.{PlainTy, types_of}
use Rattle.bcj_symbolic_trees.specs.Units.{PlainPair}
use Rattle.bcj_typing_rules.specs.Context.{Context, with_locals}
use Rattle.bcj_typing_rules.specs.Statements.{Effect, Effects}
use Rattle.bcj_typing_rules.specs.function.Expressions.{Outcome, result, fault, and_then, Answers}
use Rattle.bcj_typing_rules.specs.function.Statements.{run, run_all}
use Rattle.bcj_typing_node.specs.declared.miss.Miss.{Miss}
use Rattle.bcj_typing_node.specs.Typings.{pairs_of}
use Rattle.bcj_typing_scope.specs.declared.scope.Scope.{Scope}
use Rattle.bcj_typing_scope.specs.Scopes.{answers_in, context_of}
use Rattle.bcj_typing_effect.specs.declared.act.Acted.{Acted}
use Rattle.bcj_typing_effect.specs.declared.act.Acting.{Acting}
use Rattle.bcj_typing_effect.specs.Acts.{trees_of}
use Rattle.bcj_symbolic_trees.specs.Plain as node
use Rattle.bcj_typing_statement.specs.Scoped.{Keeps}
use Rattle.bcj_typing_statement.specs.Told.{effect_at, effects_at}
use Rattle.bcj_typing_statement.proofs.Outcomes.{Misses, missed, same_missed, unchanged}
use Rattle.bcj_typing_statement.proofs.Lists.{stmts_next, stmts_end}
use Rattle.bcj_typing_statement.proofs.Scopes.{answers_kept, context_kept}

-- ---- effects behind others

-- effects behind trees and steps
abbrev pub after : List tree.PlainStmt → List PlainPair → Effects → Effects
after ts ss r = record { locals = r.locals; types = r.types; trees = ts ++ r.trees; steps = ss ++ r.steps }

-- the same of an outcome
abbrev pub all_after : List tree.PlainStmt → List PlainPair → Outcome Effects → Outcome Effects
all_after ts ss o = and_then o (λ r. result (after ts ss r))

module _ (a : Answers) (c : Context) (types : List PlainTy) (ts : List tree.PlainStmt) (ss : List PlainPair) where
  -- one statement more
  pub all_next : (s : source.PlainStmt) (rest : source.PlainStmts) (e : Effect) → run a c types s ≡ result e
      → all_after ts ss (run_all a c types (source.more_stmts s rest))
      ≡ all_after (ts ++ e.tree ∷ []) (ss ++ e.steps) (run_all a (with_locals c e.locals) e.types rest)
  all_next s rest e h =
      ap
      (λ o.
      all_after ts ss
      (and_then o
      (λ (x : Effect).
      and_then (run_all a (with_locals c x.locals) x.types rest)
      (λ r. result (record { locals = r.locals; types = r.types; trees = x.tree ∷ r.trees; steps = x.steps ++ r.steps })))))
      h
      ∙ by (run_all a (with_locals c e.locals) e.types rest) where
        by : (o : Outcome Effects)
            → all_after ts ss (and_then o (λ r. result (record { locals = r.locals; types = r.types; trees = e.tree ∷ r.trees; steps = e.steps ++ r.steps })))
            ≡ all_after (ts ++ e.tree ∷ []) (ss ++ e.steps) o
        by (fault at k) = refl
        by (result r) =
            λ i.
            result
            (record {
              locals = r.locals;
              types = r.types;
              trees = sym (append_assoc ts (e.tree ∷ []) r.trees) i;
              steps = sym (append_assoc ss e.steps r.steps) i;
            })

  -- what the next statement misses all miss
  pub all_missed : (s : source.PlainStmt) (rest : source.PlainStmts) (e : Miss) → Misses (run a c types s) e → Misses (all_after ts ss (run_all a c types (source.more_stmts s rest))) e
  all_missed s rest e h = missed (run_all a c types (source.more_stmts s rest)) _ e (missed (run a c types s) _ e h)

  -- no statement more
  pub all_done : all_after ts ss (run_all a c types source.no_stmts) ≡ result (record { locals = c.locals; types = types; trees = ts; steps = ss })
  all_done = λ i. result (record { locals = c.locals; types = types; trees = append-nil ts i; steps = append-nil ss i })

-- ---- the same of scopes

-- the statements from a place on, behind those that were typed
abbrev pub rest_from : Scope → List Stmt → ℕ → Acting → Outcome Effects
rest_from s xs i all = all_after (trees_of all) (pairs_of all.steps) (run_all (answers_in s) (context_of s) (types_of s.types) (stmts_of (drop i xs)))

-- before the first statement
pub rest_begins : (s : Scope) (xs : List Stmt) (all : Acting) → trees_of all ≡ [] → pairs_of all.steps ≡ []
    → rest_from s xs 0 all ≡ run_all (answers_in s) (context_of s) (types_of s.types) (stmts_of xs)
rest_begins s xs all h k =
    (λ i. all_after (h i) (k i) (run_all (answers_in s) (context_of s) (types_of s.types) (stmts_of xs)))
    ∙ unchanged (run_all (answers_in s) (context_of s) (types_of s.types) (stmts_of xs))

-- behind a statement
pub rest_goes_on : (s t : Scope) (xs : List Stmt) (i : ℕ) (d : Stmt) (all more : Acting) (x : Acted) (o : Outcome Effects)
    → i < length xs → d ≡ get_or xs i d → run (answers_in s) (context_of s) (types_of s.types) (stmt_of d) ≡ result (effect_at t x) → Keeps s t
    → trees_of more ≡ trees_of all ++ node.stmt_of x.tree ∷ [] → pairs_of more.steps ≡ pairs_of all.steps ++ pairs_of x.steps
    → rest_from s xs i all ≡ o → rest_from t xs (i + 1) more ≡ o
rest_goes_on s t xs i d all more x o h is ran keeps trees steps before =
    (λ j. all_after (trees j) (steps j) (run_all (answers_kept s t keeps j) (context_kept s t keeps j) (types_of t.types) (stmts_of (drop (i + 1) xs))))
    ∙ sym (all_next (answers_in s) (context_of s) (types_of s.types) (trees_of all) (pairs_of all.steps) (stmt_of d) (stmts_of (drop (i + 1) xs)) (effect_at t x) ran)
    ∙ ap (λ ys. all_after (trees_of all) (pairs_of all.steps) (run_all (answers_in s) (context_of s) (types_of s.types) ys)) (sym (stmts_next xs i d h is))
    ∙ before

-- a statement that misses something
pub rest_missed : (s : Scope) (xs : List Stmt) (i : ℕ) (d : Stmt) (all : Acting) (o : Outcome Effects) (e : Miss)
    → i < length xs → d ≡ get_or xs i d → Misses (run (answers_in s) (context_of s) (types_of s.types) (stmt_of d)) e → rest_from s xs i all ≡ o → Misses o e
rest_missed s xs i d all o e h is m before =
    same_missed (all_after (trees_of all) (pairs_of all.steps) (run_all (answers_in s) (context_of s) (types_of s.types) (source.more_stmts (stmt_of d) (stmts_of (drop (i + 1) xs))))) o e
    (sym before ∙ ap (λ ys. all_after (trees_of all) (pairs_of all.steps) (run_all (answers_in s) (context_of s) (types_of s.types) ys)) (stmts_next xs i d h is))
    (all_missed (answers_in s) (context_of s) (types_of s.types) (trees_of all) (pairs_of all.steps) (stmt_of d) (stmts_of (drop (i + 1) xs)) e m)

-- behind the last statement
pub rest_ends : (s : Scope) (xs : List Stmt) (i : ℕ) (all : Acting) (o : Outcome Effects) → length xs ≤ i → rest_from s xs i all ≡ o → o ≡ result (effects_at s all)
rest_ends s xs i all o h before =
    sym before
    ∙ ap (λ ys. all_after (trees_of all) (pairs_of all.steps) (run_all (answers_in s) (context_of s) (types_of s.types) ys)) (stmts_end xs i h)
    ∙ all_done (answers_in s) (context_of s) (types_of s.types) (trees_of all) (pairs_of all.steps)

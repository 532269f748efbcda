-- Catches one behind the other, by those before them.
use Rattle.std.proofs.Common.{◌≡◌, refl, ap, sym, ◌∙◌, ℕ, ◌+◌, ◌<◌, ◌≤◌, List, [], ◌∷◌, ◌++◌, drop, length, get_or, append_assoc, Option}
use Rattle.std.proofs.lemmas.List.{append-nil}
use Rattle.bcj_parser_trees.specs.Trees as source
use Rattle.bcj_parser_trees.specs.declared.statement.Catch.{Catch}
use Rattle.bcj_parser_trees.specs.Plain.{catch_of, catches_of}
use Rattle.bcj_symbolic_trees.specs.Trees as tree
use Rattle.bcj_symbolic_trees.specs.Types.{PlainTy, types_of, class_type, given}
use Rattle.bcj_symbolic_trees.specs.Units.{PlainPair}
use Rattle.bcj_decl_rules.specs.World.{Named}
use Rattle.bcj_typing_rules.specs.declared.kind.Kind.{Kind}
use Rattle.bcj_typing_rules.specs.Premises.{earliest_missing}
use Rattle.bcj_typing_rules.specs.Context.{Context, with_local}
use Rattle.bcj_typing_rules.specs.Casting.{uses}
use Rattle.bcj_typing_rules.specs.Statements.{Effects, Caught, next_local, throwable}
use Rattle.bcj_typing_rules.specs.function.Expressions.{Outcome, result, fault, and_then, Answers}
use Rattle.bcj_typing_rules.specs.function.Statements.{run_all, run_catches, caught}
use Rattle.bcj_typing_node.specs.declared.miss.Miss.{Miss}
use Rattle.bcj_typing_scope.specs.declared.scope.Scope.{Scope}
use Rattle.bcj_typing_scope.specs.Scopes.{answers_in, context_of}
use Rattle.bcj_typing_effect.specs.declared.catching.Handled.{Handled}
use Rattle.bcj_typing_effect.specs.Catches.{Handling, handling, handling_of, earlier_of}
use Rattle.bcj_typing_statement.specs.Scoped.{Stays}
use Rattle.bcj_typing_statement.specs.Catches.{Behind, behind_at, behind, all_behind, no_handling, catch_needs, one_behind, caught_one}
use Rattle.bcj_typing_statement.proofs.Outcomes.{Misses, missed, same_missed, unseen}
use Rattle.bcj_typing_statement.proofs.Missing.{earlier_of-none, earlier_of-assoc, earliest_missing-append}
use Rattle.bcj_typing_statement.proofs.Lists.{catches_next, catches_end}
use Rattle.bcj_typing_statement.proofs.Scopes.{answers_stay, context_stays}

-- a catch and those behind it, behind others
joined : (a : Answers) (c : Context) (types : List PlainTy) (h : Handling) (class name : Named) (b : Effects) (k : Caught)
    → behind h (caught a c types class name b k) ≡ behind (one_behind a c types h class name b).all k
joined a c types h class name b k =
    let one : tree.PlainCatch = record { class = class; local = length types; body = tree.stmts_from b.trees } in
    let used : List PlainPair = uses (given (class_type class)) throwable in
    let missing : Option Kind = earliest_missing (catch_needs a c class name) in
    let kinds : earlier_of h.missing (earliest_missing (catch_needs a c class name ++ k.needs)) ≡ earlier_of (earlier_of h.missing missing) (earliest_missing k.needs) =
    ap (earlier_of h.missing) (earliest_missing-append (catch_needs a c class name) k.needs) ∙ sym (earlier_of-assoc h.missing missing (earliest_missing k.needs)) in
    let steps : h.steps ++ (used ++ (b.steps ++ k.steps)) ≡ (h.steps ++ (used ++ b.steps)) ++ k.steps =
    ap (λ l. h.steps ++ l) (sym (append_assoc used b.steps k.steps)) ∙ sym (append_assoc h.steps (used ++ b.steps) k.steps) in
    λ i. record { types = k.types; all = handling (sym (append_assoc h.catches (one ∷ []) k.catches) i) (steps i) (kinds i) }

module _ (a : Answers) (c : Context) (types : List PlainTy) (h : Handling) where
  -- one catch more
  pub catch_next : (one : source.PlainCatch) (rest : source.PlainCatches) (x : Behind) → caught_one a c types h one ≡ result x
      → all_behind h (run_catches a c types (source.more_catches one rest)) ≡ all_behind x.all (run_catches a c x.types rest)
  catch_next (source.catch_of_class class name body) rest x e =
      by (run_all a (with_local c (next_local types name (class_type class))) (types ++ class_type class ∷ []) body) refl where
        behind_them : (b : Effects) (o : Outcome Caught)
            → all_behind h (and_then o (λ k. result (caught a c types class name b k))) ≡ all_behind (one_behind a c types h class name b).all o
        behind_them b (fault at k) = refl
        behind_them b (result k) = ap result (joined a c types h class name b k)

        by : (o : Outcome Effects) → run_all a (with_local c (next_local types name (class_type class))) (types ++ class_type class ∷ []) body ≡ o
            → all_behind h (run_catches a c types (source.more_catches (source.catch_of_class class name body) rest)) ≡ all_behind x.all (run_catches a c x.types rest)
        by (fault at k) is =
            let broken : fault at k ≡ result x = sym (ap (λ p. and_then p (λ b. result (one_behind a c types h class name b))) is) ∙ e in absurd (cc)
        by (result b) is =
            let same : result (one_behind a c types h class name b) ≡ result x = sym (ap (λ p. and_then p (λ b. result (one_behind a c types h class name b))) is) ∙ e in
            let x_is : one_behind a c types h class name b ≡ x = cc in
            ap (λ p. all_behind h (and_then p (λ b. and_then (run_catches a c b.types rest) (λ k. result (caught a c types class name b k))))) is
            ∙ behind_them b (run_catches a c b.types rest)
            ∙ ap (λ (y : Behind). all_behind y.all (run_catches a c y.types rest)) x_is

  -- what one catch misses all miss
  pub catch_missed : (one : source.PlainCatch) (rest : source.PlainCatches) (e : Miss) → Misses (caught_one a c types h one) e
      → Misses (all_behind h (run_catches a c types (source.more_catches one rest))) e
  catch_missed (source.catch_of_class class name body) rest e m =
      let part = run_all a (with_local c (next_local types name (class_type class))) (types ++ class_type class ∷ []) body in
      missed (run_catches a c types (source.more_catches (source.catch_of_class class name body) rest)) (λ k. result (behind h k)) e
      (missed part (λ b. and_then (run_catches a c b.types rest) (λ k. result (caught a c types class name b k))) e
      (unseen part (one_behind a c types h class name) e m))

  -- no catch more
  pub catches_done : all_behind h (run_catches a c types source.no_catches) ≡ result (record { types = types; all = h })
  catches_done = λ i. result (record { types = types; all = handling (append-nil h.catches i) (append-nil h.steps i) (earlier_of-none h.missing i) })

-- ---- the same of scopes

-- the catches from a place on, behind those that were typed
abbrev pub rest_of : Scope → List Catch → ℕ → Handled → Outcome Behind
rest_of s xs i all = all_behind (handling_of all) (run_catches (answers_in s) (context_of s) (types_of s.types) (catches_of (drop i xs)))

-- before the first catch
pub catches_begin : (s : Scope) (xs : List Catch) (all : Handled) → handling_of all ≡ no_handling
    → rest_of s xs 0 all ≡ all_behind no_handling (run_catches (answers_in s) (context_of s) (types_of s.types) (catches_of xs))
catches_begin s xs all h = ap (λ (x : Handling). all_behind x (run_catches (answers_in s) (context_of s) (types_of s.types) (catches_of xs))) h

-- behind a catch
pub catches_go_on : (s t : Scope) (xs : List Catch) (i : ℕ) (d : Catch) (all more : Handled) (o : Outcome Behind)
    → i < length xs → d ≡ get_or xs i d → caught_one (answers_in s) (context_of s) (types_of s.types) (handling_of all) (catch_of d) ≡ result (behind_at t more) → Stays s t
    → rest_of s xs i all ≡ o → rest_of t xs (i + 1) more ≡ o
catches_go_on s t xs i d all more o h is one stays before =
    (λ j. all_behind (handling_of more) (run_catches (answers_stay s t stays j) (context_stays s t stays j) (types_of t.types) (catches_of (drop (i + 1) xs))))
    ∙ sym (catch_next (answers_in s) (context_of s) (types_of s.types) (handling_of all) (catch_of d) (catches_of (drop (i + 1) xs)) (behind_at t more) one)
    ∙ ap (λ ys. all_behind (handling_of all) (run_catches (answers_in s) (context_of s) (types_of s.types) ys)) (sym (catches_next xs i d h is))
    ∙ before

-- a catch that misses something
pub catches_missed : (s : Scope) (xs : List Catch) (i : ℕ) (d : Catch) (all : Handled) (o : Outcome Behind) (e : Miss)
    → i < length xs → d ≡ get_or xs i d → Misses (caught_one (answers_in s) (context_of s) (types_of s.types) (handling_of all) (catch_of d)) e → rest_of s xs i all ≡ o → Misses o e
catches_missed s xs i d all o e h is m before =
    same_missed (all_behind (handling_of all) (run_catches (answers_in s) (context_of s) (types_of s.types) (source.more_catches (catch_of d) (catches_of (drop (i + 1) xs))))) o e
    (sym before ∙ ap (λ ys. all_behind (handling_of all) (run_catches (answers_in s) (context_of s) (types_of s.types) ys)) (catches_next xs i d h is))
    (catch_missed (answers_in s) (context_of s) (types_of s.types) (handling_of all) (catch_of d) (catches_of (drop (i + 1) xs)) e m)

-- behind the last catch
pub catches_come_to_an_end : (s : Scope) (xs : List Catch) (i : ℕ) (all : Handled) (o : Outcome Behind) → length xs ≤ i → rest_of s xs i all ≡ o → o ≡ result (behind_at s all)
catches_come_to_an_end s xs i all o h before =
    sym before
    ∙ ap (λ ys. all_behind (handling_of all) (run_catches (answers_in s) (context_of s) (types_of s.types) ys)) (catches_end xs i h)
    ∙ catches_done (answers_in s) (context_of s) (types_of s.types) (handling_of all)

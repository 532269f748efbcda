-- What is said of a statement by what was said of its parts, the scope standing further on with each of them.
use Rattle.std.proofs.Common.{◌≡◌, ap, sym, ◌∙◌, ℕ, true, false, List, [], ◌∷◌, ◌++◌, length, take, None, Result}
use Rattle.bcj_parser_trees.specs.Trees as source
use Rattle.bcj_symbolic_trees.specs.Trees as tree
use Rattle.bcj_symbolic_trees.specs.Types.{PlainTy, types_of}
use Rattle.bcj_symbolic_trees.specs.Units.{PlainPair}
use Rattle.bcj_symbolic_trees.specs.Plain.{catches_of}
use Rattle.bcj_typing_rules.specs.declared.kind.Kind.TheVariants as kind
use Rattle.bcj_typing_rules.specs.Premises.{need, earliest_missing}
use Rattle.bcj_typing_rules.specs.Context.{in_a_loop, with_locals}
use Rattle.bcj_typing_rules.specs.Operators.{is_bool}
use Rattle.bcj_typing_rules.specs.Expressions.{Typing, trees_in, steps_in}
use Rattle.bcj_typing_rules.specs.Statements.{Effect, Caught, plainly, block_of, for_tree}
use Rattle.bcj_typing_rules.specs.function.Expressions.{Outcome, result, and_then, settled, type_expr, type_exprs}
use Rattle.bcj_typing_rules.specs.function.Statements.{Test, run, run_else, run_all, run_catches, test_of}
use Rattle.bcj_typing_node.specs.declared.miss.Miss.{Miss}
use Rattle.bcj_typing_node.specs.Forms.{locals_of}
use Rattle.bcj_typing_node.specs.Typings.{pairs_of}
use Rattle.bcj_typing_node.specs.Outcomes.{Tells}
use Rattle.bcj_typing_scope.specs.declared.scope.Scope.{Scope}
use Rattle.bcj_typing_scope.specs.Scopes.{answers_in, context_of}
use Rattle.bcj_typing_effect.specs.declared.act.Acted.{Acted}
use Rattle.bcj_typing_effect.specs.declared.act.Acting.{Acting}
use Rattle.bcj_typing_effect.specs.declared.catching.Handled.{Handled}
use Rattle.bcj_typing_effect.specs.Acts.{act, act_of, Acts, Makes, trees_of}
use Rattle.bcj_typing_statement.specs.Scoped.{Keeps, Stays}
use Rattle.bcj_typing_statement.specs.Told.{Ending, ending, ended, ending_at, effect_at, effects_at, TellsEffect}
use Rattle.bcj_typing_statement.specs.Catches.{Behind, behind, behind_at, all_behind, no_handling}
use Rattle.bcj_typing_statement.proofs.Outcomes.{Misses, found, carried, missed, same_missed, unseen}
use Rattle.bcj_typing_statement.proofs.Scopes.{stays_both, stays_left, keeps_stays, keeps_both, at_start, at_kept}
use Rattle.bcj_typing_statement.proofs.Walks.{told_act, settled_there, if_found, while_found, do_found, for_found}

-- where the parts of an outcome are those of a scope's context
module _ (s : Scope) (e : source.PlainExpr) (t : Typing) (typed : type_expr (answers_in s) (context_of s) e ≡ result t) where
  -- ---- an `if`
  pub if_told : (u v : Scope) (at : ℕ) (first : source.PlainStmt) (second : source.PlainElse) (x y : Acted) (r : Result Acted Miss)
      → ended (run (answers_in s) (context_of s) (types_of s.types) first) ≡ result (ending_at u x) → Stays s u
      → ended (run_else (answers_in u) (context_of u) (types_of u.types) second) ≡ result (ending_at v y) → Stays u v
      → Acts at (need kind.Condition (is_bool t.type) ∷ []) (tree.if_else t.tree (ending_at u x).tree (ending_at v y).tree) (t.steps ++ ((ending_at u x).steps ++ (ending_at v y).steps)) r
      → TellsEffect (run (answers_in s) (context_of s) (types_of s.types) (source.if_else at e first second)) r v
  if_told u v at first second x y r hx su hy uv acts =
      told_act v _ at (earliest_missing (need kind.Condition (is_bool t.type) ∷ [])) (act (tree.if_else t.tree (ending_at u x).tree (ending_at v y).tree) (t.steps ++ ((ending_at u x).steps ++ (ending_at v y).steps))) r
      (if_found (answers_in s) (context_of s) (types_of s.types) at e first second t (ending_at u x) (ending_at v y) typed hx
      (at_start (λ a c. ended (run_else a c (types_of u.types) second) ≡ result (ending_at v y)) s u su hy)
      ∙ settled_there s v (stays_both s u v su uv) at (earliest_missing (need kind.Condition (is_bool t.type) ∷ [])) _ _)
      acts

  -- its first branch misses something
  pub if_first_missed : (at : ℕ) (first : source.PlainStmt) (second : source.PlainElse) (m : Miss) → Misses (ended (run (answers_in s) (context_of s) (types_of s.types) first)) m
      → Misses (run (answers_in s) (context_of s) (types_of s.types) (source.if_else at e first second)) m
  if_first_missed at first second m h =
      same_missed _ (run (answers_in s) (context_of s) (types_of s.types) (source.if_else at e first second)) m (found (type_expr (answers_in s) (context_of s) e) _ t typed)
      (missed (run (answers_in s) (context_of s) (types_of s.types) first) _ m (unseen (run (answers_in s) (context_of s) (types_of s.types) first) ending m h))

  -- its second branch misses something
  pub if_second_missed : (u : Scope) (at : ℕ) (first : source.PlainStmt) (second : source.PlainElse) (x : Acted) (m : Miss)
      → ended (run (answers_in s) (context_of s) (types_of s.types) first) ≡ result (ending_at u x) → Stays s u
      → Misses (ended (run_else (answers_in u) (context_of u) (types_of u.types) second)) m
      → Misses (run (answers_in s) (context_of s) (types_of s.types) (source.if_else at e first second)) m
  if_second_missed u at first second x m hx su h =
      let part = run_else (answers_in s) (context_of s) (types_of u.types) second in
      let end : Ending → Ending → Outcome Effect = λ x y. settled at (earliest_missing (need kind.Condition (is_bool t.type) ∷ [])) (plainly (context_of s) y.types (tree.if_else t.tree x.tree y.tree) (t.steps ++ (x.steps ++ y.steps))) in
      same_missed (and_then part (λ y. end (ending_at u x) (ending y))) (run (answers_in s) (context_of s) (types_of s.types) (source.if_else at e first second)) m
      (found (type_expr (answers_in s) (context_of s) e) _ t typed
      ∙ carried (run (answers_in s) (context_of s) (types_of s.types) first) ending (λ (x : Ending). and_then (run_else (answers_in s) (context_of s) x.types second) (λ y. end x (ending y))) (ending_at u x) hx)
      (missed part (λ y. end (ending_at u x) (ending y)) m
      (unseen part ending m (at_start (λ a c. Misses (ended (run_else a c (types_of u.types) second)) m) s u su h)))

  -- ---- a `while`
  pub while_told : (u : Scope) (at : ℕ) (body : source.PlainStmt) (x : Acted) (r : Result Acted Miss)
      → ended (run (answers_in s) (in_a_loop (context_of s)) (types_of s.types) body) ≡ result (ending_at u x) → Stays s u
      → Acts at (need kind.Condition (is_bool t.type) ∷ []) (tree.loop false t.tree (ending_at u x).tree tree.no_exprs) (t.steps ++ (ending_at u x).steps) r
      → TellsEffect (run (answers_in s) (context_of s) (types_of s.types) (source.while_loop at e body)) r u
  while_told u at body x r hx su acts =
      told_act u _ at (earliest_missing (need kind.Condition (is_bool t.type) ∷ [])) (act (tree.loop false t.tree (ending_at u x).tree tree.no_exprs) (t.steps ++ (ending_at u x).steps)) r
      (while_found (answers_in s) (context_of s) (types_of s.types) at e body t (ending_at u x) typed hx
      ∙ settled_there s u su at (earliest_missing (need kind.Condition (is_bool t.type) ∷ [])) _ _)
      acts

  -- its body misses something
  pub while_missed : (at : ℕ) (body : source.PlainStmt) (m : Miss) → Misses (ended (run (answers_in s) (in_a_loop (context_of s)) (types_of s.types) body)) m
      → Misses (run (answers_in s) (context_of s) (types_of s.types) (source.while_loop at e body)) m
  while_missed at body m h =
      same_missed _ (run (answers_in s) (context_of s) (types_of s.types) (source.while_loop at e body)) m (found (type_expr (answers_in s) (context_of s) e) _ t typed)
      (missed (run (answers_in s) (in_a_loop (context_of s)) (types_of s.types) body) _ m (unseen (run (answers_in s) (in_a_loop (context_of s)) (types_of s.types) body) ending m h))

-- ---- a `do`

-- what was made is what the `do` does
pub do_told : (s u : Scope) (e : source.PlainExpr) (t : Typing) (at : ℕ) (body : source.PlainStmt) (x : Acted) (r : Result Acted Miss)
    → ended (run (answers_in s) (in_a_loop (context_of s)) (types_of s.types) body) ≡ result (ending_at u x) → Stays s u
    → type_expr (answers_in u) (context_of u) e ≡ result t
    → Acts at (need kind.Condition (is_bool t.type) ∷ []) (tree.loop true t.tree (ending_at u x).tree tree.no_exprs) ((ending_at u x).steps ++ t.steps) r
    → TellsEffect (run (answers_in s) (context_of s) (types_of s.types) (source.do_loop at body e)) r u
do_told s u e t at body x r hx su typed acts =
    told_act u _ at (earliest_missing (need kind.Condition (is_bool t.type) ∷ [])) (act (tree.loop true t.tree (ending_at u x).tree tree.no_exprs) ((ending_at u x).steps ++ t.steps)) r
    (do_found (answers_in s) (context_of s) (types_of s.types) at e body t (ending_at u x) hx (at_start (λ a c. type_expr a c e ≡ result t) s u su typed)
    ∙ settled_there s u su at (earliest_missing (need kind.Condition (is_bool t.type) ∷ [])) _ _)
    acts

-- its body misses something
pub do_body_missed : (s : Scope) (e : source.PlainExpr) (at : ℕ) (body : source.PlainStmt) (m : Miss) → Misses (ended (run (answers_in s) (in_a_loop (context_of s)) (types_of s.types) body)) m
    → Misses (run (answers_in s) (context_of s) (types_of s.types) (source.do_loop at body e)) m
do_body_missed s e at body m h =
    missed (run (answers_in s) (in_a_loop (context_of s)) (types_of s.types) body) _ m (unseen (run (answers_in s) (in_a_loop (context_of s)) (types_of s.types) body) ending m h)

-- its condition misses something
pub do_test_missed : (s u : Scope) (e : source.PlainExpr) (at : ℕ) (body : source.PlainStmt) (x : Acted) (m : Miss)
    → ended (run (answers_in s) (in_a_loop (context_of s)) (types_of s.types) body) ≡ result (ending_at u x) → Stays s u
    → Misses (type_expr (answers_in u) (context_of u) e) m
    → Misses (run (answers_in s) (context_of s) (types_of s.types) (source.do_loop at body e)) m
do_test_missed s u e at body x m hx su h =
    let end : Typing → Ending → Outcome Effect = λ t x. settled at (earliest_missing (need kind.Condition (is_bool t.type) ∷ [])) (plainly (context_of s) x.types (tree.loop true t.tree x.tree tree.no_exprs) (x.steps ++ t.steps)) in
    same_missed (and_then (type_expr (answers_in s) (context_of s) e) (λ t. end t (ending_at u x))) (run (answers_in s) (context_of s) (types_of s.types) (source.do_loop at body e)) m
    (carried (run (answers_in s) (in_a_loop (context_of s)) (types_of s.types) body) ending (λ (x : Ending). and_then (type_expr (answers_in s) (context_of s) e) (λ t. end t x)) (ending_at u x) hx)
    (missed (type_expr (answers_in s) (context_of s) e) (λ t. end t (ending_at u x)) m (at_start (λ a c. Misses (type_expr a c e) m) s u su h))

-- ---- blocks

-- the types behind where locals have left
left_types : (m v : Scope) (n : ℕ) → v ≡ record m { locals = take n m.locals } → types_of m.types ≡ types_of v.types
left_types m v n h = sym (ap (λ (s : Scope). types_of s.types) h)

-- what was made is what the block does
pub block_told : (s m v : Scope) (n at : ℕ) (body : source.PlainStmts) (all : Acting) (r : Result Acted Miss)
    → run_all (answers_in s) (context_of s) (types_of s.types) body ≡ result (effects_at m all) → Keeps s m → n ≡ length s.locals → v ≡ record m { locals = take n m.locals }
    → Makes (block_of (trees_of all)) (pairs_of all.steps) r → TellsEffect (run (answers_in s) (context_of s) (types_of s.types) (source.block at body)) r v
block_told s m v n at body all r ran keeps e left makes =
    told_act v _ at None (act (block_of (trees_of all)) (pairs_of all.steps)) r
    (found (run_all (answers_in s) (context_of s) (types_of s.types) body) _ (effects_at m all) ran
    ∙ ap (λ (ts : List PlainTy). result (plainly (context_of s) ts (block_of (trees_of all)) (pairs_of all.steps))) (left_types m v n left)
    ∙ settled_there s v (stays_left s m v n keeps e left) at None _ _)
    makes

-- one of its statements misses something
pub block_missed : (s : Scope) (at : ℕ) (body : source.PlainStmts) (m : Miss) → Misses (run_all (answers_in s) (context_of s) (types_of s.types) body) m
    → Misses (run (answers_in s) (context_of s) (types_of s.types) (source.block at body)) m
block_missed s at body m h = missed (run_all (answers_in s) (context_of s) (types_of s.types) body) _ m h

-- ---- a statement whose locals leave

-- what is done, but for the locals
pub part_told : (s m v : Scope) (n : ℕ) (one : source.PlainStmt) (x : Acted)
    → run (answers_in s) (context_of s) (types_of s.types) one ≡ result (effect_at m x) → v ≡ record m { locals = take n m.locals }
    → ended (run (answers_in s) (context_of s) (types_of s.types) one) ≡ result (ending_at v x)
part_told s m v n one x ran left =
    found (run (answers_in s) (context_of s) (types_of s.types) one) _ (effect_at m x) ran
    ∙ ap (λ (ts : List PlainTy). result (record { types = ts; tree = (ending_at m x).tree; steps = (ending_at m x).steps })) (left_types m v n left)

-- ---- a `for`

module _ (s m : Scope) (at : ℕ) (init : source.PlainStmts) (cond : source.PlainOption) (update : source.PlainExprs) (body : source.PlainStmt) (first : Acting)
    (ran : run_all (answers_in s) (context_of s) (types_of s.types) init ≡ result (effects_at m first)) (keeps : Keeps s m) where
  -- what was made is what the `for` does
  pub for_told : (u v : Scope) (n : ℕ) (q : Test) (us : List Typing) (x : Acted) (r : Result Acted Miss)
      → test_of (answers_in m) (context_of m) cond ≡ result q → type_exprs (answers_in m) (context_of m) update ≡ result us
      → ended (run (answers_in m) (in_a_loop (context_of m)) (types_of m.types) body) ≡ result (ending_at u x) → Stays m u
      → n ≡ length s.locals → v ≡ record u { locals = take n u.locals }
      → Acts at q.needs (for_tree (trees_of first) (tree.loop false q.tree (ending_at u x).tree (trees_in us))) (pairs_of first.steps ++ (q.steps ++ (steps_in us ++ (ending_at u x).steps))) r
      → TellsEffect (run (answers_in s) (context_of s) (types_of s.types) (source.for_loop at init cond update body)) r v
  for_told u v n q us x r hq hu hx stays e left acts =
      let turns = for_tree (trees_of first) (tree.loop false q.tree (ending_at u x).tree (trees_in us)) in
      let steps = pairs_of first.steps ++ (q.steps ++ (steps_in us ++ (ending_at u x).steps)) in
      told_act v _ at (earliest_missing q.needs) (act turns steps) r
      (for_found (answers_in s) (context_of s) (types_of s.types) at init cond update body (effects_at m first) q us (ending_at u x) ran
      (at_kept (λ a c. test_of a c cond ≡ result q) s m keeps hq)
      (at_kept (λ a c. type_exprs a c update ≡ result us) s m keeps hu)
      (at_kept (λ a c. ended (run a (in_a_loop c) (types_of m.types) body) ≡ result (ending_at u x)) s m keeps hx)
      ∙ ap (λ (ts : List PlainTy). settled at (earliest_missing q.needs) (plainly (context_of s) ts turns steps)) (left_types u v n left)
      ∙ settled_there s v (stays_left s u v n (keeps_both s m u keeps (keeps_stays m u stays)) e left) at (earliest_missing q.needs) turns steps)
      acts

  -- its condition misses something
  pub for_test_missed : (e : Miss) → Misses (test_of (answers_in m) (context_of m) cond) e
      → Misses (run (answers_in s) (context_of s) (types_of s.types) (source.for_loop at init cond update body)) e
  for_test_missed e h =
      same_missed _ (run (answers_in s) (context_of s) (types_of s.types) (source.for_loop at init cond update body)) e
      (found (run_all (answers_in s) (context_of s) (types_of s.types) init) _ (effects_at m first) ran)
      (missed (test_of (answers_in s) (with_locals (context_of s) (locals_of m.locals)) cond) _ e (at_kept (λ a c. Misses (test_of a c cond) e) s m keeps h))

  -- what it evaluates behind its body misses something
  pub for_update_missed : (q : Test) (e : Miss) → test_of (answers_in m) (context_of m) cond ≡ result q → Misses (type_exprs (answers_in m) (context_of m) update) e
      → Misses (run (answers_in s) (context_of s) (types_of s.types) (source.for_loop at init cond update body)) e
  for_update_missed q e hq h =
      same_missed _ (run (answers_in s) (context_of s) (types_of s.types) (source.for_loop at init cond update body)) e
      (found (run_all (answers_in s) (context_of s) (types_of s.types) init) _ (effects_at m first) ran
      ∙ found (test_of (answers_in s) (with_locals (context_of s) (locals_of m.locals)) cond) _ q (at_kept (λ a c. test_of a c cond ≡ result q) s m keeps hq))
      (missed (type_exprs (answers_in s) (with_locals (context_of s) (locals_of m.locals)) update) _ e (at_kept (λ a c. Misses (type_exprs a c update) e) s m keeps h))

  -- its body misses something
  pub for_body_missed : (q : Test) (us : List Typing) (e : Miss) → test_of (answers_in m) (context_of m) cond ≡ result q → type_exprs (answers_in m) (context_of m) update ≡ result us
      → Misses (ended (run (answers_in m) (in_a_loop (context_of m)) (types_of m.types) body)) e
      → Misses (run (answers_in s) (context_of s) (types_of s.types) (source.for_loop at init cond update body)) e
  for_body_missed q us e hq hu h =
      let part = run (answers_in s) (in_a_loop (with_locals (context_of s) (locals_of m.locals))) (types_of m.types) body in
      same_missed _ (run (answers_in s) (context_of s) (types_of s.types) (source.for_loop at init cond update body)) e
      (found (run_all (answers_in s) (context_of s) (types_of s.types) init) _ (effects_at m first) ran
      ∙ found (test_of (answers_in s) (with_locals (context_of s) (locals_of m.locals)) cond) _ q (at_kept (λ a c. test_of a c cond ≡ result q) s m keeps hq)
      ∙ found (type_exprs (answers_in s) (with_locals (context_of s) (locals_of m.locals)) update) _ us (at_kept (λ a c. type_exprs a c update ≡ result us) s m keeps hu))
      (missed part _ e (unseen part ending e (at_kept (λ a c. Misses (ended (run a (in_a_loop c) (types_of m.types) body)) e) s m keeps h)))

-- ---- a `try`

module _ (s m v : Scope) (n at : ℕ) (body : source.PlainStmts) (catches : source.PlainCatches) (all : Acting)
    (ran : run_all (answers_in s) (context_of s) (types_of s.types) body ≡ result (effects_at m all)) (keeps : Keeps s m)
    (e : n ≡ length s.locals) (left : v ≡ record m { locals = take n m.locals }) where
  -- what was made is what the `try` does
  pub try_told : (w : Scope) (handled : Handled) (r : Result Acted Miss)
      → all_behind no_handling (run_catches (answers_in v) (context_of v) (types_of v.types) catches) ≡ result (behind_at w handled) → Stays v w
      → Tells act_of (settled at handled.missing (act (tree.try_catch (tree.stmts_from (trees_of all)) (catches_of handled.catches)) (pairs_of all.steps ++ pairs_of handled.steps))) r
      → TellsEffect (run (answers_in s) (context_of s) (types_of s.types) (source.try_catch at body catches)) r w
  try_told w handled r h stays acts =
      let there : Stays s v = stays_left s m v n keeps e left in
      let tried : tree.PlainStmt = tree.try_catch (tree.stmts_from (trees_of all)) (catches_of handled.catches) in
      let steps : List PlainPair = pairs_of all.steps ++ pairs_of handled.steps in
      let end : Behind → Outcome Effect = λ x. settled at x.all.missing (plainly (context_of s) x.types (tree.try_catch (tree.stmts_from (trees_of all)) (tree.catches_from x.all.catches)) (pairs_of all.steps ++ x.all.steps)) in
      told_act w _ at handled.missing (act tried steps) r
      (found (run_all (answers_in s) (context_of s) (types_of s.types) body) _ (effects_at m all) ran
      ∙ ap (λ (ts : List PlainTy). and_then (run_catches (answers_in s) (context_of s) ts catches) (λ k. end (behind no_handling k))) (left_types m v n left)
      ∙ carried (run_catches (answers_in s) (context_of s) (types_of v.types) catches) (behind no_handling) end (behind_at w handled)
      (at_start (λ a c. all_behind no_handling (run_catches a c (types_of v.types) catches) ≡ result (behind_at w handled)) s v there h)
      ∙ settled_there s w (stays_both s v w there stays) at handled.missing tried steps)
      acts

  -- its catches miss something
  pub try_missed : (k : Miss) → Misses (all_behind no_handling (run_catches (answers_in v) (context_of v) (types_of v.types) catches)) k
      → Misses (run (answers_in s) (context_of s) (types_of s.types) (source.try_catch at body catches)) k
  try_missed k h =
      let there : Stays s v = stays_left s m v n keeps e left in
      let end : Caught → Outcome Effect = λ x. settled at (earliest_missing x.needs) (plainly (context_of s) x.types (tree.try_catch (tree.stmts_from (trees_of all)) (tree.catches_from x.catches)) (pairs_of all.steps ++ x.steps)) in
      same_missed (and_then (run_catches (answers_in s) (context_of s) (types_of v.types) catches) end) (run (answers_in s) (context_of s) (types_of s.types) (source.try_catch at body catches)) k
      (found (run_all (answers_in s) (context_of s) (types_of s.types) body) _ (effects_at m all) ran
      ∙ ap (λ (ts : List PlainTy). and_then (run_catches (answers_in s) (context_of s) ts catches) end) (left_types m v n left))
      (missed (run_catches (answers_in s) (context_of s) (types_of v.types) catches) end k
      (unseen (run_catches (answers_in s) (context_of s) (types_of v.types) catches) (behind no_handling) k
      (at_start (λ a c. Misses (all_behind no_handling (run_catches a c (types_of v.types) catches)) k) s v there h)))

-- its block misses something
pub try_body_missed : (s : Scope) (at : ℕ) (body : source.PlainStmts) (cs : source.PlainCatches) (k : Miss) → Misses (run_all (answers_in s) (context_of s) (types_of s.types) body) k
    → Misses (run (answers_in s) (context_of s) (types_of s.types) (source.try_catch at body cs)) k
try_body_missed s at body cs k h = missed (run_all (answers_in s) (context_of s) (types_of s.types) body) _ k h

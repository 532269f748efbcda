-- The function of statements finds each effect, so that at most one fits.
use Rattle.std.proofs.Common.{◌≡◌, List, [], ◌∷◌, ◌++◌, refl, ◌∙◌, ap}
use Rattle.bcj_parser_trees.specs.Trees as source
use Rattle.bcj_symbolic_trees.specs.Types.{PlainTy, given, class_type}
use Rattle.bcj_symbolic_trees.specs.Units.{PlainPair}
use Rattle.bcj_symbolic_trees.specs.Trees as tree
use Rattle.bcj_decl_rules.specs.World.{has_type, type_of}
use Rattle.bcj_typing_rules.specs.declared.kind.Kind.TheVariants as kind
use Rattle.bcj_typing_rules.specs.Premises.{Need, need}
use Rattle.bcj_typing_rules.specs.Context.{Context, world_at, in_a_loop, with_local, with_locals, is_new_local, is_known}
use Rattle.bcj_typing_rules.specs.Casting.{uses}
use Rattle.bcj_typing_rules.specs.Statements as rule
use Rattle.bcj_typing_rules.specs.Statements.{Effect, Effects, Caught, plainly, next_local, declares, returns_value, result_steps, throwable, Condition, Runs, HasEffect, has_effect, ElseHasEffect, RunAll, Catches}
use Rattle.bcj_typing_rules.specs.Faults.{stmt_at}
use Rattle.bcj_typing_rules.specs.function.Expressions.{result, settled, Answers, AreRight, AreOnly, fits, type_expr, type_exprs}
use Rattle.bcj_typing_rules.specs.function.Statements as function
use Rattle.bcj_typing_rules.specs.function.Statements.{Test}
use Rattle.bcj_typing_rules.proofs.Deciding.{fits_decides}
use Rattle.bcj_typing_rules.proofs.Statements.{result_decides}
use Rattle.bcj_typing_rules.proofs.Completeness.{found, same_truth, expr_found, args_found}

pub test_found : (c : Context) (a : Answers) → AreRight c.units a → AreOnly c.units a → (e : source.PlainOption) (needs : List Need) (q : tree.PlainExpr) (steps : List PlainPair) → Condition c e needs q steps
    → function.test_of a c e ≡ result (record { needs = needs; tree = q; steps = steps })
test_found c a right only e needs q steps rule.no_condition = refl
test_found c a right only (source.present e) needs q steps (rule.a_condition {t = t} x) = found (type_expr a c e) _ t (expr_found c a right only e t x)

mutual
  pub stmt_found : (c : Context) (a : Answers) → AreRight c.units a → AreOnly c.units a → (types : List PlainTy) (s : source.PlainStmt) (e : Effect) → HasEffect c types s e
      → function.run a c types s ≡ result e
  stmt_found c a right only types s e (has_effect {needs = needs} n h) = runs_found c a right only types s needs e n ∙ ap (λ o. settled (stmt_at s) o e) h

  pub runs_found : (c : Context) (a : Answers) → AreRight c.units a → AreOnly c.units a → (types : List PlainTy) (s : source.PlainStmt) (needs : List Need) (e : Effect) → Runs c types s needs e
      → function.run a c types s ≡ function.whole_stmt s needs e
  runs_found c a right only types (source.local_variable at ty name (source.present e)) needs r (rule.local_with {t = t} {fits = b} x k) =
      found (type_expr a (with_local c (next_local types name (type_of ty))) e) _ t (expr_found (with_local c (next_local types name (type_of ty))) a right only e t x)
      ∙ ap
      (λ d.
      function.whole_stmt (source.local_variable at ty name (source.present e)) (need kind.Name (is_known c ty) ∷ need kind.Assign d ∷ need kind.Local (is_new_local c name) ∷ [])
      (declares c types name (type_of ty) t.tree (t.steps ++ uses t.type (type_of ty))))
      (same_truth (fits a t.type (type_of ty)) b (fits_decides c a right t.type (type_of ty)) k)
  runs_found c a right only types s needs r rule.local_without = refl
  runs_found c a right only types (source.block at body) needs r (rule.block {b = b} x) = found (function.run_all a c types body) _ b (all_found c a right only types body b x)
  runs_found c a right only types s needs r rule.empty = refl
  runs_found c a right only types (source.evaluate at e) needs r (rule.evaluate {t = t} x) = found (type_expr a c e) _ t (expr_found c a right only e t x)
  runs_found c a right only types (source.if_else at e first second) needs r (rule.if_else {t = t} {a = f} {b = b} x y z) =
      found (type_expr a c e) _ t (expr_found c a right only e t x)
      ∙ (found (function.run a c types first) _ f (stmt_found c a right only types first f y) ∙ found (function.run_else a c f.types second) _ b (else_found c a right only f.types second b z))
  runs_found c a right only types (source.while_loop at e body) needs r (rule.while_loop {t = t} {b = b} x y) =
      found (type_expr a c e) _ t (expr_found c a right only e t x) ∙ found (function.run a (in_a_loop c) types body) _ b (stmt_found (in_a_loop c) a right only types body b y)
  runs_found c a right only types (source.do_loop at body e) needs r (rule.do_loop {t = t} {b = b} y x) =
      found (function.run a (in_a_loop c) types body) _ b (stmt_found (in_a_loop c) a right only types body b y) ∙ found (type_expr a c e) _ t (expr_found c a right only e t x)
  runs_found c a right only types (source.for_loop at init condition update body) needs r (rule.for_loop {i = i} {needs = ns} {test = q} {steps = steps} {us = us} {b = b} x y z v) =
      let d : Context = with_locals c i.locals in
      found (function.run_all a c types init) _ i (all_found c a right only types init i x)
      ∙ (found (function.test_of a d condition) _ (record { needs = ns; tree = q; steps = steps }) (test_found d a right only condition ns q steps y)
      ∙ (found (type_exprs a d update) _ us (args_found d a right only update us z)
      ∙ found (function.run a (in_a_loop d) i.types body) _ b (stmt_found (in_a_loop d) a right only i.types body b v)))
  runs_found c a right only types s needs r rule.return_nothing = refl
  runs_found c a right only types (source.return_with at (source.present e)) needs r (rule.return_value {t = t} {fits = b} x k) =
      found (type_expr a c e) _ t (expr_found c a right only e t x)
      ∙ ap
      (λ d.
      function.whole_stmt (source.return_with at (source.present e)) (need kind.Assign d ∷ need kind.Return (returns_value c.result) ∷ [])
      (plainly c types (tree.return_with (tree.present t.tree)) (t.steps ++ result_steps t.type c.result)))
      (same_truth (function.fits_result a t.type c.result) b (result_decides c a right t.type c.result) k)
  runs_found c a right only types (source.throw at e) needs r (rule.throw {t = t} {fits = b} x k) =
      found (type_expr a c e) _ t (expr_found c a right only e t x)
      ∙ ap (λ d. function.whole_stmt (source.throw at e) (need kind.Throwable d ∷ []) (plainly c types (tree.throw t.tree) (t.steps ++ uses t.type throwable)))
      (same_truth (fits a t.type throwable) b (fits_decides c a right t.type throwable) k)
  runs_found c a right only types s needs r rule.break_loop = refl
  runs_found c a right only types s needs r rule.continue_loop = refl
  runs_found c a right only types (source.try_catch at body catches) needs r (rule.try_catch {b = b} {k = k} x y) =
      found (function.run_all a c types body) _ b (all_found c a right only types body b x)
      ∙ found (function.run_catches a c b.types catches) _ k (catches_found c a right only b.types catches k y)

  pub else_found : (c : Context) (a : Answers) → AreRight c.units a → AreOnly c.units a → (types : List PlainTy) (s : source.PlainElse) (e : Effect) → ElseHasEffect c types s e
      → function.run_else a c types s ≡ result e
  else_found c a right only types s e rule.no_else = refl
  else_found c a right only types (source.else_with s) e (rule.else_with x) = stmt_found c a right only types s e x

  pub all_found : (c : Context) (a : Answers) → AreRight c.units a → AreOnly c.units a → (types : List PlainTy) (ss : source.PlainStmts) (e : Effects) → RunAll c types ss e
      → function.run_all a c types ss ≡ result e
  all_found c a right only types ss e rule.no_stmts = refl
  all_found c a right only types (source.more_stmts s rest) e (rule.more_stmts {e = f} {r = r} x y) =
      found (function.run a c types s) _ f (stmt_found c a right only types s f x)
      ∙ found (function.run_all a (with_locals c f.locals) f.types rest) _ r (all_found (with_locals c f.locals) a right only f.types rest r y)

  pub catches_found : (c : Context) (a : Answers) → AreRight c.units a → AreOnly c.units a → (types : List PlainTy) (ks : source.PlainCatches) (k : Caught) → Catches c types ks k
      → function.run_catches a c types ks ≡ result k
  catches_found c a right only types ks k rule.no_catches = refl
  catches_found c a right only types (source.more_catches (source.catch_of_class class name body) rest) k (rule.more_catches {fits = b} {b = e} {k = l} n x y) =
      let d : Context = with_local c (next_local types name (class_type class)) in
      let later : List PlainTy = types ++ class_type class ∷ [] in
      found (function.run_all a d later body) _ e (all_found d a right only later body e x)
      ∙ (found (function.run_catches a c e.types rest) _ l (catches_found c a right only e.types rest l y)
      ∙ ap
      (λ t.
      result
      (record (function.caught a c types class name e l) { needs = need kind.Name (has_type (world_at c) class) ∷ need kind.Local (is_new_local c name) ∷ need kind.Throwable t ∷ l.needs }))
      (same_truth (fits a (given (class_type class)) throwable) b (fits_decides c a right (given (class_type class)) throwable) n))

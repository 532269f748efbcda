-- Each fault of a statement is the one that is found.
use Rattle.std.proofs.Common.{◌≡◌, ℕ, List, [], ◌∷◌, ◌++◌, ◌∙◌, ap}
use Rattle.bcj_parser_trees.specs.Trees as source
use Rattle.bcj_symbolic_trees.specs.Types.{PlainTy, class_type}
use Rattle.bcj_decl_rules.specs.World.{type_of}
use Rattle.bcj_typing_rules.specs.declared.kind.Kind.{Kind}
use Rattle.bcj_typing_rules.specs.Context.{Context, in_a_loop, with_local, with_locals}
use Rattle.bcj_typing_rules.specs.Statements.{next_local}
use Rattle.bcj_typing_rules.specs.Faults as at_fault
use Rattle.bcj_typing_rules.specs.Faults.{stmt_at, StmtFault, StmtsFault, CatchesFault}
use Rattle.bcj_typing_rules.specs.function.Expressions.{fault, settled, Answers, AreRight, AreOnly, type_expr, type_exprs}
use Rattle.bcj_typing_rules.specs.function.Statements as function
use Rattle.bcj_typing_rules.proofs.Completeness.{found, expr_found, args_found}
use Rattle.bcj_typing_rules.proofs.Effects.{test_found, stmt_found, runs_found, all_found}
use Rattle.bcj_typing_rules.proofs.ExprFaults.{fails_on, expr_fails, parts_fail}

mutual
  pub stmt_fails : (c : Context) (a : Answers) → AreRight c.units a → AreOnly c.units a → (types : List PlainTy) (s : source.PlainStmt) (at : ℕ) (k : Kind) → StmtFault c types s at k
      → function.run a c types s ≡ fault at k
  stmt_fails c a right only types s at k (at_fault.statement_itself {needs = needs} {e = e} n h) =
      runs_found c a right only types s needs e n ∙ ap (λ o. settled (stmt_at s) o e) h
  stmt_fails c a right only types (source.local_variable place ty name (source.present e)) at k (at_fault.in_initialiser x) =
      let d : Context = with_local c (next_local types name (type_of ty)) in
      fails_on (type_expr a d e) _ at k (expr_fails d a right only e at k x)
  stmt_fails c a right only types (source.block place body) at k (at_fault.in_block x) = fails_on (function.run_all a c types body) _ at k (all_fail c a right only types body at k x)
  stmt_fails c a right only types (source.evaluate place e) at k (at_fault.in_expression x) = fails_on (type_expr a c e) _ at k (expr_fails c a right only e at k x)
  stmt_fails c a right only types (source.if_else place e first second) at k (at_fault.if_condition x) = fails_on (type_expr a c e) _ at k (expr_fails c a right only e at k x)
  stmt_fails c a right only types (source.if_else place e first second) at k (at_fault.if_first t r x) =
      found (type_expr a c e) _ t (expr_found c a right only e t r) ∙ fails_on (function.run a c types first) _ at k (stmt_fails c a right only types first at k x)
  stmt_fails c a right only types (source.if_else place e first (source.else_with second)) at k (at_fault.if_second t f r s x) =
      found (type_expr a c e) _ t (expr_found c a right only e t r)
      ∙ (found (function.run a c types first) _ f (stmt_found c a right only types first f s)
      ∙ fails_on (function.run a c f.types second) _ at k (stmt_fails c a right only f.types second at k x))
  stmt_fails c a right only types (source.while_loop place e body) at k (at_fault.while_condition x) = fails_on (type_expr a c e) _ at k (expr_fails c a right only e at k x)
  stmt_fails c a right only types (source.while_loop place e body) at k (at_fault.while_body t r x) =
      found (type_expr a c e) _ t (expr_found c a right only e t r)
      ∙ fails_on (function.run a (in_a_loop c) types body) _ at k (stmt_fails (in_a_loop c) a right only types body at k x)
  stmt_fails c a right only types (source.do_loop place body e) at k (at_fault.do_body x) =
      fails_on (function.run a (in_a_loop c) types body) _ at k (stmt_fails (in_a_loop c) a right only types body at k x)
  stmt_fails c a right only types (source.do_loop place body e) at k (at_fault.do_condition b r x) =
      found (function.run a (in_a_loop c) types body) _ b (stmt_found (in_a_loop c) a right only types body b r) ∙ fails_on (type_expr a c e) _ at k (expr_fails c a right only e at k x)
  stmt_fails c a right only types (source.for_loop place init condition update body) at k (at_fault.for_first x) =
      fails_on (function.run_all a c types init) _ at k (all_fail c a right only types init at k x)
  stmt_fails c a right only types (source.for_loop place init (source.present e) update body) at k (at_fault.for_condition i r x) =
      let d : Context = with_locals c i.locals in
      found (function.run_all a c types init) _ i (all_found c a right only types init i r)
      ∙ fails_on (function.test_of a d (source.present e)) _ at k (fails_on (type_expr a d e) _ at k (expr_fails d a right only e at k x))
  stmt_fails c a right only types (source.for_loop place init condition update body) at k (at_fault.for_update i needs test steps r q x) =
      let d : Context = with_locals c i.locals in
      found (function.run_all a c types init) _ i (all_found c a right only types init i r)
      ∙ (found (function.test_of a d condition) _ (record { needs = needs; tree = test; steps = steps }) (test_found d a right only condition needs test steps q)
      ∙ fails_on (type_exprs a d update) _ at k (parts_fail d a right only update at k x))
  stmt_fails c a right only types (source.for_loop place init condition update body) at k (at_fault.for_body i needs test steps us r q u x) =
      let d : Context = with_locals c i.locals in
      found (function.run_all a c types init) _ i (all_found c a right only types init i r)
      ∙ (found (function.test_of a d condition) _ (record { needs = needs; tree = test; steps = steps }) (test_found d a right only condition needs test steps q)
      ∙ (found (type_exprs a d update) _ us (args_found d a right only update us u)
      ∙ fails_on (function.run a (in_a_loop d) i.types body) _ at k (stmt_fails (in_a_loop d) a right only i.types body at k x)))
  stmt_fails c a right only types (source.return_with place (source.present e)) at k (at_fault.in_result x) = fails_on (type_expr a c e) _ at k (expr_fails c a right only e at k x)
  stmt_fails c a right only types (source.throw place e) at k (at_fault.in_thrown x) = fails_on (type_expr a c e) _ at k (expr_fails c a right only e at k x)
  stmt_fails c a right only types (source.try_catch place body ks) at k (at_fault.in_try x) = fails_on (function.run_all a c types body) _ at k (all_fail c a right only types body at k x)
  stmt_fails c a right only types (source.try_catch place body ks) at k (at_fault.in_catches b r x) =
      found (function.run_all a c types body) _ b (all_found c a right only types body b r)
      ∙ fails_on (function.run_catches a c b.types ks) _ at k (catches_fail c a right only b.types ks at k x)

  pub all_fail : (c : Context) (a : Answers) → AreRight c.units a → AreOnly c.units a → (types : List PlainTy) (ss : source.PlainStmts) (at : ℕ) (k : Kind) → StmtsFault c types ss at k
      → function.run_all a c types ss ≡ fault at k
  all_fail c a right only types source.no_stmts at k x = elim x [ ]
  all_fail c a right only types (source.more_stmts s rest) at k (at_fault.in_first x) = fails_on (function.run a c types s) _ at k (stmt_fails c a right only types s at k x)
  all_fail c a right only types (source.more_stmts s rest) at k (at_fault.in_rest e r x) =
      found (function.run a c types s) _ e (stmt_found c a right only types s e r)
      ∙ fails_on (function.run_all a (with_locals c e.locals) e.types rest) _ at k (all_fail (with_locals c e.locals) a right only e.types rest at k x)

  pub catches_fail : (c : Context) (a : Answers) → AreRight c.units a → AreOnly c.units a → (types : List PlainTy) (ks : source.PlainCatches) (at : ℕ) (k : Kind) → CatchesFault c types ks at k
      → function.run_catches a c types ks ≡ fault at k
  catches_fail c a right only types source.no_catches at k x = elim x [ ]
  catches_fail c a right only types (source.more_catches (source.catch_of_class class name body) rest) at k (at_fault.in_first_catch x) =
      let d : Context = with_local c (next_local types name (class_type class)) in
      let later : List PlainTy = types ++ class_type class ∷ [] in
      fails_on (function.run_all a d later body) _ at k (all_fail d a right only later body at k x)
  catches_fail c a right only types (source.more_catches (source.catch_of_class class name body) rest) at k (at_fault.in_later_catch b r x) =
      let d : Context = with_local c (next_local types name (class_type class)) in
      let later : List PlainTy = types ++ class_type class ∷ [] in
      found (function.run_all a d later body) _ b (all_found d a right only later body b r)
      ∙ fails_on (function.run_catches a c b.types rest) _ at k (catches_fail c a right only b.types rest at k x)

-- The function is sound for statements, too.
use Rattle.std.proofs.Common.{◌≡◌, ℕ, Bool, true, false, List, [], ◌∷◌, ◌++◌, Option, Some, None, refl, sym, ◌∙◌, ap, subst, Decides, if◌then◌else◌}
use Rattle.bcj_parser_trees.specs.Trees as source
use Rattle.bcj_symbolic_trees.specs.Types.{PlainTy, PlainArg, given, class_type}
use Rattle.bcj_decl_rules.specs.World.{type_of}
use Rattle.bcj_decl_rules.specs.Subtypes.{Fits}
use Rattle.bcj_typing_rules.specs.declared.kind.Kind.{Kind}
use Rattle.bcj_typing_rules.specs.Premises.{Need, earliest_missing}
use Rattle.bcj_typing_rules.specs.Context.{Context, world_at, in_a_loop, with_local, with_locals}
use Rattle.bcj_typing_rules.specs.Expressions.{Typing, Types, TypesAll}
use Rattle.bcj_typing_rules.specs.Statements as rule
use Rattle.bcj_typing_rules.specs.Statements.{Effect, Effects, Caught, next_local, returns_value, throwable, Condition, Runs, HasEffect, has_effect, ElseHasEffect, RunAll, no_stmts, more_stmts, Catches}
use Rattle.bcj_typing_rules.specs.Faults as at_fault
use Rattle.bcj_typing_rules.specs.Faults.{a_value, values, ExprFault, PartsFault, stmt_at, StmtFault, StmtsFault, CatchesFault}
use Rattle.bcj_typing_rules.specs.function.Expressions.{Outcome, result, fault, and_then, settled, Answers, AreRight, fits, type_expr, type_exprs}
use Rattle.bcj_typing_rules.specs.function.Statements as function
use Rattle.bcj_typing_rules.specs.function.Statements.{Test}
use Rattle.bcj_typing_rules.proofs.Deciding.{fits_decides}
use Rattle.bcj_typing_rules.proofs.Soundness.{Meets, says_expr, says_exprs}

-- the fault of a part is one of the whole, and the result of a part goes on
pub go_on : {A B : Type 0} (Good : A → Type 0) (Bad : ℕ → Kind → Type 0) (Goal : B → Type 0) (Worse : ℕ → Kind → Type 0) (o : Outcome A) (f : A → Outcome B) → Meets Good Bad o
    → ((at : ℕ) (k : Kind) → Bad at k → Worse at k) → ((x : A) → Good x → Meets Goal Worse (f x)) → Meets Goal Worse (and_then o f)
go_on Good Bad Goal Worse (result x) f h w g = g x h
go_on Good Bad Goal Worse (fault at k) f h w g = w at k h

abbrev pub SaysStmt : Context → List PlainTy → source.PlainStmt → Outcome Effect → Type 0
SaysStmt c types s = Meets (HasEffect c types s) (StmtFault c types s)

abbrev pub SaysStmts : Context → List PlainTy → source.PlainStmts → Outcome Effects → Type 0
SaysStmts c types ss = Meets (RunAll c types ss) (StmtsFault c types ss)

abbrev pub SaysCatches : Context → List PlainTy → source.PlainCatches → Outcome Caught → Type 0
SaysCatches c types ks = Meets (Catches c types ks) (CatchesFault c types ks)

-- a fault of what stands behind `else`
pub data ElseFault (c : Context) (types : List PlainTy) : source.PlainElse → ℕ → Kind → Type 0 where
  behind_else : {s : source.PlainStmt} {at : ℕ} {k : Kind} → StmtFault c types s at k → ElseFault c types (source.else_with s) at k

abbrev pub SaysElse : Context → List PlainTy → source.PlainElse → Outcome Effect → Type 0
SaysElse c types s = Meets (ElseHasEffect c types s) (ElseFault c types s)

-- a fault of the condition of a `for`
pub data TestFault (c : Context) : source.PlainOption → ℕ → Kind → Type 0 where
  in_test : {e : source.PlainExpr} {at : ℕ} {k : Kind} → ExprFault c (a_value e) at k → TestFault c (source.present e) at k

abbrev pub GoodTest : Context → source.PlainOption → Test → Type 0
GoodTest c e q = Condition c e q.needs q.tree q.steps

settles : (c : Context) (types : List PlainTy) (s : source.PlainStmt) (needs : List Need) (e : Effect) (o : Option Kind) → Runs c types s needs e → earliest_missing needs ≡ o
    → SaysStmt c types s (settled (stmt_at s) o e)
settles c types s needs e None r h = has_effect r h
settles c types s needs e (Some k) r h = at_fault.statement_itself r h

whole_says : (c : Context) (types : List PlainTy) (s : source.PlainStmt) (needs : List Need) (e : Effect) → Runs c types s needs e → SaysStmt c types s (function.whole_stmt s needs e)
whole_says c types s needs e r = settles c types s needs e (earliest_missing needs) r refl

else_fault : (c : Context) (types : List PlainTy) (place at : ℕ) (e : source.PlainExpr) (first : source.PlainStmt) (second : source.PlainElse) (k : Kind) (t : Typing) (x : Effect) → Types c e t
    → HasEffect c types first x → ElseFault c x.types second at k → StmtFault c types (source.if_else place e first second) at k
else_fault c types place at e first second k t x h i (behind_else s) = at_fault.if_second t x h i s

test_fault : (c : Context) (types : List PlainTy) (place at : ℕ) (init : source.PlainStmts) (condition : source.PlainOption) (update : source.PlainExprs) (body : source.PlainStmt) (k : Kind) (i : Effects)
    → RunAll c types init i → TestFault (with_locals c i.locals) condition at k → StmtFault c types (source.for_loop place init condition update body) at k
test_fault c types place at init condition update body k i h (in_test x) = at_fault.for_condition i h x

abbrev pub ResultFits : Context → PlainArg → Option PlainTy → Type 0
ResultFits c s r = (t : PlainTy) → r ≡ Some t → returns_value (Some t) ≡ true → Fits (world_at c) s t

result_pick : (c : Context) (a : Answers) → AreRight c.units a → (s : PlainArg) (u : PlainTy) (b : Bool) → returns_value (Some u) ≡ b → Decides (if b then fits a s u else true) (ResultFits c s (Some u))
result_pick c a right s u true h =
    (λ g t e k. let same : u ≡ t = cc in subst (λ v. Fits (world_at c) s v) same ((fits_decides c a right s u).0 g), λ g. (fits_decides c a right s u).1 (g u refl h))
result_pick c a right s u false h = (λ g t e k. let clash : true ≡ false = sym k ∙ (ap returns_value (sym e) ∙ h) in cc, λ g. refl)

pub result_decides : (c : Context) (a : Answers) → AreRight c.units a → (s : PlainArg) (r : Option PlainTy) → Decides (function.fits_result a s r) (ResultFits c s r)
result_decides c a right s None = (λ h t e k. cc, λ g. refl)
result_decides c a right s (Some u) = result_pick c a right s u (returns_value (Some u)) refl

test_says : (c : Context) (a : Answers) → AreRight c.units a → (e : source.PlainOption) → Meets (GoodTest c e) (TestFault c e) (function.test_of a c e)
test_says c a right source.absent = rule.no_condition
test_says c a right (source.present e) =
    go_on (Types c e) (ExprFault c (a_value e)) (GoodTest c (source.present e)) (TestFault c (source.present e)) (type_expr a c e) _ (says_expr c a right e) (λ at k x. in_test x)
    (λ t x. rule.a_condition x)

else_says : (c : Context) (types : List PlainTy) (s : source.PlainStmt) (o : Outcome Effect) → SaysStmt c types s o → SaysElse c types (source.else_with s) o
else_says c types s (result e) h = rule.else_with h
else_says c types s (fault at k) h = behind_else h

mutual
  pub says_stmt : (c : Context) (a : Answers) → AreRight c.units a → (types : List PlainTy) (s : source.PlainStmt) → SaysStmt c types s (function.run a c types s)
  says_stmt c a right types (source.local_variable at ty name source.absent) = whole_says c types (source.local_variable at ty name source.absent) _ _ rule.local_without
  says_stmt c a right types (source.local_variable at ty name (source.present e)) =
      let d : Context = with_local c (next_local types name (type_of ty)) in
      go_on (Types d e) (ExprFault d (a_value e)) (HasEffect c types (source.local_variable at ty name (source.present e))) (StmtFault c types (source.local_variable at ty name (source.present e)))
      (type_expr a d e) _ (says_expr d a right e) (λ p k x. at_fault.in_initialiser x)
      (λ t x. whole_says c types (source.local_variable at ty name (source.present e)) _ _ (rule.local_with x (fits_decides c a right t.type (type_of ty))))
  says_stmt c a right types (source.block at body) =
      go_on (RunAll c types body) (StmtsFault c types body) (HasEffect c types (source.block at body)) (StmtFault c types (source.block at body)) (function.run_all a c types body) _
      (says_stmts c a right types body) (λ p k x. at_fault.in_block x) (λ b x. whole_says c types (source.block at body) _ _ (rule.block x))
  says_stmt c a right types (source.empty at) = whole_says c types (source.empty at) _ _ rule.empty
  says_stmt c a right types (source.evaluate at e) =
      go_on (Types c e) (ExprFault c (a_value e)) (HasEffect c types (source.evaluate at e)) (StmtFault c types (source.evaluate at e)) (type_expr a c e) _ (says_expr c a right e)
      (λ p k x. at_fault.in_expression x) (λ t x. whole_says c types (source.evaluate at e) _ _ (rule.evaluate x))
  says_stmt c a right types (source.if_else at e first second) =
      let s : source.PlainStmt = source.if_else at e first second in
      go_on (Types c e) (ExprFault c (a_value e)) (HasEffect c types s) (StmtFault c types s) (type_expr a c e) _ (says_expr c a right e) (λ p k x. at_fault.if_condition x)
      (λ t x.
      go_on (HasEffect c types first) (StmtFault c types first) (HasEffect c types s) (StmtFault c types s) (function.run a c types first) _ (says_stmt c a right types first)
      (λ p k y. at_fault.if_first t x y)
      (λ f y.
      go_on (ElseHasEffect c f.types second) (ElseFault c f.types second) (HasEffect c types s) (StmtFault c types s) (function.run_else a c f.types second) _ (says_else c a right f.types second)
      (λ p k z. else_fault c types at p e first second k t f x y z) (λ b z. whole_says c types s _ _ (rule.if_else x y z))))
  says_stmt c a right types (source.while_loop at e body) =
      let s : source.PlainStmt = source.while_loop at e body in
      go_on (Types c e) (ExprFault c (a_value e)) (HasEffect c types s) (StmtFault c types s) (type_expr a c e) _ (says_expr c a right e) (λ p k x. at_fault.while_condition x)
      (λ t x.
      go_on (HasEffect (in_a_loop c) types body) (StmtFault (in_a_loop c) types body) (HasEffect c types s) (StmtFault c types s) (function.run a (in_a_loop c) types body) _
      (says_stmt (in_a_loop c) a right types body) (λ p k y. at_fault.while_body t x y) (λ b y. whole_says c types s _ _ (rule.while_loop x y)))
  says_stmt c a right types (source.do_loop at body e) =
      let s : source.PlainStmt = source.do_loop at body e in
      go_on (HasEffect (in_a_loop c) types body) (StmtFault (in_a_loop c) types body) (HasEffect c types s) (StmtFault c types s) (function.run a (in_a_loop c) types body) _
      (says_stmt (in_a_loop c) a right types body) (λ p k y. at_fault.do_body y)
      (λ b y.
      go_on (Types c e) (ExprFault c (a_value e)) (HasEffect c types s) (StmtFault c types s) (type_expr a c e) _ (says_expr c a right e) (λ p k x. at_fault.do_condition b y x)
      (λ t x. whole_says c types s _ _ (rule.do_loop y x)))
  says_stmt c a right types (source.for_loop at init condition update body) =
      let s : source.PlainStmt = source.for_loop at init condition update body in
      go_on (RunAll c types init) (StmtsFault c types init) (HasEffect c types s) (StmtFault c types s) (function.run_all a c types init) _ (says_stmts c a right types init)
      (λ p k x. at_fault.for_first x)
      (λ i x.
      let d : Context = with_locals c i.locals in
      go_on (GoodTest d condition) (TestFault d condition) (HasEffect c types s) (StmtFault c types s) (function.test_of a d condition) _ (test_says d a right condition)
      (λ p k y. test_fault c types at p init condition update body k i x y)
      (λ q y.
      go_on (TypesAll d update) (PartsFault d (values update)) (HasEffect c types s) (StmtFault c types s) (type_exprs a d update) _ (says_exprs d a right update)
      (λ p k z. at_fault.for_update i q.needs q.tree q.steps x y z)
      (λ us z.
      go_on (HasEffect (in_a_loop d) i.types body) (StmtFault (in_a_loop d) i.types body) (HasEffect c types s) (StmtFault c types s) (function.run a (in_a_loop d) i.types body) _
      (says_stmt (in_a_loop d) a right i.types body) (λ p k v. at_fault.for_body i q.needs q.tree q.steps us x y z v) (λ b v. whole_says c types s _ _ (rule.for_loop x y z v)))))
  says_stmt c a right types (source.return_with at source.absent) = whole_says c types (source.return_with at source.absent) _ _ rule.return_nothing
  says_stmt c a right types (source.return_with at (source.present e)) =
      let s : source.PlainStmt = source.return_with at (source.present e) in
      go_on (Types c e) (ExprFault c (a_value e)) (HasEffect c types s) (StmtFault c types s) (type_expr a c e) _ (says_expr c a right e) (λ p k x. at_fault.in_result x)
      (λ t x. whole_says c types s _ _ (rule.return_value x (result_decides c a right t.type c.result)))
  says_stmt c a right types (source.throw at e) =
      go_on (Types c e) (ExprFault c (a_value e)) (HasEffect c types (source.throw at e)) (StmtFault c types (source.throw at e)) (type_expr a c e) _ (says_expr c a right e)
      (λ p k x. at_fault.in_thrown x) (λ t x. whole_says c types (source.throw at e) _ _ (rule.throw x (fits_decides c a right t.type throwable)))
  says_stmt c a right types (source.break_loop at) = whole_says c types (source.break_loop at) _ _ rule.break_loop
  says_stmt c a right types (source.continue_loop at) = whole_says c types (source.continue_loop at) _ _ rule.continue_loop
  says_stmt c a right types (source.try_catch at body catches) =
      let s : source.PlainStmt = source.try_catch at body catches in
      go_on (RunAll c types body) (StmtsFault c types body) (HasEffect c types s) (StmtFault c types s) (function.run_all a c types body) _ (says_stmts c a right types body)
      (λ p k x. at_fault.in_try x)
      (λ b x.
      go_on (Catches c b.types catches) (CatchesFault c b.types catches) (HasEffect c types s) (StmtFault c types s) (function.run_catches a c b.types catches) _ (says_catches c a right b.types catches)
      (λ p k y. at_fault.in_catches b x y) (λ k y. whole_says c types s _ _ (rule.try_catch x y)))

  pub says_else : (c : Context) (a : Answers) → AreRight c.units a → (types : List PlainTy) (s : source.PlainElse) → SaysElse c types s (function.run_else a c types s)
  says_else c a right types source.no_else = rule.no_else
  says_else c a right types (source.else_with s) = else_says c types s (function.run a c types s) (says_stmt c a right types s)

  pub says_stmts : (c : Context) (a : Answers) → AreRight c.units a → (types : List PlainTy) (ss : source.PlainStmts) → SaysStmts c types ss (function.run_all a c types ss)
  says_stmts c a right types source.no_stmts = no_stmts
  says_stmts c a right types (source.more_stmts s rest) =
      go_on (HasEffect c types s) (StmtFault c types s) (RunAll c types (source.more_stmts s rest)) (StmtsFault c types (source.more_stmts s rest)) (function.run a c types s) _ (says_stmt c a right types s)
      (λ p k x. at_fault.in_first x)
      (λ e x.
      go_on (RunAll (with_locals c e.locals) e.types rest) (StmtsFault (with_locals c e.locals) e.types rest) (RunAll c types (source.more_stmts s rest)) (StmtsFault c types (source.more_stmts s rest))
      (function.run_all a (with_locals c e.locals) e.types rest) _ (says_stmts (with_locals c e.locals) a right e.types rest) (λ p k y. at_fault.in_rest e x y) (λ r y. more_stmts x y))

  pub says_catches : (c : Context) (a : Answers) → AreRight c.units a → (types : List PlainTy) (ks : source.PlainCatches) → SaysCatches c types ks (function.run_catches a c types ks)
  says_catches c a right types source.no_catches = rule.no_catches
  says_catches c a right types (source.more_catches (source.catch_of_class class name body) rest) =
      let ks : source.PlainCatches = source.more_catches (source.catch_of_class class name body) rest in
      let d : Context = with_local c (next_local types name (class_type class)) in
      let later : List PlainTy = types ++ class_type class ∷ [] in
      go_on (RunAll d later body) (StmtsFault d later body) (Catches c types ks) (CatchesFault c types ks) (function.run_all a d later body) _ (says_stmts d a right later body)
      (λ p k x. at_fault.in_first_catch x)
      (λ b x.
      go_on (Catches c b.types rest) (CatchesFault c b.types rest) (Catches c types ks) (CatchesFault c types ks) (function.run_catches a c b.types rest) _ (says_catches c a right b.types rest)
      (λ p k y. at_fault.in_later_catch b x y) (λ k y. rule.more_catches (fits_decides c a right (given (class_type class)) throwable) x y))

-- The same of statements.
use Rattle.std.proofs.Common.{ℕ, ◌≤◌, List, arith}
use Rattle.bcj_symbolic_check.specs.Typing.{Each, each_of_none, each_of_more}
use Rattle.bcj_parser_trees.specs.declared.names.TypeName.{TypeName}
use Rattle.bcj_parser_trees.specs.Trees as tree
use Rattle.bcj_parser_trees.specs.Trees.{PlainExpr, PlainExprs, PlainOption, PlainStmt, PlainStmts, PlainCatches}
use Rattle.bcj_parser_rules.specs.declared.terminal.Terminal.{Terminal}
use Rattle.bcj_parser_rules.specs.Lexemes.{Lexemes}
use Rattle.bcj_parser_rules.specs.Limits.{max_height}
use Rattle.bcj_parser_rules.specs.Grammar as g
use Rattle.bcj_parser_rules.specs.Grammar.{Variable, VariableRead, Variables, locals_of, Evaluations, at_of, evaluations_of, ForInit, MaybeExpr, ForUpdate, Statement, Block, Statements, Catches}
use Rattle.bcj_parser_wellformed.specs.WellFormed.{IsName, IsTypeName, AreFormedExprs, IsFormedOption, IsFormedStmt, AreFormedStmts, AreFormedCatches}
use Rattle.bcj_parser_wellformed.proofs.Words.{AreNamed}
use Rattle.bcj_parser_wellformed.proofs.Expressions.{first_named, behind, type_named, type_formed, expr_formed}

-- ---- variables

-- a variable of a declaration with its initialiser
pub record IsFormedVariable (v : Variable) : Type 0 where
  pub name : IsName v.name
  pub init : IsFormedOption v.init

-- one that is read is well formed
variable_formed : {i a : Lexemes} {v : Variable} {h : ℕ} → VariableRead i a v h → AreNamed i → h ≤ max_height → AreNamed a × IsFormedVariable v
variable_formed (g.no_initialiser e) n l = (behind n, record { name = first_named n e; init = tt })
variable_formed (g.initialiser e f d) n l =
    let x = expr_formed d (behind (behind n)) l in (x.0, record { name = first_named n e; init = x.1 })

-- several are
pub variables_formed : {i a : Lexemes} {vs : List Variable} {h : ℕ} → Variables i a vs h → AreNamed i → h ≤ max_height → AreNamed a × Each IsFormedVariable vs
variables_formed (g.last_variable d e) n l = let x = variable_formed d n l in (behind x.0, each_of_more x.1 each_of_none)
variables_formed (g.more_variables d e r) n l =
    let x = variable_formed d n (omega arith) in
    let y = variables_formed r (behind x.0) (omega arith) in
    (y.0, each_of_more x.1 y.1)

-- locals in front of well-formed statements
locals_formed : (at : ℕ) (ty : TypeName) {vs : List Variable} (rest : PlainStmts) → IsTypeName ty → Each IsFormedVariable vs → AreFormedStmts rest
    → AreFormedStmts (locals_of at ty vs rest)
locals_formed at ty rest t each_of_none r = r
locals_formed at ty rest t (each_of_more v vs) r = ((t, v.name, v.init), locals_formed at ty rest t vs r)

-- ---- the parts of `for` and `return`

-- expression statements with commas between
evaluated_formed : {closing : Terminal} {i a : Lexemes} {es : PlainExprs} {h : ℕ} → Evaluations closing i a es h → AreNamed i → h ≤ max_height → AreNamed a × AreFormedExprs es
evaluated_formed (g.last_evaluation d s e) n l = let x = expr_formed d n l in (behind x.0, (x.1, tt))
evaluated_formed (g.more_evaluations d s e r) n l =
    let x = expr_formed d n (omega arith) in
    let y = evaluated_formed r (behind x.0) (omega arith) in
    (y.0, (x.1, y.1))

-- the same as statements
evaluations_formed : (es : PlainExprs) → AreFormedExprs es → AreFormedStmts (evaluations_of es)
evaluations_formed tree.no_exprs f = tt
evaluations_formed (tree.more_exprs x es) f = (f.0, evaluations_formed es f.1)

-- the first part of a `for`
init_formed : {i a : Lexemes} {ss : PlainStmts} {h : ℕ} → ForInit i a ss h → AreNamed i → h ≤ max_height → AreNamed a × AreFormedStmts ss
init_formed (g.init_none e) n l = (behind n, tt)
init_formed (g.init_locals {i = i} {ty = ty} t v) n l =
    let x = variables_formed v (type_named t n) (omega arith) in
    (x.0, locals_formed _ ty tree.no_stmts (type_formed t n (omega arith)) x.1 tt)
init_formed (g.init_evaluations {es = es} d) n l = let x = evaluated_formed d n (omega arith) in (x.0, evaluations_formed es x.1)

-- an expression that may be missing
option_formed : {i a : Lexemes} {v : PlainOption} {h : ℕ} → MaybeExpr i a v h → AreNamed i → h ≤ max_height → AreNamed a × IsFormedOption v
option_formed (g.no_expr e) n l = (behind n, tt)
option_formed (g.an_expr d e) n l = let x = expr_formed d n l in (behind x.0, x.1)

-- the last part of a `for`
update_formed : {i a : Lexemes} {es : PlainExprs} {h : ℕ} → ForUpdate i a es h → AreNamed i → h ≤ max_height → AreNamed a × AreFormedExprs es
update_formed (g.update_none e) n l = (behind n, tt)
update_formed (g.update_some d) n l = evaluated_formed d n l

-- ---- statements

mutual
  -- a statement within the height is well formed
  pub stmt_formed : {i a : Lexemes} {s : PlainStmt} {h : ℕ} → Statement i a s h → AreNamed i → h ≤ max_height → AreNamed a × IsFormedStmt s
  stmt_formed (g.block b) n l = block_formed b n (omega arith)
  stmt_formed (g.empty e) n l = (behind n, tt)
  stmt_formed (g.evaluate d s e) n l = let x = expr_formed d n (omega arith) in (behind x.0, x.1)
  stmt_formed (g.if_only e f c v s o) n l =
      let x = expr_formed c (behind (behind n)) (omega arith) in
      let y = stmt_formed s (behind x.0) (omega arith) in
      (y.0, (x.1, y.1, tt))
  stmt_formed (g.if_else e f c v s w r) n l =
      let x = expr_formed c (behind (behind n)) (omega arith) in
      let y = stmt_formed s (behind x.0) (omega arith) in
      let z = stmt_formed r (behind y.0) (omega arith) in
      (z.0, (x.1, y.1, z.1))
  stmt_formed (g.while_loop e f c v s) n l =
      let x = expr_formed c (behind (behind n)) (omega arith) in
      let y = stmt_formed s (behind x.0) (omega arith) in
      (y.0, (x.1, y.1))
  stmt_formed (g.do_loop e s f q c v w) n l =
      let x = stmt_formed s (behind n) (omega arith) in
      let y = expr_formed c (behind (behind x.0)) (omega arith) in
      (behind (behind y.0), (x.1, y.1))
  stmt_formed (g.for_loop e f i c u s) n l =
      let x = init_formed i (behind (behind n)) (omega arith) in
      let y = option_formed c x.0 (omega arith) in
      let z = update_formed u y.0 (omega arith) in
      let w = stmt_formed s z.0 (omega arith) in
      (w.0, (x.1, y.1, z.1, w.1))
  stmt_formed (g.return_with e v) n l = option_formed v (behind n) (omega arith)
  stmt_formed (g.throw e d f) n l = let x = expr_formed d (behind n) (omega arith) in (behind x.0, x.1)
  stmt_formed (g.break_loop e f) n l = (behind (behind n), tt)
  stmt_formed (g.continue_loop e f) n l = (behind (behind n), tt)
  stmt_formed (g.try_catch e b c) n l =
      let x = block_formed b (behind n) (omega arith) in
      let y = catches_formed c x.0 (omega arith) in
      (y.0, (x.1, y.1))

  -- a block is
  pub block_formed : {i a : Lexemes} {ss : PlainStmts} {h : ℕ} → Block i a ss h → AreNamed i → h ≤ max_height → AreNamed a × AreFormedStmts ss
  block_formed (g.braces e s f) n l = let x = stmts_formed s (behind n) l in (behind x.0, x.1)

  -- statements in a row are
  pub stmts_formed : {i a : Lexemes} {ss : PlainStmts} {h : ℕ} → Statements i a ss h → AreNamed i → h ≤ max_height → AreNamed a × AreFormedStmts ss
  stmts_formed g.no_statement n l = (n, tt)
  stmts_formed (g.a_statement s r) n l =
      let x = stmt_formed s n (omega arith) in
      let y = stmts_formed r x.0 (omega arith) in
      (y.0, (x.1, y.1))
  stmts_formed (g.locals {ty = ty} {ss = ss} t v r) n l =
      let x = variables_formed v (type_named t n) (omega arith) in
      let y = stmts_formed r x.0 (omega arith) in
      (y.0, locals_formed _ ty ss (type_formed t n (omega arith)) x.1 y.1)

  -- catches are
  catches_formed : {i a : Lexemes} {cs : PlainCatches} {h : ℕ} → Catches i a cs h → AreNamed i → h ≤ max_height → AreNamed a × AreFormedCatches cs
  catches_formed (g.last_catch e f v w z b) n l =
      let m = behind (behind n) in
      let x = block_formed b (behind (behind (behind m))) l in
      (x.0, ((first_named m v, first_named (behind m) w, x.1), tt))
  catches_formed (g.more_catches e f v w z b c) n l =
      let m = behind (behind n) in
      let x = block_formed b (behind (behind (behind m))) (omega arith) in
      let y = catches_formed c x.0 (omega arith) in
      (y.0, ((first_named m v, first_named (behind m) w, x.1), y.1))

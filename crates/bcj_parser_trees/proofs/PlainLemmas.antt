-- One equation for each variant of a tree.
use Rattle.std.proofs.Common.{◌≡◌, ℕ, Bool, List, [], ◌∷◌, Option, None, Some, sym, ◌∙◌, ap, refl, map}
use Rattle.bcj_parser_trees.specs.declared.names.Base.{Base}
use Rattle.bcj_parser_trees.specs.declared.names.TypeName.{TypeName}
use Rattle.bcj_parser_trees.specs.declared.expression.UnaryOp.{UnaryOp}
use Rattle.bcj_parser_trees.specs.declared.expression.BinOp.{BinOp}
use Rattle.bcj_parser_trees.specs.declared.expression.Expr.{Expr, fold-roll-Expr}
use Rattle.bcj_parser_trees.specs.declared.expression.Expr.TheOpen as open_expr
use Rattle.bcj_parser_trees.specs.declared.expression.Expr.TheVariants as expr_v
use Rattle.bcj_parser_trees.specs.declared.statement.Stmt.{Stmt, fold-roll-Stmt}
use Rattle.bcj_parser_trees.specs.declared.statement.Stmt.TheOpen as open_stmt
use Rattle.bcj_parser_trees.specs.declared.statement.Stmt.TheVariants as stmt_v
use Rattle.bcj_parser_trees.specs.declared.statement.Catch.{Catch, fold-Catch, fold_out-Catch}
use Rattle.bcj_parser_trees.specs.Trees.{PlainExpr, int_literal, bool_literal, null_literal, this_value, simple_name, paren, dot, super_field, call, dot_call, super_call, new_object, new_array, element, unary, step, cast, binary, instance_of, conditional, assign, PlainStmt, local_variable, block, empty, evaluate, if_else, while_loop, do_loop, for_loop, return_with, throw, break_loop, continue_loop, try_catch, catches_from, PlainCatch}
use Rattle.bcj_parser_trees.specs.Plain.{expr_step, expr_of, exprs_of, option_of, stmt_step, catch_step, stmt_of, stmts_of, else_of, catch_of, catches_of}

pub expr-Int : (at : ℕ) (value : ℕ) (decimal : Bool) → expr_of (expr_v.Int at value decimal) ≡ int_literal at value decimal
unfolding expr_of
expr-Int at value decimal = ap expr_of (sym (expr_v.rolls-Int at value decimal)) ∙ fold-roll-Expr PlainExpr expr_step (open_expr.Int at value decimal)

pub expr-Bool : (at : ℕ) (value : Bool) → expr_of (expr_v.Bool at value) ≡ bool_literal at value
unfolding expr_of
expr-Bool at value = ap expr_of (sym (expr_v.rolls-Bool at value)) ∙ fold-roll-Expr PlainExpr expr_step (open_expr.Bool at value)

pub expr-Null : (at : ℕ) → expr_of (expr_v.Null at) ≡ null_literal at
unfolding expr_of
expr-Null at = ap expr_of (sym (expr_v.rolls-Null at)) ∙ fold-roll-Expr PlainExpr expr_step (open_expr.Null at)

pub expr-This : (at : ℕ) → expr_of (expr_v.This at) ≡ this_value at
unfolding expr_of
expr-This at = ap expr_of (sym (expr_v.rolls-This at)) ∙ fold-roll-Expr PlainExpr expr_step (open_expr.This at)

pub expr-Name : (at : ℕ) (name : List ℕ) → expr_of (expr_v.Name at name) ≡ simple_name at name
unfolding expr_of
expr-Name at name = ap expr_of (sym (expr_v.rolls-Name at name)) ∙ fold-roll-Expr PlainExpr expr_step (open_expr.Name at name)

pub expr-Paren : (at : ℕ) (part : Expr) → expr_of (expr_v.Paren at part) ≡ paren at (expr_of part)
unfolding expr_of
expr-Paren at part = ap expr_of (sym (expr_v.rolls-Paren at part)) ∙ fold-roll-Expr PlainExpr expr_step (open_expr.Paren at part)

pub expr-Dot : (at : ℕ) (target : Expr) (name : List ℕ) → expr_of (expr_v.Dot at target name) ≡ dot at (expr_of target) name
unfolding expr_of
expr-Dot at target name = ap expr_of (sym (expr_v.rolls-Dot at target name)) ∙ fold-roll-Expr PlainExpr expr_step (open_expr.Dot at target name)

pub expr-SuperField : (at : ℕ) (name : List ℕ) → expr_of (expr_v.SuperField at name) ≡ super_field at name
unfolding expr_of
expr-SuperField at name = ap expr_of (sym (expr_v.rolls-SuperField at name)) ∙ fold-roll-Expr PlainExpr expr_step (open_expr.SuperField at name)

pub expr-Call : (at : ℕ) (name : List ℕ) (args : List Expr) → expr_of (expr_v.Call at name args) ≡ call at name (exprs_of args)
unfolding expr_of
expr-Call at name args = ap expr_of (sym (expr_v.rolls-Call at name args)) ∙ fold-roll-Expr PlainExpr expr_step (open_expr.Call at name args)

pub expr-DotCall : (at : ℕ) (target : Expr) (name : List ℕ) (args : List Expr) → expr_of (expr_v.DotCall at target name args) ≡ dot_call at (expr_of target) name (exprs_of args)
unfolding expr_of
expr-DotCall at target name args = ap expr_of (sym (expr_v.rolls-DotCall at target name args)) ∙ fold-roll-Expr PlainExpr expr_step (open_expr.DotCall at target name args)

pub expr-SuperCall : (at : ℕ) (name : List ℕ) (args : List Expr) → expr_of (expr_v.SuperCall at name args) ≡ super_call at name (exprs_of args)
unfolding expr_of
expr-SuperCall at name args = ap expr_of (sym (expr_v.rolls-SuperCall at name args)) ∙ fold-roll-Expr PlainExpr expr_step (open_expr.SuperCall at name args)

pub expr-New : (at : ℕ) (name : List ℕ) (args : List Expr) → expr_of (expr_v.New at name args) ≡ new_object at name (exprs_of args)
unfolding expr_of
expr-New at name args = ap expr_of (sym (expr_v.rolls-New at name args)) ∙ fold-roll-Expr PlainExpr expr_step (open_expr.New at name args)

pub expr-NewArray : (at : ℕ) (base : Base) (length : Expr) (dims : ℕ) → expr_of (expr_v.NewArray at base length dims) ≡ new_array at base (expr_of length) dims
unfolding expr_of
expr-NewArray at base length dims = ap expr_of (sym (expr_v.rolls-NewArray at base length dims)) ∙ fold-roll-Expr PlainExpr expr_step (open_expr.NewArray at base length dims)

pub expr-Elem : (at : ℕ) (array : Expr) (index : Expr) → expr_of (expr_v.Elem at array index) ≡ element at (expr_of array) (expr_of index)
unfolding expr_of
expr-Elem at array index = ap expr_of (sym (expr_v.rolls-Elem at array index)) ∙ fold-roll-Expr PlainExpr expr_step (open_expr.Elem at array index)

pub expr-Unary : (at : ℕ) (op : UnaryOp) (part : Expr) → expr_of (expr_v.Unary at op part) ≡ unary at op (expr_of part)
unfolding expr_of
expr-Unary at op part = ap expr_of (sym (expr_v.rolls-Unary at op part)) ∙ fold-roll-Expr PlainExpr expr_step (open_expr.Unary at op part)

pub expr-Step : (at : ℕ) (plus : Bool) (post : Bool) (place : Expr) → expr_of (expr_v.Step at plus post place) ≡ step at plus post (expr_of place)
unfolding expr_of
expr-Step at plus post place = ap expr_of (sym (expr_v.rolls-Step at plus post place)) ∙ fold-roll-Expr PlainExpr expr_step (open_expr.Step at plus post place)

pub expr-Cast : (at : ℕ) (ty : TypeName) (part : Expr) → expr_of (expr_v.Cast at ty part) ≡ cast at ty (expr_of part)
unfolding expr_of
expr-Cast at ty part = ap expr_of (sym (expr_v.rolls-Cast at ty part)) ∙ fold-roll-Expr PlainExpr expr_step (open_expr.Cast at ty part)

pub expr-Binary : (at : ℕ) (op : BinOp) (left : Expr) (right : Expr) → expr_of (expr_v.Binary at op left right) ≡ binary at op (expr_of left) (expr_of right)
unfolding expr_of
expr-Binary at op left right = ap expr_of (sym (expr_v.rolls-Binary at op left right)) ∙ fold-roll-Expr PlainExpr expr_step (open_expr.Binary at op left right)

pub expr-InstanceOf : (at : ℕ) (part : Expr) (ty : TypeName) → expr_of (expr_v.InstanceOf at part ty) ≡ instance_of at (expr_of part) ty
unfolding expr_of
expr-InstanceOf at part ty = ap expr_of (sym (expr_v.rolls-InstanceOf at part ty)) ∙ fold-roll-Expr PlainExpr expr_step (open_expr.InstanceOf at part ty)

pub expr-Cond : (at : ℕ) (test : Expr) (first : Expr) (second : Expr) → expr_of (expr_v.Cond at test first second) ≡ conditional at (expr_of test) (expr_of first) (expr_of second)
unfolding expr_of
expr-Cond at test first second = ap expr_of (sym (expr_v.rolls-Cond at test first second)) ∙ fold-roll-Expr PlainExpr expr_step (open_expr.Cond at test first second)

pub expr-Assign : (at : ℕ) (op : Option BinOp) (place : Expr) (value : Expr) → expr_of (expr_v.Assign at op place value) ≡ assign at op (expr_of place) (expr_of value)
unfolding expr_of
expr-Assign at op place value = ap expr_of (sym (expr_v.rolls-Assign at op place value)) ∙ fold-roll-Expr PlainExpr expr_step (open_expr.Assign at op place value)

-- a catch's fold is its plain form
catch-is : (c : Catch) → fold-Catch PlainStmt PlainCatch stmt_step catch_step c ≡ catch_of c
unfolding stmt_of
catch-is c = fold_out-Catch PlainStmt PlainCatch stmt_step catch_step c

catches-are : (cs : List Catch) → map (fold-Catch PlainStmt PlainCatch stmt_step catch_step) cs ≡ map catch_of cs
catches-are [] = refl
catches-are (c ∷ cs) = λ i. catch-is c i ∷ catches-are cs i

pub stmt-Local : (at : ℕ) (ty : TypeName) (name : List ℕ) (init : Option Expr) → stmt_of (stmt_v.Local at ty name init) ≡ local_variable at ty name (option_of init)
unfolding stmt_of
stmt-Local at ty name None = ap stmt_of (sym (stmt_v.rolls-Local at ty name None)) ∙ fold-roll-Stmt PlainStmt PlainCatch stmt_step catch_step (open_stmt.Local at ty name None)
stmt-Local at ty name (Some init) = ap stmt_of (sym (stmt_v.rolls-Local at ty name (Some init))) ∙ fold-roll-Stmt PlainStmt PlainCatch stmt_step catch_step (open_stmt.Local at ty name (Some init))

pub stmt-Block : (at : ℕ) (body : List Stmt) → stmt_of (stmt_v.Block at body) ≡ block at (stmts_of body)
unfolding stmt_of
stmt-Block at body = ap stmt_of (sym (stmt_v.rolls-Block at body)) ∙ fold-roll-Stmt PlainStmt PlainCatch stmt_step catch_step (open_stmt.Block at body)

pub stmt-Empty : (at : ℕ) → stmt_of (stmt_v.Empty at) ≡ empty at
unfolding stmt_of
stmt-Empty at = ap stmt_of (sym (stmt_v.rolls-Empty at)) ∙ fold-roll-Stmt PlainStmt PlainCatch stmt_step catch_step (open_stmt.Empty at)

pub stmt-Eval : (at : ℕ) (value : Expr) → stmt_of (stmt_v.Eval at value) ≡ evaluate at (expr_of value)
unfolding stmt_of
stmt-Eval at value = ap stmt_of (sym (stmt_v.rolls-Eval at value)) ∙ fold-roll-Stmt PlainStmt PlainCatch stmt_step catch_step (open_stmt.Eval at value)

pub stmt-If : (at : ℕ) (cond : Expr) (first : Stmt) (second : Option Stmt) → stmt_of (stmt_v.If at cond first second) ≡ if_else at (expr_of cond) (stmt_of first) (else_of second)
unfolding stmt_of
stmt-If at cond first None = ap stmt_of (sym (stmt_v.rolls-If at cond first None)) ∙ fold-roll-Stmt PlainStmt PlainCatch stmt_step catch_step (open_stmt.If at cond first None)
stmt-If at cond first (Some second) = ap stmt_of (sym (stmt_v.rolls-If at cond first (Some second))) ∙ fold-roll-Stmt PlainStmt PlainCatch stmt_step catch_step (open_stmt.If at cond first (Some second))

pub stmt-While : (at : ℕ) (cond : Expr) (body : Stmt) → stmt_of (stmt_v.While at cond body) ≡ while_loop at (expr_of cond) (stmt_of body)
unfolding stmt_of
stmt-While at cond body = ap stmt_of (sym (stmt_v.rolls-While at cond body)) ∙ fold-roll-Stmt PlainStmt PlainCatch stmt_step catch_step (open_stmt.While at cond body)

pub stmt-Do : (at : ℕ) (body : Stmt) (cond : Expr) → stmt_of (stmt_v.Do at body cond) ≡ do_loop at (stmt_of body) (expr_of cond)
unfolding stmt_of
stmt-Do at body cond = ap stmt_of (sym (stmt_v.rolls-Do at body cond)) ∙ fold-roll-Stmt PlainStmt PlainCatch stmt_step catch_step (open_stmt.Do at body cond)

pub stmt-For : (at : ℕ) (init : List Stmt) (cond : Option Expr) (update : List Expr) (body : Stmt) → stmt_of (stmt_v.For at init cond update body) ≡ for_loop at (stmts_of init) (option_of cond) (exprs_of update) (stmt_of body)
unfolding stmt_of
stmt-For at init None update body = ap stmt_of (sym (stmt_v.rolls-For at init None update body)) ∙ fold-roll-Stmt PlainStmt PlainCatch stmt_step catch_step (open_stmt.For at init None update body)
stmt-For at init (Some cond) update body = ap stmt_of (sym (stmt_v.rolls-For at init (Some cond) update body)) ∙ fold-roll-Stmt PlainStmt PlainCatch stmt_step catch_step (open_stmt.For at init (Some cond) update body)

pub stmt-Return : (at : ℕ) (value : Option Expr) → stmt_of (stmt_v.Return at value) ≡ return_with at (option_of value)
unfolding stmt_of
stmt-Return at None = ap stmt_of (sym (stmt_v.rolls-Return at None)) ∙ fold-roll-Stmt PlainStmt PlainCatch stmt_step catch_step (open_stmt.Return at None)
stmt-Return at (Some value) = ap stmt_of (sym (stmt_v.rolls-Return at (Some value))) ∙ fold-roll-Stmt PlainStmt PlainCatch stmt_step catch_step (open_stmt.Return at (Some value))

pub stmt-Throw : (at : ℕ) (value : Expr) → stmt_of (stmt_v.Throw at value) ≡ throw at (expr_of value)
unfolding stmt_of
stmt-Throw at value = ap stmt_of (sym (stmt_v.rolls-Throw at value)) ∙ fold-roll-Stmt PlainStmt PlainCatch stmt_step catch_step (open_stmt.Throw at value)

pub stmt-Break : (at : ℕ) → stmt_of (stmt_v.Break at) ≡ break_loop at
unfolding stmt_of
stmt-Break at = ap stmt_of (sym (stmt_v.rolls-Break at)) ∙ fold-roll-Stmt PlainStmt PlainCatch stmt_step catch_step (open_stmt.Break at)

pub stmt-Continue : (at : ℕ) → stmt_of (stmt_v.Continue at) ≡ continue_loop at
unfolding stmt_of
stmt-Continue at = ap stmt_of (sym (stmt_v.rolls-Continue at)) ∙ fold-roll-Stmt PlainStmt PlainCatch stmt_step catch_step (open_stmt.Continue at)

pub stmt-Try : (at : ℕ) (body : List Stmt) (catches : List Catch) → stmt_of (stmt_v.Try at body catches) ≡ try_catch at (stmts_of body) (catches_of catches)
unfolding stmt_of
stmt-Try at body catches = ap stmt_of (sym (stmt_v.rolls-Try at body catches)) ∙ fold-roll-Stmt PlainStmt PlainCatch stmt_step catch_step (open_stmt.Try at body catches) ∙ ap (λ l. try_catch at (stmts_of body) (catches_from l)) (catches-are catches)

pub ruleset tree_rules = (expr-Int, expr-Bool, expr-Null, expr-This, expr-Name, expr-Paren, expr-Dot, expr-SuperField, expr-Call, expr-DotCall, expr-SuperCall, expr-New, expr-NewArray, expr-Elem, expr-Unary, expr-Step, expr-Cast, expr-Binary, expr-InstanceOf, expr-Cond, expr-Assign, stmt-Local, stmt-Block, stmt-Empty, stmt-Eval, stmt-If, stmt-While, stmt-Do, stmt-For, stmt-Return, stmt-Throw, stmt-Break, stmt-Continue, stmt-Try)

-- The plain form of expressions and statements: one line a variant, its parts being in plain form already.
use Rattle.std.specs.Prelude.{List, map, Option, option_map}
use Rattle.bcj_symbolic_trees.specs.declared.expression.SymExpr.{SymExpr, fold-SymExpr}
use Rattle.bcj_symbolic_trees.specs.declared.expression.SymExpr.TheOpen as open_expr
use Rattle.bcj_symbolic_trees.specs.declared.expression.UpdatePlace.{UpdatePlace, fold-UpdatePlace}
use Rattle.bcj_symbolic_trees.specs.declared.statement.SymStmt.{SymStmt, fold-SymStmt}
use Rattle.bcj_symbolic_trees.specs.declared.statement.SymStmt.TheOpen as open_stmt
use Rattle.bcj_symbolic_trees.specs.declared.statement.SymCatch.{SymCatch}
use Rattle.bcj_symbolic_trees.specs.Types.{ty_of, field_ref_of, method_ref_of}
use Rattle.bcj_symbolic_trees.specs.Trees.{PlainExpr, PlainExprs, PlainPlace, PlainOption, PlainStmt, PlainStmts, PlainCatch, PlainCatches, int_value, bool_value, null_value, get_local, set_local, get_static, set_static, get_field, set_field, get_element, set_element, array_length, update_place, unary, binary, and_also, or_else, conditional, new_object, new_array, call_static, call_virtual, call_interface, call_special, cast, widen, instance_of, first_then, print, local_place, static_place, field_place, element_place, evaluate, if_else, loop, break_loop, continue_loop, return_with, throw, try_catch, block, exprs_from, option_from, stmts_from, catches_from}

abbrev pub expr_step : open_expr.SymExpr-F PlainExpr PlainPlace → PlainExpr
expr_step (open_expr.Int n) = int_value n
expr_step (open_expr.Bool b) = bool_value b
expr_step open_expr.Null = null_value
expr_step (open_expr.«SymExpr::Local» n) = get_local n
expr_step (open_expr.SetLocal n v) = set_local n v
expr_step (open_expr.GetStatic f) = get_static (field_ref_of f)
expr_step (open_expr.SetStatic f v) = set_static (field_ref_of f) v
expr_step (open_expr.GetField t f) = get_field t (field_ref_of f)
expr_step (open_expr.SetField t f v) = set_field t (field_ref_of f) v
expr_step (open_expr.GetElem a i) = get_element a i
expr_step (open_expr.SetElem a i v) = set_element a i v
expr_step (open_expr.Length a) = array_length a
expr_step (open_expr.Update p op v post) = update_place p op v post
expr_step (open_expr.Unary op a) = unary op a
expr_step (open_expr.Binary op a b) = binary op a b
expr_step (open_expr.And a b) = and_also a b
expr_step (open_expr.Or a b) = or_else a b
expr_step (open_expr.Cond a b c) = conditional a b c
expr_step (open_expr.New m args) = new_object (method_ref_of m) (exprs_from args)
expr_step (open_expr.NewArray t n) = new_array (ty_of t) n
expr_step (open_expr.CallStatic m args) = call_static (method_ref_of m) (exprs_from args)
expr_step (open_expr.CallVirtual t m args) = call_virtual t (method_ref_of m) (exprs_from args)
expr_step (open_expr.CallInterface t m args) = call_interface t (method_ref_of m) (exprs_from args)
expr_step (open_expr.CallSpecial m args) = call_special (method_ref_of m) (exprs_from args)
expr_step (open_expr.Cast t a) = cast (ty_of t) a
expr_step (open_expr.Widen t a) = widen (ty_of t) a
expr_step (open_expr.InstanceOf a t) = instance_of a (ty_of t)
expr_step (open_expr.Then a null_test b) = first_then a null_test b
expr_step (open_expr.Print k args) = print k (exprs_from args)

abbrev pub place_step : open_expr.UpdatePlace-F PlainExpr PlainPlace → PlainPlace
place_step (open_expr.«UpdatePlace::Local» n) = local_place n
place_step (open_expr.Static f) = static_place (field_ref_of f)
place_step (open_expr.Field t f) = field_place t (field_ref_of f)
place_step (open_expr.Elem a i) = element_place a i

unfoldable pub expr_of : SymExpr → PlainExpr
expr_of = fold-SymExpr PlainExpr PlainPlace expr_step place_step

unfoldable pub place_of : UpdatePlace → PlainPlace
place_of = fold-UpdatePlace PlainExpr PlainPlace expr_step place_step

abbrev pub exprs_of : List SymExpr → PlainExprs
exprs_of es = exprs_from (map expr_of es)

abbrev pub option_of : Option SymExpr → PlainOption
option_of e = option_from (option_map expr_of e)

abbrev pub stmt_step : open_stmt.SymStmt-F PlainStmt PlainCatch → PlainStmt
stmt_step (open_stmt.Expr e) = evaluate (expr_of e)
stmt_step (open_stmt.If c a b) = if_else (expr_of c) a b
stmt_step (open_stmt.Loop test_last c body again) = loop test_last (expr_of c) body (exprs_of again)
stmt_step open_stmt.Break = break_loop
stmt_step open_stmt.Continue = continue_loop
stmt_step (open_stmt.Return v) = return_with (option_of v)
stmt_step (open_stmt.Throw v) = throw (expr_of v)
stmt_step (open_stmt.Try body handlers) = try_catch (stmts_from body) (catches_from handlers)
stmt_step (open_stmt.Block body) = block (stmts_from body)

abbrev pub catch_step : open_stmt.SymCatch-F PlainStmt PlainCatch → PlainCatch
catch_step c = record { class = c.class; local = c.local; body = stmts_from c.body }

unfoldable pub stmt_of : SymStmt → PlainStmt
stmt_of = fold-SymStmt PlainStmt PlainCatch stmt_step catch_step

abbrev pub stmts_of : List SymStmt → PlainStmts
stmts_of ss = stmts_from (map stmt_of ss)

abbrev pub catch_of : SymCatch → PlainCatch
catch_of c = record { class = c.class; local = c.local; body = stmts_of c.body }

abbrev pub catches_of : List SymCatch → PlainCatches
catches_of cs = catches_from (map catch_of cs)

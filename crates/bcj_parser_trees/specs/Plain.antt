-- The plain form of the trees: one line a variant, its parts being in plain form already.
use Rattle.std.specs.Prelude.{List, map, Option, option_map, None, Some}
use Rattle.bcj_parser_trees.specs.declared.expression.Expr.{Expr, fold-Expr}
use Rattle.bcj_parser_trees.specs.declared.expression.Expr.TheOpen as open_expr
use Rattle.bcj_parser_trees.specs.declared.statement.Stmt.{Stmt, fold-Stmt}
use Rattle.bcj_parser_trees.specs.declared.statement.Stmt.TheOpen as open_stmt
use Rattle.bcj_parser_trees.specs.declared.statement.Catch.{Catch}
use Rattle.bcj_parser_trees.specs.declared.unit.First.{First}
use Rattle.bcj_parser_trees.specs.declared.unit.Member.{Member}
use Rattle.bcj_parser_trees.specs.declared.unit.Member.TheVariants.{Field, Method, Constructor, Static}
use Rattle.bcj_parser_trees.specs.declared.unit.TypeDecl.{TypeDecl}
use Rattle.bcj_parser_trees.specs.declared.unit.Unit as declared_unit
use Rattle.bcj_parser_trees.specs.Trees.{PlainExpr, int_literal, bool_literal, null_literal, this_value, simple_name, paren, dot, super_field, call, dot_call, super_call, new_object, new_array, element, unary, step, cast, binary, instance_of, conditional, assign, PlainExprs, exprs_from, PlainOption, option_from, PlainStmt, local_variable, block, empty, evaluate, if_else, while_loop, do_loop, for_loop, return_with, throw, break_loop, continue_loop, try_catch, PlainStmts, stmts_from, PlainElse, else_from, PlainCatches, catches_from, PlainCatch, catch_of_class, PlainBody, no_body, with_body, PlainFirst, no_first, first_call, PlainMember, field_member, method_member, constructor_member, static_member, PlainType, PlainUnit}

abbrev pub expr_step : open_expr.Expr-F PlainExpr → PlainExpr
expr_step (open_expr.Int at value decimal) = int_literal at value decimal
expr_step (open_expr.Bool at value) = bool_literal at value
expr_step (open_expr.Null at) = null_literal at
expr_step (open_expr.This at) = this_value at
expr_step (open_expr.Name at name) = simple_name at name
expr_step (open_expr.Paren at part) = paren at part
expr_step (open_expr.Dot at target name) = dot at target name
expr_step (open_expr.SuperField at name) = super_field at name
expr_step (open_expr.Call at name args) = call at name (exprs_from args)
expr_step (open_expr.DotCall at target name args) = dot_call at target name (exprs_from args)
expr_step (open_expr.SuperCall at name args) = super_call at name (exprs_from args)
expr_step (open_expr.New at name args) = new_object at name (exprs_from args)
expr_step (open_expr.NewArray at base length dims) = new_array at base length dims
expr_step (open_expr.Elem at array index) = element at array index
expr_step (open_expr.Unary at op part) = unary at op part
expr_step (open_expr.Step at plus post place) = step at plus post place
expr_step (open_expr.Cast at ty part) = cast at ty part
expr_step (open_expr.Binary at op left right) = binary at op left right
expr_step (open_expr.InstanceOf at part ty) = instance_of at part ty
expr_step (open_expr.Cond at test first second) = conditional at test first second
expr_step (open_expr.Assign at op place value) = assign at op place value

unfoldable pub expr_of : Expr → PlainExpr
expr_of = fold-Expr PlainExpr expr_step

abbrev pub exprs_of : List Expr → PlainExprs
exprs_of es = exprs_from (map expr_of es)

abbrev pub option_of : Option Expr → PlainOption
option_of e = option_from (option_map expr_of e)

abbrev pub stmt_step : open_stmt.Stmt-F PlainStmt PlainCatch → PlainStmt
stmt_step (open_stmt.Local at ty name init) = local_variable at ty name (option_of init)
stmt_step (open_stmt.Block at body) = block at (stmts_from body)
stmt_step (open_stmt.Empty at) = empty at
stmt_step (open_stmt.Eval at value) = evaluate at (expr_of value)
stmt_step (open_stmt.If at cond first second) = if_else at (expr_of cond) first (else_from second)
stmt_step (open_stmt.While at cond body) = while_loop at (expr_of cond) body
stmt_step (open_stmt.Do at body cond) = do_loop at body (expr_of cond)
stmt_step (open_stmt.For at init cond update body) = for_loop at (stmts_from init) (option_of cond) (exprs_of update) body
stmt_step (open_stmt.Return at value) = return_with at (option_of value)
stmt_step (open_stmt.Throw at value) = throw at (expr_of value)
stmt_step (open_stmt.Break at) = break_loop at
stmt_step (open_stmt.Continue at) = continue_loop at
stmt_step (open_stmt.Try at body catches) = try_catch at (stmts_from body) (catches_from catches)

abbrev pub catch_step : open_stmt.Catch-F PlainStmt PlainCatch → PlainCatch
catch_step c = catch_of_class c.class c.name (stmts_from c.body)

unfoldable pub stmt_of : Stmt → PlainStmt
stmt_of = fold-Stmt PlainStmt PlainCatch stmt_step catch_step

abbrev pub stmts_of : List Stmt → PlainStmts
stmts_of ss = stmts_from (map stmt_of ss)

abbrev pub else_of : Option Stmt → PlainElse
else_of s = else_from (option_map stmt_of s)

abbrev pub catch_of : Catch → PlainCatch
catch_of c = catch_of_class c.class c.name (stmts_of c.body)

abbrev pub catches_of : List Catch → PlainCatches
catches_of cs = catches_from (map catch_of cs)

abbrev pub body_of : Option (List Stmt) → PlainBody
body_of None = no_body
body_of (Some ss) = with_body (stmts_of ss)

abbrev pub first_of_constructor : Option First → PlainFirst
first_of_constructor None = no_first
first_of_constructor (Some f) = first_call f.at f.to_super (exprs_of f.args)

abbrev pub member_of : Member → PlainMember
member_of (Field at mods ty name init) = field_member at mods ty name (option_of init)
member_of (Method at mods ty name params throws body) = method_member at mods ty name params throws (body_of body)
member_of (Constructor at mods name params throws first body) =
    constructor_member at mods name params throws (first_of_constructor first) (stmts_of body)
member_of (Static at body) = static_member at (stmts_of body)

abbrev pub type_of : TypeDecl → PlainType
type_of d = record {
  at = d.at;
  interface = d.interface;
  is_abstract = d.is_abstract;
  name = d.name;
  extends = d.extends;
  implements = d.implements;
  members = map member_of d.members;
}

abbrev pub unit_of : declared_unit.Unit → PlainUnit
unit_of u = map type_of u.types

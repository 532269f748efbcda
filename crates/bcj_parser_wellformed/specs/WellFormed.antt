-- What the grammar gives of each tree within the limits: names that are identifiers, types of values where values are, at most 255
-- pairs of brackets, and at most 64 types in a unit.
use Rattle.std.specs.Prelude.{◌≡◌, ℕ, suc, ◌≤◌, true, List, length}
use Rattle.bcj_parser_trees.specs.declared.names.Base.{Base}
use Rattle.bcj_parser_trees.specs.declared.names.Base.TheVariants as base
use Rattle.bcj_parser_trees.specs.declared.names.TypeName.{TypeName}
use Rattle.bcj_parser_trees.specs.declared.names.Param.{Param}
use Rattle.bcj_parser_trees.specs.Trees.{PlainExpr, int_literal, bool_literal, null_literal, this_value, simple_name, paren, dot, super_field, call, dot_call, super_call, new_object, new_array, element, unary, step, cast, binary, instance_of, conditional, assign, PlainExprs, no_exprs, more_exprs, PlainOption, absent, present, PlainStmt, local_variable, block, empty, evaluate, if_else, while_loop, do_loop, for_loop, return_with, throw, break_loop, continue_loop, try_catch, PlainStmts, no_stmts, more_stmts, PlainElse, no_else, else_with, PlainCatches, no_catches, more_catches, PlainCatch, catch_of_class, PlainBody, no_body, with_body, PlainFirst, no_first, first_call, PlainMember, field_member, method_member, constructor_member, static_member, PlainType, PlainUnit}
use Rattle.bcj_names.specs.Identifiers.{is_identifier}
use Rattle.bcj_symbolic_check.specs.Limits.{max_types, max_dimensions}
use Rattle.bcj_symbolic_check.specs.Typing.{Each}

-- ---- names and types

abbrev pub IsName : List ℕ → Type 0
IsName name = is_identifier name ≡ true

-- what a type of values has before its brackets
pub data IsValueBase : Base → Type 0 where
  int_base : IsValueBase base.Int
  bool_base : IsValueBase base.Bool
  named_base : {name : List ℕ} → IsName name → IsValueBase (base.Named name)

-- a type of values
pub record IsTypeName (t : TypeName) : Type 0 where
  pub base : IsValueBase t.base
  pub flat : t.dims ≤ max_dimensions

-- a type of results, which `void` without brackets is too
pub data IsResultName : TypeName → Type 0 where
  void_name : IsResultName (record { base = base.Void; dims = 0 })
  value_name : {t : TypeName} → IsTypeName t → IsResultName t

-- an array that is made has a pair of brackets at least
pub data IsArrayName : Base → ℕ → Type 0 where
  array_name : {b : Base} {n : ℕ} → IsValueBase b → suc n ≤ max_dimensions → IsArrayName b (suc n)

pub record IsParam (p : Param) : Type 0 where
  pub ty : IsTypeName p.ty
  pub name : IsName p.name

-- ---- expressions

abbrev mutual
  pub IsFormedExpr : PlainExpr → Type 0
  IsFormedExpr (int_literal at n decimal) = Unit {0}
  IsFormedExpr (bool_literal at b) = Unit {0}
  IsFormedExpr (null_literal at) = Unit {0}
  IsFormedExpr (this_value at) = Unit {0}
  IsFormedExpr (simple_name at x) = IsName x
  IsFormedExpr (paren at e) = IsFormedExpr e
  IsFormedExpr (dot at e name) = IsFormedExpr e × IsName name
  IsFormedExpr (super_field at name) = IsName name
  IsFormedExpr (call at name args) = IsName name × AreFormedExprs args
  IsFormedExpr (dot_call at e name args) = IsFormedExpr e × IsName name × AreFormedExprs args
  IsFormedExpr (super_call at name args) = IsName name × AreFormedExprs args
  IsFormedExpr (new_object at class args) = IsName class × AreFormedExprs args
  IsFormedExpr (new_array at b e dims) = IsArrayName b dims × IsFormedExpr e
  IsFormedExpr (element at a i) = IsFormedExpr a × IsFormedExpr i
  IsFormedExpr (unary at o e) = IsFormedExpr e
  IsFormedExpr (step at plus post e) = IsFormedExpr e
  IsFormedExpr (cast at ty e) = IsTypeName ty × IsFormedExpr e
  IsFormedExpr (binary at o a b) = IsFormedExpr a × IsFormedExpr b
  IsFormedExpr (instance_of at e ty) = IsFormedExpr e × IsTypeName ty
  IsFormedExpr (conditional at c a b) = IsFormedExpr c × IsFormedExpr a × IsFormedExpr b
  IsFormedExpr (assign at o place e) = IsFormedExpr place × IsFormedExpr e

  pub AreFormedExprs : PlainExprs → Type 0
  AreFormedExprs no_exprs = Unit {0}
  AreFormedExprs (more_exprs e es) = IsFormedExpr e × AreFormedExprs es

abbrev pub IsFormedOption : PlainOption → Type 0
IsFormedOption absent = Unit {0}
IsFormedOption (present e) = IsFormedExpr e

-- ---- statements

abbrev mutual
  pub IsFormedStmt : PlainStmt → Type 0
  IsFormedStmt (local_variable at ty name init) = IsTypeName ty × IsName name × IsFormedOption init
  IsFormedStmt (block at body) = AreFormedStmts body
  IsFormedStmt (empty at) = Unit {0}
  IsFormedStmt (evaluate at e) = IsFormedExpr e
  IsFormedStmt (if_else at e first second) = IsFormedExpr e × IsFormedStmt first × IsFormedElse second
  IsFormedStmt (while_loop at e body) = IsFormedExpr e × IsFormedStmt body
  IsFormedStmt (do_loop at body e) = IsFormedStmt body × IsFormedExpr e
  IsFormedStmt (for_loop at init condition update body) = AreFormedStmts init × IsFormedOption condition × AreFormedExprs update × IsFormedStmt body
  IsFormedStmt (return_with at e) = IsFormedOption e
  IsFormedStmt (throw at e) = IsFormedExpr e
  IsFormedStmt (break_loop at) = Unit {0}
  IsFormedStmt (continue_loop at) = Unit {0}
  IsFormedStmt (try_catch at body catches) = AreFormedStmts body × AreFormedCatches catches

  pub AreFormedStmts : PlainStmts → Type 0
  AreFormedStmts no_stmts = Unit {0}
  AreFormedStmts (more_stmts s rest) = IsFormedStmt s × AreFormedStmts rest

  pub IsFormedElse : PlainElse → Type 0
  IsFormedElse no_else = Unit {0}
  IsFormedElse (else_with s) = IsFormedStmt s

  pub AreFormedCatches : PlainCatches → Type 0
  AreFormedCatches no_catches = Unit {0}
  AreFormedCatches (more_catches k rest) = IsFormedCatch k × AreFormedCatches rest

  pub IsFormedCatch : PlainCatch → Type 0
  IsFormedCatch (catch_of_class class name body) = IsName class × IsName name × AreFormedStmts body

-- ---- members

abbrev pub IsFormedBody : PlainBody → Type 0
IsFormedBody no_body = Unit {0}
IsFormedBody (with_body body) = AreFormedStmts body

abbrev pub IsFormedFirst : PlainFirst → Type 0
IsFormedFirst no_first = Unit {0}
IsFormedFirst (first_call at to_super args) = AreFormedExprs args

abbrev pub IsFormedMember : PlainMember → Type 0
IsFormedMember (field_member at mods ty name init) = IsTypeName ty × IsName name × IsFormedOption init
IsFormedMember (method_member at mods result name params throws body) =
    IsResultName result × IsName name × Each IsParam params × Each IsName throws × IsFormedBody body
IsFormedMember (constructor_member at mods name params throws first body) =
    IsName name × Each IsParam params × Each IsName throws × IsFormedFirst first × AreFormedStmts body
IsFormedMember (static_member at body) = AreFormedStmts body

-- ---- types and units

pub record IsFormedType (t : PlainType) : Type 0 where
  pub name : IsName t.name
  pub extends : Each IsName t.extends
  pub implements : Each IsName t.implements
  pub members : Each IsFormedMember t.members

pub record IsWellFormed (u : PlainUnit) : Type 0 where
  pub few : length u ≤ max_types
  pub types : Each IsFormedType u

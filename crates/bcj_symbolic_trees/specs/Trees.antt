-- Expressions and statements as plain data (JLS 14, 15), each list of children a family of its own.
use Rattle.std.specs.Prelude.{ℕ, ℤ, Bool, List, [], ◌∷◌, Option, None, Some}
use Rattle.bcj_symbolic_trees.specs.declared.expression.UnaryOp.{UnaryOp}
use Rattle.bcj_symbolic_trees.specs.declared.expression.BinaryOp.{BinaryOp}
use Rattle.bcj_symbolic_trees.specs.declared.expression.PrintKind.{PrintKind}
use Rattle.bcj_symbolic_trees.specs.Types.{PlainTy, PlainFieldRef, PlainMethodRef}

mutual
  -- a target stands first; `update_place` has the place, the operator, the value and whether the old value is the result
  pub data PlainExpr : Type 0 where
    int_value : ℤ → PlainExpr
    bool_value : Bool → PlainExpr
    null_value : PlainExpr
    get_local : ℕ → PlainExpr
    set_local : ℕ → PlainExpr → PlainExpr
    get_static : PlainFieldRef → PlainExpr
    set_static : PlainFieldRef → PlainExpr → PlainExpr
    get_field : PlainExpr → PlainFieldRef → PlainExpr
    set_field : PlainExpr → PlainFieldRef → PlainExpr → PlainExpr
    get_element : PlainExpr → PlainExpr → PlainExpr
    set_element : PlainExpr → PlainExpr → PlainExpr → PlainExpr
    array_length : PlainExpr → PlainExpr
    update_place : PlainPlace → BinaryOp → PlainExpr → Bool → PlainExpr
    unary : UnaryOp → PlainExpr → PlainExpr
    binary : BinaryOp → PlainExpr → PlainExpr → PlainExpr
    and_also : PlainExpr → PlainExpr → PlainExpr
    or_else : PlainExpr → PlainExpr → PlainExpr
    conditional : PlainExpr → PlainExpr → PlainExpr → PlainExpr
    new_object : PlainMethodRef → PlainExprs → PlainExpr
    new_array : PlainTy → PlainExpr → PlainExpr
    call_static : PlainMethodRef → PlainExprs → PlainExpr
    call_virtual : PlainExpr → PlainMethodRef → PlainExprs → PlainExpr
    call_interface : PlainExpr → PlainMethodRef → PlainExprs → PlainExpr
    call_special : PlainMethodRef → PlainExprs → PlainExpr
    cast : PlainTy → PlainExpr → PlainExpr
    widen : PlainTy → PlainExpr → PlainExpr
    instance_of : PlainExpr → PlainTy → PlainExpr
    first_then : PlainExpr → Bool → PlainExpr → PlainExpr
    print : PrintKind → PlainExprs → PlainExpr

  pub data PlainExprs : Type 0 where
    no_exprs : PlainExprs
    more_exprs : PlainExpr → PlainExprs → PlainExprs

  -- the variable that an update reads and writes
  pub data PlainPlace : Type 0 where
    local_place : ℕ → PlainPlace
    static_place : PlainFieldRef → PlainPlace
    field_place : PlainExpr → PlainFieldRef → PlainPlace
    element_place : PlainExpr → PlainExpr → PlainPlace

pub data PlainOption : Type 0 where
  absent : PlainOption
  present : PlainExpr → PlainOption

mutual
  -- `loop` has whether the test comes last, the condition, the body and what is evaluated behind the body
  pub data PlainStmt : Type 0 where
    evaluate : PlainExpr → PlainStmt
    if_else : PlainExpr → PlainStmt → PlainStmt → PlainStmt
    loop : Bool → PlainExpr → PlainStmt → PlainExprs → PlainStmt
    break_loop : PlainStmt
    continue_loop : PlainStmt
    return_with : PlainOption → PlainStmt
    throw : PlainExpr → PlainStmt
    try_catch : PlainStmts → PlainCatches → PlainStmt
    block : PlainStmts → PlainStmt

  pub data PlainStmts : Type 0 where
    no_stmts : PlainStmts
    more_stmts : PlainStmt → PlainStmts → PlainStmts

  -- each catch has its class, the local that gets the thrown object, and its block
  pub data PlainCatches : Type 0 where
    no_catches : PlainCatches
    more_catches : List ℕ → ℕ → PlainStmts → PlainCatches → PlainCatches

abbrev pub exprs_from : List PlainExpr → PlainExprs
exprs_from [] = no_exprs
exprs_from (e ∷ es) = more_exprs e (exprs_from es)

abbrev pub option_from : Option PlainExpr → PlainOption
option_from None = absent
option_from (Some e) = present e

abbrev pub stmts_from : List PlainStmt → PlainStmts
stmts_from [] = no_stmts
stmts_from (s ∷ ss) = more_stmts s (stmts_from ss)

pub record PlainCatch : Type 0 where
  pub class : List ℕ
  pub local : ℕ
  pub body : PlainStmts

abbrev pub catches_from : List PlainCatch → PlainCatches
catches_from [] = no_catches
catches_from (c ∷ cs) = more_catches c.class c.local c.body (catches_from cs)

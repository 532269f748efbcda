-- Expressions, statements and units as plain data, each list of children a family of its own. A node's first
-- argument is its first byte.
use Rattle.std.specs.Prelude.{ℕ, Bool, List, [], ◌∷◌, Option, None, Some}
use Rattle.bcj_parser_trees.specs.declared.names.Base.{Base}
use Rattle.bcj_parser_trees.specs.declared.names.TypeName.{TypeName}
use Rattle.bcj_parser_trees.specs.declared.expression.UnaryOp.{UnaryOp}
use Rattle.bcj_parser_trees.specs.declared.expression.BinOp.{BinOp}
use Rattle.bcj_parser_trees.specs.declared.names.Mods.{Mods}
use Rattle.bcj_parser_trees.specs.declared.names.Param.{Param}

mutual
  pub data PlainExpr : Type 0 where
    int_literal : ℕ → ℕ → Bool → PlainExpr
    bool_literal : ℕ → Bool → PlainExpr
    null_literal : ℕ → PlainExpr
    this_value : ℕ → PlainExpr
    simple_name : ℕ → List ℕ → PlainExpr
    paren : ℕ → PlainExpr → PlainExpr
    dot : ℕ → PlainExpr → List ℕ → PlainExpr
    super_field : ℕ → List ℕ → PlainExpr
    call : ℕ → List ℕ → PlainExprs → PlainExpr
    dot_call : ℕ → PlainExpr → List ℕ → PlainExprs → PlainExpr
    super_call : ℕ → List ℕ → PlainExprs → PlainExpr
    new_object : ℕ → List ℕ → PlainExprs → PlainExpr
    new_array : ℕ → Base → PlainExpr → ℕ → PlainExpr
    element : ℕ → PlainExpr → PlainExpr → PlainExpr
    unary : ℕ → UnaryOp → PlainExpr → PlainExpr
    step : ℕ → Bool → Bool → PlainExpr → PlainExpr
    cast : ℕ → TypeName → PlainExpr → PlainExpr
    binary : ℕ → BinOp → PlainExpr → PlainExpr → PlainExpr
    instance_of : ℕ → PlainExpr → TypeName → PlainExpr
    conditional : ℕ → PlainExpr → PlainExpr → PlainExpr → PlainExpr
    assign : ℕ → Option BinOp → PlainExpr → PlainExpr → PlainExpr

  pub data PlainExprs : Type 0 where
    no_exprs : PlainExprs
    more_exprs : PlainExpr → PlainExprs → PlainExprs

pub data PlainOption : Type 0 where
  absent : PlainOption
  present : PlainExpr → PlainOption

mutual
  pub data PlainStmt : Type 0 where
    local_variable : ℕ → TypeName → List ℕ → PlainOption → PlainStmt
    block : ℕ → PlainStmts → PlainStmt
    empty : ℕ → PlainStmt
    evaluate : ℕ → PlainExpr → PlainStmt
    if_else : ℕ → PlainExpr → PlainStmt → PlainElse → PlainStmt
    while_loop : ℕ → PlainExpr → PlainStmt → PlainStmt
    do_loop : ℕ → PlainStmt → PlainExpr → PlainStmt
    for_loop : ℕ → PlainStmts → PlainOption → PlainExprs → PlainStmt → PlainStmt
    return_with : ℕ → PlainOption → PlainStmt
    throw : ℕ → PlainExpr → PlainStmt
    break_loop : ℕ → PlainStmt
    continue_loop : ℕ → PlainStmt
    try_catch : ℕ → PlainStmts → PlainCatches → PlainStmt

  pub data PlainStmts : Type 0 where
    no_stmts : PlainStmts
    more_stmts : PlainStmt → PlainStmts → PlainStmts

  pub data PlainElse : Type 0 where
    no_else : PlainElse
    else_with : PlainStmt → PlainElse

  pub data PlainCatches : Type 0 where
    no_catches : PlainCatches
    more_catches : PlainCatch → PlainCatches → PlainCatches

  -- the class, the parameter's name and the block
  pub data PlainCatch : Type 0 where
    catch_of_class : List ℕ → List ℕ → PlainStmts → PlainCatch

-- a method's body, which an abstract method lacks
pub data PlainBody : Type 0 where
  no_body : PlainBody
  with_body : PlainStmts → PlainBody

-- a constructor's first call: its first byte, whether it calls a constructor of the superclass, and the arguments
pub data PlainFirst : Type 0 where
  no_first : PlainFirst
  first_call : ℕ → Bool → PlainExprs → PlainFirst

pub data PlainMember : Type 0 where
  field_member : ℕ → Mods → TypeName → List ℕ → PlainOption → PlainMember
  method_member : ℕ → Mods → TypeName → List ℕ → List Param → List (List ℕ) → PlainBody → PlainMember
  constructor_member : ℕ → Mods → List ℕ → List Param → List (List ℕ) → PlainFirst → PlainStmts → PlainMember
  static_member : ℕ → PlainStmts → PlainMember

pub record PlainType : Type 0 where
  pub at : ℕ
  pub interface : Bool
  pub is_abstract : Bool
  pub name : List ℕ
  pub extends : List (List ℕ)
  pub implements : List (List ℕ)
  pub members : List PlainMember

abbrev pub PlainUnit : Type 0
PlainUnit = List PlainType

abbrev pub exprs_from : List PlainExpr → PlainExprs
exprs_from [] = no_exprs
exprs_from (e ∷ rest) = more_exprs e (exprs_from rest)

abbrev pub option_from : Option PlainExpr → PlainOption
option_from None = absent
option_from (Some e) = present e

abbrev pub stmts_from : List PlainStmt → PlainStmts
stmts_from [] = no_stmts
stmts_from (s ∷ rest) = more_stmts s (stmts_from rest)

abbrev pub else_from : Option PlainStmt → PlainElse
else_from None = no_else
else_from (Some s) = else_with s

abbrev pub catches_from : List PlainCatch → PlainCatches
catches_from [] = no_catches
catches_from (c ∷ rest) = more_catches c (catches_from rest)

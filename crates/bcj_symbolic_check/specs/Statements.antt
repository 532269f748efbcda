-- The rule of each statement (after JLS 14), and the nodes of a body in preorder, each with whether it has a rule.
use Rattle.std.specs.Prelude.{is_some, ℕ, Bool, true, false, not, ◌&&◌, ◌||◌, List, [], ◌∷◌, ◌++◌, Option, Some, None}
use Rattle.bcj_symbolic_trees.specs.Types.{PlainTy, class_type}
use Rattle.bcj_symbolic_trees.specs.Units.{PlainPair}
use Rattle.bcj_symbolic_trees.specs.Trees.{PlainExpr, int_value, bool_value, null_value, get_local, set_local, get_static, set_static, get_field, set_field, get_element, set_element, array_length, update_place, unary, binary, and_also, or_else, conditional, new_object, new_array, call_static, call_virtual, call_interface, call_special, cast, widen, instance_of, first_then, print, PlainExprs, no_exprs, more_exprs, PlainPlace, local_place, static_place, field_place, element_place, PlainOption, absent, present, PlainStmt, evaluate, if_else, loop, break_loop, continue_loop, return_with, throw, try_catch, block, PlainStmts, no_stmts, more_stmts, PlainCatches, no_catches, more_catches}
use Rattle.bcj_names.specs.Identifiers.{is_identifier}
use Rattle.bcj_symbolic_check.specs.Steps.{is_void}
use Rattle.bcj_symbolic_check.specs.Judgements.{Frame, Known, a_type, bool_part, part_steps, is_thrown, judge, sort, is_this, local_known}

abbrev pub are_none : PlainExprs → Bool
are_none no_exprs = true
are_none (more_exprs e rest) = false

-- a value is returned exactly where the result isn't void, and nothing is in a class initialiser
unfoldable pub returns_nothing : Option PlainTy → Bool
returns_nothing None = false
returns_nothing (Some t) = is_void t

unfoldable pub returns_value : List PlainPair → Option PlainTy → Known → Bool
returns_value pairs None k = false
returns_value pairs (Some t) k = not (is_void t) && part_steps pairs k (a_type t)

-- a `do` has nothing to evaluate behind its body
unfoldable pub loop_holds : Bool → Known → Bool → Bool
loop_holds test_last c nothing_behind = bool_part c && (not test_last || nothing_behind)

module _ (frame : Frame) where
  abbrev pub returns : PlainOption → Bool
  returns absent = returns_nothing frame.result
  returns (present e) = returns_value frame.pairs frame.result (sort frame e)

  -- a class that is thrown, and a local, not `this`, that takes its objects
  unfoldable pub catch_holds : List ℕ → ℕ → Bool
  catch_holds class i =
      is_identifier class
      && (is_thrown frame.pairs (a_type (class_type class))
      && (not (is_this frame i) && (is_some (local_known frame i) && part_steps frame.pairs (a_type (class_type class)) (local_known frame i))))

  abbrev pub catches_hold : PlainCatches → Bool
  catches_hold no_catches = true
  catches_hold (more_catches class i body rest) = catch_holds class i && catches_hold rest

  -- `looped` says that the statement stands in a loop
  abbrev pub stmt_holds : Bool → PlainStmt → Bool
  stmt_holds looped (evaluate e) = true
  stmt_holds looped (if_else c a b) = bool_part (sort frame c)
  stmt_holds looped (loop test_last c body update) = loop_holds test_last (sort frame c) (are_none update)
  stmt_holds looped break_loop = looped
  stmt_holds looped continue_loop = looped
  stmt_holds looped (return_with v) = returns v
  stmt_holds looped (throw e) = is_thrown frame.pairs (sort frame e)
  stmt_holds looped (try_catch body catches) = catches_hold catches
  stmt_holds looped (block body) = true

  -- a node stands before its parts
  abbrev mutual
    pub expr_marks : PlainExpr → List Bool
    expr_marks (int_value n) = (judge frame (int_value n)).holds ∷ []
    expr_marks (bool_value b) = (judge frame (bool_value b)).holds ∷ []
    expr_marks null_value = (judge frame null_value).holds ∷ []
    expr_marks (get_local i) = (judge frame (get_local i)).holds ∷ []
    expr_marks (set_local i v) = (judge frame (set_local i v)).holds ∷ expr_marks v
    expr_marks (get_static f) = (judge frame (get_static f)).holds ∷ []
    expr_marks (set_static f v) = (judge frame (set_static f v)).holds ∷ expr_marks v
    expr_marks (get_field t f) = (judge frame (get_field t f)).holds ∷ expr_marks t
    expr_marks (set_field t f v) = (judge frame (set_field t f v)).holds ∷ (expr_marks t ++ expr_marks v)
    expr_marks (get_element a i) = (judge frame (get_element a i)).holds ∷ (expr_marks a ++ expr_marks i)
    expr_marks (set_element a i v) = (judge frame (set_element a i v)).holds ∷ (expr_marks a ++ (expr_marks i ++ expr_marks v))
    expr_marks (array_length a) = (judge frame (array_length a)).holds ∷ expr_marks a
    expr_marks (update_place p o v post) = (judge frame (update_place p o v post)).holds ∷ (place_marks p ++ expr_marks v)
    expr_marks (unary o a) = (judge frame (unary o a)).holds ∷ expr_marks a
    expr_marks (binary o a b) = (judge frame (binary o a b)).holds ∷ (expr_marks a ++ expr_marks b)
    expr_marks (and_also a b) = (judge frame (and_also a b)).holds ∷ (expr_marks a ++ expr_marks b)
    expr_marks (or_else a b) = (judge frame (or_else a b)).holds ∷ (expr_marks a ++ expr_marks b)
    expr_marks (conditional c a b) = (judge frame (conditional c a b)).holds ∷ (expr_marks c ++ (expr_marks a ++ expr_marks b))
    expr_marks (new_object m args) = (judge frame (new_object m args)).holds ∷ exprs_marks args
    expr_marks (new_array t n) = (judge frame (new_array t n)).holds ∷ expr_marks n
    expr_marks (call_static m args) = (judge frame (call_static m args)).holds ∷ exprs_marks args
    expr_marks (call_virtual t m args) = (judge frame (call_virtual t m args)).holds ∷ (expr_marks t ++ exprs_marks args)
    expr_marks (call_interface t m args) = (judge frame (call_interface t m args)).holds ∷ (expr_marks t ++ exprs_marks args)
    expr_marks (call_special m args) = (judge frame (call_special m args)).holds ∷ exprs_marks args
    expr_marks (cast t a) = (judge frame (cast t a)).holds ∷ expr_marks a
    expr_marks (widen t a) = (judge frame (widen t a)).holds ∷ expr_marks a
    expr_marks (instance_of a t) = (judge frame (instance_of a t)).holds ∷ expr_marks a
    expr_marks (first_then a null_test b) = (judge frame (first_then a null_test b)).holds ∷ (expr_marks a ++ expr_marks b)
    expr_marks (print k args) = (judge frame (print k args)).holds ∷ exprs_marks args

    pub exprs_marks : PlainExprs → List Bool
    exprs_marks no_exprs = []
    exprs_marks (more_exprs e rest) = expr_marks e ++ exprs_marks rest

    -- the place of an update is no node of its own
    pub place_marks : PlainPlace → List Bool
    place_marks (local_place i) = []
    place_marks (static_place f) = []
    place_marks (field_place t f) = expr_marks t
    place_marks (element_place a i) = expr_marks a ++ expr_marks i

  abbrev pub option_marks : PlainOption → List Bool
  option_marks absent = []
  option_marks (present e) = expr_marks e

  abbrev mutual
    pub stmt_marks : Bool → PlainStmt → List Bool
    stmt_marks looped (evaluate e) = stmt_holds looped (evaluate e) ∷ expr_marks e
    stmt_marks looped (if_else c a b) = stmt_holds looped (if_else c a b) ∷ (expr_marks c ++ (stmt_marks looped a ++ stmt_marks looped b))
    stmt_marks looped (loop test_last c body update) = stmt_holds looped (loop test_last c body update) ∷ (expr_marks c ++ (stmt_marks true body ++ exprs_marks update))
    stmt_marks looped break_loop = stmt_holds looped break_loop ∷ []
    stmt_marks looped continue_loop = stmt_holds looped continue_loop ∷ []
    stmt_marks looped (return_with v) = stmt_holds looped (return_with v) ∷ option_marks v
    stmt_marks looped (throw e) = stmt_holds looped (throw e) ∷ expr_marks e
    stmt_marks looped (try_catch body catches) = stmt_holds looped (try_catch body catches) ∷ (stmts_marks looped body ++ catches_marks looped catches)
    stmt_marks looped (block body) = stmt_holds looped (block body) ∷ stmts_marks looped body

    pub stmts_marks : Bool → PlainStmts → List Bool
    stmts_marks looped no_stmts = []
    stmts_marks looped (more_stmts s rest) = stmt_marks looped s ++ stmts_marks looped rest

    -- a catch is no node of its own
    pub catches_marks : Bool → PlainCatches → List Bool
    catches_marks looped no_catches = []
    catches_marks looped (more_catches class i body rest) = stmts_marks looped body ++ catches_marks looped rest

-- How many temporaries of the frame each node needs, from the first that is free where its code begins. A value that is
-- saved takes the first free one, and what stands behind it uses those behind.
use Rattle.std.specs.Prelude.{ℕ, ◌+◌, max, true, false, if◌then◌else◌}
use Rattle.bcj_symbolic_trees.specs.Types.{PlainMethodRef}
use Rattle.bcj_symbolic_trees.specs.Trees.{PlainExpr, int_value, bool_value, null_value, get_local, set_local, get_static, set_static, get_field, set_field, get_element, set_element, array_length, update_place, unary, binary, and_also, or_else, conditional, new_object, new_array, call_static, call_virtual, call_interface, call_special, cast, widen, instance_of, first_then, print, PlainExprs, no_exprs, more_exprs, PlainPlace, local_place, static_place, field_place, element_place, PlainOption, absent, present, PlainStmt, evaluate, if_else, loop, break_loop, continue_loop, return_with, throw, try_catch, block, PlainStmts, no_stmts, more_stmts, PlainCatches, no_catches, more_catches}
use Rattle.bcj_symbolic_measure.specs.Totals.{larger}
use Rattle.bcj_symbolic_measure.specs.Scheme.{is_object_class}

-- a part whose value is saved, and what stands behind it
unfoldable pub saved : ℕ → ℕ → ℕ
saved part behind = max part (1 + behind)

-- a part that stands behind so many saved ones
unfoldable pub behind : ℕ → ℕ → ℕ
behind count part = part + count

abbrev pub new_depth : PlainMethodRef → ℕ → ℕ
new_depth m args = if is_object_class m.class then 0 else saved 0 args

abbrev mutual
  pub expr_depth : PlainExpr → ℕ
  expr_depth (int_value n) = 0
  expr_depth (bool_value b) = 0
  expr_depth null_value = 0
  expr_depth (get_local i) = 0
  expr_depth (set_local i v) = expr_depth v
  expr_depth (get_static f) = 0
  expr_depth (set_static f v) = saved (expr_depth v) 0
  expr_depth (get_field t f) = saved (expr_depth t) 0
  expr_depth (set_field t f v) = saved (expr_depth t) (saved (expr_depth v) 0)
  expr_depth (get_element a i) = saved (expr_depth a) (expr_depth i)
  expr_depth (set_element a i v) = saved (expr_depth a) (saved (expr_depth i) (saved (expr_depth v) 0))
  expr_depth (array_length a) = expr_depth a
  expr_depth (update_place p o v post) = place_depth p (saved 0 (expr_depth v))
  expr_depth (unary o a) = expr_depth a
  expr_depth (binary o a b) = saved (expr_depth a) (expr_depth b)
  expr_depth (and_also a b) = larger (expr_depth a) (expr_depth b)
  expr_depth (or_else a b) = larger (expr_depth a) (expr_depth b)
  expr_depth (conditional c a b) = larger (expr_depth c) (larger (expr_depth a) (expr_depth b))
  expr_depth (new_object m args) = new_depth m (args_depth args)
  expr_depth (new_array t n) = saved (expr_depth n) 0
  expr_depth (call_static m args) = args_depth args
  expr_depth (call_virtual t m args) = saved (expr_depth t) (args_depth args)
  expr_depth (call_interface t m args) = saved (expr_depth t) (args_depth args)
  expr_depth (call_special m args) = saved 0 (args_depth args)
  expr_depth (cast t a) = saved (expr_depth a) 0
  expr_depth (widen t a) = expr_depth a
  expr_depth (instance_of a t) = saved (expr_depth a) 0
  expr_depth (first_then a tested b) = larger (expr_depth a) (expr_depth b)
  expr_depth (print k args) = exprs_depth args

  pub exprs_depth : PlainExprs → ℕ
  exprs_depth no_exprs = 0
  exprs_depth (more_exprs e rest) = larger (expr_depth e) (exprs_depth rest)

  pub args_depth : PlainExprs → ℕ
  args_depth no_exprs = 0
  args_depth (more_exprs e rest) = saved (expr_depth e) (args_depth rest)

  -- an update of this place, with what stands behind its read
  pub place_depth : PlainPlace → ℕ → ℕ
  place_depth (local_place i) behind = behind
  place_depth (static_place f) behind = behind
  place_depth (field_place t f) behind = saved (expr_depth t) behind
  place_depth (element_place a i) behind = saved (expr_depth a) (saved (expr_depth i) behind)

abbrev pub option_depth : PlainOption → ℕ
option_depth absent = 0
option_depth (present e) = expr_depth e

abbrev mutual
  pub stmt_depth : PlainStmt → ℕ
  stmt_depth (evaluate e) = expr_depth e
  stmt_depth (if_else c a b) = larger (expr_depth c) (larger (stmt_depth a) (stmt_depth b))
  stmt_depth (loop false c body update) = larger (expr_depth c) (larger (stmt_depth body) (exprs_depth update))
  stmt_depth (loop true c body update) = larger (stmt_depth body) (expr_depth c)
  stmt_depth break_loop = 0
  stmt_depth continue_loop = 0
  stmt_depth (return_with v) = option_depth v
  stmt_depth (throw e) = expr_depth e
  stmt_depth (try_catch body catches) = larger (stmts_depth body) (catches_depth catches)
  stmt_depth (block body) = stmts_depth body

  pub stmts_depth : PlainStmts → ℕ
  stmts_depth no_stmts = 0
  stmts_depth (more_stmts s rest) = larger (stmt_depth s) (stmts_depth rest)

  pub catches_depth : PlainCatches → ℕ
  catches_depth no_catches = 0
  catches_depth (more_catches class i body rest) = larger (stmts_depth body) (catches_depth rest)

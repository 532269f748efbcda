-- In the lines of each node halves of addresses stand where there is room for them.
use Rattle.std.proofs.Common.{◌≡◌, ℕ, zero, suc, ◌+◌, ◌-◌, Bool, true, false, List, [], ◌++◌, length, arith, if◌then◌else◌, Option, Some, None}
use Rattle.bcj_symbolic_trees.specs.Types.{PlainMethodRef}
use Rattle.bcj_symbolic_trees.specs.Trees.{PlainExpr, int_value, bool_value, null_value, get_local, set_local, get_static, set_static, get_field, set_field, get_element, set_element, array_length, update_place, unary, binary, and_also, or_else, conditional, new_object, new_array, call_static, call_virtual, call_interface, call_special, cast, widen, instance_of, first_then, print, PlainExprs, no_exprs, more_exprs, PlainPlace, local_place, static_place, field_place, element_place, PlainOption, absent, present, PlainStmt, evaluate, if_else, loop, break_loop, continue_loop, return_with, throw, try_catch, block, PlainStmts, no_stmts, more_stmts, PlainCatches, no_catches, more_catches}
use Rattle.bcj_symbolic_trees.specs.Units.{PlainMethod, PlainClass}
use Rattle.bcj_symbolic_check.specs.Judgements.{sort}
use Rattle.bcj_symbolic_check.specs.Steps.{is_void}
use Rattle.bcj_symbolic_measure.specs.Entries.{PlainEntry}
use Rattle.bcj_symbolic_measure.specs.Entries as entries
use Rattle.bcj_symbolic_measure.specs.Scheme.{count, holds_references, is_object_class}
use Rattle.bcj_symbolic_measure.specs.Bodies.{method_frame_size, init_frame_size}
use Rattle.bcj_lower_rules.specs.Words as w
use Rattle.bcj_lower_rules.specs.Nodes as n
use Rattle.bcj_lower_rules.specs.Nodes.{Context, Around, expr_labels, place_labels, stmt_labels, stmts_labels, catch_count, place_saves}
use Rattle.bcj_lower_rules.specs.Bodies.{zero_locals, superclass_lines, method_lines, init_lines, method_context, init_context, no_loop, parameters}
use Rattle.bcj_lower_rules.specs.Laws.{misplaced, HalvesArePlaced}
use Rattle.bcj_lower_rules.proofs.Placed.{placed-nil, placed-cons, placed-append, placed-save, placed-load, placed-load_second, placed-set_local, placed-get_local, placed-small_number, placed-read_at, placed-write_at, placed-take_entry, placed-call, placed-number, placed-service, placed-null_test, placed-turn, placed-enter, placed-exit, placed-use_entry, placed-initialise, placed-fetch_entry, placed-initialised, placed-region_first, placed-region_second, placed-field_of_object, placed-element_address, placed-store_check, placed-select_method, placed-select_interface_method, placed-instance_test, placed-cast_test, placed-unary_words, placed-operate, placed-index_of_saved, placed-copy}

ruleset sums = (placed-nil, placed-cons, placed-append, placed-save, placed-load, placed-load_second, placed-set_local, placed-get_local, placed-small_number, placed-read_at, placed-write_at, placed-take_entry, placed-call, placed-number, placed-service, placed-null_test, placed-turn, placed-enter, placed-exit, placed-use_entry, placed-initialise, placed-fetch_entry, placed-initialised, placed-region_first, placed-region_second, placed-field_of_object, placed-element_address, placed-store_check, placed-select_method, placed-select_interface_method, placed-instance_test, placed-cast_test, placed-unary_words, placed-operate, placed-index_of_saved, placed-copy)

placed-tested : (said : Bool) → misplaced (n.tested said) ≡ 0
placed-tested true = placed-null_test
placed-tested false = placed-nil

placed-old_value : (post : Bool) (d : ℕ) → misplaced (n.old_value post d) ≡ 0
placed-old_value true d = placed-load d
placed-old_value false d = placed-nil

placed-truth : (b : Bool) → misplaced (n.truth b) ≡ 0
placed-truth true = placed-small_number 1
placed-truth false = placed-small_number 0

placed-checked : (b : Bool) (d : ℕ) → misplaced (if b then w.store_check d else []) ≡ 0
placed-checked true d = placed-store_check d
placed-checked false d = placed-nil

module _ (cx : Context) where
  placed-write : (d : ℕ) (p : PlainPlace) → misplaced (n.write_lines cx d p) ≡ 0
  unfolding n.write_lines
  placed-write d (local_place i) = simp sums (omega arith)
  placed-write d (static_place f) = simp sums (omega arith)
  placed-write d (field_place t f) = simp sums (omega arith)
  placed-write d (element_place a i) = simp sums (omega arith)

  placed-static : (e : PlainEntry) → misplaced (n.static_lines cx e) ≡ 0
  unfolding n.static_lines
  placed-static e = simp sums (omega arith)

  placed-field : (d : ℕ) (e : PlainEntry) → misplaced (n.field_lines cx d e) ≡ 0
  unfolding n.field_lines
  placed-field d e = simp sums (omega arith)

  placed-made : (r : PlainMethodRef) → misplaced (n.made cx r) ≡ 0
  unfolding n.made
  placed-made r = simp sums (omega arith)

  -- with a constructor or without
  placed-new : (b : Bool) (y : PlainEntry) (d k : ℕ) (args : PlainExprs) (r : PlainMethodRef) → misplaced (n.args_lines cx (d + 1) k args) ≡ 0
      → misplaced (n.made cx r ++ (if b then [] else w.save d ++ (n.args_lines cx (d + 1) k args ++ (w.use_entry y ++ (w.copy d (suc (count args)) ++ (w.call ++ w.load d))))))
      ≡ 0
  placed-new true y d k args r h = simp sums (omega (arith, placed-made r))
  placed-new false y d k args r h = simp sums (omega (arith, placed-made r, h))

  mutual
    placed-expr : (d k : ℕ) (e : PlainExpr) → misplaced (n.expr_lines cx d k e) ≡ 0
    placed-expr d k (int_value z) = simp sums (omega arith)
    placed-expr d k (bool_value b) = placed-truth b
    placed-expr d k null_value = simp sums (omega arith)
    placed-expr d k (get_local i) = simp sums (omega arith)
    placed-expr d k (set_local i v) = simp sums (omega (arith, placed-expr d k v))
    placed-expr d k (get_static f) = placed-static (entries.field_address f)
    placed-expr d k (set_static f v) = simp sums (omega (arith, placed-expr d k v))
    placed-expr d k (get_field t f) = simp sums (omega (arith, placed-expr d k t, placed-field d (entries.field_offset f)))
    placed-expr d k (set_field t f v) = simp sums (omega (arith, placed-expr d k t, placed-expr (d + 1) (k + expr_labels t) v))
    placed-expr d k (get_element a i) = simp sums (omega (arith, placed-expr d k a, placed-expr (d + 1) (k + expr_labels a) i))
    placed-expr d k (set_element a i v) =
        simp sums
        (omega (
          arith,
          placed-expr d k a,
          placed-expr (d + 1) (k + expr_labels a) i,
          placed-expr (d + 2) (k + expr_labels a + expr_labels i) v,
          placed-checked (holds_references (sort cx.typing a)) d,
        ))
    placed-expr d k (array_length a) = simp sums (omega (arith, placed-expr d k a))
    placed-expr d k (update_place p o v post) =
        simp sums
        (omega (
          arith,
          placed-read d k p,
          placed-expr (d + place_saves p + 1) (k + place_labels p) v,
          placed-write d p,
          placed-old_value post (d + place_saves p),
        ))
    placed-expr d k (unary o a) = simp sums (omega (arith, placed-expr d k a))
    placed-expr d k (binary o a b) = simp sums (omega (arith, placed-expr d k a, placed-expr (d + 1) (k + expr_labels a) b))
    placed-expr d k (and_also a b) = simp sums (omega (arith, placed-expr d (k + 1) a, placed-expr d (k + 1 + expr_labels a) b))
    placed-expr d k (or_else a b) = simp sums (omega (arith, placed-expr d (k + 1) a, placed-expr d (k + 1 + expr_labels a) b))
    placed-expr d k (conditional c a b) =
        simp sums
        (omega (
          arith,
          placed-expr d (k + 2) c,
          placed-expr d (k + 2 + expr_labels c) a,
          placed-expr d (k + 2 + expr_labels c + expr_labels a) b,
        ))
    placed-expr d k (new_object r args) = placed-new (is_object_class r.class) (entries.special_method r) d k args r (placed-args (d + 1) k args)
    placed-expr d k (new_array t l) = simp sums (omega (arith, placed-expr d k l))
    placed-expr d k (call_static r args) = simp sums (omega (arith, placed-args d k args))
    placed-expr d k (call_virtual t r args) = simp sums (omega (arith, placed-expr d k t, placed-args (d + 1) (k + expr_labels t) args))
    placed-expr d k (call_interface t r args) = simp sums (omega (arith, placed-expr d k t, placed-args (d + 1) (k + expr_labels t) args))
    placed-expr d k (call_special r args) = simp sums (omega (arith, placed-args (d + 1) k args))
    placed-expr d k (cast t a) = simp sums (omega (arith, placed-expr d (k + 1) a))
    placed-expr d k (widen t a) = placed-expr d k a
    placed-expr d k (instance_of a t) = simp sums (omega (arith, placed-expr d (k + 1) a))
    placed-expr d k (first_then a said b) = simp sums (omega (arith, placed-expr d k a, placed-tested said, placed-expr d (k + expr_labels a) b))
    placed-expr d k (print kind args) = simp sums (omega (arith, placed-exprs d k args))

    placed-exprs : (d k : ℕ) (es : PlainExprs) → misplaced (n.exprs_lines cx d k es) ≡ 0
    placed-exprs d k no_exprs = simp sums (omega arith)
    placed-exprs d k (more_exprs e rest) = simp sums (omega (arith, placed-expr d k e, placed-exprs d (k + expr_labels e) rest))

    placed-args : (d k : ℕ) (es : PlainExprs) → misplaced (n.args_lines cx d k es) ≡ 0
    placed-args d k no_exprs = simp sums (omega arith)
    placed-args d k (more_exprs e rest) = simp sums (omega (arith, placed-expr d k e, placed-args (d + 1) (k + expr_labels e) rest))

    placed-read : (d k : ℕ) (p : PlainPlace) → misplaced (n.read_lines cx d k p) ≡ 0
    placed-read d k (local_place i) = simp sums (omega arith)
    placed-read d k (static_place f) = placed-static (entries.field_address f)
    placed-read d k (field_place t f) = simp sums (omega (arith, placed-expr d k t, placed-field d (entries.field_offset f)))
    placed-read d k (element_place a i) = simp sums (omega (arith, placed-expr d k a, placed-expr (d + 1) (k + expr_labels a) i))

  placed-option : (k : ℕ) (e : PlainOption) → misplaced (n.option_lines cx k e) ≡ 0
  placed-option k absent = simp sums (omega arith)
  placed-option k (present e) = placed-expr 0 k e

  mutual
    placed-stmt : (around : Around) (k : ℕ) (s : PlainStmt) → misplaced (n.stmt_lines cx around k s) ≡ 0
    placed-stmt around k (evaluate e) = placed-expr 0 k e
    placed-stmt around k (if_else c a b) =
        simp sums
        (omega (
          arith,
          placed-expr 0 (k + 2) c,
          placed-stmt around (k + 2 + expr_labels c) a,
          placed-stmt around (k + 2 + expr_labels c + stmt_labels a) b,
        ))
    placed-stmt around k (loop false c body update) =
        simp sums
        (omega (
          arith,
          placed-expr 0 (k + 3) c,
          placed-stmt (record { leave = k + 1; again = k + 2 }) (k + 3 + expr_labels c) body,
          placed-exprs 0 (k + 3 + expr_labels c + stmt_labels body) update,
        ))
    placed-stmt around k (loop true c body update) =
        simp sums
        (omega (
          arith,
          placed-stmt (record { leave = k + 1; again = k + 2 }) (k + 3) body,
          placed-expr 0 (k + 3 + stmt_labels body) c,
        ))
    placed-stmt around k break_loop = simp sums (omega arith)
    placed-stmt around k continue_loop = simp sums (omega arith)
    placed-stmt around k (return_with v) = simp sums (omega (arith, placed-option k v))
    placed-stmt around k (throw e) = simp sums (omega (arith, placed-expr 0 k e))
    placed-stmt around k (try_catch body catches) =
        simp sums
        (omega (
          arith,
          placed-stmts around (k + 3 + catch_count catches) body,
          placed-catches around (k + 2) (k + 3) (k + 3 + catch_count catches + stmts_labels body) catches,
        ))
    placed-stmt around k (block body) = placed-stmts around k body

    placed-stmts : (around : Around) (k : ℕ) (ss : PlainStmts) → misplaced (n.stmts_lines cx around k ss) ≡ 0
    placed-stmts around k no_stmts = simp sums (omega arith)
    placed-stmts around k (more_stmts s rest) = simp sums (omega (arith, placed-stmt around k s, placed-stmts around (k + stmt_labels s) rest))

    placed-catches : (around : Around) (end target k : ℕ) (cs : PlainCatches)
        → misplaced (n.catches_lines cx around end target k cs) ≡ 0
    placed-catches around end target k no_catches = simp sums (omega arith)
    placed-catches around end target k (more_catches class i body rest) =
        simp sums (omega (arith, placed-stmts around k body, placed-catches around end (target + 1) (k + stmts_labels body) rest))

-- ---- bodies

placed-zero : (frame i k : ℕ) → misplaced (zero_locals frame i k) ≡ 0
placed-zero frame i zero = placed-nil
placed-zero frame i (suc k) = simp sums (omega (arith, placed-zero frame (i + 1) k))

placed-last : (b : Bool) → misplaced (if b then [] else w.small_number 0) ≡ 0
placed-last true = placed-nil
placed-last false = placed-small_number 0

placed-method : (c : PlainClass) (x : PlainMethod) → misplaced (method_lines c x) ≡ 0
unfolding method_lines
placed-method c x =
    simp sums
    (omega (
      arith,
      placed-zero (method_frame_size x) (parameters x) (length x.locals - parameters x),
      placed-stmts (method_context c x) no_loop 0 x.body,
      placed-last (is_void x.result),
    ))

placed-superclass : (s : Option (List ℕ)) → misplaced (superclass_lines s) ≡ 0
placed-superclass None = placed-nil
placed-superclass (Some name) = by (is_object_class name)
  where
    by : (b : Bool) → misplaced (if b then [] else w.use_entry (entries.class_entry name) ++ w.initialise) ≡ 0
    by true = simp sums (omega arith)
    by false = simp sums (omega arith)

placed-init : (c : PlainClass) → misplaced (init_lines c) ≡ 0
unfolding init_lines
placed-init c =
    simp sums
    (omega (
      arith,
      placed-zero (init_frame_size c) 0 (length c.init.locals),
      placed-superclass c.head.superclass,
      placed-stmts (init_context c) no_loop 3 c.init.body,
    ))

pub halves_are_placed : HalvesArePlaced
halves_are_placed = record { methods = placed-method; initialiser = placed-init }

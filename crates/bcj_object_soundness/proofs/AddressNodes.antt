-- The lines of each node use the addresses that its measured pieces name, in the same order.
use Rattle.std.proofs.Common.{◌≡◌, refl, ◌∙◌, ℕ, zero, suc, ◌+◌, ◌-◌, Bool, true, false, List, [], ◌∷◌, ◌++◌, append_assoc, length, if◌then◌else◌, Option, Some, None}
use Rattle.std.proofs.lemmas.List.{append-nil}
use Rattle.bcj_symbolic_trees.specs.Types.{PlainMethodRef}
use Rattle.bcj_symbolic_trees.specs.Trees.{PlainExpr, int_value, bool_value, null_value, get_local, set_local, get_static, set_static, get_field, set_field, get_element, set_element, array_length, update_place, unary, binary, and_also, or_else, conditional, new_object, new_array, call_static, call_virtual, call_interface, call_special, cast, widen, instance_of, first_then, print, PlainExprs, no_exprs, more_exprs, PlainPlace, local_place, static_place, field_place, element_place, PlainOption, absent, present, PlainStmt, evaluate, if_else, loop, break_loop, continue_loop, return_with, throw, try_catch, block, PlainStmts, no_stmts, more_stmts, PlainCatches, no_catches, more_catches}
use Rattle.bcj_symbolic_trees.specs.Units.{PlainMethod, PlainClass}
use Rattle.bcj_symbolic_check.specs.Judgements.{sort}
use Rattle.bcj_symbolic_check.specs.Steps.{is_void}
use Rattle.bcj_symbolic_check.specs.Classes.{is_abstract, method_frame}
use Rattle.bcj_symbolic_measure.specs.Entries.{PlainEntry}
use Rattle.bcj_symbolic_measure.specs.Entries as entries
use Rattle.bcj_symbolic_measure.specs.Scheme as m
use Rattle.bcj_symbolic_measure.specs.Scheme.{Piece, plain, usage, fetch, count, holds_references, is_object_class}
use Rattle.bcj_symbolic_measure.specs.Bodies as measured
use Rattle.bcj_lower_rules.specs.Lines.{entry}
use Rattle.bcj_lower_rules.specs.Words as w
use Rattle.bcj_lower_rules.specs.Nodes as n
use Rattle.bcj_lower_rules.specs.Nodes.{Context, Around, expr_labels, place_labels, stmt_labels, stmts_labels, catch_count, place_saves}
use Rattle.bcj_lower_rules.specs.Bodies.{zero_locals, superclass_lines, method_lines, init_lines, method_context, init_context, no_loop, parameters}
use Rattle.bcj_object_soundness.proofs.Addresses.{addresses, named, named-nil, named-cons, named-append, addresses-nil, addresses-cons, addresses-append, addresses-save, addresses-load, addresses-load_second, addresses-set_local, addresses-get_local, addresses-small_number, addresses-read_at, addresses-write_at, addresses-take_entry, addresses-call, addresses-number, addresses-service, addresses-null_test, addresses-turn, addresses-enter, addresses-exit, addresses-use_entry, addresses-initialise, addresses-fetch_entry, addresses-initialised, addresses-region_first, addresses-region_second, addresses-field_of_object, addresses-element_address, addresses-store_check, addresses-select_method, addresses-select_interface_method, addresses-instance_test, addresses-cast_test, addresses-unary_words, addresses-operate, addresses-index_of_saved, addresses-copy}

ruleset same = (append_assoc, append-nil, named-nil, named-cons, named-append, addresses-nil, addresses-cons, addresses-append, addresses-save, addresses-load, addresses-load_second, addresses-set_local, addresses-get_local, addresses-small_number, addresses-read_at, addresses-write_at, addresses-take_entry, addresses-call, addresses-number, addresses-service, addresses-null_test, addresses-turn, addresses-enter, addresses-exit, addresses-use_entry, addresses-initialise, addresses-fetch_entry, addresses-initialised, addresses-region_first, addresses-region_second, addresses-field_of_object, addresses-element_address, addresses-store_check, addresses-select_method, addresses-select_interface_method, addresses-instance_test, addresses-cast_test, addresses-unary_words, addresses-operate, addresses-index_of_saved, addresses-copy)

same-tested : (said : Bool) → addresses (n.tested said) ≡ []
same-tested true = addresses-null_test
same-tested false = addresses-nil

same-old_value : (post : Bool) (d : ℕ) → addresses (n.old_value post d) ≡ []
same-old_value true d = addresses-load d
same-old_value false d = addresses-nil

same-truth : (b : Bool) → addresses (n.truth b) ≡ []
same-truth true = addresses-small_number 1
same-truth false = addresses-small_number 0

same-checked : (b : Bool) (d : ℕ) → addresses (if b then w.store_check d else []) ≡ []
same-checked true d = addresses-store_check d
same-checked false d = addresses-nil

module _ (cx : Context) where
  same-write : (d : ℕ) (p : PlainPlace) → addresses (n.write_lines cx d p) ≡ named (m.write_pieces cx.typing p)
  unfolding n.write_lines
  same-write d (local_place i) = simp same
  same-write d (static_place f) = simp same
  same-write d (field_place t f) = simp same
  same-write d (element_place a i) = simp same

  same-static : (e : PlainEntry) → addresses (n.static_lines cx e) ≡ entry e ∷ entry e ∷ entry e ∷ entry e ∷ []
  unfolding n.static_lines
  same-static e = simp same

  same-field : (d : ℕ) (e : PlainEntry) → addresses (n.field_lines cx d e) ≡ entry e ∷ entry e ∷ []
  unfolding n.field_lines
  same-field d e = simp same

  same-made : (r : PlainMethodRef) → addresses (n.made cx r)
      ≡ entry (entries.new_entry r.class) ∷ entry (entries.new_entry r.class) ∷ entry (entries.new_entry r.class) ∷ entry (entries.new_entry r.class) ∷ []
  unfolding n.made
  same-made r = simp same

  -- with a constructor or without
  same-new : (b : Bool) (y : PlainEntry) (d k : ℕ) (args : PlainExprs) (r : PlainMethodRef)
      → addresses (n.args_lines cx (d + 1) k args) ≡ named (m.args_pieces cx.typing args)
      → addresses (n.made cx r ++ (if b then [] else w.save d ++ (n.args_lines cx (d + 1) k args ++ (w.use_entry y ++ (w.copy d (suc (count args)) ++ (w.call ++ w.load d))))))
      ≡ named (usage (entries.new_entry r.class) ∷ plain m.initialise ∷ fetch (entries.new_entry r.class) ∷ plain (m.compute + m.service)
      ∷ (if b then [] else plain m.save ∷ (m.args_pieces cx.typing args ++ (usage y ∷ plain (m.copy_with_target (count args)) ∷ plain (m.call + m.load) ∷ []))))
  same-new true y d k args r h = simp (same, same-made r)
  same-new false y d k args r h = simp (same, same-made r, h)

  mutual
    same-expr : (d k : ℕ) (e : PlainExpr) → addresses (n.expr_lines cx d k e) ≡ named (m.expr_pieces cx.typing e)
    same-expr d k (int_value z) = simp same
    same-expr d k (bool_value b) = simp (same, same-truth b)
    same-expr d k null_value = simp same
    same-expr d k (get_local i) = simp same
    same-expr d k (set_local i v) = simp (same, same-expr d k v)
    same-expr d k (get_static f) = simp (same, same-static (entries.field_address f))
    same-expr d k (set_static f v) = simp (same, same-expr d k v)
    same-expr d k (get_field t f) = simp (same, same-expr d k t, same-field d (entries.field_offset f))
    same-expr d k (set_field t f v) = simp (same, same-expr d k t, same-expr (d + 1) (k + expr_labels t) v)
    same-expr d k (get_element a i) = simp (same, same-expr d k a, same-expr (d + 1) (k + expr_labels a) i)
    same-expr d k (set_element a i v) =
        simp (
          same,
          same-expr d k a,
          same-expr (d + 1) (k + expr_labels a) i,
          same-expr (d + 2) (k + expr_labels a + expr_labels i) v,
          same-checked (holds_references (sort cx.typing a)) d,
        )
    same-expr d k (array_length a) = simp (same, same-expr d k a)
    same-expr d k (update_place p o v post) =
        simp (
          same,
          same-read d k p,
          same-expr (d + place_saves p + 1) (k + place_labels p) v,
          same-write d p,
          same-old_value post (d + place_saves p),
        )
    same-expr d k (unary o a) = simp (same, same-expr d k a)
    same-expr d k (binary o a b) = simp (same, same-expr d k a, same-expr (d + 1) (k + expr_labels a) b)
    same-expr d k (and_also a b) = simp (same, same-expr d (k + 1) a, same-expr d (k + 1 + expr_labels a) b)
    same-expr d k (or_else a b) = simp (same, same-expr d (k + 1) a, same-expr d (k + 1 + expr_labels a) b)
    same-expr d k (conditional c a b) =
        simp (
          same,
          same-expr d (k + 2) c,
          same-expr d (k + 2 + expr_labels c) a,
          same-expr d (k + 2 + expr_labels c + expr_labels a) b,
        )
    same-expr d k (new_object r args) = same-new (is_object_class r.class) (entries.special_method r) d k args r (same-args (d + 1) k args)
    same-expr d k (new_array t l) = simp (same, same-expr d k l)
    same-expr d k (call_static r args) = simp (same, same-args d k args)
    same-expr d k (call_virtual t r args) = simp (same, same-expr d k t, same-args (d + 1) (k + expr_labels t) args)
    same-expr d k (call_interface t r args) = simp (same, same-expr d k t, same-args (d + 1) (k + expr_labels t) args)
    same-expr d k (call_special r args) = simp (same, same-args (d + 1) k args)
    same-expr d k (cast t a) = simp (same, same-expr d (k + 1) a)
    same-expr d k (widen t a) = same-expr d k a
    same-expr d k (instance_of a t) = simp (same, same-expr d (k + 1) a)
    same-expr d k (first_then a said b) = simp (same, same-expr d k a, same-tested said, same-expr d (k + expr_labels a) b)
    same-expr d k (print kind args) = simp (same, same-exprs d k args)

    same-exprs : (d k : ℕ) (es : PlainExprs) → addresses (n.exprs_lines cx d k es) ≡ named (m.exprs_pieces cx.typing es)
    same-exprs d k no_exprs = simp same
    same-exprs d k (more_exprs e rest) = simp (same, same-expr d k e, same-exprs d (k + expr_labels e) rest)

    same-args : (d k : ℕ) (es : PlainExprs) → addresses (n.args_lines cx d k es) ≡ named (m.args_pieces cx.typing es)
    same-args d k no_exprs = simp same
    same-args d k (more_exprs e rest) = simp (same, same-expr d k e, same-args (d + 1) (k + expr_labels e) rest)

    same-read : (d k : ℕ) (p : PlainPlace) → addresses (n.read_lines cx d k p) ≡ named (m.read_pieces cx.typing p)
    same-read d k (local_place i) = simp same
    same-read d k (static_place f) = simp (same, same-static (entries.field_address f))
    same-read d k (field_place t f) = simp (same, same-expr d k t, same-field d (entries.field_offset f))
    same-read d k (element_place a i) = simp (same, same-expr d k a, same-expr (d + 1) (k + expr_labels a) i)

  same-option : (k : ℕ) (e : PlainOption) → addresses (n.option_lines cx k e) ≡ named (m.option_pieces cx.typing e)
  same-option k absent = simp same
  same-option k (present e) = same-expr 0 k e

  mutual
    same-stmt : (around : Around) (k : ℕ) (s : PlainStmt) → addresses (n.stmt_lines cx around k s) ≡ named (m.stmt_pieces cx.typing s)
    same-stmt around k (evaluate e) = same-expr 0 k e
    same-stmt around k (if_else c a b) =
        simp (
          same,
          same-expr 0 (k + 2) c,
          same-stmt around (k + 2 + expr_labels c) a,
          same-stmt around (k + 2 + expr_labels c + stmt_labels a) b,
        )
    same-stmt around k (loop false c body update) =
        simp (
          same,
          same-expr 0 (k + 3) c,
          same-stmt (record { leave = k + 1; again = k + 2 }) (k + 3 + expr_labels c) body,
          same-exprs 0 (k + 3 + expr_labels c + stmt_labels body) update,
        )
    same-stmt around k (loop true c body update) =
        simp (
          same,
          same-stmt (record { leave = k + 1; again = k + 2 }) (k + 3) body,
          same-expr 0 (k + 3 + stmt_labels body) c,
        )
    same-stmt around k break_loop = simp same
    same-stmt around k continue_loop = simp same
    same-stmt around k (return_with v) = simp (same, same-option k v)
    same-stmt around k (throw e) = simp (same, same-expr 0 k e)
    same-stmt around k (try_catch body catches) =
        simp (
          same,
          same-stmts around (k + 3 + catch_count catches) body,
          same-catches around (k + 2) (k + 3) (k + 3 + catch_count catches + stmts_labels body) catches,
        )
    same-stmt around k (block body) = same-stmts around k body

    same-stmts : (around : Around) (k : ℕ) (ss : PlainStmts) → addresses (n.stmts_lines cx around k ss) ≡ named (m.stmts_pieces cx.typing ss)
    same-stmts around k no_stmts = simp same
    same-stmts around k (more_stmts s rest) = simp (same, same-stmt around k s, same-stmts around (k + stmt_labels s) rest)

    same-catches : (around : Around) (end target k : ℕ) (cs : PlainCatches)
        → addresses (n.catches_lines cx around end target k cs) ≡ named (m.catches_pieces cx.typing cs)
    same-catches around end target k no_catches = simp same
    same-catches around end target k (more_catches class i body rest) =
        simp (same, same-stmts around k body, same-catches around end (target + 1) (k + stmts_labels body) rest)

-- ---- bodies

same-zero : (frame i k : ℕ) → addresses (zero_locals frame i k) ≡ []
same-zero frame i zero = addresses-nil
same-zero frame i (suc k) = simp (same, same-zero frame (i + 1) k)

same-last : (b : Bool) → addresses (if b then [] else w.small_number 0) ≡ []
same-last true = addresses-nil
same-last false = addresses-small_number 0

concrete : (b : Bool) (ps : List Piece) → b ≡ false → named ps ≡ named (if b then [] else ps)
concrete false ps h = refl
concrete true ps h = cc

all-method : (c : PlainClass) (x : PlainMethod)
    → addresses (method_lines c x)
    ≡ named (plain m.entry ∷ plain (measured.zeroed x) ∷ (m.stmts_pieces (method_frame c x) x.body ++ (plain (measured.last_value x.result) ∷ plain m.exit ∷ [])))
unfolding method_lines
all-method c x =
    simp (
      same,
      same-zero (measured.method_frame_size x) (parameters x) (length x.locals - parameters x),
      same-stmts (method_context c x) no_loop 0 x.body,
      same-last (is_void x.result),
    )

-- of a method with code
pub same-method : (c : PlainClass) (x : PlainMethod) → is_abstract x.kind ≡ false → addresses (method_lines c x) ≡ named (measured.method_pieces c x)
same-method c x h = all-method c x ∙ concrete (is_abstract x.kind) _ h

same-superclass : (s : Option (List ℕ)) → addresses (superclass_lines s) ≡ named (measured.superclass_pieces s)
same-superclass None = simp same
same-superclass (Some name) = by (is_object_class name)
  where
    by : (b : Bool) → addresses (if b then [] else w.use_entry (entries.class_entry name) ++ w.initialise)
        ≡ named (if b then [] else usage (entries.class_entry name) ∷ plain m.initialise ∷ [])
    by true = simp same
    by false = simp same

pub same-init : (c : PlainClass) → addresses (init_lines c) ≡ named (measured.init_pieces c)
unfolding init_lines
same-init c =
    simp (
      same,
      same-zero (measured.init_frame_size c) 0 (length c.init.locals),
      same-superclass c.head.superclass,
      same-stmts (init_context c) no_loop 3 c.init.body,
    )

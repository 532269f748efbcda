-- The lines of each node have as many words, with all jumps long, as its measured pieces.
use Rattle.std.proofs.Common.{◌≡◌, refl, ◌∙◌, ℕ, zero, suc, ◌+◌, ◌-◌, Bool, true, false, List, [], ◌∷◌, ◌++◌, length, arith, if◌then◌else◌, Option, Some, None}
use Rattle.bcj_symbolic_trees.specs.Types.{PlainTy, int_type, bool_type, void_type, class_type, array_type, PlainMethodRef}
use Rattle.bcj_symbolic_trees.specs.Trees.{PlainExpr, int_value, bool_value, null_value, get_local, set_local, get_static, set_static, get_field, set_field, get_element, set_element, array_length, update_place, unary, binary, and_also, or_else, conditional, new_object, new_array, call_static, call_virtual, call_interface, call_special, cast, widen, instance_of, first_then, print, PlainExprs, no_exprs, more_exprs, PlainPlace, local_place, static_place, field_place, element_place, PlainOption, absent, present, PlainStmt, evaluate, if_else, loop, break_loop, continue_loop, return_with, throw, try_catch, block, PlainStmts, no_stmts, more_stmts, PlainCatches, no_catches, more_catches}
use Rattle.bcj_symbolic_trees.specs.Units.{PlainMethod, PlainClass}
use Rattle.bcj_symbolic_check.specs.Judgements.{sort}
use Rattle.bcj_symbolic_check.specs.Classes.{is_abstract, method_frame}
use Rattle.bcj_symbolic_measure.specs.Entries.{PlainEntry}
use Rattle.bcj_symbolic_measure.specs.Entries as entries
use Rattle.bcj_symbolic_measure.specs.Scheme as m
use Rattle.bcj_symbolic_measure.specs.Scheme.{Piece, plain, usage, fetch, count, holds_references, is_object_class}
use Rattle.bcj_symbolic_measure.specs.Bodies as measured
use Rattle.bcj_lower_rules.specs.Words as w
use Rattle.bcj_lower_rules.specs.Nodes as n
use Rattle.bcj_lower_rules.specs.Nodes.{Context, Around, expr_labels, place_labels, stmt_labels, stmts_labels, catch_count, place_saves}
use Rattle.bcj_lower_rules.specs.Bodies.{long_words, zero_locals, superclass_lines, last_value, method_lines, init_lines, method_context, init_context, no_loop, parameters}
use Rattle.bcj_lower_rules.specs.Laws.{LongIsMeasured}
use Rattle.bcj_lower_rules.proofs.Long.{long-nil, long-cons, long-append, total, total-nil, total-cons, total-append, long-save, long-load, long-load_second, long-set_local, long-get_local, long-small_number, long-read_at, long-write_at, long-take_entry, long-call, long-number, long-service, long-null_test, long-turn, long-enter, long-exit, long-use_entry, long-initialise, long-fetch_entry, long-initialised, long-region_first, long-region_second, long-field_of_object, long-element_address, long-store_check, long-select_method, long-select_interface_method, long-instance_test, long-cast_test, long-unary_words, long-operate, long-index_of_saved, long-copy}

ruleset sums = (long-nil, long-cons, long-append, total-nil, total-cons, total-append, long-save, long-load, long-load_second, long-set_local, long-get_local, long-small_number, long-read_at, long-write_at, long-take_entry, long-call, long-number, long-service, long-null_test, long-turn, long-enter, long-exit, long-use_entry, long-initialise, long-fetch_entry, long-initialised, long-region_first, long-region_second, long-field_of_object, long-element_address, long-store_check, long-select_method, long-select_interface_method, long-instance_test, long-cast_test, long-unary_words, long-operate, long-index_of_saved, long-copy)

long-tested : (said : Bool) → long_words (n.tested said) ≡ m.tested said
long-tested true = long-null_test
long-tested false = long-nil

long-old_value : (post : Bool) (d : ℕ) → long_words (n.old_value post d) ≡ m.old_value post
long-old_value true d = long-load d
long-old_value false d = long-nil

long-truth : (b : Bool) → long_words (n.truth b) ≡ 1
long-truth true = long-small_number 1
long-truth false = long-small_number 0

long-checked : (b : Bool) (d : ℕ) → long_words (if b then w.store_check d else []) ≡ (if b then 4 else 0)
long-checked true d = long-store_check d
long-checked false d = long-nil

module _ (cx : Context) where
  long-write : (d : ℕ) (p : PlainPlace) → long_words (n.write_lines cx d p) ≡ total (m.write_pieces cx.typing p)
  unfolding n.write_lines
  long-write d (local_place i) = simp sums (omega arith)
  long-write d (static_place f) = simp sums (omega arith)
  long-write d (field_place t f) = simp sums (omega arith)
  long-write d (element_place a i) = simp sums (omega arith)

  long-static : (e : PlainEntry) → long_words (n.static_lines cx e) ≡ 13
  unfolding n.static_lines
  long-static e = simp sums (omega arith)

  long-field : (d : ℕ) (e : PlainEntry) → long_words (n.field_lines cx d e) ≡ 13
  unfolding n.field_lines
  long-field d e = simp sums (omega arith)

  long-made : (r : PlainMethodRef) → long_words (n.made cx r) ≡ 15
  unfolding n.made
  long-made r = simp sums (omega arith)

  -- with a constructor or without
  long-new : (b : Bool) (x y : PlainEntry) (d k : ℕ) (args : PlainExprs) (r : PlainMethodRef)
      → long_words (n.args_lines cx (d + 1) k args) ≡ total (m.args_pieces cx.typing args)
      → long_words (n.made cx r ++ (if b then [] else w.save d ++ (n.args_lines cx (d + 1) k args ++ (w.use_entry y ++ (w.copy d (suc (count args)) ++ (w.call ++ w.load d))))))
      ≡ total (usage x ∷ plain m.initialise ∷ fetch x ∷ plain (m.compute + m.service)
      ∷ (if b then [] else plain m.save ∷ (m.args_pieces cx.typing args ++ (usage y ∷ plain (m.copy_with_target (count args)) ∷ plain (m.call + m.load) ∷ []))))
  long-new true x y d k args r h = simp sums (omega (arith, long-made r))
  long-new false x y d k args r h = simp sums (omega (arith, long-made r, h))

  mutual
    long-expr : (d k : ℕ) (e : PlainExpr) → long_words (n.expr_lines cx d k e) ≡ total (m.expr_pieces cx.typing e)
    long-expr d k (int_value z) = simp sums (omega arith)
    long-expr d k (bool_value b) = simp sums (omega (arith, long-truth b))
    long-expr d k null_value = simp sums (omega arith)
    long-expr d k (get_local i) = simp sums (omega arith)
    long-expr d k (set_local i v) = simp sums (omega (arith, long-expr d k v))
    long-expr d k (get_static f) = simp sums (omega (arith, long-static (entries.field_address f)))
    long-expr d k (set_static f v) = simp sums (omega (arith, long-expr d k v))
    long-expr d k (get_field t f) = simp sums (omega (arith, long-expr d k t, long-field d (entries.field_offset f)))
    long-expr d k (set_field t f v) = simp sums (omega (arith, long-expr d k t, long-expr (d + 1) (k + expr_labels t) v))
    long-expr d k (get_element a i) = simp sums (omega (arith, long-expr d k a, long-expr (d + 1) (k + expr_labels a) i))
    long-expr d k (set_element a i v) =
        simp sums
        (omega (
          arith,
          long-expr d k a,
          long-expr (d + 1) (k + expr_labels a) i,
          long-expr (d + 2) (k + expr_labels a + expr_labels i) v,
          long-checked (holds_references (sort cx.typing a)) d,
        ))
    long-expr d k (array_length a) = simp sums (omega (arith, long-expr d k a))
    long-expr d k (update_place p o v post) =
        simp sums
        (omega (
          arith,
          long-read d k p,
          long-expr (d + place_saves p + 1) (k + place_labels p) v,
          long-write d p,
          long-old_value post (d + place_saves p),
        ))
    long-expr d k (unary o a) = simp sums (omega (arith, long-expr d k a))
    long-expr d k (binary o a b) = simp sums (omega (arith, long-expr d k a, long-expr (d + 1) (k + expr_labels a) b))
    long-expr d k (and_also a b) = simp sums (omega (arith, long-expr d (k + 1) a, long-expr d (k + 1 + expr_labels a) b))
    long-expr d k (or_else a b) = simp sums (omega (arith, long-expr d (k + 1) a, long-expr d (k + 1 + expr_labels a) b))
    long-expr d k (conditional c a b) =
        simp sums
        (omega (
          arith,
          long-expr d (k + 2) c,
          long-expr d (k + 2 + expr_labels c) a,
          long-expr d (k + 2 + expr_labels c + expr_labels a) b,
        ))
    long-expr d k (new_object r args) = long-new (is_object_class r.class) (entries.new_entry r.class) (entries.special_method r) d k args r (long-args (d + 1) k args)
    long-expr d k (new_array t l) = simp sums (omega (arith, long-expr d k l))
    long-expr d k (call_static r args) = simp sums (omega (arith, long-args d k args))
    long-expr d k (call_virtual t r args) = simp sums (omega (arith, long-expr d k t, long-args (d + 1) (k + expr_labels t) args))
    long-expr d k (call_interface t r args) = simp sums (omega (arith, long-expr d k t, long-args (d + 1) (k + expr_labels t) args))
    long-expr d k (call_special r args) = simp sums (omega (arith, long-args (d + 1) k args))
    long-expr d k (cast t a) = simp sums (omega (arith, long-expr d (k + 1) a))
    long-expr d k (widen t a) = long-expr d k a
    long-expr d k (instance_of a t) = simp sums (omega (arith, long-expr d (k + 1) a))
    long-expr d k (first_then a said b) = simp sums (omega (arith, long-expr d k a, long-tested said, long-expr d (k + expr_labels a) b))
    long-expr d k (print kind args) = simp sums (omega (arith, long-exprs d k args))

    long-exprs : (d k : ℕ) (es : PlainExprs) → long_words (n.exprs_lines cx d k es) ≡ total (m.exprs_pieces cx.typing es)
    long-exprs d k no_exprs = simp sums (omega arith)
    long-exprs d k (more_exprs e rest) = simp sums (omega (arith, long-expr d k e, long-exprs d (k + expr_labels e) rest))

    long-args : (d k : ℕ) (es : PlainExprs) → long_words (n.args_lines cx d k es) ≡ total (m.args_pieces cx.typing es)
    long-args d k no_exprs = simp sums (omega arith)
    long-args d k (more_exprs e rest) = simp sums (omega (arith, long-expr d k e, long-args (d + 1) (k + expr_labels e) rest))

    long-read : (d k : ℕ) (p : PlainPlace) → long_words (n.read_lines cx d k p) ≡ total (m.read_pieces cx.typing p)
    long-read d k (local_place i) = simp sums (omega arith)
    long-read d k (static_place f) = simp sums (omega (arith, long-static (entries.field_address f)))
    long-read d k (field_place t f) = simp sums (omega (arith, long-expr d k t, long-field d (entries.field_offset f)))
    long-read d k (element_place a i) = simp sums (omega (arith, long-expr d k a, long-expr (d + 1) (k + expr_labels a) i))

  long-option : (k : ℕ) (e : PlainOption) → long_words (n.option_lines cx k e) ≡ total (m.option_pieces cx.typing e)
  long-option k absent = simp sums (omega arith)
  long-option k (present e) = long-expr 0 k e

  mutual
    long-stmt : (around : Around) (k : ℕ) (s : PlainStmt) → long_words (n.stmt_lines cx around k s) ≡ total (m.stmt_pieces cx.typing s)
    long-stmt around k (evaluate e) = long-expr 0 k e
    long-stmt around k (if_else c a b) =
        simp sums
        (omega (
          arith,
          long-expr 0 (k + 2) c,
          long-stmt around (k + 2 + expr_labels c) a,
          long-stmt around (k + 2 + expr_labels c + stmt_labels a) b,
        ))
    long-stmt around k (loop false c body update) =
        simp sums
        (omega (
          arith,
          long-expr 0 (k + 3) c,
          long-stmt (record { leave = k + 1; again = k + 2 }) (k + 3 + expr_labels c) body,
          long-exprs 0 (k + 3 + expr_labels c + stmt_labels body) update,
        ))
    long-stmt around k (loop true c body update) =
        simp sums
        (omega (
          arith,
          long-stmt (record { leave = k + 1; again = k + 2 }) (k + 3) body,
          long-expr 0 (k + 3 + stmt_labels body) c,
        ))
    long-stmt around k break_loop = simp sums (omega arith)
    long-stmt around k continue_loop = simp sums (omega arith)
    long-stmt around k (return_with v) = simp sums (omega (arith, long-option k v))
    long-stmt around k (throw e) = simp sums (omega (arith, long-expr 0 k e))
    long-stmt around k (try_catch body catches) =
        simp sums
        (omega (
          arith,
          long-stmts around (k + 3 + catch_count catches) body,
          long-catches around (k + 2) (k + 3) (k + 3 + catch_count catches + stmts_labels body) catches,
        ))
    long-stmt around k (block body) = long-stmts around k body

    long-stmts : (around : Around) (k : ℕ) (ss : PlainStmts) → long_words (n.stmts_lines cx around k ss) ≡ total (m.stmts_pieces cx.typing ss)
    long-stmts around k no_stmts = simp sums (omega arith)
    long-stmts around k (more_stmts s rest) = simp sums (omega (arith, long-stmt around k s, long-stmts around (k + stmt_labels s) rest))

    long-catches : (around : Around) (end target k : ℕ) (cs : PlainCatches)
        → long_words (n.catches_lines cx around end target k cs) ≡ total (m.catches_pieces cx.typing cs)
    long-catches around end target k no_catches = simp sums (omega arith)
    long-catches around end target k (more_catches class i body rest) =
        simp sums (omega (arith, long-stmts around k body, long-catches around end (target + 1) (k + stmts_labels body) rest))

-- ---- bodies

long-zero : (frame i k : ℕ) → long_words (zero_locals frame i k) ≡ k
long-zero frame i zero = long-nil
long-zero frame i (suc k) = simp sums (omega (arith, long-zero frame (i + 1) k))

long-last : (t : PlainTy) → long_words (last_value t) ≡ measured.last_value t
long-last int_type = long-small_number 0
long-last bool_type = long-small_number 0
long-last void_type = long-nil
long-last (class_type name) = long-small_number 0
long-last (array_type t) = long-small_number 0

chosen : (b : Bool) (ps : List Piece) → b ≡ false → total ps ≡ measured.words (if b then [] else ps)
unfolding total
chosen false ps h = refl
chosen true ps h = cc

long-method : (c : PlainClass) (x : PlainMethod)
    → long_words (method_lines c x)
    ≡ total (plain m.entry ∷ plain (measured.zeroed x) ∷ (m.stmts_pieces (method_frame c x) x.body ++ (plain (measured.last_value x.result) ∷ plain m.exit ∷ [])))
unfolding method_lines
long-method c x =
    simp sums
    (omega (
      arith,
      long-zero (measured.method_frame_size x) (parameters x) (length x.locals - parameters x),
      long-stmts (method_context c x) no_loop 0 x.body,
      long-last x.result,
    ))

long-superclass : (s : Option (List ℕ)) → long_words (superclass_lines s) ≡ total (measured.superclass_pieces s)
long-superclass None = simp sums (omega arith)
long-superclass (Some name) = by (is_object_class name)
  where
    by : (b : Bool) → long_words (if b then [] else w.use_entry (entries.class_entry name) ++ w.initialise) ≡ total (if b then [] else usage (entries.class_entry name) ∷ plain m.initialise ∷ [])
    by true = simp sums (omega arith)
    by false = simp sums (omega arith)

long-init : (c : PlainClass) → long_words (init_lines c) ≡ total (measured.init_pieces c)
unfolding init_lines
long-init c =
    simp sums
    (omega (
      arith,
      long-zero (measured.init_frame_size c) 0 (length c.init.locals),
      long-superclass c.head.superclass,
      long-stmts (init_context c) no_loop 3 c.init.body,
    ))

is-words : (ps : List Piece) → total ps ≡ measured.words ps
unfolding total
is-words ps = refl

pub long_is_measured : LongIsMeasured
long_is_measured = record {
  methods = λ c x h. long-method c x ∙ chosen (is_abstract x.kind) _ h;
  initialiser = λ c. long-init c ∙ is-words _;
}

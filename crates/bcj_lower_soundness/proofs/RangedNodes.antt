-- The lines of each node are items of the assembler, where its temporaries lie below the limit.
use Rattle.std.proofs.Common.{◌≡◌, refl, ℕ, zero, suc, ◌+◌, ◌-◌, ◌≤◌, ◌<◌, Bool, true, false, List, [], ◌∷◌, ◌++◌, length, arith, lit<, pos, if◌then◌else◌, Option, Some, None}
use Rattle.std.proofs.lemmas.List.Elements.{All-from_recursion}
use Rattle.rv_isa.specs.declared.instruction.Instr.TheVariants as instr
use Rattle.rv_isa.specs.Registers.{t1, a0, a1}
use Rattle.rv_steps.specs.Services as services
use Rattle.bcj_asm.specs.Assembly.{IsItem, AreItems}
use Rattle.bcj_symbolic_trees.specs.Types.{PlainMethodRef}
use Rattle.bcj_symbolic_trees.specs.Trees.{PlainExpr, int_value, bool_value, null_value, get_local, set_local, get_static, set_static, get_field, set_field, get_element, set_element, array_length, update_place, unary, binary, and_also, or_else, conditional, new_object, new_array, call_static, call_virtual, call_interface, call_special, cast, widen, instance_of, first_then, print, PlainExprs, no_exprs, more_exprs, PlainPlace, local_place, static_place, field_place, element_place, PlainOption, absent, present, PlainStmt, evaluate, if_else, loop, break_loop, continue_loop, return_with, throw, try_catch, block, PlainStmts, no_stmts, more_stmts, PlainCatches, no_catches, more_catches}
use Rattle.bcj_symbolic_trees.specs.Units.{PlainMethod, PlainClass}
use Rattle.bcj_symbolic_check.specs.Judgements.{sort, this_local}
use Rattle.bcj_symbolic_check.specs.Steps.{is_void}
use Rattle.bcj_symbolic_check.specs.Classes.{is_abstract}
use Rattle.bcj_symbolic_measure.specs.Entries.{PlainEntry}
use Rattle.bcj_symbolic_measure.specs.Entries as entries
use Rattle.bcj_symbolic_measure.specs.Scheme.{count, holds_references, is_object_class}
use Rattle.bcj_symbolic_measure.specs.Totals.{larger}
use Rattle.bcj_symbolic_measure.specs.Depths.{saved, expr_depth, exprs_depth, args_depth, place_depth, option_depth, stmt_depth, stmts_depth, catches_depth}
use Rattle.bcj_symbolic_measure.specs.Bodies.{method_frame_size, init_frame_size, frame_size}
use Rattle.bcj_lower_rules.specs.Lines.{Line, items_of, word}
use Rattle.bcj_lower_rules.specs.Words as w
use Rattle.bcj_lower_rules.specs.Nodes as n
use Rattle.bcj_lower_rules.specs.Nodes.{Context, Around, expr_labels, place_labels, stmt_labels, stmts_labels, catch_count, place_saves}
use Rattle.bcj_lower_rules.specs.Bodies.{zero_locals, superclass_lines, method_lines, init_lines, method_context, init_context, no_loop, parameters, max_frame}
use Rattle.bcj_lower_soundness.proofs.Ranged.{temporaries, Ranged, ranged-nil, ◌⊕◌, ranged, ranged-save, ranged-load, ranged-load_second, ranged-load_entry, ranged-set_local, ranged-get_local, ranged-zero_local, ranged-small_number, ranged-read_at, ranged-write_at, ranged-take_entry, ranged-call, ranged-number, ranged-service, ranged-print, ranged-null_test, ranged-turn, ranged-enter, ranged-exit, ranged-place, ranged-jump, ranged-jump_if_zero, ranged-jump_unless_zero, ranged-use_entry, ranged-initialise, ranged-fetch_entry, ranged-initialised, ranged-region_first, ranged-region_second, ranged-field_of_object, ranged-element_address, ranged-store_check, ranged-copy, ranged-select_method, ranged-select_interface_method, ranged-instance_test, ranged-cast_test, ranged-unary_words, ranged-operate, ranged-index_of_saved}

ranged-tested : (said : Bool) → Ranged (n.tested said)
ranged-tested true = ranged-null_test
ranged-tested false = ranged-nil

ranged-old_value : (post : Bool) (d : ℕ) → d < temporaries → Ranged (n.old_value post d)
ranged-old_value true d h = ranged-load d h
ranged-old_value false d h = ranged-nil

ranged-truth : (b : Bool) → Ranged (n.truth b)
ranged-truth true = ranged-small_number 1 refl
ranged-truth false = ranged-small_number 0 refl

ranged-checked : (b : Bool) (d : ℕ) → d + 2 < temporaries → Ranged (if b then w.store_check d else [])
ranged-checked true d h = ranged-store_check d h
ranged-checked false d h = ranged-nil

-- arguments need a temporary each
args_need : (es : PlainExprs) → count es ≤ args_depth es
unfolding saved
args_need no_exprs = omega arith
args_need (more_exprs e rest) = omega (arith, args_need rest)

-- the temporaries that hold what leads to a place, and those behind its read
place_need : (p : PlainPlace) (behind : ℕ) → place_saves p + behind ≤ place_depth p behind
unfolding saved
place_need (local_place i) behind = omega arith
place_need (static_place f) behind = omega arith
place_need (field_place t f) behind = omega arith
place_need (element_place a i) behind = omega arith

module _ (cx : Context) (room : cx.frame ≤ max_frame) where
  ranged-write : (d : ℕ) (p : PlainPlace) → d + place_saves p < temporaries → Ranged (n.write_lines cx d p)
  unfolding n.write_lines
  ranged-write d (local_place i) h = ranged-set_local cx.frame i room
  ranged-write d (static_place f) h = ranged-fetch_entry (entries.field_address f) ⊕ ranged-write_at 0 refl
  ranged-write d (field_place t f) h =
      ranged-fetch_entry (entries.field_offset f)
      ⊕ (ranged-load_second d (omega arith) ⊕ (ranged (word (instr.Add t1 a1 t1) ∷ []) refl ⊕ ranged-write_at 0 refl))
  ranged-write d (element_place a i) h =
      ranged-load_entry (d + 1) (omega arith)
      ⊕ (ranged (word (instr.Slli t1 t1 (pos 2)) ∷ []) refl
      ⊕ (ranged-load_second d (omega arith) ⊕ (ranged (word (instr.Add t1 a1 t1) ∷ []) refl ⊕ ranged-write_at w.elements_at refl)))

  ranged-static : (e : PlainEntry) → Ranged (n.static_lines cx e)
  unfolding n.static_lines
  ranged-static e = ranged-initialised e ⊕ ranged-read_at 0 refl

  ranged-field : (d : ℕ) (e : PlainEntry) → d < temporaries → Ranged (n.field_lines cx d e)
  unfolding n.field_lines
  ranged-field d e h =
      ranged-save d h
      ⊕ (ranged-use_entry e ⊕ (ranged-field_of_object a0 d (lit< tt) h ⊕ ranged (word (instr.Lw a0 a0 (pos 0)) ∷ []) refl))

  ranged-made : (r : PlainMethodRef) → Ranged (n.made cx r)
  unfolding n.made
  ranged-made r = ranged-initialised (entries.new_entry r.class) ⊕ (ranged-take_entry ⊕ ranged-service services.new refl)

  -- with a constructor or without
  ranged-new : (b : Bool) (y : PlainEntry) (d k : ℕ) (args : PlainExprs) (r : PlainMethodRef) → d + (if b then 0 else saved 0 (args_depth args)) ≤ temporaries
      → (d + 1 + args_depth args ≤ temporaries → Ranged (n.args_lines cx (d + 1) k args))
      → Ranged (n.made cx r ++ (if b then [] else w.save d ++ (n.args_lines cx (d + 1) k args ++ (w.use_entry y ++ (w.copy d (suc (count args)) ++ (w.call ++ w.load d))))))
  unfolding saved
  ranged-new true y d k args r h of_args = ranged-made r ⊕ ranged-nil
  ranged-new false y d k args r h of_args =
      let need = args_need args in
      ranged-made r
      ⊕ (ranged-save d (omega arith)
      ⊕ (of_args (omega arith)
      ⊕ (ranged-use_entry y ⊕ (ranged-copy d (suc (count args)) (omega arith) ⊕ (ranged-call ⊕ ranged-load d (omega arith))))))

  mutual
    unfolding saved larger

    ranged-expr : (d k : ℕ) (e : PlainExpr) → d + expr_depth e ≤ temporaries → Ranged (n.expr_lines cx d k e)
    ranged-expr d k (int_value z) h = ranged-number z
    ranged-expr d k (bool_value b) h = ranged-truth b
    ranged-expr d k null_value h = ranged-small_number 0 refl
    ranged-expr d k (get_local i) h = ranged-get_local cx.frame i room
    ranged-expr d k (set_local i v) h = ranged-expr d k v h ⊕ ranged-set_local cx.frame i room
    ranged-expr d k (get_static f) h = ranged-static (entries.field_address f)
    ranged-expr d k (set_static f v) h =
        ranged-expr d k v (omega arith)
        ⊕ (ranged-save d (omega arith)
        ⊕ (ranged-initialised (entries.field_address f) ⊕ (ranged-load d (omega arith) ⊕ ranged-write_at 0 refl)))
    ranged-expr d k (get_field t f) h = ranged-expr d k t (omega arith) ⊕ ranged-field d (entries.field_offset f) (omega arith)
    ranged-expr d k (set_field t f v) h =
        ranged-expr d k t (omega arith)
        ⊕ (ranged-save d (omega arith)
        ⊕ (ranged-expr (d + 1) (k + expr_labels t) v (omega arith)
        ⊕ (ranged-save (d + 1) (omega arith)
        ⊕ (ranged-use_entry (entries.field_offset f)
        ⊕ (ranged-field_of_object t1 d (lit< tt) (omega arith) ⊕ (ranged-load (d + 1) (omega arith) ⊕ ranged-write_at 0 refl))))))
    ranged-expr d k (get_element a i) h =
        ranged-expr d k a (omega arith)
        ⊕ (ranged-save d (omega arith)
        ⊕ (ranged-expr (d + 1) (k + expr_labels a) i (omega arith)
        ⊕ (ranged-index_of_saved d (omega arith) ⊕ ranged-read_at w.elements_at refl)))
    ranged-expr d k (set_element a i v) h =
        ranged-expr d k a (omega arith)
        ⊕ (ranged-save d (omega arith)
        ⊕ (ranged-expr (d + 1) (k + expr_labels a) i (omega arith)
        ⊕ (ranged-save (d + 1) (omega arith)
        ⊕ (ranged-expr (d + 2) (k + expr_labels a + expr_labels i) v (omega arith)
        ⊕ (ranged-save (d + 2) (omega arith)
        ⊕ (ranged-load_second (d + 1) (omega arith)
        ⊕ (ranged-load d (omega arith)
        ⊕ (ranged-element_address
        ⊕ (ranged-checked (holds_references (sort cx.typing a)) d (omega arith)
        ⊕ (ranged-load (d + 2) (omega arith) ⊕ ranged-write_at w.elements_at refl))))))))))
    ranged-expr d k (array_length a) h =
        ranged-expr d k a h ⊕ (ranged-null_test ⊕ ranged (word (instr.Lw a0 a0 (pos 4)) ∷ []) refl)
    ranged-expr d k (update_place p o v post) h =
        let need = place_need p (saved 0 (expr_depth v)) in
        ranged-read d k p (saved 0 (expr_depth v)) h
        ⊕ (ranged-save (d + place_saves p) (omega arith)
        ⊕ (ranged-expr (d + place_saves p + 1) (k + place_labels p) v (omega arith)
        ⊕ (ranged-operate o (d + place_saves p) (omega arith)
        ⊕ (ranged-write d p (omega arith) ⊕ ranged-old_value post (d + place_saves p) (omega arith)))))
    ranged-expr d k (unary o a) h = ranged-expr d k a h ⊕ ranged-unary_words o
    ranged-expr d k (binary o a b) h =
        ranged-expr d k a (omega arith)
        ⊕ (ranged-save d (omega arith) ⊕ (ranged-expr (d + 1) (k + expr_labels a) b (omega arith) ⊕ ranged-operate o d (omega arith)))
    ranged-expr d k (and_also a b) h =
        ranged-expr d (k + 1) a (omega arith)
        ⊕ (ranged-jump_if_zero k ⊕ (ranged-expr d (k + 1 + expr_labels a) b (omega arith) ⊕ ranged-place k))
    ranged-expr d k (or_else a b) h =
        ranged-expr d (k + 1) a (omega arith)
        ⊕ (ranged-jump_unless_zero k ⊕ (ranged-expr d (k + 1 + expr_labels a) b (omega arith) ⊕ ranged-place k))
    ranged-expr d k (conditional c a b) h =
        ranged-expr d (k + 2) c (omega arith)
        ⊕ (ranged-jump_if_zero k
        ⊕ (ranged-expr d (k + 2 + expr_labels c) a (omega arith)
        ⊕ (ranged-jump (k + 1)
        ⊕ (ranged-place k ⊕ (ranged-expr d (k + 2 + expr_labels c + expr_labels a) b (omega arith) ⊕ ranged-place (k + 1))))))
    ranged-expr d k (new_object r args) h =
        ranged-new (is_object_class r.class) (entries.special_method r) d k args r h (λ g. ranged-args (d + 1) k args g)
    ranged-expr d k (new_array t l) h =
        ranged-expr d k l (omega arith)
        ⊕ (ranged-save d (omega arith)
        ⊕ (ranged-use_entry (entries.type_entry t)
        ⊕ (ranged-load_second d (omega arith) ⊕ (ranged-take_entry ⊕ ranged-service services.new_array refl))))
    ranged-expr d k (call_static r args) h =
        let need = args_need args in
        ranged-args d k args h
        ⊕ (ranged-use_entry (entries.static_method r)
        ⊕ (ranged-initialise ⊕ (ranged-copy d (count args) (omega arith) ⊕ (ranged-fetch_entry (entries.static_method r) ⊕ ranged-call))))
    ranged-expr d k (call_virtual t r args) h =
        let need = args_need args in
        ranged-expr d k t (omega arith)
        ⊕ (ranged-save d (omega arith)
        ⊕ (ranged-args (d + 1) (k + expr_labels t) args (omega arith)
        ⊕ (ranged-use_entry (entries.method_offset r)
        ⊕ (ranged-select_method d (omega arith) ⊕ (ranged-copy d (suc (count args)) (omega arith) ⊕ ranged-call)))))
    ranged-expr d k (call_interface t r args) h =
        let need = args_need args in
        ranged-expr d k t (omega arith)
        ⊕ (ranged-save d (omega arith)
        ⊕ (ranged-args (d + 1) (k + expr_labels t) args (omega arith)
        ⊕ (ranged-use_entry (entries.interface_method r)
        ⊕ (ranged-select_interface_method d (omega arith) ⊕ (ranged-copy d (suc (count args)) (omega arith) ⊕ ranged-call)))))
    ranged-expr d k (call_special r args) h =
        let need = args_need args in
        ranged-get_local cx.frame this_local room
        ⊕ (ranged-save d (omega arith)
        ⊕ (ranged-args (d + 1) k args (omega arith)
        ⊕ (ranged-use_entry (entries.special_method r) ⊕ (ranged-copy d (suc (count args)) (omega arith) ⊕ ranged-call))))
    ranged-expr d k (cast t a) h =
        ranged-expr d (k + 1) a (omega arith)
        ⊕ (ranged-save d (omega arith)
        ⊕ (ranged-jump_if_zero k
        ⊕ (ranged-use_entry (entries.type_entry t)
        ⊕ (ranged-instance_test d (omega arith) ⊕ (ranged-cast_test ⊕ (ranged-place k ⊕ ranged-load d (omega arith)))))))
    ranged-expr d k (widen t a) h = ranged-expr d k a h
    ranged-expr d k (instance_of a t) h =
        ranged-expr d (k + 1) a (omega arith)
        ⊕ (ranged-save d (omega arith)
        ⊕ (ranged-jump_if_zero k ⊕ (ranged-use_entry (entries.type_entry t) ⊕ (ranged-instance_test d (omega arith) ⊕ ranged-place k))))
    ranged-expr d k (first_then a said b) h =
        ranged-expr d k a (omega arith) ⊕ (ranged-tested said ⊕ ranged-expr d (k + expr_labels a) b (omega arith))
    ranged-expr d k (print kind args) h = ranged-exprs d k args h ⊕ ranged-print kind

    ranged-exprs : (d k : ℕ) (es : PlainExprs) → d + exprs_depth es ≤ temporaries → Ranged (n.exprs_lines cx d k es)
    ranged-exprs d k no_exprs h = ranged-nil
    ranged-exprs d k (more_exprs e rest) h = ranged-expr d k e (omega arith) ⊕ ranged-exprs d (k + expr_labels e) rest (omega arith)

    ranged-args : (d k : ℕ) (es : PlainExprs) → d + args_depth es ≤ temporaries → Ranged (n.args_lines cx d k es)
    ranged-args d k no_exprs h = ranged-nil
    ranged-args d k (more_exprs e rest) h =
        ranged-expr d k e (omega arith) ⊕ (ranged-save d (omega arith) ⊕ ranged-args (d + 1) (k + expr_labels e) rest (omega arith))

    -- a read leaves temporaries for what stands behind it
    ranged-read : (d k : ℕ) (p : PlainPlace) (behind : ℕ) → d + place_depth p behind ≤ temporaries → Ranged (n.read_lines cx d k p)
    ranged-read d k (local_place i) behind h = ranged-get_local cx.frame i room
    ranged-read d k (static_place f) behind h = ranged-static (entries.field_address f)
    ranged-read d k (field_place t f) behind h = ranged-expr d k t (omega arith) ⊕ ranged-field d (entries.field_offset f) (omega arith)
    ranged-read d k (element_place a i) behind h =
        ranged-expr d k a (omega arith)
        ⊕ (ranged-save d (omega arith)
        ⊕ (ranged-expr (d + 1) (k + expr_labels a) i (omega arith)
        ⊕ (ranged-save (d + 1) (omega arith) ⊕ (ranged-index_of_saved d (omega arith) ⊕ ranged-read_at w.elements_at refl))))

  ranged-option : (k : ℕ) (e : PlainOption) → option_depth e ≤ temporaries → Ranged (n.option_lines cx k e)
  ranged-option k absent h = ranged-nil
  ranged-option k (present e) h = ranged-expr 0 k e (omega arith)

  mutual
    unfolding larger

    ranged-stmt : (around : Around) (k : ℕ) (s : PlainStmt) → stmt_depth s ≤ temporaries → Ranged (n.stmt_lines cx around k s)
    ranged-stmt around k (evaluate e) h = ranged-expr 0 k e (omega arith)
    ranged-stmt around k (if_else c a b) h =
        ranged-expr 0 (k + 2) c (omega arith)
        ⊕ (ranged-jump_if_zero k
        ⊕ (ranged-stmt around (k + 2 + expr_labels c) a (omega arith)
        ⊕ (ranged-jump (k + 1)
        ⊕ (ranged-place k ⊕ (ranged-stmt around (k + 2 + expr_labels c + stmt_labels a) b (omega arith) ⊕ ranged-place (k + 1))))))
    ranged-stmt around k (loop false c body update) h =
        ranged-place k
        ⊕ (ranged-turn
        ⊕ (ranged-expr 0 (k + 3) c (omega arith)
        ⊕ (ranged-jump_if_zero (k + 1)
        ⊕ (ranged-stmt (record { leave = k + 1; again = k + 2 }) (k + 3 + expr_labels c) body (omega arith)
        ⊕ (ranged-place (k + 2)
        ⊕ (ranged-exprs 0 (k + 3 + expr_labels c + stmt_labels body) update (omega arith) ⊕ (ranged-jump k ⊕ ranged-place (k + 1))))))))
    ranged-stmt around k (loop true c body update) h =
        ranged-place k
        ⊕ (ranged-turn
        ⊕ (ranged-stmt (record { leave = k + 1; again = k + 2 }) (k + 3) body (omega arith)
        ⊕ (ranged-place (k + 2)
        ⊕ (ranged-expr 0 (k + 3 + stmt_labels body) c (omega arith) ⊕ (ranged-jump_if_zero (k + 1) ⊕ (ranged-jump k ⊕ ranged-place (k + 1)))))))
    ranged-stmt around k break_loop h = ranged-jump around.leave
    ranged-stmt around k continue_loop h = ranged-jump around.again
    ranged-stmt around k (return_with v) h = ranged-option k v h ⊕ ranged-exit cx.frame room
    ranged-stmt around k (throw e) h = ranged-expr 0 k e (omega arith) ⊕ ranged-service services.throw refl
    ranged-stmt around k (try_catch body catches) h =
        ranged-place k
        ⊕ (ranged-stmts around (k + 3 + catch_count catches) body (omega arith)
        ⊕ (ranged-place (k + 1)
        ⊕ (ranged-jump (k + 2)
        ⊕ (ranged-catches around (k + 2) (k + 3) (k + 3 + catch_count catches + stmts_labels body) catches (omega arith) ⊕ ranged-place (k + 2)))))
    ranged-stmt around k (block body) h = ranged-stmts around k body h

    ranged-stmts : (around : Around) (k : ℕ) (ss : PlainStmts) → stmts_depth ss ≤ temporaries → Ranged (n.stmts_lines cx around k ss)
    ranged-stmts around k no_stmts h = ranged-nil
    ranged-stmts around k (more_stmts s rest) h = ranged-stmt around k s (omega arith) ⊕ ranged-stmts around (k + stmt_labels s) rest (omega arith)

    ranged-catches : (around : Around) (end target k : ℕ) (cs : PlainCatches) → catches_depth cs ≤ temporaries
        → Ranged (n.catches_lines cx around end target k cs)
    ranged-catches around end target k no_catches h = ranged-nil
    ranged-catches around end target k (more_catches class i body rest) h =
        ranged-place target
        ⊕ (ranged-set_local cx.frame i room
        ⊕ (ranged-stmts around k body (omega arith)
        ⊕ (ranged-jump end ⊕ ranged-catches around end (target + 1) (k + stmts_labels body) rest (omega arith))))

-- ---- bodies

ranged-zero : (frame i k : ℕ) → frame ≤ max_frame → Ranged (zero_locals frame i k)
ranged-zero frame i zero h = ranged-nil
ranged-zero frame i (suc k) h = ranged-zero_local frame i h ⊕ ranged-zero frame (i + 1) k h

ranged-last : (b : Bool) → Ranged (if b then [] else w.small_number 0)
ranged-last true = ranged-nil
ranged-last false = ranged-small_number 0 refl

-- the temporaries lie in the frame
method_room : (b : Bool) (locals depth : ℕ) → b ≡ false → (if b then 0 else frame_size locals depth) ≤ max_frame → depth ≤ temporaries
method_room true locals depth e h = cc
method_room false locals depth e h = omega arith

ranged-method : (c : PlainClass) (x : PlainMethod) → method_frame_size x ≤ max_frame → stmts_depth x.body ≤ temporaries → Ranged (method_lines c x)
unfolding method_lines
ranged-method c x room deep =
    ranged-enter (method_frame_size x) room
    ⊕ (ranged-zero (method_frame_size x) (parameters x) (length x.locals - parameters x) room
    ⊕ (ranged-stmts (method_context c x) room no_loop 0 x.body deep ⊕ (ranged-last (is_void x.result) ⊕ ranged-exit (method_frame_size x) room)))

ranged-superclass : (s : Option (List ℕ)) → Ranged (superclass_lines s)
ranged-superclass None = ranged-nil
ranged-superclass (Some name) = by (is_object_class name)
  where
    by : (b : Bool) → Ranged (if b then [] else w.use_entry (entries.class_entry name) ++ w.initialise)
    by true = ranged-nil
    by false = ranged-use_entry (entries.class_entry name) ⊕ ranged-initialise

ranged-init : (c : PlainClass) → init_frame_size c ≤ max_frame → stmts_depth c.init.body ≤ temporaries → Ranged (init_lines c)
unfolding init_lines
ranged-init c room deep =
    ranged-enter (init_frame_size c) room
    ⊕ (ranged-zero (init_frame_size c) 0 (length c.init.locals) room
    ⊕ (ranged-place 0
    ⊕ (ranged-superclass c.head.superclass
    ⊕ (ranged-stmts (init_context c) room no_loop 3 c.init.body deep
    ⊕ (ranged-region_first
    ⊕ (ranged-service services.init_done refl
    ⊕ (ranged-place 1
    ⊕ (ranged-exit (init_frame_size c) room
    ⊕ (ranged-place 2
    ⊕ (ranged-region_second ⊕ (ranged-service services.init_failed refl ⊕ ranged-service services.throw refl)))))))))))

items_in : (lines : List Line) → Ranged lines → AreItems (items_of lines)
items_in lines r = All-from_recursion IsItem (items_of lines) r.each

pub method_ranged : (c : PlainClass) (x : PlainMethod) → is_abstract x.kind ≡ false → method_frame_size x ≤ max_frame → AreItems (items_of (method_lines c x))
method_ranged c x concrete room =
    items_in (method_lines c x) (ranged-method c x room (method_room (is_abstract x.kind) (length x.locals) (stmts_depth x.body) concrete room))

pub init_ranged : (c : PlainClass) → init_frame_size c ≤ max_frame → AreItems (items_of (init_lines c))
init_ranged c room = items_in (init_lines c) (ranged-init c room (omega arith))

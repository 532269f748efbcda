-- The lines of each expression and statement: one equation a node. A node has its temporaries from `d` on and its labels from
-- `k` on, and so many labels as `Labels` counts; the parts of a node take theirs behind its own, in the order of the code.
use Rattle.std.specs.Prelude.{ℕ, suc, ◌+◌, pos, Bool, true, false, List, [], ◌∷◌, ◌++◌, if◌then◌else◌}
use Rattle.rv_isa.specs.declared.instruction.Instr.TheVariants as instr
use Rattle.rv_isa.specs.Registers.{t1, a0, a1, sp}
use Rattle.rv_steps.specs.Services as services
use Rattle.bcj_symbolic_trees.specs.Types.{PlainMethodRef}
use Rattle.bcj_symbolic_trees.specs.Trees.{PlainExpr, int_value, bool_value, null_value, get_local, set_local, get_static, set_static, get_field, set_field, get_element, set_element, array_length, update_place, unary, binary, and_also, or_else, conditional, new_object, new_array, call_static, call_virtual, call_interface, call_special, cast, widen, instance_of, first_then, print, PlainExprs, no_exprs, more_exprs, PlainPlace, local_place, static_place, field_place, element_place, PlainOption, absent, present, PlainStmt, evaluate, if_else, loop, break_loop, continue_loop, return_with, throw, try_catch, block, PlainStmts, no_stmts, more_stmts, PlainCatches, no_catches, more_catches}
use Rattle.bcj_symbolic_check.specs.Judgements.{Frame, this_local, sort}
use Rattle.bcj_symbolic_measure.specs.Entries.{PlainEntry, type_entry, new_entry, field_offset, method_offset, field_address, static_method, special_method, interface_method}
use Rattle.bcj_symbolic_measure.specs.Scheme.{count, holds_references, is_object_class}
use Rattle.bcj_lower_rules.specs.Lines.{Line, word, place, jump, jump_if_zero, jump_unless_zero}
use Rattle.bcj_lower_rules.specs.Words.{save, load, load_second, set_local_word, get_local_word, small_number, read_at, write_at, move_second, take_entry, call, number, service, null_test, turn, exit, use_entry, initialise, fetch_entry, initialised, field_of_object, element_address, elements_at, store_check, copy, select_method, select_interface_method, instance_test, cast_test, unary_words, operate, print_service, temporary}

-- ---- labels

-- how many labels the lines of a node have
abbrev mutual
  pub expr_labels : PlainExpr → ℕ
  expr_labels (int_value n) = 0
  expr_labels (bool_value b) = 0
  expr_labels null_value = 0
  expr_labels (get_local i) = 0
  expr_labels (set_local i v) = expr_labels v
  expr_labels (get_static f) = 0
  expr_labels (set_static f v) = expr_labels v
  expr_labels (get_field t f) = expr_labels t
  expr_labels (set_field t f v) = expr_labels t + expr_labels v
  expr_labels (get_element a i) = expr_labels a + expr_labels i
  expr_labels (set_element a i v) = expr_labels a + expr_labels i + expr_labels v
  expr_labels (array_length a) = expr_labels a
  expr_labels (update_place p o v post) = place_labels p + expr_labels v
  expr_labels (unary o a) = expr_labels a
  expr_labels (binary o a b) = expr_labels a + expr_labels b
  expr_labels (and_also a b) = 1 + expr_labels a + expr_labels b
  expr_labels (or_else a b) = 1 + expr_labels a + expr_labels b
  expr_labels (conditional c a b) = 2 + expr_labels c + expr_labels a + expr_labels b
  expr_labels (new_object m args) = if is_object_class m.class then 0 else exprs_labels args
  expr_labels (new_array t n) = expr_labels n
  expr_labels (call_static m args) = exprs_labels args
  expr_labels (call_virtual t m args) = expr_labels t + exprs_labels args
  expr_labels (call_interface t m args) = expr_labels t + exprs_labels args
  expr_labels (call_special m args) = exprs_labels args
  expr_labels (cast t a) = 1 + expr_labels a
  expr_labels (widen t a) = expr_labels a
  expr_labels (instance_of a t) = 1 + expr_labels a
  expr_labels (first_then a said b) = expr_labels a + expr_labels b
  expr_labels (print k args) = exprs_labels args

  pub exprs_labels : PlainExprs → ℕ
  exprs_labels no_exprs = 0
  exprs_labels (more_exprs e rest) = expr_labels e + exprs_labels rest

  pub place_labels : PlainPlace → ℕ
  place_labels (local_place i) = 0
  place_labels (static_place f) = 0
  place_labels (field_place t f) = expr_labels t
  place_labels (element_place a i) = expr_labels a + expr_labels i

abbrev pub option_labels : PlainOption → ℕ
option_labels absent = 0
option_labels (present e) = expr_labels e

abbrev pub catch_count : PlainCatches → ℕ
catch_count no_catches = 0
catch_count (more_catches class i body rest) = suc (catch_count rest)

-- the labels of an `if`, of a loop, and of a `try` beside those of its catches
abbrev pub if_labels : ℕ
if_labels = 2

abbrev pub loop_labels : ℕ
loop_labels = 3

abbrev pub try_labels : ℕ
try_labels = 3

abbrev mutual
  pub stmt_labels : PlainStmt → ℕ
  stmt_labels (evaluate e) = expr_labels e
  stmt_labels (if_else c a b) = if_labels + expr_labels c + stmt_labels a + stmt_labels b
  stmt_labels (loop false c body update) = loop_labels + expr_labels c + stmt_labels body + exprs_labels update
  stmt_labels (loop true c body update) = loop_labels + stmt_labels body + expr_labels c
  stmt_labels break_loop = 0
  stmt_labels continue_loop = 0
  stmt_labels (return_with v) = option_labels v
  stmt_labels (throw e) = expr_labels e
  stmt_labels (try_catch body catches) = try_labels + catch_count catches + stmts_labels body + catches_labels catches
  stmt_labels (block body) = stmts_labels body

  pub stmts_labels : PlainStmts → ℕ
  stmts_labels no_stmts = 0
  stmts_labels (more_stmts s rest) = stmt_labels s + stmts_labels rest

  -- those in the blocks of catches
  pub catches_labels : PlainCatches → ℕ
  catches_labels no_catches = 0
  catches_labels (more_catches class i body rest) = stmts_labels body + catches_labels rest

-- ---- lines

-- what a body's lines are made in: the typing of its parts, and the words of its frame
pub record Context : Type 0 where
  pub typing : Frame
  pub frame : ℕ

-- where a loop is left, and where its next turn is prepared
pub record Around : Type 0 where
  pub leave : ℕ
  pub again : ℕ

-- a truth value
abbrev pub truth : Bool → List Line
truth true = small_number 1
truth false = small_number 0

-- a null test where it is said
abbrev pub tested : Bool → List Line
tested true = null_test
tested false = []

-- with `post` the old value, which a temporary has, is the result
abbrev pub old_value : Bool → ℕ → List Line
old_value true d = load d
old_value false d = []

-- how many temporaries hold what leads to a place
abbrev pub place_saves : PlainPlace → ℕ
place_saves (local_place i) = 0
place_saves (static_place f) = 0
place_saves (field_place t f) = 1
place_saves (element_place a i) = 2

-- an element of the array in temporary d is about to be read or written, with its index in a0
unfoldable pub index_of_saved : ℕ → List Line
index_of_saved d = move_second ++ (load d ++ element_address)

module _ (cx : Context) where
  -- the store of a0 to the place of an update: an entry is fetched again, and the object, or array and index, come from d on
  unfoldable pub write_lines : ℕ → PlainPlace → List Line
  write_lines d (local_place i) = set_local_word cx.frame i
  write_lines d (static_place f) = fetch_entry (field_address f) ++ write_at 0
  write_lines d (field_place t f) = fetch_entry (field_offset f) ++ (load_second d ++ (word (instr.Add t1 a1 t1) ∷ write_at 0))
  write_lines d (element_place a i) =
      word (instr.Lw t1 sp (temporary (d + 1)))
      ∷ word (instr.Slli t1 t1 (pos 2))
      ∷ (load_second d ++ (word (instr.Add t1 a1 t1) ∷ write_at elements_at))

  -- the value of a static field
  unfoldable pub static_lines : PlainEntry → List Line
  static_lines e = initialised e ++ read_at 0

  -- the value of an instance field of the object that a0 has, kept in temporary d
  unfoldable pub field_lines : ℕ → PlainEntry → List Line
  field_lines d e = save d ++ (use_entry e ++ (field_of_object a0 d ++ word (instr.Lw a0 a0 (pos 0)) ∷ []))

  -- an object is made, and a constructor is called with it and the arguments behind it
  unfoldable pub made : PlainMethodRef → List Line
  made m = initialised (new_entry m.class) ++ (take_entry ++ service services.new)

  abbrev mutual
    pub expr_lines : ℕ → ℕ → PlainExpr → List Line
    expr_lines d k (int_value n) = number n
    expr_lines d k (bool_value b) = truth b
    expr_lines d k null_value = small_number 0
    expr_lines d k (get_local i) = get_local_word cx.frame i
    expr_lines d k (set_local i v) = expr_lines d k v ++ set_local_word cx.frame i
    expr_lines d k (get_static f) = static_lines (field_address f)
    expr_lines d k (set_static f v) =
        expr_lines d k v ++ (save d ++ (initialised (field_address f) ++ (load d ++ write_at 0)))
    expr_lines d k (get_field t f) = expr_lines d k t ++ field_lines d (field_offset f)
    expr_lines d k (set_field t f v) =
        expr_lines d k t
        ++ (save d
        ++ (expr_lines (d + 1) (k + expr_labels t) v
        ++ (save (d + 1) ++ (use_entry (field_offset f) ++ (field_of_object t1 d ++ (load (d + 1) ++ write_at 0))))))
    expr_lines d k (get_element a i) =
        expr_lines d k a
        ++ (save d ++ (expr_lines (d + 1) (k + expr_labels a) i ++ (index_of_saved d ++ read_at elements_at)))
    expr_lines d k (set_element a i v) =
        expr_lines d k a
        ++ (save d
        ++ (expr_lines (d + 1) (k + expr_labels a) i
        ++ (save (d + 1)
        ++ (expr_lines (d + 2) (k + expr_labels a + expr_labels i) v
        ++ (save (d + 2)
        ++ (load_second (d + 1)
        ++ (load d
        ++ (element_address
        ++ ((if holds_references (sort cx.typing a) then store_check d else []) ++ (load (d + 2) ++ write_at elements_at))))))))))
    expr_lines d k (array_length a) = expr_lines d k a ++ (null_test ++ word (instr.Lw a0 a0 (pos 4)) ∷ [])
    expr_lines d k (update_place p o v post) =
        read_lines d k p
        ++ (save (d + place_saves p)
        ++ (expr_lines (d + place_saves p + 1) (k + place_labels p) v
        ++ (operate o (d + place_saves p) ++ (write_lines d p ++ old_value post (d + place_saves p)))))
    expr_lines d k (unary o a) = expr_lines d k a ++ unary_words o
    expr_lines d k (binary o a b) = expr_lines d k a ++ (save d ++ (expr_lines (d + 1) (k + expr_labels a) b ++ operate o d))
    expr_lines d k (and_also a b) =
        expr_lines d (k + 1) a ++ (jump_if_zero k ++ (expr_lines d (k + 1 + expr_labels a) b ++ place k))
    expr_lines d k (or_else a b) =
        expr_lines d (k + 1) a ++ (jump_unless_zero k ++ (expr_lines d (k + 1 + expr_labels a) b ++ place k))
    expr_lines d k (conditional c a b) =
        expr_lines d (k + 2) c
        ++ (jump_if_zero k
        ++ (expr_lines d (k + 2 + expr_labels c) a
        ++ (jump (k + 1) ++ (place k ++ (expr_lines d (k + 2 + expr_labels c + expr_labels a) b ++ place (k + 1))))))
    expr_lines d k (new_object m args) =
        made m
        ++ (if is_object_class m.class
        then []
        else save d
        ++ (args_lines (d + 1) k args
        ++ (use_entry (special_method m) ++ (copy d (suc (count args)) ++ (call ++ load d)))))
    expr_lines d k (new_array t n) =
        expr_lines d k n ++ (save d ++ (use_entry (type_entry t) ++ (load_second d ++ (take_entry ++ service services.new_array))))
    expr_lines d k (call_static m args) =
        args_lines d k args
        ++ (use_entry (static_method m) ++ (initialise ++ (copy d (count args) ++ (fetch_entry (static_method m) ++ call))))
    expr_lines d k (call_virtual t m args) =
        expr_lines d k t
        ++ (save d
        ++ (args_lines (d + 1) (k + expr_labels t) args
        ++ (use_entry (method_offset m) ++ (select_method d ++ (copy d (suc (count args)) ++ call)))))
    expr_lines d k (call_interface t m args) =
        expr_lines d k t
        ++ (save d
        ++ (args_lines (d + 1) (k + expr_labels t) args
        ++ (use_entry (interface_method m) ++ (select_interface_method d ++ (copy d (suc (count args)) ++ call)))))
    expr_lines d k (call_special m args) =
        get_local_word cx.frame this_local
        ++ (save d ++ (args_lines (d + 1) k args ++ (use_entry (special_method m) ++ (copy d (suc (count args)) ++ call))))
    expr_lines d k (cast t a) =
        expr_lines d (k + 1) a
        ++ (save d
        ++ (jump_if_zero k ++ (use_entry (type_entry t) ++ (instance_test d ++ (cast_test ++ (place k ++ load d))))))
    expr_lines d k (widen t a) = expr_lines d k a
    expr_lines d k (instance_of a t) =
        expr_lines d (k + 1) a
        ++ (save d ++ (jump_if_zero k ++ (use_entry (type_entry t) ++ (instance_test d ++ place k))))
    expr_lines d k (first_then a said b) = expr_lines d k a ++ (tested said ++ expr_lines d (k + expr_labels a) b)
    expr_lines d k (print kind args) = exprs_lines d k args ++ service (print_service kind)

    -- one behind the other
    pub exprs_lines : ℕ → ℕ → PlainExprs → List Line
    exprs_lines d k no_exprs = []
    exprs_lines d k (more_exprs e rest) = expr_lines d k e ++ exprs_lines d (k + expr_labels e) rest

    -- arguments, each saved
    pub args_lines : ℕ → ℕ → PlainExprs → List Line
    args_lines d k no_exprs = []
    args_lines d k (more_exprs e rest) = expr_lines d k e ++ (save d ++ args_lines (d + 1) (k + expr_labels e) rest)

    -- what an update reads, up to its old value
    pub read_lines : ℕ → ℕ → PlainPlace → List Line
    read_lines d k (local_place i) = get_local_word cx.frame i
    read_lines d k (static_place f) = static_lines (field_address f)
    read_lines d k (field_place t f) = expr_lines d k t ++ field_lines d (field_offset f)
    read_lines d k (element_place a i) =
        expr_lines d k a
        ++ (save d
        ++ (expr_lines (d + 1) (k + expr_labels a) i ++ (save (d + 1) ++ (index_of_saved d ++ read_at elements_at))))

  abbrev pub option_lines : ℕ → PlainOption → List Line
  option_lines k absent = []
  option_lines k (present e) = expr_lines 0 k e

  abbrev mutual
    pub stmt_lines : Around → ℕ → PlainStmt → List Line
    stmt_lines around k (evaluate e) = expr_lines 0 k e
    stmt_lines around k (if_else c a b) =
        expr_lines 0 (k + if_labels) c
        ++ (jump_if_zero k
        ++ (stmt_lines around (k + if_labels + expr_labels c) a
        ++ (jump (k + 1)
        ++ (place k ++ (stmt_lines around (k + if_labels + expr_labels c + stmt_labels a) b ++ place (k + 1))))))
    stmt_lines around k (loop false c body update) =
        place k
        ++ (turn
        ++ (expr_lines 0 (k + loop_labels) c
        ++ (jump_if_zero (k + 1)
        ++ (stmt_lines (record { leave = k + 1; again = k + 2 }) (k + loop_labels + expr_labels c) body
        ++ (place (k + 2)
        ++ (exprs_lines 0 (k + loop_labels + expr_labels c + stmt_labels body) update ++ (jump k ++ place (k + 1))))))))
    stmt_lines around k (loop true c body update) =
        place k
        ++ (turn
        ++ (stmt_lines (record { leave = k + 1; again = k + 2 }) (k + loop_labels) body
        ++ (place (k + 2)
        ++ (expr_lines 0 (k + loop_labels + stmt_labels body) c ++ (jump_if_zero (k + 1) ++ (jump k ++ place (k + 1)))))))
    stmt_lines around k break_loop = jump around.leave
    stmt_lines around k continue_loop = jump around.again
    stmt_lines around k (return_with v) = option_lines k v ++ exit cx.frame
    stmt_lines around k (throw e) = expr_lines 0 k e ++ service services.throw
    stmt_lines around k (try_catch body catches) =
        place k
        ++ (stmts_lines around (k + try_labels + catch_count catches) body
        ++ (place (k + 1)
        ++ (jump (k + 2)
        ++ (catches_lines around (k + 2) (k + try_labels) (k + try_labels + catch_count catches + stmts_labels body) catches
        ++ place (k + 2)))))
    stmt_lines around k (block body) = stmts_lines around k body

    pub stmts_lines : Around → ℕ → PlainStmts → List Line
    stmts_lines around k no_stmts = []
    stmts_lines around k (more_stmts s rest) = stmt_lines around k s ++ stmts_lines around (k + stmt_labels s) rest

    -- each catch stands at a label from `target` on, keeps the thrown object in its local, and goes to the end of the `try`
    pub catches_lines : Around → (end target k : ℕ) → PlainCatches → List Line
    catches_lines around end target k no_catches = []
    catches_lines around end target k (more_catches class i body rest) =
        place target
        ++ (set_local_word cx.frame i
        ++ (stmts_lines around k body
        ++ (jump end ++ catches_lines around end (target + 1) (k + stmts_labels body) rest)))

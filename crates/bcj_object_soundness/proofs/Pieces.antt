-- The pieces of each expression have no range, and each entry that pieces use names what its role asks for.
use Rattle.std.proofs.Common.{◌≡◌, refl, ℕ, ◌+◌, ◌*◌, Bool, true, false, List, [], ◌∷◌, ◌++◌, if◌then◌else◌, Option, Some, None, arith}
use Rattle.bcj_symbolic_trees.specs.Types.{PlainMethodRef}
use Rattle.bcj_symbolic_trees.specs.Trees.{PlainExpr, int_value, bool_value, null_value, get_local, set_local, get_static, set_static, get_field, set_field, get_element, set_element, array_length, update_place, unary, binary, and_also, or_else, conditional, new_object, new_array, call_static, call_virtual, call_interface, call_special, cast, widen, instance_of, first_then, print, PlainExprs, no_exprs, more_exprs, PlainPlace, local_place, static_place, field_place, element_place, PlainOption, absent, present, PlainStmt, evaluate, if_else, loop, break_loop, continue_loop, return_with, throw, try_catch, block, PlainStmts, no_stmts, more_stmts, PlainCatches, no_catches, more_catches}
use Rattle.bcj_symbolic_trees.specs.Units.{PlainMethod, PlainClass}
use Rattle.bcj_symbolic_check.specs.Judgements.{Frame}
use Rattle.bcj_symbolic_check.specs.Classes.{is_abstract, init_frame, method_frame}
use Rattle.bcj_symbolic_measure.specs.Entries.{PlainEntry, u32_size, string_size}
use Rattle.bcj_symbolic_measure.specs.Entries as entries
use Rattle.bcj_symbolic_measure.specs.Scheme as m
use Rattle.bcj_symbolic_measure.specs.Scheme.{Piece, plain, usage, fetch, count, is_object_class}
use Rattle.bcj_symbolic_measure.specs.Bodies as measured
use Rattle.bcj_symbolic_measure.specs.Bodies.{piece_ranges, piece_uses, ranges_size, uses}
use Rattle.bcj_lower_rules.specs.Nodes.{expr_labels, stmt_labels, stmts_labels, catch_count}
use Rattle.bcj_lower_rules.specs.Ranges.{LabelRange, own_ranges, stmt_ranges, stmts_ranges, catches_ranges}
use Rattle.bcj_lower_rules.specs.Bodies.{init_labels, init_range}
use Rattle.bcj_tables_rules.specs.Spelling.{text_of_option}
use Rattle.bcj_object_soundness.proofs.Tables.{weigh, weigh-append, impropriety}

-- ---- sums

unfoldable pub range_bytes : List Piece → ℕ
range_bytes ps = ranges_size ps

pub ranges-nil : range_bytes [] ≡ 0
unfolding range_bytes
ranges-nil = refl

pub ranges-cons : (p : Piece) (ps : List Piece) → range_bytes (p ∷ ps) ≡ piece_ranges p + range_bytes ps
unfolding range_bytes
ranges-cons p ps = refl

pub ranges-append : (a b : List Piece) → range_bytes (a ++ b) ≡ range_bytes a + range_bytes b
unfolding range_bytes
ranges-append [] b = omega arith
ranges-append (p ∷ a) b = omega (arith, ranges-append a b)

unfoldable pub improper : List Piece → ℕ
improper ps = weigh impropriety (uses ps)

pub improper-nil : improper [] ≡ 0
unfolding improper
improper-nil = refl

pub improper-cons : (p : Piece) (ps : List Piece) → improper (p ∷ ps) ≡ weigh impropriety (piece_uses p) + improper ps
unfolding improper
improper-cons p ps = weigh-append impropriety (piece_uses p) (uses ps)

pub improper-append : (a b : List Piece) → improper (a ++ b) ≡ improper a + improper b
improper-append [] b = omega (arith, improper-nil)
improper-append (p ∷ a) b = omega (arith, improper-append a b, improper-cons p a, improper-cons p (a ++ b))

-- the bytes of a range in the records, by the class that it catches
abbrev pub range_size : Option (List ℕ) → ℕ
range_size class = 4 * u32_size + string_size (text_of_option class)

unfoldable pub label_bytes : List LabelRange → ℕ
label_bytes [] = 0
label_bytes (r ∷ rs) = range_size r.class + label_bytes rs

labels-nil : label_bytes [] ≡ 0
unfolding label_bytes
labels-nil = refl

labels-cons : (r : LabelRange) (rs : List LabelRange) → label_bytes (r ∷ rs) ≡ range_size r.class + label_bytes rs
unfolding label_bytes
labels-cons r rs = refl

labels-append : (a b : List LabelRange) → label_bytes (a ++ b) ≡ label_bytes a + label_bytes b
unfolding label_bytes
labels-append [] b = omega arith
labels-append (r ∷ a) b = omega (arith, labels-append a b)

ruleset labels = (labels-nil, labels-cons, labels-append)

ruleset sums = (ranges-nil, ranges-cons, ranges-append, improper-nil, improper-cons, improper-append)

-- ---- expressions

-- what an expression's pieces have of both
abbrev noise : List Piece → ℕ
noise ps = range_bytes ps + improper ps

module _ (frame : Frame) where
  -- with a constructor or without
  quiet-new : (b : Bool) (r : PlainMethodRef) (k : ℕ) (args : List Piece) → noise args ≡ 0
      → noise (usage (entries.new_entry r.class) ∷ plain m.initialise ∷ fetch (entries.new_entry r.class) ∷ plain (m.compute + m.service)
      ∷ (if b then [] else plain m.save ∷ (args ++ (usage (entries.special_method r) ∷ plain (m.copy_with_target k) ∷ plain (m.call + m.load) ∷ []))))
      ≡ 0
  quiet-new true r k args h = simp sums (omega arith)
  quiet-new false r k args h = simp sums (omega (arith, h))

  mutual
    quiet-expr : (e : PlainExpr) → noise (m.expr_pieces frame e) ≡ 0
    quiet-expr (int_value z) = simp sums (omega arith)
    quiet-expr (bool_value b) = simp sums (omega arith)
    quiet-expr null_value = simp sums (omega arith)
    quiet-expr (get_local i) = simp sums (omega arith)
    quiet-expr (set_local i v) = simp sums (omega (arith, quiet-expr v))
    quiet-expr (get_static f) = simp sums (omega arith)
    quiet-expr (set_static f v) = simp sums (omega (arith, quiet-expr v))
    quiet-expr (get_field t f) = simp sums (omega (arith, quiet-expr t))
    quiet-expr (set_field t f v) = simp sums (omega (arith, quiet-expr t, quiet-expr v))
    quiet-expr (get_element a i) = simp sums (omega (arith, quiet-expr a, quiet-expr i))
    quiet-expr (set_element a i v) = simp sums (omega (arith, quiet-expr a, quiet-expr i, quiet-expr v))
    quiet-expr (array_length a) = simp sums (omega (arith, quiet-expr a))
    quiet-expr (update_place p o v post) = simp sums (omega (arith, quiet-read p, quiet-expr v, quiet-write p))
    quiet-expr (unary o a) = simp sums (omega (arith, quiet-expr a))
    quiet-expr (binary o a b) = simp sums (omega (arith, quiet-expr a, quiet-expr b))
    quiet-expr (and_also a b) = simp sums (omega (arith, quiet-expr a, quiet-expr b))
    quiet-expr (or_else a b) = simp sums (omega (arith, quiet-expr a, quiet-expr b))
    quiet-expr (conditional c a b) = simp sums (omega (arith, quiet-expr c, quiet-expr a, quiet-expr b))
    quiet-expr (new_object r args) = quiet-new (is_object_class r.class) r (count args) (m.args_pieces frame args) (quiet-args args)
    quiet-expr (new_array t l) = simp sums (omega (arith, quiet-expr l))
    quiet-expr (call_static r args) = simp sums (omega (arith, quiet-args args))
    quiet-expr (call_virtual t r args) = simp sums (omega (arith, quiet-expr t, quiet-args args))
    quiet-expr (call_interface t r args) = simp sums (omega (arith, quiet-expr t, quiet-args args))
    quiet-expr (call_special r args) = simp sums (omega (arith, quiet-args args))
    quiet-expr (cast t a) = simp sums (omega (arith, quiet-expr a))
    quiet-expr (widen t a) = quiet-expr a
    quiet-expr (instance_of a t) = simp sums (omega (arith, quiet-expr a))
    quiet-expr (first_then a said b) = simp sums (omega (arith, quiet-expr a, quiet-expr b))
    quiet-expr (print k args) = simp sums (omega (arith, quiet-exprs args))

    quiet-exprs : (es : PlainExprs) → noise (m.exprs_pieces frame es) ≡ 0
    quiet-exprs no_exprs = simp sums (omega arith)
    quiet-exprs (more_exprs e rest) = simp sums (omega (arith, quiet-expr e, quiet-exprs rest))

    quiet-args : (es : PlainExprs) → noise (m.args_pieces frame es) ≡ 0
    quiet-args no_exprs = simp sums (omega arith)
    quiet-args (more_exprs e rest) = simp sums (omega (arith, quiet-expr e, quiet-args rest))

    quiet-read : (p : PlainPlace) → noise (m.read_pieces frame p) ≡ 0
    quiet-read (local_place i) = simp sums (omega arith)
    quiet-read (static_place f) = simp sums (omega arith)
    quiet-read (field_place t f) = simp sums (omega (arith, quiet-expr t))
    quiet-read (element_place a i) = simp sums (omega (arith, quiet-expr a, quiet-expr i))

    quiet-write : (p : PlainPlace) → noise (m.write_pieces frame p) ≡ 0
    quiet-write (local_place i) = simp sums (omega arith)
    quiet-write (static_place f) = simp sums (omega arith)
    quiet-write (field_place t f) = simp sums (omega arith)
    quiet-write (element_place a i) = simp sums (omega arith)

  quiet-option : (o : PlainOption) → noise (m.option_pieces frame o) ≡ 0
  quiet-option absent = simp sums (omega arith)
  quiet-option (present e) = quiet-expr e

  -- ---- statements: each use is proper, and the ranges have the bytes that are measured

  mutual
    proper-stmt : (s : PlainStmt) → improper (m.stmt_pieces frame s) ≡ 0
    proper-stmt (evaluate e) = omega (arith, quiet-expr e)
    proper-stmt (if_else c a b) = simp sums (omega (arith, quiet-expr c, proper-stmt a, proper-stmt b))
    proper-stmt (loop false c body update) = simp sums (omega (arith, quiet-expr c, proper-stmt body, quiet-exprs update))
    proper-stmt (loop true c body update) = simp sums (omega (arith, proper-stmt body, quiet-expr c))
    proper-stmt break_loop = simp sums (omega arith)
    proper-stmt continue_loop = simp sums (omega arith)
    proper-stmt (return_with v) = simp sums (omega (arith, quiet-option v))
    proper-stmt (throw e) = simp sums (omega (arith, quiet-expr e))
    proper-stmt (try_catch body catches) = simp sums (omega (arith, proper-stmts body, proper-catches catches))
    proper-stmt (block body) = proper-stmts body

    proper-stmts : (ss : PlainStmts) → improper (m.stmts_pieces frame ss) ≡ 0
    proper-stmts no_stmts = simp sums (omega arith)
    proper-stmts (more_stmts s rest) = simp sums (omega (arith, proper-stmt s, proper-stmts rest))

    proper-catches : (cs : PlainCatches) → improper (m.catches_pieces frame cs) ≡ 0
    proper-catches no_catches = simp sums (omega arith)
    proper-catches (more_catches class i body rest) = simp sums (omega (arith, proper-stmts body, proper-catches rest))

  mutual
    spelled-stmt : (k : ℕ) (s : PlainStmt) → label_bytes (stmt_ranges k s) ≡ range_bytes (m.stmt_pieces frame s)
    spelled-stmt k (evaluate e) = simp labels (omega (arith, quiet-expr e))
    spelled-stmt k (if_else c a b) =
        simp (sums, labels)
        (omega (
          arith,
          quiet-expr c,
          spelled-stmt (k + 2 + expr_labels c) a,
          spelled-stmt (k + 2 + expr_labels c + stmt_labels a) b,
        ))
    spelled-stmt k (loop false c body update) =
        simp sums (omega (arith, quiet-expr c, spelled-stmt (k + 3 + expr_labels c) body, quiet-exprs update))
    spelled-stmt k (loop true c body update) = simp sums (omega (arith, spelled-stmt (k + 3) body, quiet-expr c))
    spelled-stmt k break_loop = simp (sums, labels) (omega arith)
    spelled-stmt k continue_loop = simp (sums, labels) (omega arith)
    spelled-stmt k (return_with v) = simp (sums, labels) (omega (arith, quiet-option v))
    spelled-stmt k (throw e) = simp (sums, labels) (omega (arith, quiet-expr e))
    spelled-stmt k (try_catch body catches) =
        simp (sums, labels)
        (omega (
          arith,
          spelled-stmts (k + 3 + catch_count catches) body,
          spelled-catches k (k + 1) (k + 3) (k + 3 + catch_count catches + stmts_labels body) catches,
        ))
    spelled-stmt k (block body) = spelled-stmts k body

    spelled-stmts : (k : ℕ) (ss : PlainStmts) → label_bytes (stmts_ranges k ss) ≡ range_bytes (m.stmts_pieces frame ss)
    spelled-stmts k no_stmts = simp (sums, labels) (omega arith)
    spelled-stmts k (more_stmts s rest) = simp (sums, labels) (omega (arith, spelled-stmt k s, spelled-stmts (k + stmt_labels s) rest))

    -- those in the blocks of catches, and those of the catches themselves
    spelled-catches : (start end target k : ℕ) (cs : PlainCatches)
        → label_bytes (catches_ranges k cs) + label_bytes (own_ranges start end target cs) ≡ range_bytes (m.catches_pieces frame cs)
    spelled-catches start end target k no_catches = simp (sums, labels) (omega arith)
    spelled-catches start end target k (more_catches class i body rest) =
        simp (sums, labels) (omega (arith, spelled-stmts k body, spelled-catches start end (target + 1) (k + stmts_labels body) rest))

-- ---- bodies

pub proper-method : (c : PlainClass) (x : PlainMethod) → improper (measured.method_pieces c x) ≡ 0
proper-method c x = by (is_abstract x.kind)
  where
    by : (b : Bool)
        → improper (if b then [] else plain m.entry ∷ plain (measured.zeroed x) ∷ (m.stmts_pieces (method_frame c x) x.body ++ (plain (measured.last_value x.result) ∷ plain m.exit ∷ [])))
        ≡ 0
    by true = improper-nil
    by false = simp sums (omega (arith, proper-stmts (method_frame c x) x.body))

proper-superclass : (s : Option (List ℕ)) → noise (measured.superclass_pieces s) ≡ 0
proper-superclass None = simp sums (omega arith)
proper-superclass (Some name) = by (is_object_class name)
  where
    by : (b : Bool) → noise (if b then [] else usage (entries.class_entry name) ∷ plain m.initialise ∷ []) ≡ 0
    by true = simp sums (omega arith)
    by false = simp sums (omega arith)

pub proper-init : (c : PlainClass) → improper (measured.init_pieces c) ≡ 0
proper-init c = simp sums (omega (arith, proper-superclass c.head.superclass, proper-stmts (init_frame c) c.init.body))

pub spelled-method : (c : PlainClass) (x : PlainMethod) → is_abstract x.kind ≡ false → label_bytes (stmts_ranges 0 x.body) ≡ range_bytes (measured.method_pieces c x)
spelled-method c x h = by (is_abstract x.kind) h
  where
    by : (b : Bool) → b ≡ false
        → label_bytes (stmts_ranges 0 x.body)
        ≡ range_bytes (if b then [] else plain m.entry ∷ plain (measured.zeroed x) ∷ (m.stmts_pieces (method_frame c x) x.body ++ (plain (measured.last_value x.result) ∷ plain m.exit ∷ [])))
    by true e = cc
    by false e = simp sums (omega (arith, spelled-stmts (method_frame c x) 0 x.body))

pub spelled-init : (c : PlainClass) → label_bytes (stmts_ranges init_labels c.init.body ++ init_range ∷ []) ≡ range_bytes (measured.init_pieces c)
spelled-init c = simp (sums, labels) (omega (arith, proper-superclass c.head.superclass, spelled-stmts (init_frame c) 3 c.init.body))

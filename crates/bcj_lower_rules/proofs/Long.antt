-- The words of lines, with all jumps long: of two lists one behind the other, and of what recurs.
use Rattle.std.specs.Prelude.{ℤ}
use Rattle.std.proofs.Common.{◌≡◌, refl, ℕ, zero, suc, ◌+◌, ◌*◌, List, [], ◌∷◌, ◌++◌, arith}
use Rattle.bcj_asm.specs.declared.forms.Form.TheVariants.{Long}
use Rattle.bcj_asm.specs.Forms.{size}
use Rattle.bcj_symbolic_trees.specs.declared.expression.UnaryOp.{UnaryOp}
use Rattle.bcj_symbolic_trees.specs.declared.expression.BinaryOp.{BinaryOp}
use Rattle.bcj_symbolic_trees.specs.declared.expression.BinaryOp.TheVariants as op
use Rattle.bcj_symbolic_measure.specs.Entries.{PlainEntry}
use Rattle.bcj_symbolic_measure.specs.Scheme.{Piece, operation}
use Rattle.bcj_symbolic_measure.specs.Bodies.{piece_words, words}
use Rattle.bcj_lower_rules.specs.Lines.{Line}
use Rattle.bcj_lower_rules.specs.Words as w
use Rattle.bcj_lower_rules.specs.Nodes as n
use Rattle.bcj_lower_rules.specs.Bodies.{long_words}

-- ---- sums

pub long-nil : long_words [] ≡ 0
unfolding long_words
long-nil = refl

pub long-cons : (l : Line) (ls : List Line) → long_words (l ∷ ls) ≡ size Long l.item + long_words ls
unfolding long_words
long-cons l ls = refl

pub long-append : (a b : List Line) → long_words (a ++ b) ≡ long_words a + long_words b
unfolding long_words
long-append [] b = omega arith
long-append (l ∷ a) b = omega (arith, long-append a b)

unfoldable pub total : List Piece → ℕ
total ps = words ps

pub total-nil : total [] ≡ 0
unfolding total
total-nil = refl

pub total-cons : (p : Piece) (ps : List Piece) → total (p ∷ ps) ≡ piece_words p + total ps
unfolding total
total-cons p ps = refl

pub total-append : (a b : List Piece) → total (a ++ b) ≡ total a + total b
unfolding total
total-append [] b = omega arith
total-append (p ∷ a) b = omega (arith, total-append a b)

-- ---- what recurs

pub long-save : (d : ℕ) → long_words (w.save d) ≡ 1
unfolding long_words w.save
long-save d = refl

pub long-load : (d : ℕ) → long_words (w.load d) ≡ 1
unfolding long_words w.load
long-load d = refl

pub long-load_second : (d : ℕ) → long_words (w.load_second d) ≡ 1
unfolding long_words w.load_second
long-load_second d = refl

pub long-set_local : (frame i : ℕ) → long_words (w.set_local_word frame i) ≡ 1
unfolding long_words w.set_local_word
long-set_local frame i = refl

pub long-get_local : (frame i : ℕ) → long_words (w.get_local_word frame i) ≡ 1
unfolding long_words w.get_local_word
long-get_local frame i = refl

pub long-small_number : (k : ℕ) → long_words (w.small_number k) ≡ 1
unfolding long_words w.small_number
long-small_number k = refl

pub long-read_at : (k : ℕ) → long_words (w.read_at k) ≡ 1
unfolding long_words w.read_at
long-read_at k = refl

pub long-write_at : (k : ℕ) → long_words (w.write_at k) ≡ 1
unfolding long_words w.write_at
long-write_at k = refl

pub long-take_entry : long_words w.take_entry ≡ 1
unfolding long_words w.take_entry
long-take_entry = refl

pub long-call : long_words w.call ≡ 1
unfolding long_words w.call
long-call = refl

pub long-number : (z : ℤ) → long_words (w.number z) ≡ 2
unfolding long_words w.number
long-number z = refl

pub long-service : (k : ℕ) → long_words (w.service k) ≡ 2
unfolding long_words w.service
long-service k = refl

pub long-null_test : long_words w.null_test ≡ 3
unfolding long_words w.null_test
long-null_test = refl

pub long-turn : long_words w.turn ≡ 5
unfolding long_words w.turn
long-turn = refl

pub long-enter : (frame : ℕ) → long_words (w.enter frame) ≡ 12
unfolding long_words w.enter
long-enter frame = refl

pub long-exit : (frame : ℕ) → long_words (w.exit frame) ≡ 4
unfolding long_words w.exit
long-exit frame = refl

pub long-use_entry : (e : PlainEntry) → long_words (w.use_entry e) ≡ 6
unfolding long_words w.use_entry
long-use_entry e = refl

pub long-initialise : long_words w.initialise ≡ 4
unfolding long_words w.initialise
long-initialise = refl

pub long-fetch_entry : (e : PlainEntry) → long_words (w.fetch_entry e) ≡ 2
unfolding long_words w.fetch_entry
long-fetch_entry e = refl

pub long-initialised : (e : PlainEntry) → long_words (w.initialised e) ≡ 12
unfolding long_words w.initialised w.use_entry w.initialise w.fetch_entry
long-initialised e = refl

pub long-region_first : long_words w.region_first ≡ 2
unfolding long_words w.region_first
long-region_first = refl

pub long-region_second : long_words w.region_second ≡ 2
unfolding long_words w.region_second
long-region_second = refl

pub long-field_of_object : (r d : ℕ) → long_words (w.field_of_object r d) ≡ 5
unfolding long_words w.field_of_object w.load w.null_test
long-field_of_object r d = refl

pub long-element_address : long_words w.element_address ≡ 10
unfolding long_words w.element_address
long-element_address = refl

pub long-store_check : (d : ℕ) → long_words (w.store_check d) ≡ 4
unfolding long_words w.store_check w.load w.load_second w.service
long-store_check d = refl

pub long-select_method : (d : ℕ) → long_words (w.select_method d) ≡ 11
unfolding long_words w.select_method w.load w.null_test
long-select_method d = refl

pub long-select_interface_method : (d : ℕ) → long_words (w.select_interface_method d) ≡ 22
unfolding long_words w.select_interface_method w.load w.null_test
long-select_interface_method d = refl

pub long-instance_test : (d : ℕ) → long_words (w.instance_test d) ≡ 16
unfolding long_words w.instance_test
long-instance_test d = refl

pub long-cast_test : long_words w.cast_test ≡ 4
unfolding long_words w.cast_test
long-cast_test = refl

pub long-unary_words : (o : UnaryOp) → long_words (w.unary_words o) ≡ 1
unfolding long_words w.unary_words
long-unary_words o = refl

pub long-operate : (o : BinaryOp) (d : ℕ) → long_words (w.operate o d) ≡ operation o
unfolding long_words w.operate w.move_second w.load
long-operate op.Or d = refl
long-operate op.Xor d = refl
long-operate op.And d = refl
long-operate op.Eq d = refl
long-operate op.Ne d = refl
long-operate op.Lt d = refl
long-operate op.Gt d = refl
long-operate op.Le d = refl
long-operate op.Ge d = refl
long-operate op.Shl d = refl
long-operate op.Shr d = refl
long-operate op.Ushr d = refl
long-operate op.Add d = refl
long-operate op.Sub d = refl
long-operate op.Mul d = refl
long-operate op.Div d = refl
long-operate op.Rem d = refl

pub long-index_of_saved : (d : ℕ) → long_words (n.index_of_saved d) ≡ 12
unfolding long_words n.index_of_saved w.move_second w.load w.element_address
long-index_of_saved d = refl

long-copy_from : (d j k : ℕ) → long_words (w.copy_from d j k) ≡ 2 * k
unfolding long_words
long-copy_from d j zero = refl
long-copy_from d j (suc k) = omega (arith, long-copy_from d (j + 1) k)

pub long-copy : (d k : ℕ) → long_words (w.copy d k) ≡ 2 * k
unfolding w.copy
long-copy d k = long-copy_from d 0 k

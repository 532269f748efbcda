-- How many lines have a half of an address where they have no room for it: of two lists one behind the other, and of what recurs.
use Rattle.std.specs.Prelude.{ℤ}
use Rattle.std.proofs.Common.{◌≡◌, refl, ℕ, zero, suc, ◌+◌, List, [], ◌∷◌, ◌++◌, arith}
use Rattle.bcj_symbolic_trees.specs.declared.expression.UnaryOp.{UnaryOp}
use Rattle.bcj_symbolic_trees.specs.declared.expression.BinaryOp.{BinaryOp}
use Rattle.bcj_symbolic_trees.specs.declared.expression.BinaryOp.TheVariants as op
use Rattle.bcj_symbolic_measure.specs.Entries.{PlainEntry}
use Rattle.bcj_lower_rules.specs.Lines.{Line}
use Rattle.bcj_lower_rules.specs.Words as w
use Rattle.bcj_lower_rules.specs.Nodes as n
use Rattle.bcj_lower_rules.specs.Laws.{fault, misplaced}

-- ---- sums

pub placed-nil : misplaced [] ≡ 0
unfolding misplaced
placed-nil = refl

pub placed-cons : (l : Line) (ls : List Line) → misplaced (l ∷ ls) ≡ fault l + misplaced ls
unfolding misplaced
placed-cons l ls = refl

pub placed-append : (a b : List Line) → misplaced (a ++ b) ≡ misplaced a + misplaced b
unfolding misplaced
placed-append [] b = omega arith
placed-append (l ∷ a) b = omega (arith, placed-append a b)

-- ---- what recurs

pub placed-save : (d : ℕ) → misplaced (w.save d) ≡ 0
unfolding misplaced w.save
placed-save d = refl

pub placed-load : (d : ℕ) → misplaced (w.load d) ≡ 0
unfolding misplaced w.load
placed-load d = refl

pub placed-load_second : (d : ℕ) → misplaced (w.load_second d) ≡ 0
unfolding misplaced w.load_second
placed-load_second d = refl

pub placed-set_local : (frame i : ℕ) → misplaced (w.set_local_word frame i) ≡ 0
unfolding misplaced w.set_local_word
placed-set_local frame i = refl

pub placed-get_local : (frame i : ℕ) → misplaced (w.get_local_word frame i) ≡ 0
unfolding misplaced w.get_local_word
placed-get_local frame i = refl

pub placed-small_number : (k : ℕ) → misplaced (w.small_number k) ≡ 0
unfolding misplaced w.small_number
placed-small_number k = refl

pub placed-read_at : (k : ℕ) → misplaced (w.read_at k) ≡ 0
unfolding misplaced w.read_at
placed-read_at k = refl

pub placed-write_at : (k : ℕ) → misplaced (w.write_at k) ≡ 0
unfolding misplaced w.write_at
placed-write_at k = refl

pub placed-take_entry : misplaced w.take_entry ≡ 0
unfolding misplaced w.take_entry
placed-take_entry = refl

pub placed-call : misplaced w.call ≡ 0
unfolding misplaced w.call
placed-call = refl

pub placed-number : (z : ℤ) → misplaced (w.number z) ≡ 0
unfolding misplaced w.number
placed-number z = refl

pub placed-service : (k : ℕ) → misplaced (w.service k) ≡ 0
unfolding misplaced w.service
placed-service k = refl

pub placed-null_test : misplaced w.null_test ≡ 0
unfolding misplaced w.null_test
placed-null_test = refl

pub placed-turn : misplaced w.turn ≡ 0
unfolding misplaced w.turn
placed-turn = refl

pub placed-enter : (frame : ℕ) → misplaced (w.enter frame) ≡ 0
unfolding misplaced w.enter
placed-enter frame = refl

pub placed-exit : (frame : ℕ) → misplaced (w.exit frame) ≡ 0
unfolding misplaced w.exit
placed-exit frame = refl

pub placed-use_entry : (e : PlainEntry) → misplaced (w.use_entry e) ≡ 0
unfolding misplaced w.use_entry
placed-use_entry e = refl

pub placed-initialise : misplaced w.initialise ≡ 0
unfolding misplaced w.initialise
placed-initialise = refl

pub placed-fetch_entry : (e : PlainEntry) → misplaced (w.fetch_entry e) ≡ 0
unfolding misplaced w.fetch_entry
placed-fetch_entry e = refl

pub placed-initialised : (e : PlainEntry) → misplaced (w.initialised e) ≡ 0
unfolding misplaced w.initialised w.use_entry w.initialise w.fetch_entry
placed-initialised e = refl

pub placed-region_first : misplaced w.region_first ≡ 0
unfolding misplaced w.region_first
placed-region_first = refl

pub placed-region_second : misplaced w.region_second ≡ 0
unfolding misplaced w.region_second
placed-region_second = refl

pub placed-field_of_object : (r d : ℕ) → misplaced (w.field_of_object r d) ≡ 0
unfolding misplaced w.field_of_object w.load w.null_test
placed-field_of_object r d = refl

pub placed-element_address : misplaced w.element_address ≡ 0
unfolding misplaced w.element_address
placed-element_address = refl

pub placed-store_check : (d : ℕ) → misplaced (w.store_check d) ≡ 0
unfolding misplaced w.store_check w.load w.load_second w.service
placed-store_check d = refl

pub placed-select_method : (d : ℕ) → misplaced (w.select_method d) ≡ 0
unfolding misplaced w.select_method w.load w.null_test
placed-select_method d = refl

pub placed-select_interface_method : (d : ℕ) → misplaced (w.select_interface_method d) ≡ 0
unfolding misplaced w.select_interface_method w.load w.null_test
placed-select_interface_method d = refl

pub placed-instance_test : (d : ℕ) → misplaced (w.instance_test d) ≡ 0
unfolding misplaced w.instance_test
placed-instance_test d = refl

pub placed-cast_test : misplaced w.cast_test ≡ 0
unfolding misplaced w.cast_test
placed-cast_test = refl

pub placed-unary_words : (o : UnaryOp) → misplaced (w.unary_words o) ≡ 0
unfolding misplaced w.unary_words
placed-unary_words o = refl

pub placed-operate : (o : BinaryOp) (d : ℕ) → misplaced (w.operate o d) ≡ 0
unfolding misplaced w.operate w.move_second w.load
placed-operate op.Or d = refl
placed-operate op.Xor d = refl
placed-operate op.And d = refl
placed-operate op.Eq d = refl
placed-operate op.Ne d = refl
placed-operate op.Lt d = refl
placed-operate op.Gt d = refl
placed-operate op.Le d = refl
placed-operate op.Ge d = refl
placed-operate op.Shl d = refl
placed-operate op.Shr d = refl
placed-operate op.Ushr d = refl
placed-operate op.Add d = refl
placed-operate op.Sub d = refl
placed-operate op.Mul d = refl
placed-operate op.Div d = refl
placed-operate op.Rem d = refl

pub placed-index_of_saved : (d : ℕ) → misplaced (n.index_of_saved d) ≡ 0
unfolding misplaced n.index_of_saved w.move_second w.load w.element_address
placed-index_of_saved d = refl

placed-copy_from : (d j k : ℕ) → misplaced (w.copy_from d j k) ≡ 0
unfolding misplaced
placed-copy_from d j zero = refl
placed-copy_from d j (suc k) = omega (arith, placed-copy_from d (j + 1) k)

pub placed-copy : (d k : ℕ) → misplaced (w.copy d k) ≡ 0
unfolding w.copy
placed-copy d k = placed-copy_from d 0 k

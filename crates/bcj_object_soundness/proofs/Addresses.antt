-- The addresses that lines use, in their order, each half by itself: of two lists one behind the other, and of what recurs.
use Rattle.std.specs.Prelude.{ℤ}
use Rattle.std.proofs.Common.{◌≡◌, refl, ap, ◌∙◌, sym, ℕ, zero, suc, ◌+◌, List, [], ◌∷◌, ◌++◌, append_assoc, Option, Some, None}
use Rattle.bcj_symbolic_trees.specs.declared.expression.UnaryOp.{UnaryOp}
use Rattle.bcj_symbolic_trees.specs.declared.expression.BinaryOp.{BinaryOp}
use Rattle.bcj_symbolic_trees.specs.declared.expression.BinaryOp.TheVariants as op
use Rattle.bcj_symbolic_measure.specs.Entries.{PlainEntry}
use Rattle.bcj_symbolic_measure.specs.Scheme.{Piece, plain, usage, fetch, handled}
use Rattle.bcj_symbolic_measure.specs.Scheme as piece
use Rattle.bcj_lower_rules.specs.Lines.{Address, region, entry, Relocated, Line}
use Rattle.bcj_lower_rules.specs.Words as w
use Rattle.bcj_lower_rules.specs.Nodes as n

-- ---- of lines

abbrev pub address_of : Option Relocated → List Address
address_of None = []
address_of (Some r) = r.address ∷ []

unfoldable pub addresses : List Line → List Address
addresses [] = []
addresses (l ∷ ls) = address_of l.relocated ++ addresses ls

pub addresses-nil : addresses [] ≡ []
unfolding addresses
addresses-nil = refl

pub addresses-cons : (l : Line) (ls : List Line) → addresses (l ∷ ls) ≡ address_of l.relocated ++ addresses ls
unfolding addresses
addresses-cons l ls = refl

pub addresses-append : (a b : List Line) → addresses (a ++ b) ≡ addresses a ++ addresses b
unfolding addresses
addresses-append [] b = refl
addresses-append (l ∷ a) b =
    ap (λ x. address_of l.relocated ++ x) (addresses-append a b) ∙ sym (append_assoc (address_of l.relocated) (addresses a) (addresses b))

-- ---- of pieces

abbrev pub piece_addresses : Piece → List Address
piece_addresses (plain k) = []
piece_addresses (usage e) = entry e ∷ entry e ∷ []
piece_addresses (fetch e) = entry e ∷ entry e ∷ []
piece_addresses piece.region = region ∷ region ∷ []
piece_addresses (handled class) = []

unfoldable pub named : List Piece → List Address
named [] = []
named (p ∷ ps) = piece_addresses p ++ named ps

pub named-nil : named [] ≡ []
unfolding named
named-nil = refl

pub named-cons : (p : Piece) (ps : List Piece) → named (p ∷ ps) ≡ piece_addresses p ++ named ps
unfolding named
named-cons p ps = refl

pub named-append : (a b : List Piece) → named (a ++ b) ≡ named a ++ named b
unfolding named
named-append [] b = refl
named-append (p ∷ a) b = ap (λ x. piece_addresses p ++ x) (named-append a b) ∙ sym (append_assoc (piece_addresses p) (named a) (named b))

-- ---- what recurs

pub addresses-save : (d : ℕ) → addresses (w.save d) ≡ []
unfolding addresses w.save
addresses-save d = refl

pub addresses-load : (d : ℕ) → addresses (w.load d) ≡ []
unfolding addresses w.load
addresses-load d = refl

pub addresses-load_second : (d : ℕ) → addresses (w.load_second d) ≡ []
unfolding addresses w.load_second
addresses-load_second d = refl

pub addresses-set_local : (frame i : ℕ) → addresses (w.set_local_word frame i) ≡ []
unfolding addresses w.set_local_word
addresses-set_local frame i = refl

pub addresses-get_local : (frame i : ℕ) → addresses (w.get_local_word frame i) ≡ []
unfolding addresses w.get_local_word
addresses-get_local frame i = refl

pub addresses-small_number : (k : ℕ) → addresses (w.small_number k) ≡ []
unfolding addresses w.small_number
addresses-small_number k = refl

pub addresses-read_at : (k : ℕ) → addresses (w.read_at k) ≡ []
unfolding addresses w.read_at
addresses-read_at k = refl

pub addresses-write_at : (k : ℕ) → addresses (w.write_at k) ≡ []
unfolding addresses w.write_at
addresses-write_at k = refl

pub addresses-take_entry : addresses w.take_entry ≡ []
unfolding addresses w.take_entry
addresses-take_entry = refl

pub addresses-call : addresses w.call ≡ []
unfolding addresses w.call
addresses-call = refl

pub addresses-number : (z : ℤ) → addresses (w.number z) ≡ []
unfolding addresses w.number
addresses-number z = refl

pub addresses-service : (k : ℕ) → addresses (w.service k) ≡ []
unfolding addresses w.service
addresses-service k = refl

pub addresses-null_test : addresses w.null_test ≡ []
unfolding addresses w.null_test
addresses-null_test = refl

pub addresses-turn : addresses w.turn ≡ []
unfolding addresses w.turn
addresses-turn = refl

pub addresses-enter : (frame : ℕ) → addresses (w.enter frame) ≡ []
unfolding addresses w.enter
addresses-enter frame = refl

pub addresses-exit : (frame : ℕ) → addresses (w.exit frame) ≡ []
unfolding addresses w.exit
addresses-exit frame = refl

pub addresses-use_entry : (e : PlainEntry) → addresses (w.use_entry e) ≡ entry e ∷ entry e ∷ []
unfolding addresses w.use_entry
addresses-use_entry e = refl

pub addresses-initialise : addresses w.initialise ≡ []
unfolding addresses w.initialise
addresses-initialise = refl

pub addresses-fetch_entry : (e : PlainEntry) → addresses (w.fetch_entry e) ≡ entry e ∷ entry e ∷ []
unfolding addresses w.fetch_entry
addresses-fetch_entry e = refl

pub addresses-initialised : (e : PlainEntry) → addresses (w.initialised e) ≡ entry e ∷ entry e ∷ entry e ∷ entry e ∷ []
unfolding addresses w.initialised w.use_entry w.initialise w.fetch_entry
addresses-initialised e = refl

pub addresses-region_first : addresses w.region_first ≡ region ∷ region ∷ []
unfolding addresses w.region_first
addresses-region_first = refl

pub addresses-region_second : addresses w.region_second ≡ region ∷ region ∷ []
unfolding addresses w.region_second
addresses-region_second = refl

pub addresses-field_of_object : (r d : ℕ) → addresses (w.field_of_object r d) ≡ []
unfolding addresses w.field_of_object w.load w.null_test
addresses-field_of_object r d = refl

pub addresses-element_address : addresses w.element_address ≡ []
unfolding addresses w.element_address
addresses-element_address = refl

pub addresses-store_check : (d : ℕ) → addresses (w.store_check d) ≡ []
unfolding addresses w.store_check w.load w.load_second w.service
addresses-store_check d = refl

pub addresses-select_method : (d : ℕ) → addresses (w.select_method d) ≡ []
unfolding addresses w.select_method w.load w.null_test
addresses-select_method d = refl

pub addresses-select_interface_method : (d : ℕ) → addresses (w.select_interface_method d) ≡ []
unfolding addresses w.select_interface_method w.load w.null_test
addresses-select_interface_method d = refl

pub addresses-instance_test : (d : ℕ) → addresses (w.instance_test d) ≡ []
unfolding addresses w.instance_test
addresses-instance_test d = refl

pub addresses-cast_test : addresses w.cast_test ≡ []
unfolding addresses w.cast_test
addresses-cast_test = refl

pub addresses-unary_words : (o : UnaryOp) → addresses (w.unary_words o) ≡ []
unfolding addresses w.unary_words
addresses-unary_words o = refl

pub addresses-operate : (o : BinaryOp) (d : ℕ) → addresses (w.operate o d) ≡ []
unfolding addresses w.operate w.move_second w.load
addresses-operate op.Or d = refl
addresses-operate op.Xor d = refl
addresses-operate op.And d = refl
addresses-operate op.Eq d = refl
addresses-operate op.Ne d = refl
addresses-operate op.Lt d = refl
addresses-operate op.Gt d = refl
addresses-operate op.Le d = refl
addresses-operate op.Ge d = refl
addresses-operate op.Shl d = refl
addresses-operate op.Shr d = refl
addresses-operate op.Ushr d = refl
addresses-operate op.Add d = refl
addresses-operate op.Sub d = refl
addresses-operate op.Mul d = refl
addresses-operate op.Div d = refl
addresses-operate op.Rem d = refl

pub addresses-index_of_saved : (d : ℕ) → addresses (n.index_of_saved d) ≡ []
unfolding addresses n.index_of_saved w.move_second w.load w.element_address
addresses-index_of_saved d = refl

addresses-copy_from : (d j k : ℕ) → addresses (w.copy_from d j k) ≡ []
unfolding addresses
addresses-copy_from d j zero = refl
addresses-copy_from d j (suc k) = addresses-copy_from d (j + 1) k

pub addresses-copy : (d k : ℕ) → addresses (w.copy d k) ≡ []
unfolding w.copy
addresses-copy d k = addresses-copy_from d 0 k

-- Lines whose registers and immediates are in range: two lists one behind the other, and what recurs.
use Rattle.std.proofs.Common.{◌≡◌, refl, sym, subst, ℕ, zero, suc, ◌+◌, ◌-◌, ◌*◌, ◌%◌, ◌^◌, ◌<◌, ◌≤◌, ◌==◌, ◌&&◌, nat_lt, ℤ, pos, negsuc, Bool, true, false, List, [], ◌∷◌, ◌++◌, arith, lit<}
use Rattle.std.specs.List.{AllByRecursion}
use Rattle.std.proofs.lemmas.Bool.{ltb-true, eqb-true}
use Rattle.std.proofs.lemmas.Int.{ints}
use Rattle.rv_isa.specs.declared.instruction.Instr.{Instr}
use Rattle.rv_isa.specs.declared.instruction.Instr.TheVariants as instr
use Rattle.rv_isa.specs.Registers.{IsRegister, register_count, xlen, t1, a0, a1, sp}
use Rattle.rv_isa.specs.Registers as register
use Rattle.rv_isa.specs.Words.{HasBits, HasUnsignedBits, IsEven, InRange, bits, immediate_bits, upper_bits, amount_bits, branch_bits, jump_bits}
use Rattle.rv_steps.specs.Services as services
use Rattle.rv_steps.proofs.Arithmetic.{upper_fits, lower_fits}
use Rattle.bcj_asm.specs.declared.item.Item.{Item}
use Rattle.bcj_asm.specs.declared.item.Item.TheVariants as item
use Rattle.bcj_asm.specs.Assembly.{IsItem}
use Rattle.bcj_symbolic_trees.specs.declared.expression.UnaryOp.{UnaryOp}
use Rattle.bcj_symbolic_trees.specs.declared.expression.UnaryOp.TheVariants as unop
use Rattle.bcj_symbolic_trees.specs.declared.expression.BinaryOp.{BinaryOp}
use Rattle.bcj_symbolic_trees.specs.declared.expression.BinaryOp.TheVariants as op
use Rattle.bcj_symbolic_trees.specs.declared.expression.PrintKind.{PrintKind}
use Rattle.bcj_symbolic_trees.specs.declared.expression.PrintKind.TheVariants as print_kind
use Rattle.bcj_symbolic_measure.specs.Entries.{PlainEntry}
use Rattle.bcj_lower_rules.specs.Lines.{Line, items_of, word, words, place, jump, jump_if_zero, jump_unless_zero}
use Rattle.bcj_lower_rules.specs.Words as w
use Rattle.bcj_lower_rules.specs.Nodes as n
use Rattle.bcj_lower_rules.specs.Bodies.{max_frame}

-- the offsets of so many temporaries are immediates
abbrev pub temporaries : ℕ
temporaries = 511

-- each line is an item of the assembler
pub record Ranged (lines : List Line) : Type 0 where
  pub each : AllByRecursion IsItem (items_of lines)

pub ranged-nil : Ranged []
ranged-nil = record { each = tt }

ranged-append : (a b : List Line) → Ranged a → Ranged b → Ranged (a ++ b)
ranged-append [] b p q = q
ranged-append (l ∷ a) b p q = record { each = (p.each.0, (ranged-append a b (record { each = p.each.1 }) q).each) }

infixr 5 ◌⊕◌
pub ◌⊕◌ : {a b : List Line} → Ranged a → Ranged b → Ranged (a ++ b)
p ⊕ q = ranged-append _ _ p q

ranged-word : (i : Instr) → InRange i → Ranged (word i ∷ [])
ranged-word i h = record { each = (h, tt) }

-- ---- a test of what has no variables, of the instructions that code has

abbrev is_register : ℕ → Bool
is_register r = nat_lt r register_count

abbrev has_bits : ℕ → ℤ → Bool
has_bits k (pos m) = nat_lt m (2 ^ (k - 1))
has_bits k (negsuc m) = nat_lt m (2 ^ (k - 1))

abbrev has_unsigned_bits : ℕ → ℤ → Bool
has_unsigned_bits k (pos m) = nat_lt m (2 ^ k)
has_unsigned_bits k (negsuc m) = false

abbrev is_even : ℤ → Bool
is_even (pos m) = m % 2 == 0
is_even (negsuc m) = m % 2 == 1

abbrev fits_registers : ℕ → ℕ → ℕ → Bool
fits_registers a b c = is_register a && (is_register b && is_register c)

abbrev fits_immediate : ℕ → ℕ → ℤ → Bool
fits_immediate a b z = is_register a && (is_register b && has_bits immediate_bits z)

abbrev fits_branch : ℕ → ℕ → ℤ → Bool
fits_branch a b z = is_register a && (is_register b && (has_bits branch_bits z && is_even z))

abbrev fits : Instr → Bool
fits (instr.Lui rd z) = is_register rd && has_unsigned_bits upper_bits z
fits (instr.Jal rd z) = is_register rd && (has_bits jump_bits z && is_even z)
fits (instr.Jalr rd a z) = fits_immediate rd a z
fits (instr.Beq a b z) = fits_branch a b z
fits (instr.Bne a b z) = fits_branch a b z
fits (instr.Bltu a b z) = fits_branch a b z
fits (instr.Bgeu a b z) = fits_branch a b z
fits (instr.Lw rd a z) = fits_immediate rd a z
fits (instr.Sw a b z) = fits_immediate a b z
fits (instr.Addi rd a z) = fits_immediate rd a z
fits (instr.Sltiu rd a z) = fits_immediate rd a z
fits (instr.Xori rd a z) = fits_immediate rd a z
fits (instr.Slli rd a z) = is_register rd && (is_register a && has_unsigned_bits amount_bits z)
fits (instr.Add rd a b) = fits_registers rd a b
fits (instr.Sub rd a b) = fits_registers rd a b
fits (instr.Sll rd a b) = fits_registers rd a b
fits (instr.Slt rd a b) = fits_registers rd a b
fits (instr.Sltu rd a b) = fits_registers rd a b
fits (instr.Xor rd a b) = fits_registers rd a b
fits (instr.Srl rd a b) = fits_registers rd a b
fits (instr.Sra rd a b) = fits_registers rd a b
fits (instr.Or rd a b) = fits_registers rd a b
fits (instr.And rd a b) = fits_registers rd a b
fits (instr.Mul rd a b) = fits_registers rd a b
fits (instr.Div rd a b) = fits_registers rd a b
fits (instr.Rem rd a b) = fits_registers rd a b
fits instr.Ecall = true
fits _ = false

abbrev item_fits : Item → Bool
item_fits (item.Word i) = fits i
item_fits (item.Jump rd to) = is_register rd
item_fits (item.Branch (instr.Beq a b z) to) = fits_branch a b z
item_fits (item.Branch (instr.Bne a b z) to) = fits_branch a b z
item_fits (item.Branch _ to) = false
item_fits (item.Place l) = true

abbrev lines_fit : List Line → Bool
lines_fit [] = true
lines_fit (l ∷ ls) = item_fits l.item && lines_fit ls

both : (a b : Bool) → (a && b) ≡ true → (a ≡ true) × (b ≡ true)
both true b h = (refl, h)
both false b h = cc

register_in : (r : ℕ) → is_register r ≡ true → IsRegister r
register_in r h = ltb-true r register_count h

bits_in : (k : ℕ) (z : ℤ) → has_bits k z ≡ true → HasBits k z
bits_in k (pos m) h = ltb-true m (2 ^ (k - 1)) h
bits_in k (negsuc m) h = ltb-true m (2 ^ (k - 1)) h

unsigned_in : (k : ℕ) (z : ℤ) → has_unsigned_bits k z ≡ true → HasUnsignedBits k z
unsigned_in k (pos m) h = ltb-true m (2 ^ k) h
unsigned_in k (negsuc m) h = cc

even_in : (z : ℤ) → is_even z ≡ true → IsEven z
even_in (pos m) h = eqb-true (m % 2) 0 h
even_in (negsuc m) h = eqb-true (m % 2) 1 h

registers_in : (a b c : ℕ) → fits_registers a b c ≡ true → IsRegister a × IsRegister b × IsRegister c
registers_in a b c h =
    let p = both (is_register a) (is_register b && is_register c) h in
    let q = both (is_register b) (is_register c) p.1 in (register_in a p.0, register_in b q.0, register_in c q.1)

immediate_in : (a b : ℕ) (z : ℤ) → fits_immediate a b z ≡ true → IsRegister a × IsRegister b × HasBits immediate_bits z
immediate_in a b z h =
    let p = both (is_register a) (is_register b && has_bits immediate_bits z) h in
    let q = both (is_register b) (has_bits immediate_bits z) p.1 in (register_in a p.0, register_in b q.0, bits_in immediate_bits z q.1)

branch_in : (a b : ℕ) (z : ℤ) → fits_branch a b z ≡ true → IsRegister a × IsRegister b × HasBits branch_bits z × IsEven z
branch_in a b z h =
    let p = both (is_register a) (is_register b && (has_bits branch_bits z && is_even z)) h in
    let q = both (is_register b) (has_bits branch_bits z && is_even z) p.1 in
    let r = both (has_bits branch_bits z) (is_even z) q.1 in (register_in a p.0, register_in b q.0, bits_in branch_bits z r.0, even_in z r.1)

instruction_in : (i : Instr) → fits i ≡ true → InRange i
instruction_in (instr.Lui rd z) h =
    let p = both (is_register rd) (has_unsigned_bits upper_bits z) h in (register_in rd p.0, unsigned_in upper_bits z p.1)
instruction_in (instr.Jal rd z) h =
    let p = both (is_register rd) (has_bits jump_bits z && is_even z) h in
    let q = both (has_bits jump_bits z) (is_even z) p.1 in (register_in rd p.0, bits_in jump_bits z q.0, even_in z q.1)
instruction_in (instr.Jalr rd a z) h = immediate_in rd a z h
instruction_in (instr.Beq a b z) h = branch_in a b z h
instruction_in (instr.Bne a b z) h = branch_in a b z h
instruction_in (instr.Bltu a b z) h = branch_in a b z h
instruction_in (instr.Bgeu a b z) h = branch_in a b z h
instruction_in (instr.Lw rd a z) h = immediate_in rd a z h
instruction_in (instr.Sw a b z) h = immediate_in a b z h
instruction_in (instr.Addi rd a z) h = immediate_in rd a z h
instruction_in (instr.Sltiu rd a z) h = immediate_in rd a z h
instruction_in (instr.Xori rd a z) h = immediate_in rd a z h
instruction_in (instr.Slli rd a z) h =
    let p = both (is_register rd) (is_register a && has_unsigned_bits amount_bits z) h in
    let q = both (is_register a) (has_unsigned_bits amount_bits z) p.1 in (register_in rd p.0, register_in a q.0, unsigned_in amount_bits z q.1)
instruction_in (instr.Add rd a b) h = registers_in rd a b h
instruction_in (instr.Sub rd a b) h = registers_in rd a b h
instruction_in (instr.Sll rd a b) h = registers_in rd a b h
instruction_in (instr.Slt rd a b) h = registers_in rd a b h
instruction_in (instr.Sltu rd a b) h = registers_in rd a b h
instruction_in (instr.Xor rd a b) h = registers_in rd a b h
instruction_in (instr.Srl rd a b) h = registers_in rd a b h
instruction_in (instr.Sra rd a b) h = registers_in rd a b h
instruction_in (instr.Or rd a b) h = registers_in rd a b h
instruction_in (instr.And rd a b) h = registers_in rd a b h
instruction_in (instr.Mul rd a b) h = registers_in rd a b h
instruction_in (instr.Div rd a b) h = registers_in rd a b h
instruction_in (instr.Rem rd a b) h = registers_in rd a b h
instruction_in instr.Ecall h = tt
instruction_in _ h = cc

item_in : (x : Item) → item_fits x ≡ true → IsItem x
item_in (item.Word i) h = instruction_in i h
item_in (item.Jump rd to) h = register_in rd h
item_in (item.Branch (instr.Beq a b z) to) h = (tt, branch_in a b z h)
item_in (item.Branch (instr.Bne a b z) to) h = (tt, branch_in a b z h)
item_in (item.Branch _ to) h = cc
item_in (item.Place l) h = tt

lines_in : (ls : List Line) → lines_fit ls ≡ true → AllByRecursion IsItem (items_of ls)
lines_in [] h = tt
lines_in (l ∷ ls) h = let p = both (item_fits l.item) (lines_fit ls) h in (item_in l.item p.0, lines_in ls p.1)

-- what the test takes is in range
pub ranged : (ls : List Line) → lines_fit ls ≡ true → Ranged ls
ranged ls h = record { each = lines_in ls h }

-- ---- single words

pub ranged-save : (d : ℕ) → d < temporaries → Ranged (w.save d)
unfolding w.save
ranged-save d h = ranged-word (instr.Sw sp a0 (w.temporary d)) (lit< tt, lit< tt, omega arith)

pub ranged-load : (d : ℕ) → d < temporaries → Ranged (w.load d)
unfolding w.load
ranged-load d h = ranged-word (instr.Lw a0 sp (w.temporary d)) (lit< tt, lit< tt, omega arith)

pub ranged-load_second : (d : ℕ) → d < temporaries → Ranged (w.load_second d)
unfolding w.load_second
ranged-load_second d h = ranged-word (instr.Lw a1 sp (w.temporary d)) (lit< tt, lit< tt, omega arith)

pub ranged-load_entry : (d : ℕ) → d < temporaries → Ranged (word (instr.Lw t1 sp (w.temporary d)) ∷ [])
ranged-load_entry d h = ranged-word (instr.Lw t1 sp (w.temporary d)) (lit< tt, lit< tt, omega arith)

pub ranged-set_local : (frame i : ℕ) → frame ≤ max_frame → Ranged (w.set_local_word frame i)
unfolding w.set_local_word
ranged-set_local frame i h = ranged-word (instr.Sw sp a0 (w.local frame i)) (lit< tt, lit< tt, omega arith)

pub ranged-get_local : (frame i : ℕ) → frame ≤ max_frame → Ranged (w.get_local_word frame i)
unfolding w.get_local_word
ranged-get_local frame i h = ranged-word (instr.Lw a0 sp (w.local frame i)) (lit< tt, lit< tt, omega arith)

pub ranged-zero_local : (frame i : ℕ) → frame ≤ max_frame → Ranged (word (instr.Sw sp register.zero (w.local frame i)) ∷ [])
ranged-zero_local frame i h = ranged-word (instr.Sw sp register.zero (w.local frame i)) (lit< tt, lit< tt, omega arith)

-- a number that isn't negative, as an immediate
abbrev is_small : ℕ → Bool
is_small k = nat_lt k 2048

pub ranged-small_number : (k : ℕ) → is_small k ≡ true → Ranged (w.small_number k)
unfolding w.small_number
ranged-small_number k h = ranged-word (instr.Addi a0 register.zero (pos k)) (lit< tt, lit< tt, ltb-true k 2048 h)

pub ranged-read_at : (k : ℕ) → is_small k ≡ true → Ranged (w.read_at k)
unfolding w.read_at
ranged-read_at k h = ranged-word (instr.Lw a0 t1 (pos k)) (lit< tt, lit< tt, ltb-true k 2048 h)

pub ranged-write_at : (k : ℕ) → is_small k ≡ true → Ranged (w.write_at k)
unfolding w.write_at
ranged-write_at k h = ranged-word (instr.Sw t1 a0 (pos k)) (lit< tt, lit< tt, ltb-true k 2048 h)

pub ranged-move_second : Ranged w.move_second
unfolding w.move_second
ranged-move_second = ranged w.move_second refl

pub ranged-take_entry : Ranged w.take_entry
unfolding w.take_entry
ranged-take_entry = ranged w.take_entry refl

pub ranged-call : Ranged w.call
unfolding w.call
ranged-call = ranged w.call refl

-- ---- numbers, services and bounds

-- both halves of any number fit
pub ranged-number : (z : ℤ) → Ranged (w.number z)
unfolding w.number
ranged-number z = record {
  each = (
    (lit< tt, upper_fits (bits xlen z)),
    ((lit< tt, lit< tt, lower_fits (bits xlen z)), tt),
  );
}

pub ranged-service : (k : ℕ) → is_small k ≡ true → Ranged (w.service k)
unfolding w.service
ranged-service k h = record { each = ((lit< tt, lit< tt, ltb-true k 2048 h), (tt, tt)) }

pub ranged-print : (k : PrintKind) → Ranged (w.service (w.print_service k))
ranged-print print_kind.Int = ranged-service services.print_int refl
ranged-print print_kind.Bool = ranged-service services.print_boolean refl
ranged-print print_kind.Line = ranged-service services.print_line_end refl
ranged-print print_kind.Byte = ranged-service services.print_byte refl

pub ranged-null_test : Ranged w.null_test
unfolding w.null_test
ranged-null_test = ranged w.null_test refl

pub ranged-turn : Ranged w.turn
unfolding w.turn
ranged-turn = ranged w.turn refl

-- a number below 0, as far as an immediate reaches
minus_fits : (k : ℕ) → k ≤ 2048 → HasBits immediate_bits (w.minus k)
minus_fits zero h = lit< tt
minus_fits (suc k) h =
    let e : w.minus (suc k) ≡ negsuc k = omega (arith, ints) in
    let fits : k < 2 ^ 11 = omega arith in subst (HasBits immediate_bits) (sym e) fits

enter_ranged : Ranged (words (instr.Sw sp register.ra (pos 0) ∷ (w.turn_words ++ w.depth_words)))
enter_ranged = ranged (words (instr.Sw sp register.ra (pos 0) ∷ (w.turn_words ++ w.depth_words))) refl

pub ranged-enter : (frame : ℕ) → frame ≤ max_frame → Ranged (w.enter frame)
unfolding w.enter
ranged-enter frame h =
    ranged-word (instr.Addi sp sp (w.minus (w.word_size * frame))) (lit< tt, lit< tt, minus_fits (w.word_size * frame) (omega arith))
    ⊕ enter_ranged

leave_ranged : Ranged (words (instr.Addi register.s10 register.s10 (pos 1) ∷ instr.Jalr register.zero register.ra (pos 0) ∷ []))
leave_ranged = ranged (words (instr.Addi register.s10 register.s10 (pos 1) ∷ instr.Jalr register.zero register.ra (pos 0) ∷ [])) refl

pub ranged-exit : (frame : ℕ) → frame ≤ max_frame → Ranged (w.exit frame)
unfolding w.exit
ranged-exit frame h =
    ranged-word (instr.Lw register.ra sp (pos 0)) (lit< tt, lit< tt, lit< tt)
    ⊕ (ranged-word (instr.Addi sp sp (pos (w.word_size * frame))) (lit< tt, lit< tt, omega arith) ⊕ leave_ranged)

-- ---- labels

pub ranged-place : (l : ℕ) → Ranged (place l)
ranged-place l = ranged (place l) refl

pub ranged-jump : (l : ℕ) → Ranged (jump l)
ranged-jump l = ranged (jump l) refl

pub ranged-jump_if_zero : (l : ℕ) → Ranged (jump_if_zero l)
ranged-jump_if_zero l = ranged (jump_if_zero l) refl

pub ranged-jump_unless_zero : (l : ℕ) → Ranged (jump_unless_zero l)
ranged-jump_unless_zero l = ranged (jump_unless_zero l) refl

-- ---- entries of the tables

pub ranged-use_entry : (e : PlainEntry) → Ranged (w.use_entry e)
unfolding w.use_entry
ranged-use_entry e = ranged (w.use_entry e) refl

pub ranged-initialise : Ranged w.initialise
unfolding w.initialise
ranged-initialise = ranged w.initialise refl

pub ranged-fetch_entry : (e : PlainEntry) → Ranged (w.fetch_entry e)
unfolding w.fetch_entry
ranged-fetch_entry e = ranged (w.fetch_entry e) refl

pub ranged-initialised : (e : PlainEntry) → Ranged (w.initialised e)
unfolding w.initialised
ranged-initialised e = ranged-use_entry e ⊕ (ranged-initialise ⊕ ranged-fetch_entry e)

pub ranged-region_first : Ranged w.region_first
unfolding w.region_first
ranged-region_first = ranged w.region_first refl

pub ranged-region_second : Ranged w.region_second
unfolding w.region_second
ranged-region_second = ranged w.region_second refl

-- ---- objects, arrays and calls

pub ranged-field_of_object : (r d : ℕ) → r < register_count → d < temporaries → Ranged (w.field_of_object r d)
unfolding w.field_of_object
ranged-field_of_object r d k h = ranged-load d h ⊕ (ranged-null_test ⊕ ranged-word (instr.Add r a0 t1) (k, lit< tt, lit< tt))

pub ranged-element_address : Ranged w.element_address
unfolding w.element_address
ranged-element_address = ranged w.element_address refl

pub ranged-store_check : (d : ℕ) → d + 2 < temporaries → Ranged (w.store_check d)
unfolding w.store_check
ranged-store_check d h = ranged-load d (omega arith) ⊕ (ranged-load_second (d + 2) h ⊕ ranged-service services.store_check refl)

ranged-copy_from : (d j k : ℕ) → d + j + k ≤ temporaries → Ranged (w.copy_from d j k)
ranged-copy_from d j zero h = ranged-nil
ranged-copy_from d j (suc k) h =
    ranged-word (instr.Lw a0 sp (w.temporary (d + j))) (lit< tt, lit< tt, omega arith)
    ⊕ (ranged-word (instr.Sw sp a0 (w.argument j)) (lit< tt, lit< tt, minus_fits (w.word_size * (j + 1)) (omega arith))
    ⊕ ranged-copy_from d (j + 1) k (omega arith))

pub ranged-copy : (d k : ℕ) → d + k ≤ temporaries → Ranged (w.copy d k)
unfolding w.copy
ranged-copy d k h = ranged-copy_from d 0 k (omega arith)

abbrev select_words : List Line
select_words =
    words (instr.Lw a0 a0 (pos 0) ∷ instr.Add a0 a0 t1 ∷ instr.Lw t1 a0 (pos 0) ∷ instr.Bne t1 register.zero (pos 16) ∷ w.fail_words w.abstract_error)

pub ranged-select_method : (d : ℕ) → d < temporaries → Ranged (w.select_method d)
unfolding w.select_method
ranged-select_method d h = ranged-load d h ⊕ (ranged-null_test ⊕ ranged select_words refl)

abbrev select_interface_words : List Line
select_interface_words =
    words
    (instr.Lw a0 a0 (pos 0) ∷ instr.Lw a0 a0 (pos 12) ∷ instr.Lw a1 a0 (pos 0) ∷ instr.Bgeu a1 t1 (pos 16)
    ∷ (w.fail_words w.change_error
    ++ (instr.Add a0 a0 t1 ∷ instr.Lw t1 a0 (pos 0) ∷ instr.Bne t1 register.zero (pos 16)
    ∷ (w.fail_words w.change_error ++ instr.Addi a1 register.zero (pos 1) ∷ instr.Bne t1 a1 (pos 16) ∷ w.fail_words w.abstract_error))))

pub ranged-select_interface_method : (d : ℕ) → d < temporaries → Ranged (w.select_interface_method d)
unfolding w.select_interface_method
ranged-select_interface_method d h = ranged-load d h ⊕ (ranged-null_test ⊕ ranged select_interface_words refl)

abbrev number_words : List Line
number_words =
    words
    (instr.Lw a0 a0 (pos 0) ∷ instr.Lw a1 a0 (pos 4) ∷ instr.Lw a0 t1 (pos 4) ∷ instr.Beq a0 register.zero (pos 32)
    ∷ instr.Beq a1 register.zero (pos 28) ∷ instr.Bltu a1 a0 (pos 16) ∷ instr.Lw a0 t1 (pos 8) ∷ instr.Sltu a0 a1 a0
    ∷ instr.Jal register.zero (pos 28) ∷ instr.Addi a0 register.zero (pos 0) ∷ instr.Jal register.zero (pos 20) ∷ [])

abbrev cast_words : List Line
cast_words = words (instr.Addi a1 t1 (pos 0) ∷ w.service_words services.cast)

pub ranged-instance_test : (d : ℕ) → d < temporaries → Ranged (w.instance_test d)
unfolding w.instance_test w.load
ranged-instance_test d h = ranged-load d h ⊕ (ranged number_words refl ⊕ (ranged-load d h ⊕ ranged cast_words refl))

pub ranged-cast_test : Ranged w.cast_test
unfolding w.cast_test
ranged-cast_test = ranged w.cast_test refl

-- ---- operators

pub ranged-unary_words : (o : UnaryOp) → Ranged (w.unary_words o)
unfolding w.unary_words
ranged-unary_words unop.Minus = ranged (w.unary_words unop.Minus) refl
ranged-unary_words unop.Flip = ranged (w.unary_words unop.Flip) refl
ranged-unary_words unop.Not = ranged (w.unary_words unop.Not) refl

ranged-operator : (o : BinaryOp) → Ranged (words (w.operator_words o))
ranged-operator op.Or = ranged (words (w.operator_words op.Or)) refl
ranged-operator op.Xor = ranged (words (w.operator_words op.Xor)) refl
ranged-operator op.And = ranged (words (w.operator_words op.And)) refl
ranged-operator op.Eq = ranged (words (w.operator_words op.Eq)) refl
ranged-operator op.Ne = ranged (words (w.operator_words op.Ne)) refl
ranged-operator op.Lt = ranged (words (w.operator_words op.Lt)) refl
ranged-operator op.Gt = ranged (words (w.operator_words op.Gt)) refl
ranged-operator op.Le = ranged (words (w.operator_words op.Le)) refl
ranged-operator op.Ge = ranged (words (w.operator_words op.Ge)) refl
ranged-operator op.Shl = ranged (words (w.operator_words op.Shl)) refl
ranged-operator op.Shr = ranged (words (w.operator_words op.Shr)) refl
ranged-operator op.Ushr = ranged (words (w.operator_words op.Ushr)) refl
ranged-operator op.Add = ranged (words (w.operator_words op.Add)) refl
ranged-operator op.Sub = ranged (words (w.operator_words op.Sub)) refl
ranged-operator op.Mul = ranged (words (w.operator_words op.Mul)) refl
ranged-operator op.Div = ranged (words (w.operator_words op.Div)) refl
ranged-operator op.Rem = ranged (words (w.operator_words op.Rem)) refl

pub ranged-operate : (o : BinaryOp) (d : ℕ) → d < temporaries → Ranged (w.operate o d)
unfolding w.operate
ranged-operate o d h = ranged-move_second ⊕ (ranged-load d h ⊕ ranged-operator o)

pub ranged-index_of_saved : (d : ℕ) → d < temporaries → Ranged (n.index_of_saved d)
unfolding n.index_of_saved
ranged-index_of_saved d h = ranged-move_second ⊕ (ranged-load d h ⊕ ranged-element_address)

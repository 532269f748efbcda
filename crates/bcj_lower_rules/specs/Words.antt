-- The words that recur in code. A value comes into a0. a1 is the right operand, an index or an argument of a service, t1 what an
-- entry of the tables says, a7 the number of a service, s10 the depth that is left, and s11 the turns that are left. The frame
-- lies at sp: the return address, temporaries from 0 on, and at its end the locals, the first one last.
use Rattle.std.specs.Prelude.{ℕ, zero, suc, ◌+◌, ◌-◌, ◌*◌, ℤ, pos, negsuc, ◌-ℤ◌, List, [], ◌∷◌, ◌++◌}
use Rattle.rv_isa.specs.declared.instruction.Instr.{Instr}
use Rattle.rv_isa.specs.declared.instruction.Instr.TheVariants as instr
use Rattle.rv_isa.specs.Registers.{ra, sp, t1, a0, a1, a7, s10, s11, xlen}
use Rattle.rv_isa.specs.Registers as register
use Rattle.rv_isa.specs.Words.{bits}
use Rattle.rv_steps.specs.Arithmetic.{upper_part, lower_part}
use Rattle.rv_steps.specs.Services as services
use Rattle.bcj_symbolic_trees.specs.declared.expression.UnaryOp.{UnaryOp}
use Rattle.bcj_symbolic_trees.specs.declared.expression.UnaryOp.TheVariants as unop
use Rattle.bcj_symbolic_trees.specs.declared.expression.BinaryOp.{BinaryOp}
use Rattle.bcj_symbolic_trees.specs.declared.expression.BinaryOp.TheVariants as op
use Rattle.bcj_symbolic_trees.specs.declared.expression.PrintKind.{PrintKind}
use Rattle.bcj_symbolic_trees.specs.declared.expression.PrintKind.TheVariants as print_kind
use Rattle.bcj_symbolic_measure.specs.Entries.{PlainEntry}
use Rattle.bcj_lower_rules.specs.declared.half.Half.TheVariants as half
use Rattle.bcj_lower_rules.specs.Lines.{Address, region, entry, Line, word, words, with_half}

-- ---- the frame

-- the bytes of a word
abbrev pub word_size : ℕ
word_size = 4

-- the offset of a temporary
abbrev pub temporary : ℕ → ℤ
temporary d = pos (word_size + word_size * d)

-- the offset of a local in a frame of so many words
abbrev pub local : ℕ → ℕ → ℤ
local frame i = pos (word_size * (frame - 1 - i))

-- a number below 0, by its amount
abbrev pub minus : ℕ → ℤ
minus n = pos 0 -ℤ pos n

-- the offset of an argument of a callee, below its caller's frame
abbrev pub argument : ℕ → ℤ
argument j = minus (word_size * (j + 1))

-- ---- single words

-- a0 goes to a temporary
unfoldable pub save : ℕ → List Line
save d = word (instr.Sw sp a0 (temporary d)) ∷ []

-- a0 takes a temporary
unfoldable pub load : ℕ → List Line
load d = word (instr.Lw a0 sp (temporary d)) ∷ []

-- a1 takes a temporary
unfoldable pub load_second : ℕ → List Line
load_second d = word (instr.Lw a1 sp (temporary d)) ∷ []

-- a0 goes to a local
unfoldable pub set_local_word : ℕ → ℕ → List Line
set_local_word frame i = word (instr.Sw sp a0 (local frame i)) ∷ []

-- a0 takes a local
unfoldable pub get_local_word : ℕ → ℕ → List Line
get_local_word frame i = word (instr.Lw a0 sp (local frame i)) ∷ []

-- a0 takes a small number
unfoldable pub small_number : ℕ → List Line
small_number n = word (instr.Addi a0 register.zero (pos n)) ∷ []

-- a0 takes the word that lies so many bytes behind t1, and a0 goes there
unfoldable pub read_at : ℕ → List Line
read_at n = word (instr.Lw a0 t1 (pos n)) ∷ []

unfoldable pub write_at : ℕ → List Line
write_at n = word (instr.Sw t1 a0 (pos n)) ∷ []

-- a1 takes a0
unfoldable pub move_second : List Line
move_second = word (instr.Addi a1 a0 (pos 0)) ∷ []

-- a0 takes t1
unfoldable pub take_entry : List Line
take_entry = word (instr.Addi a0 t1 (pos 0)) ∷ []

-- the method at t1 is called
unfoldable pub call : List Line
call = word (instr.Jalr ra t1 (pos 0)) ∷ []

-- ---- numbers, services and bounds

-- a0 takes a number of 32 bits, always by two words
unfoldable pub number : ℤ → List Line
number n =
    words (instr.Lui a0 (pos (upper_part (bits xlen n))) ∷ instr.Addi a0 a0 (lower_part (bits xlen n)) ∷ [])

-- a service of this number is called
abbrev pub service_words : ℕ → List Instr
service_words n = instr.Addi a7 register.zero (pos n) ∷ instr.Ecall ∷ []

unfoldable pub service : ℕ → List Line
service n = words (service_words n)

-- the exceptions that code throws by their numbers: ArithmeticException, ArrayIndexOutOfBoundsException, AbstractMethodError,
-- ClassCastException and IncompatibleClassChangeError; that of null is a NullPointerException
abbrev pub arithmetic_exception : ℕ
arithmetic_exception = 1

abbrev pub index_exception : ℕ
index_exception = 2

abbrev pub abstract_error : ℕ
abstract_error = 3

abbrev pub cast_exception : ℕ
cast_exception = 4

abbrev pub change_error : ℕ
change_error = 5

-- such an exception is thrown
abbrev pub fail_words : ℕ → List Instr
fail_words c = instr.Addi a0 register.zero (pos c) ∷ service_words services.throw

-- a null in a0 throws
abbrev pub null_test_words : List Instr
null_test_words = instr.Bne a0 register.zero (pos 12) ∷ service_words services.throw

unfoldable pub null_test : List Line
null_test = words null_test_words

-- a turn is spent, where one is left, and then a depth
abbrev pub turn_words : List Instr
turn_words =
    instr.Bne s11 register.zero (pos 16) ∷ instr.Addi a0 register.zero (pos 0) ∷ (service_words services.stop ++ instr.Addi s11 s11 (negsuc 0) ∷ [])

abbrev pub depth_words : List Instr
depth_words =
    instr.Bne s10 register.zero (pos 16) ∷ instr.Addi a0 register.zero (pos 1) ∷ (service_words services.stop ++ instr.Addi s10 s10 (negsuc 0) ∷ [])

unfoldable pub turn : List Line
turn = words turn_words

-- a method with a frame of so many words begins
unfoldable pub enter : ℕ → List Line
enter frame =
    words (instr.Addi sp sp (minus (word_size * frame)) ∷ instr.Sw sp ra (pos 0) ∷ (turn_words ++ depth_words))

-- and it returns
unfoldable pub exit : ℕ → List Line
exit frame =
    words (instr.Lw ra sp (pos 0) ∷ instr.Addi sp sp (pos (word_size * frame)) ∷ instr.Addi s10 s10 (pos 1) ∷ instr.Jalr register.zero ra (pos 0) ∷ [])

-- ---- entries of the tables

-- a register takes an address
abbrev pub address_in : ℕ → Address → List Line
address_in r a = with_half half.Upper a (instr.Lui r (pos 0)) ∷ with_half half.Lower a (instr.Addi r r (pos 0)) ∷ []

-- the use of an entry: a0 takes its address and t1 what it says; where it says nothing, linking fails
unfoldable pub use_entry : PlainEntry → List Line
use_entry e =
    address_in a0 (entry e)
    ++ words (instr.Lw t1 a0 (pos 0) ∷ instr.Bne t1 register.zero (pos 12) ∷ service_words services.link_failure)

-- the class of the entry at a0 is initialised, by a call of its initialiser where there is one to run
unfoldable pub initialise : List Line
initialise = words (service_words services.init_begin ++ instr.Beq a0 register.zero (pos 8) ∷ instr.Jalr ra a0 (pos 0) ∷ [])

-- t1 takes what an entry says that was used before
unfoldable pub fetch_entry : PlainEntry → List Line
fetch_entry e = with_half half.Upper (entry e) (instr.Lui t1 (pos 0)) ∷ with_half half.Lower (entry e) (instr.Lw t1 t1 (pos 0)) ∷ []

-- an entry is used, initialised and fetched
unfoldable pub initialised : PlainEntry → List Line
initialised e = use_entry e ++ (initialise ++ fetch_entry e)

-- the address of the class's own region, in a0 and in a1
unfoldable pub region_first : List Line
region_first = address_in a0 region

unfoldable pub region_second : List Line
region_second = address_in a1 region

-- ---- objects, arrays and calls

-- the object in temporary d is tested for null, and a register takes the address of the field at the offset in t1
unfoldable pub field_of_object : ℕ → ℕ → List Line
field_of_object r d = load d ++ (null_test ++ word (instr.Add r a0 t1) ∷ [])

-- the address of the element at index a1 of the array in a0, less the two words before the elements, into t1
unfoldable pub element_address : List Line
element_address =
    words
    (null_test_words
    ++ (instr.Lw t1 a0 (pos 4) ∷ instr.Bltu a1 t1 (pos 16)
    ∷ (fail_words index_exception ++ instr.Slli a1 a1 (pos 2) ∷ instr.Add t1 a0 a1 ∷ [])))

-- the bytes before the elements: row and length
abbrev pub elements_at : ℕ
elements_at = 8

-- the array in temporary d takes the reference in temporary d + 2, or a service throws
unfoldable pub store_check : ℕ → List Line
store_check d = load d ++ (load_second (d + 2) ++ service services.store_check)

-- n temporaries from d on become the arguments of a callee, the first as argument j
abbrev pub copy_from : ℕ → ℕ → ℕ → List Line
copy_from d j zero = []
copy_from d j (suc n) = words (instr.Lw a0 sp (temporary (d + j)) ∷ instr.Sw sp a0 (argument j) ∷ []) ++ copy_from d (j + 1) n

unfoldable pub copy : ℕ → ℕ → List Line
copy d n = copy_from d 0 n

-- the method of the object in temporary d whose place in the object's row is in t1
unfoldable pub select_method : ℕ → List Line
select_method d =
    load d
    ++ (null_test
    ++ words (instr.Lw a0 a0 (pos 0) ∷ instr.Add a0 a0 t1 ∷ instr.Lw t1 a0 (pos 0) ∷ instr.Bne t1 register.zero (pos 16) ∷ fail_words abstract_error))

-- the method of the object in temporary d whose place in the object's dispatch row is in t1: the row has its own length first,
-- and 0 where the class doesn't implement the interface, 1 where there is no code
unfoldable pub select_interface_method : ℕ → List Line
select_interface_method d =
    load d
    ++ (null_test
    ++ words
    (instr.Lw a0 a0 (pos 0) ∷ instr.Lw a0 a0 (pos 12) ∷ instr.Lw a1 a0 (pos 0) ∷ instr.Bgeu a1 t1 (pos 16)
    ∷ (fail_words change_error
    ++ (instr.Add a0 a0 t1 ∷ instr.Lw t1 a0 (pos 0) ∷ instr.Bne t1 register.zero (pos 16)
    ∷ (fail_words change_error ++ instr.Addi a1 register.zero (pos 1) ∷ instr.Bne t1 a1 (pos 16) ∷ fail_words abstract_error)))))

-- a0 says whether the object in temporary d is an instance of the type whose row is in t1: by the preorder numbers where both have
-- them, else by a service
unfoldable pub instance_test : ℕ → List Line
instance_test d =
    words
    (instr.Lw a0 sp (temporary d) ∷ instr.Lw a0 a0 (pos 0) ∷ instr.Lw a1 a0 (pos 4) ∷ instr.Lw a0 t1 (pos 4)
    ∷ instr.Beq a0 register.zero (pos 32) ∷ instr.Beq a1 register.zero (pos 28) ∷ instr.Bltu a1 a0 (pos 16)
    ∷ instr.Lw a0 t1 (pos 8) ∷ instr.Sltu a0 a1 a0 ∷ instr.Jal register.zero (pos 28)
    ∷ instr.Addi a0 register.zero (pos 0) ∷ instr.Jal register.zero (pos 20)
    ∷ instr.Lw a0 sp (temporary d) ∷ instr.Addi a1 t1 (pos 0) ∷ service_words services.cast)

-- a cast throws where the test before said no
unfoldable pub cast_test : List Line
cast_test = words (instr.Bne a0 register.zero (pos 16) ∷ fail_words cast_exception)

-- ---- operators

abbrev pub unary_word : UnaryOp → Instr
unary_word unop.Minus = instr.Sub a0 register.zero a0
unary_word unop.Flip = instr.Xori a0 a0 (negsuc 0)
unary_word unop.Not = instr.Xori a0 a0 (pos 1)

unfoldable pub unary_words : UnaryOp → List Line
unary_words o = word (unary_word o) ∷ []

-- the operands are in a0 and a1; a divisor of 0 throws
abbrev pub operator_words : BinaryOp → List Instr
operator_words op.Or = instr.Or a0 a0 a1 ∷ []
operator_words op.Xor = instr.Xor a0 a0 a1 ∷ []
operator_words op.And = instr.And a0 a0 a1 ∷ []
operator_words op.Eq = instr.Sub a0 a0 a1 ∷ instr.Sltiu a0 a0 (pos 1) ∷ []
operator_words op.Ne = instr.Sub a0 a0 a1 ∷ instr.Sltu a0 register.zero a0 ∷ []
operator_words op.Lt = instr.Slt a0 a0 a1 ∷ []
operator_words op.Gt = instr.Slt a0 a1 a0 ∷ []
operator_words op.Le = instr.Slt a0 a1 a0 ∷ instr.Xori a0 a0 (pos 1) ∷ []
operator_words op.Ge = instr.Slt a0 a0 a1 ∷ instr.Xori a0 a0 (pos 1) ∷ []
operator_words op.Shl = instr.Sll a0 a0 a1 ∷ []
operator_words op.Shr = instr.Sra a0 a0 a1 ∷ []
operator_words op.Ushr = instr.Srl a0 a0 a1 ∷ []
operator_words op.Add = instr.Add a0 a0 a1 ∷ []
operator_words op.Sub = instr.Sub a0 a0 a1 ∷ []
operator_words op.Mul = instr.Mul a0 a0 a1 ∷ []
operator_words op.Div = instr.Bne a1 register.zero (pos 16) ∷ (fail_words arithmetic_exception ++ instr.Div a0 a0 a1 ∷ [])
operator_words op.Rem = instr.Bne a1 register.zero (pos 16) ∷ (fail_words arithmetic_exception ++ instr.Rem a0 a0 a1 ∷ [])

-- the operator, with the left operand in temporary d and the right one in a0
unfoldable pub operate : BinaryOp → ℕ → List Line
operate o d = move_second ++ (load d ++ words (operator_words o))

-- the service that prints
abbrev pub print_service : PrintKind → ℕ
print_service print_kind.Int = services.print_int
print_service print_kind.Bool = services.print_boolean
print_service print_kind.Line = services.print_line_end
print_service print_kind.Byte = services.print_byte

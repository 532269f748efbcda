-- The machine code of a program, as instructions of RV32IM: `compile` as a function. The frame lies at sp, with the temporaries
-- behind its first word and the locals from its end down. A value comes into a0; a1 is the right operand, a7 a service's
-- number, and s11 the turns that are left.
use Rattle.std.specs.Prelude.{ℕ, ◌+◌, ◌-◌, ◌*◌, ℤ, pos, negsuc, List, [], ◌∷◌, ◌++◌, length, map}
use Rattle.rv_isa.specs.declared.instruction.Instr.{Instr}
use Rattle.rv_isa.specs.declared.instruction.Instr.TheVariants as instr
use Rattle.rv_isa.specs.Registers.{zero, sp, a0, a1, a7, s11}
use Rattle.rv_isa.specs.Words.{instruction_size, word_of, fields_of}
use Rattle.rv_machine.specs.Machine.{word_size}
use Rattle.rv_steps.specs.Arithmetic.{upper_part, lower_part}
use Rattle.rv_steps.specs.Services as services
use Rattle.bcj_cli_code.specs.Frames.{frame_words}
use Rattle.bcj_cli_code.specs.declared.scope.Local.{Local}
use Rattle.bcj_cli_code.specs.function.Slots.{Frame, slot_of, frame_after}
use Rattle.bcj_cli_language.specs.declared.tree.Operator.{Operator}
use Rattle.bcj_cli_language.specs.declared.tree.Operator.TheVariants as operator
use Rattle.bcj_cli_language.specs.declared.tree.Comparison.{Comparison}
use Rattle.bcj_cli_language.specs.declared.tree.Comparison.TheVariants as comparison
use Rattle.bcj_cli_language.specs.Tree.{Sum, number, local, binary, Test, Act, print, declare, assign, choose, repeat, Acts, nil, cons}
use Rattle.bcj_cli_language.specs.Scopes.{declared_in}

-- LUI and ADDI make a number of these parts
abbrev pub upper : ℕ → ℤ
upper n = pos (upper_part n)

abbrev pub lower : ℕ → ℤ
lower n = lower_part n

-- the offsets of a temporary and of a local in the frame
abbrev pub temporary : ℕ → ℤ
temporary d = pos (word_size + word_size * d)

abbrev pub place : ℕ → ℤ
place i = pos (word_size * (frame_words - 1 - i))

-- a0 takes a number
abbrev pub number_code : ℕ → List Instr
number_code n = instr.Lui a0 (upper n) ∷ instr.Addi a0 a0 (lower n) ∷ []

-- a0 goes to a temporary, to a local, and takes a local's value
abbrev pub save_word : ℕ → Instr
save_word d = instr.Sw sp a0 (temporary d)

abbrev pub store_word : ℕ → Instr
store_word i = instr.Sw sp a0 (place i)

abbrev pub load_word : ℕ → Instr
load_word i = instr.Lw a0 sp (place i)

-- a7 takes the number of a service, and it is called
abbrev pub service : ℕ → List Instr
service n = instr.Addi a7 zero (pos n) ∷ instr.Ecall ∷ []

-- a jump over n words, and a jump back by n words
abbrev pub ahead : ℕ → Instr
ahead n = instr.Jal zero (pos (instruction_size * n + instruction_size))

abbrev pub back : ℕ → Instr
back n = instr.Jal zero (negsuc (instruction_size * n - 1))

-- n words are passed over where a0 is 0
unfoldable pub skip : ℕ → List Instr
skip n = instr.Bne a0 zero (pos (2 * instruction_size)) ∷ ahead n ∷ []

-- a turn is spent, where one is left; else a service ends the run
unfoldable pub turn : List Instr
turn =
    instr.Bne s11 zero (pos (4 * instruction_size)) ∷ instr.Addi a0 zero (pos 0) ∷ instr.Addi a7 zero (pos services.stop)
    ∷ instr.Ecall ∷ instr.Addi s11 s11 (negsuc 0) ∷ []

abbrev pub operation : Operator → Instr
operation operator.Add = instr.Add a0 a0 a1
operation operator.Sub = instr.Sub a0 a0 a1
operation operator.Mul = instr.Mul a0 a0 a1

abbrev pub comparison_code : Comparison → List Instr
comparison_code comparison.Less = instr.Slt a0 a0 a1 ∷ []
comparison_code comparison.LessEqual = instr.Slt a0 a1 a0 ∷ instr.Xori a0 a0 (pos 1) ∷ []
comparison_code comparison.Greater = instr.Slt a0 a1 a0 ∷ []
comparison_code comparison.GreaterEqual = instr.Slt a0 a0 a1 ∷ instr.Xori a0 a0 (pos 1) ∷ []
comparison_code comparison.Equal = instr.Sub a0 a0 a1 ∷ instr.Sltiu a0 a0 (pos 1) ∷ []
comparison_code comparison.NotEqual = instr.Sub a0 a0 a1 ∷ instr.Sltu a0 zero a0 ∷ []

-- the right operand goes to a1, and temporary d to a0
abbrev pub joined : ℕ → List Instr → List Instr
joined d rest = instr.Addi a1 a0 (pos 0) ∷ instr.Lw a0 sp (temporary d) ∷ rest

-- the left operand waits in temporary d
abbrev pub operands_code : ℕ → List Instr → List Instr → List Instr → List Instr
operands_code d left right rest = left ++ save_word d ∷ (right ++ joined d rest)

-- an expression, with temporaries from d on
abbrev pub sum_code : List Local → ℕ → Sum → List Instr
sum_code slots d (number n) = number_code n
sum_code slots d (local x) = load_word (slot_of slots x) ∷ []
sum_code slots d (binary op a b) = operands_code d (sum_code slots d a) (sum_code slots (d + 1) b) (operation op ∷ [])

abbrev pub test_code : List Local → Test → List Instr
test_code slots t = operands_code 0 (sum_code slots 0 t.left) (sum_code slots 1 t.right) (comparison_code t.comparison)

abbrev pub store_code : ℕ → List Instr
store_code i = store_word i ∷ []

-- a turn, the number in a0 and a line end
unfoldable pub print_code : List Instr
print_code = turn ++ (service services.print_int ++ service services.print_line_end)

unfoldable pub choose_code : List Instr → List Instr → List Instr → List Instr
choose_code test first second = test ++ (skip (length first + 1) ++ (first ++ ahead (length second) ∷ second))

unfoldable pub repeat_code : List Instr → List Instr → List Instr
repeat_code test body = turn ++ (test ++ (skip (length body + 1) ++ (body ++ back (length turn + length test + 2 + length body) ∷ [])))

abbrev mutual
  pub act_code : Frame → Act → List Instr
  act_code f (print e) = sum_code f.slots 0 e ++ print_code
  act_code f (declare x e) = sum_code f.slots 0 e ++ store_code f.next
  act_code f (assign x e) = sum_code f.slots 0 e ++ store_code (slot_of f.slots x)
  act_code f (choose t a b) = choose_code (test_code f.slots t) (acts_code f a) (acts_code (record { slots = f.slots; next = f.next + declared_in a }) b)
  act_code f (repeat t a) = repeat_code (test_code f.slots t) (acts_code f a)

  pub acts_code : Frame → Acts → List Instr
  acts_code f nil = []
  acts_code f (cons a rest) = act_code f a ++ acts_code (frame_after f a) rest

-- a turn for the class initialiser, one for `main`, and its statements; a service ends the run
unfoldable pub program_code : Acts → List Instr
program_code p = turn ++ (turn ++ (acts_code (record { slots = []; next = 0 }) p ++ service services.exit))

abbrev pub instruction_word : Instr → ℕ
instruction_word i = word_of (fields_of i)

abbrev pub program_words : Acts → List ℕ
program_words p = map instruction_word (program_code p)

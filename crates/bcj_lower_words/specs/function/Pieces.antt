-- The pieces of code of the code scheme in smaller parts, as the functions that write them have them.
use Rattle.std.specs.Prelude.{ℕ, ◌*◌, pos, negsuc, List, [], ◌∷◌, ◌++◌}
use Rattle.rv_isa.specs.declared.instruction.Instr.{Instr}
use Rattle.rv_isa.specs.declared.instruction.Instr.TheVariants as instr
use Rattle.rv_isa.specs.Registers.{ra, sp, t1, a0, a1}
use Rattle.rv_isa.specs.Registers as register
use Rattle.rv_steps.specs.Services as services
use Rattle.bcj_lower_rules.specs.Lines.{Line, word, words}
use Rattle.bcj_lower_rules.specs.Words.{word_size, temporary, minus, service_words, fail_words, arithmetic_exception, abstract_error, change_error, load, null_test}

-- one of what a register counts is spent, or code stops and says of what nothing is left
abbrev pub spent_words : ℕ → ℕ → List Instr
spent_words r what =
    instr.Bne r register.zero (pos 16) ∷ instr.Addi a0 register.zero (pos what) ∷ (service_words services.stop ++ instr.Addi r r (negsuc 0) ∷ [])

-- a frame of so many words begins
abbrev pub frame_words : ℕ → List Instr
frame_words frame = instr.Addi sp sp (minus (word_size * frame)) ∷ instr.Sw sp ra (pos 0) ∷ []

-- a0 takes the row of the object in temporary d, which is tested for null before
abbrev pub row_lines : ℕ → List Line
row_lines d = load d ++ (null_test ++ word (instr.Lw a0 a0 (pos 0)) ∷ [])

-- from an object's row to its dispatch row, and from that to a method
abbrev pub dispatch_row_words : List Instr
dispatch_row_words =
    instr.Lw a0 a0 (pos 12) ∷ instr.Lw a1 a0 (pos 0) ∷ instr.Bgeu a1 t1 (pos 16) ∷ fail_words change_error

abbrev pub dispatched_words : List Instr
dispatched_words =
    instr.Add a0 a0 t1 ∷ instr.Lw t1 a0 (pos 0) ∷ instr.Bne t1 register.zero (pos 16)
    ∷ (fail_words change_error ++ instr.Addi a1 register.zero (pos 1) ∷ instr.Bne t1 a1 (pos 16) ∷ fail_words abstract_error)

-- the test of an object's class: the preorder numbers, the test by them, and that by the service
unfoldable pub preorder_numbers : ℕ → List Line
preorder_numbers d =
    words
    (instr.Lw a0 sp (temporary d) ∷ instr.Lw a0 a0 (pos 0) ∷ instr.Lw a1 a0 (pos 4) ∷ instr.Lw a0 t1 (pos 4)
    ∷ instr.Beq a0 register.zero (pos 32) ∷ instr.Beq a1 register.zero (pos 28) ∷ [])

unfoldable pub preorder_test : List Line
preorder_test =
    words
    (instr.Bltu a1 a0 (pos 16) ∷ instr.Lw a0 t1 (pos 8) ∷ instr.Sltu a0 a1 a0 ∷ instr.Jal register.zero (pos 28)
    ∷ instr.Addi a0 register.zero (pos 0) ∷ instr.Jal register.zero (pos 20) ∷ [])

unfoldable pub service_test : ℕ → List Line
service_test d = words (instr.Lw a0 sp (temporary d) ∷ instr.Addi a1 t1 (pos 0) ∷ service_words services.cast)

-- an instruction that divides by a1, where a divisor of 0 throws
abbrev pub dividing_words : Instr → List Instr
dividing_words i = instr.Bne a1 register.zero (pos 16) ∷ (fail_words arithmetic_exception ++ i ∷ [])

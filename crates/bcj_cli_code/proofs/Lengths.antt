-- How long the pieces of code are.
use Rattle.std.proofs.Common.{◌≡◌, ℕ, ◌+◌, List, [], ◌++◌, length, refl, arith, length-append}
use Rattle.rv_isa.specs.declared.instruction.Instr.{Instr}
use Rattle.bcj_cli_language.specs.Tree.{Acts}
use Rattle.bcj_cli_code.specs.function.Code.{skip, turn, operands_code, print_code, choose_code, repeat_code, acts_code, program_code}

pub turn_long : length turn ≡ 5
unfolding turn
turn_long = refl

pub skip_long : (n : ℕ) → length (skip n) ≡ 2
unfolding skip
skip_long n = refl

pub operands_long : (d : ℕ) (left right rest : List Instr) → length (operands_code d left right rest) ≡ length left + (1 + (length right + 2)) + length rest
operands_long d left right rest = simp length-append (omega arith)

pub print_long : (code : List Instr) → length (code ++ print_code) ≡ length code + 9
unfolding print_code turn
print_long code = length-append code print_code

pub choose_long : (test first second : List Instr) → length (choose_code test first second) ≡ length test + (2 + (length first + (1 + length second)))
unfolding choose_code skip
choose_long test first second = simp length-append (omega arith)

pub repeat_long : (test body : List Instr) → length (repeat_code test body) ≡ 5 + (length test + (2 + (length body + 1)))
unfolding repeat_code skip turn
repeat_long test body = simp length-append (omega arith)

pub program_long : (p : Acts) → length (program_code p) ≡ 12 + length (acts_code (record { slots = []; next = 0 }) p)
unfolding program_code turn
program_long p = simp length-append (omega arith)

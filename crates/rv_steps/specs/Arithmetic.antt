-- Numbers of 32 bits, as the instructions of the RV32IM machine compute with them.
use Rattle.std.specs.Prelude.{ℕ, ◌+◌, ◌-◌, ◌/◌, ◌%◌, ◌^◌, ℤ}
use Rattle.rv_isa.specs.Words.{signed, immediate_bits, upper_bits}
use Rattle.rv_machine.specs.Arithmetic.{sign_extended}
unfoldable pub use Rattle.rv_machine.specs.Arithmetic.{sum, difference, product, quotient, remainder, shift_left, shift_right, shift_right_signed, less, less_unsigned}

-- an immediate as a number of 32 bits
abbrev pub offset : ℤ → ℕ
offset n = sign_extended n

-- A number of 32 bits as LUI and ADDI make it: its upper bits, rounded, and the low ones as a signed number.
abbrev pub upper_part : ℕ → ℕ
upper_part n = (n + 2 ^ (immediate_bits - 1)) / 2 ^ immediate_bits % 2 ^ upper_bits

abbrev pub lower_part : ℕ → ℤ
lower_part n = signed immediate_bits (n % 2 ^ immediate_bits)

-- Arithmetic on registers of 32 bits: RISC-V Instruction Set Manual, volume I, "Integer Computational Instructions" of RV32I,
-- and the M extension. A register's value is a number below 2 ^ 32; read in two's complement it is a number from -2 ^ 31 to
-- 2 ^ 31 - 1.
use Rattle.std.specs.Prelude.{
  ℕ,
  ◌+◌,
  ◌-◌,
  ◌*◌,
  ◌/◌,
  ◌%◌,
  ◌^◌,
  ◌==◌,
  nat_lt,
  if◌then◌else◌,
  ℤ,
  pos,
  ◌*ℤ◌,
  int_rem,
}
use Rattle.std.specs.Int.{w8, w16, w32, cast_signed, cast_unsigned, int_wrapping_div, int_shr}
use Rattle.rv_isa.specs.Registers.{xlen}
use Rattle.rv_isa.specs.Words.{bits, upper_bits, amount_bits}
use Rattle.rv_isa.specs.Branches.{is_below}

-- the low 32 bits of a number
abbrev pub wrap : ℕ → ℕ
wrap n = n % 2 ^ xlen

-- an immediate as 32 bits
abbrev pub sign_extended : ℤ → ℕ
sign_extended imm = bits xlen imm

-- the 20 bits of LUI and AUIPC as the upper ones of 32
abbrev pub upper_value : ℤ → ℕ
upper_value imm = wrap (bits upper_bits imm * 2 ^ (xlen - upper_bits))

unfoldable pub sum : ℕ → ℕ → ℕ
sum a b = wrap (a + b)

unfoldable pub difference : ℕ → ℕ → ℕ
difference a b = wrap (a + (2 ^ xlen - b))

-- 1 where a is below b, and 0 otherwise, as numbers in two's complement and as numbers from 0
unfoldable pub less : ℕ → ℕ → ℕ
less a b = if is_below a b then 1 else 0

unfoldable pub less_unsigned : ℕ → ℕ → ℕ
less_unsigned a b = if nat_lt a b then 1 else 0

-- a shift takes the low five bits of its amount
unfoldable pub shift_left : ℕ → ℕ → ℕ
shift_left a n = wrap (a * 2 ^ (n % 2 ^ amount_bits))

unfoldable pub shift_right : ℕ → ℕ → ℕ
shift_right a n = a / 2 ^ (n % 2 ^ amount_bits)

-- the sign's bit comes in from the left
unfoldable pub shift_right_signed : ℕ → ℕ → ℕ
shift_right_signed a n = cast_unsigned w32 (int_shr (cast_signed w32 a) (n % 2 ^ amount_bits))

unfoldable pub product : ℕ → ℕ → ℕ
product a b = wrap (a * b)

-- bits 32 to 63 of a number, as its two's complement in 64 bits has them
abbrev pub upper_half : ℤ → ℕ
upper_half z = cast_unsigned w32 (int_shr z xlen)

unfoldable pub upper_product : ℕ → ℕ → ℕ
upper_product a b = upper_half (cast_signed w32 a *ℤ cast_signed w32 b)

unfoldable pub upper_product_mixed : ℕ → ℕ → ℕ
upper_product_mixed a b = upper_half (cast_signed w32 a *ℤ pos b)

unfoldable pub upper_product_unsigned : ℕ → ℕ → ℕ
upper_product_unsigned a b = a * b / 2 ^ xlen

-- all bits set
abbrev pub all_ones : ℕ
all_ones = 2 ^ xlen - 1

-- a quotient is rounded towards zero; that of a division by zero has all bits set, and -2 ^ 31 / -1 is -2 ^ 31
unfoldable pub quotient : ℕ → ℕ → ℕ
quotient a b =
    if b == 0 then all_ones else cast_unsigned w32 (int_wrapping_div w32 (cast_signed w32 a) (cast_signed w32 b))

unfoldable pub quotient_unsigned : ℕ → ℕ → ℕ
quotient_unsigned a b = if b == 0 then all_ones else a / b

-- a remainder has the dividend's sign; that of a division by zero is the dividend, and that of -2 ^ 31 / -1 is 0
unfoldable pub remainder : ℕ → ℕ → ℕ
remainder a b = if b == 0 then a else cast_unsigned w32 (int_rem (cast_signed w32 a) (cast_signed w32 b))

unfoldable pub remainder_unsigned : ℕ → ℕ → ℕ
remainder_unsigned a b = if b == 0 then a else a % b

-- a byte and a halfword that are loaded with their sign
unfoldable pub signed_byte : ℕ → ℕ
signed_byte n = cast_unsigned w32 (cast_signed w8 n)

unfoldable pub signed_half : ℕ → ℕ
signed_half n = cast_unsigned w32 (cast_signed w16 n)

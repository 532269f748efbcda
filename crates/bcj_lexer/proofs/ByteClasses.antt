-- Which classes of bytes have no byte in common
use Rattle.std.proofs.Common.{◌≡◌, ℕ, true, false, ◌==◌, arith}
use Rattle.std.proofs.lemmas.Bool.Decides.{nat_tests}
use Rattle.bcj_names.specs.Identifiers.{begins_identifier, is_digit}
use Rattle.bcj_lexer.specs.Bytes.{is_blank, is_octal_digit, is_binary_digit, is_hex_digit, is_sign, is_x, is_b, is_e, is_p, is_long_suffix, is_float_suffix}

pub octal_digit : (b : ℕ) → is_octal_digit b ≡ true → is_digit b ≡ true
unfolding is_octal_digit
octal_digit b h = grind (arith, nat_tests)

pub digit-sign : (b : ℕ) → is_digit b ≡ true → is_sign b ≡ false
unfolding is_sign
digit-sign b h = grind (arith, nat_tests)

pub digit-x : (b : ℕ) → is_digit b ≡ true → is_x b ≡ false
unfolding is_x
digit-x b h = grind (arith, nat_tests)

pub digit-b : (b : ℕ) → is_digit b ≡ true → is_b b ≡ false
unfolding is_b
digit-b b h = grind (arith, nat_tests)

pub digit-point : (b : ℕ) → is_digit b ≡ true → (b == 46) ≡ false
digit-point b h = grind (arith, nat_tests)

pub digit-underscore : (b : ℕ) → is_digit b ≡ true → (b == 95) ≡ false
digit-underscore b h = grind (arith, nat_tests)

pub digit-word : (b : ℕ) → is_digit b ≡ true → begins_identifier b ≡ false
digit-word b h = grind (arith, nat_tests)

pub digit-blank : (b : ℕ) → is_digit b ≡ true → is_blank b ≡ false
unfolding is_blank
digit-blank b h = grind (arith, nat_tests)

pub e-digit : (b : ℕ) → is_e b ≡ true → is_digit b ≡ false
unfolding is_e
e-digit b h = grind (arith, nat_tests)

pub e-underscore : (b : ℕ) → is_e b ≡ true → (b == 95) ≡ false
unfolding is_e
e-underscore b h = grind (arith, nat_tests)

pub e-point : (b : ℕ) → is_e b ≡ true → (b == 46) ≡ false
unfolding is_e
e-point b h = grind (arith, nat_tests)

pub e-x : (b : ℕ) → is_e b ≡ true → is_x b ≡ false
unfolding is_e is_x
e-x b h = grind (arith, nat_tests)

pub e-b : (b : ℕ) → is_e b ≡ true → is_b b ≡ false
unfolding is_e is_b
e-b b h = grind (arith, nat_tests)

pub p-hex_digit : (b : ℕ) → is_p b ≡ true → is_hex_digit b ≡ false
unfolding is_p is_hex_digit
p-hex_digit b h = grind (arith, nat_tests)

pub p-underscore : (b : ℕ) → is_p b ≡ true → (b == 95) ≡ false
unfolding is_p
p-underscore b h = grind (arith, nat_tests)

pub p-point : (b : ℕ) → is_p b ≡ true → (b == 46) ≡ false
unfolding is_p
p-point b h = grind (arith, nat_tests)

pub float_suffix-digit : (b : ℕ) → is_float_suffix b ≡ true → is_digit b ≡ false
unfolding is_float_suffix
float_suffix-digit b h = grind (arith, nat_tests)

pub float_suffix-underscore : (b : ℕ) → is_float_suffix b ≡ true → (b == 95) ≡ false
unfolding is_float_suffix
float_suffix-underscore b h = grind (arith, nat_tests)

pub float_suffix-point : (b : ℕ) → is_float_suffix b ≡ true → (b == 46) ≡ false
unfolding is_float_suffix
float_suffix-point b h = grind (arith, nat_tests)

pub float_suffix-e : (b : ℕ) → is_float_suffix b ≡ true → is_e b ≡ false
unfolding is_float_suffix is_e
float_suffix-e b h = grind (arith, nat_tests)

pub float_suffix-long_suffix : (b : ℕ) → is_float_suffix b ≡ true → is_long_suffix b ≡ false
unfolding is_float_suffix is_long_suffix
float_suffix-long_suffix b h = grind (arith, nat_tests)

pub float_suffix-x : (b : ℕ) → is_float_suffix b ≡ true → is_x b ≡ false
unfolding is_float_suffix is_x
float_suffix-x b h = grind (arith, nat_tests)

pub float_suffix-b : (b : ℕ) → is_float_suffix b ≡ true → is_b b ≡ false
unfolding is_float_suffix is_b
float_suffix-b b h = grind (arith, nat_tests)

pub long_suffix-digit : (b : ℕ) → is_long_suffix b ≡ true → is_digit b ≡ false
unfolding is_long_suffix
long_suffix-digit b h = grind (arith, nat_tests)

pub long_suffix-hex_digit : (b : ℕ) → is_long_suffix b ≡ true → is_hex_digit b ≡ false
unfolding is_long_suffix is_hex_digit
long_suffix-hex_digit b h = grind (arith, nat_tests)

pub long_suffix-octal_digit : (b : ℕ) → is_long_suffix b ≡ true → is_octal_digit b ≡ false
unfolding is_long_suffix is_octal_digit
long_suffix-octal_digit b h = grind (arith, nat_tests)

pub long_suffix-binary_digit : (b : ℕ) → is_long_suffix b ≡ true → is_binary_digit b ≡ false
unfolding is_long_suffix is_binary_digit
long_suffix-binary_digit b h = grind (arith, nat_tests)

pub long_suffix-underscore : (b : ℕ) → is_long_suffix b ≡ true → (b == 95) ≡ false
unfolding is_long_suffix
long_suffix-underscore b h = grind (arith, nat_tests)

pub long_suffix-x : (b : ℕ) → is_long_suffix b ≡ true → is_x b ≡ false
unfolding is_long_suffix is_x
long_suffix-x b h = grind (arith, nat_tests)

pub long_suffix-b : (b : ℕ) → is_long_suffix b ≡ true → is_b b ≡ false
unfolding is_long_suffix is_b
long_suffix-b b h = grind (arith, nat_tests)

pub b-x : (b : ℕ) → is_b b ≡ true → is_x b ≡ false
unfolding is_b is_x
b-x b h = grind (arith, nat_tests)

pub word-blank : (b : ℕ) → begins_identifier b ≡ true → is_blank b ≡ false
unfolding is_blank
word-blank b h = grind (arith, nat_tests)

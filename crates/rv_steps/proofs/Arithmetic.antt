-- Sums of 32 bits, above all addresses. No other file opens `sum`, `difference` or `product`.
use Rattle.std.proofs.Common.{◌≡◌, ℕ, zero, suc, ◌+◌, ◌-◌, ◌*◌, ◌%◌, ◌^◌, ◌<◌, ◌≤◌, pos, negsuc, neg_ℤ, Bool, true, false, nat_lt, if◌then◌else◌, refl, arith, ltb-true, ltb-false}
use Rattle.rv_isa.specs.Words.{HasBits, HasUnsignedBits}
use Rattle.rv_steps.specs.Memory.{wrap}
use Rattle.rv_steps.specs.Arithmetic.{offset, sum, difference, product, upper_part, lower_part}

pub sum_wraps : (a b : ℕ) → sum a b ≡ wrap (a + b)
unfolding sum wrap
sum_wraps a b = refl

pub difference_wraps : (a b : ℕ) → difference a b ≡ wrap (a + (2 ^ 32 - b))
unfolding difference wrap
difference_wraps a b = refl

pub product_wraps : (a b : ℕ) → product a b ≡ wrap (a * b)
unfolding product wrap
product_wraps a b = refl

pub sum_small : (a b : ℕ) → a + b < 2 ^ 32 → sum a b ≡ a + b
unfolding sum
sum_small a b fits = omega arith

pub sum_lt : (a b : ℕ) → sum a b < 2 ^ 32
unfolding sum
sum_lt a b = omega arith

-- an address some bytes behind a base
pub sum_on : (a n : ℕ) → a + n < 2 ^ 32 → sum a (offset (pos n)) ≡ a + n
sum_on a n fits = sum_small a n fits

-- an address some bytes before a base
pub sum_back : (a n : ℕ) → n ≤ a → a < 2 ^ 32 → sum a (offset (neg_ℤ (pos n))) ≡ a - n
unfolding sum
sum_back a zero le fits = omega arith
sum_back a (suc n) le fits = omega arith

parts_by : (n : ℕ) (b : Bool) → nat_lt (n % 2 ^ 12) (2 ^ 11) ≡ b → n < 2 ^ 32
    → sum (wrap (upper_part n * 2 ^ 12)) (offset (if b then pos (n % 2 ^ 12) else negsuc (2 ^ 12 - 1 - n % 2 ^ 12))) ≡ n
unfolding sum wrap
parts_by n true e fits = let h = ltb-true (n % 2 ^ 12) (2 ^ 11) e in omega arith
parts_by n false e fits = let h = ltb-false (n % 2 ^ 12) (2 ^ 11) e in omega arith

-- LUI and ADDI make any number of 32 bits
pub parts_join : (n : ℕ) → n < 2 ^ 32 → sum (wrap (upper_part n * 2 ^ 12)) (offset (lower_part n)) ≡ n
parts_join n fits = parts_by n (nat_lt (n % 2 ^ 12) (2 ^ 11)) refl fits

lower_by : (n : ℕ) (b : Bool) → nat_lt (n % 2 ^ 12) (2 ^ 11) ≡ b
    → HasBits 12 (if b then pos (n % 2 ^ 12) else negsuc (2 ^ 12 - 1 - n % 2 ^ 12))
lower_by n true e = let h = ltb-true (n % 2 ^ 12) (2 ^ 11) e in omega arith
lower_by n false e = let h = ltb-false (n % 2 ^ 12) (2 ^ 11) e in omega arith

pub upper_fits : (n : ℕ) → HasUnsignedBits 20 (pos (upper_part n))
upper_fits n = omega arith

pub lower_fits : (n : ℕ) → HasBits 12 (lower_part n)
lower_fits n = lower_by n (nat_lt (n % 2 ^ 12) (2 ^ 11)) refl

-- Numbers that stand at the last value of their type.
use Rattle.std.specs.Prelude.{ℕ, ◌+◌, ◌-◌, ◌^◌, min, max}

abbrev pub last_u64 : ℕ
last_u64 = 2 ^ 64 - 1

abbrev pub last_u32 : ℕ
last_u32 = 2 ^ 32 - 1

unfoldable pub capped : ℕ → ℕ
capped n = min n last_u64

unfoldable pub plus : ℕ → ℕ → ℕ
plus a b = capped (a + b)

-- the same of a `u32`
abbrev pub narrow : ℕ → ℕ
narrow n = min n last_u32

unfoldable pub larger : ℕ → ℕ → ℕ
larger a b = max a b

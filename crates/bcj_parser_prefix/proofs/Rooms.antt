-- Two rooms, or two limits, that are compared.
use Rattle.std.proofs.Common.{◌≡◌, ℕ, zero, suc, ◌≤◌, Bool, true, false, refl, ap, arith}

-- the first is no larger, and the same where strict
pub data Rooms (strict : Bool) : ℕ → ℕ → Type 0 where
  both_none : Rooms strict zero zero
  none_below : {n : ℕ} → strict ≡ false → Rooms strict zero (suc n)
  both_more : {n m : ℕ} → Rooms strict n m → Rooms strict (suc n) (suc m)

pub rooms_le : {strict : Bool} {n m : ℕ} → Rooms strict n m → n ≤ m
rooms_le both_none = omega arith
rooms_le (none_below e) = omega arith
rooms_le (both_more r) = omega (arith, rooms_le r)

pub rooms_same : {strict : Bool} {n m : ℕ} → Rooms strict n m → strict ≡ true → n ≡ m
rooms_same both_none s = refl
rooms_same (none_below e) s = absurd (cc)
rooms_same (both_more r) s = ap suc (rooms_same r s)

pub rooms : {strict : Bool} (n m : ℕ) → n ≤ m → (strict ≡ true → n ≡ m) → Rooms strict n m
rooms zero zero le same = both_none
rooms {strict = true} zero (suc m) le same = absurd (omega (arith, same refl))
rooms {strict = false} zero (suc m) le same = none_below refl
rooms (suc n) zero le same = absurd (omega (arith, le))
rooms (suc n) (suc m) le same = both_more (rooms n m (omega (arith, le)) (λ s. omega (arith, same s)))

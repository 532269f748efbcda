-- The order of faults in a file, and the least of them.
use Rattle.std.specs.Prelude.{◌≡◌, ◌<◌, ◌≤◌, ◌⊎◌, ℕ, Bool, nat_eq, nat_lt, ◌&&◌, ◌||◌, Option, None, Some, if◌then◌else◌}
use Rattle.bcj_decl_rules.specs.Faults.{Refusal, rank}

-- a refusal with the byte at which it is
pub record Spot : Type 0 where
  pub at : ℕ
  pub refusal : Refusal

abbrev pub comes_before : Spot → Spot → Bool
comes_before x y = nat_lt x.at y.at || (nat_eq x.at y.at && nat_lt (rank x.refusal) (rank y.refusal))

-- the one that comes first
abbrev pub earlier : Option Spot → Option Spot → Option Spot
earlier None o = o
earlier (Some x) None = Some x
earlier (Some x) (Some y) = if comes_before y x then Some y else Some x

-- the first comes no later than the other
abbrev pub NoLater : Spot → Spot → Type 0
NoLater x y = (x.at < y.at) ⊎ ((x.at ≡ y.at) × (rank x.refusal ≤ rank y.refusal))

-- there is no fault, or none comes before this one
abbrev pub IsLeast : (Spot → Type 0) → Option Spot → Type 0
IsLeast IsFault None = (x : Spot) → IsFault x → ⊥
IsLeast IsFault (Some y) = IsFault y × ((x : Spot) → IsFault x → NoLater y x)

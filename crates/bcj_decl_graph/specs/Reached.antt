-- Where steps from place to place lead.
use Rattle.std.specs.Prelude.{◌≡◌, ◌<◌, ℕ, Bool, false, List, [], length, slice_get, unwrap_or}
use Rattle.std.specs.List.{Contains}

-- the places to which a place steps; none past the end
abbrev pub steps_of : List (List ℕ) → ℕ → List ℕ
steps_of steps j = unwrap_or (slice_get steps j) []

-- each of these places is below a number
abbrev pub AreBelow : ℕ → List ℕ → Type 0
AreBelow n places = (k : ℕ) → Contains places k → k < n

-- each step leads to a place that steps
abbrev pub IsWithin : List (List ℕ) → Type 0
IsWithin steps = (j : ℕ) → AreBelow (length steps) (steps_of steps j)

-- the places that steps lead to from these; from a closed place no step is taken
pub data Reached (steps : List (List ℕ)) (closed : ℕ → Bool) (from : List ℕ) : ℕ → Type 0 where
  start : {k : ℕ} → Contains from k → Reached steps closed from k
  onward : {j k : ℕ} → Reached steps closed from j → closed j ≡ false → Contains (steps_of steps j) k → Reached steps closed from k

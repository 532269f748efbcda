-- When a count of faults rose, and what a put leaves in a sink.
use Rattle.std.specs.Prelude.{◌≡◌, ℕ, ◌+◌, ◌-◌, ◌≤◌, ◌^◌, min, List, ◌++◌, length, take, Option, Some, IfSome}

-- the last value of a count, which is a u64 and stands still there
abbrev pub max_count : ℕ
max_count = 2 ^ 64 - 1

-- the count behind n
abbrev pub raised : ℕ → ℕ
raised n = min (n + 1) max_count

-- now is larger than before, or stands at the last value
abbrev pub Rose : ℕ → ℕ → Type 0
Rose before now = raised before ≤ now

-- where a sink tells what it took, it took the whole piece behind that
abbrev pub Appends : Option (List ℕ) → Option (List ℕ) → List ℕ → Type 0
Appends old new piece = IfSome old (λ xs. new ≡ Some (xs ++ piece))

-- where a sink tells what it took, it took a front of the piece behind that
abbrev pub AppendsFront : Option (List ℕ) → Option (List ℕ) → List ℕ → Type 0
AppendsFront old new piece = IfSome old (λ xs. (n : ℕ) × (n ≤ length piece) × (new ≡ Some (xs ++ take n piece)))

-- In which order methods stand.
use Rattle.std.specs.Prelude.{◌≤◌, ℕ, List, [], ◌∷◌}
use Rattle.bcj_unwind.specs.declared.ranges.MethodRanges.{MethodRanges}

-- each ends no earlier than it begins, and the next one begins no earlier than that
abbrev pub StandFrom : ℕ → List MethodRanges → Type 0
StandFrom least [] = Unit {0}
StandFrom least (m ∷ ms) = (least ≤ m.first) × (m.first ≤ m.past) × StandFrom m.past ms

-- in order of address, and no two overlap
abbrev pub AreInOrder : List MethodRanges → Type 0
AreInOrder ms = StandFrom 0 ms

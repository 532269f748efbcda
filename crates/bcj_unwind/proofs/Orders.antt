-- A list of methods in order grows at its end.
use Rattle.std.proofs.Common.{◌≡◌, ℕ, ◌≤◌, List, [], ◌∷◌, ◌++◌, refl}
use Rattle.bcj_unwind.specs.declared.ranges.MethodRanges.{MethodRanges}
use Rattle.bcj_unwind.specs.Orders.{StandFrom}

-- where the last method ends, or the least place
abbrev pub end_of : ℕ → List MethodRanges → ℕ
end_of least [] = least
end_of least (m ∷ ms) = end_of m.past ms

-- a method that begins no earlier than the last one ends may follow
pub stand_push : (least : ℕ) (ms : List MethodRanges) (m : MethodRanges) → StandFrom least ms → end_of least ms ≤ m.first → m.first ≤ m.past → StandFrom least (ms ++ m ∷ [])
stand_push least [] m stand begins ends = (begins, ends, tt)
stand_push least (n ∷ ms) m stand begins ends = (stand.0, stand.1, stand_push n.past ms m stand.2 begins ends)

-- and is then the last
pub end_push : (least : ℕ) (ms : List MethodRanges) (m : MethodRanges) → end_of least (ms ++ m ∷ []) ≡ m.past
end_push least [] m = refl
end_push least (n ∷ ms) m = end_push n.past ms m

use Rattle.std.proofs.Common.{◌≡◌, ℕ, [], length, get_or}
use Rattle.bcj_layout_resolution.proofs.index.empty_buckets.Given as goal

abbrev pub invariant-loop-i : goal.invariant-loop-i
invariant-loop-i l = record { count : length l.buckets.items ≡ l._i; empty : (b : ℕ) → get_or l.buckets.items b [] ≡ [] }

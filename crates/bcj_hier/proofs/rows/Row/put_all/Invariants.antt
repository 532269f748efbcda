use Rattle.std.proofs.Common.{◌≡◌, ◌<◌, ◌≤◌, ℕ, List, length, get_or, bit_or}
use Rattle.bcj_hier.proofs.rows.Row.put_all.Given as goal

pub record IsPut (n : ℕ) (old other new : List ℕ) : Type 0 where
  pub count : length new ≡ 64
  pub done : (k : ℕ) → k < n → get_or new k 0 ≡ bit_or (get_or old k 0) (get_or other k 0)
  pub left : (k : ℕ) → n ≤ k → get_or new k 0 ≡ get_or old k 0

abbrev pub invariant-loop-k : goal.invariant-loop-k
invariant-loop-k l = IsPut l.k l.initial.self.words l.other.words l.self.words

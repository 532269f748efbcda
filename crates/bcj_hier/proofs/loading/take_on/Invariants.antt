use Rattle.std.proofs.Common.{◌≤◌, take, length}
use Rattle.bcj_hier.specs.Loads.{ArePassing}
use Rattle.bcj_hier.proofs.loading.take_on.Given as goal

pub record IsTaken (P : Type 0) (at end : Prim.Native.Nat.ℕ) : Type 0 where
  pub passed : P
  pub within : at ≤ end

abbrev pub invariant-loop-at : goal.invariant-loop-at
invariant-loop-at l = IsTaken (ArePassing l.heads l.states (take l.at l.parts)) l.at (length l.parts)

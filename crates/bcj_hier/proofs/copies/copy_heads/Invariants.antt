use Rattle.std.proofs.Common.{◌≡◌, ◌++◌, drop}
use Rattle.bcj_hier.proofs.copies.copy_heads.Given as goal

abbrev pub invariant-loop-head : goal.invariant-loop-head
invariant-loop-head l = l.copies ++ drop l.head-index l.heads ≡ l.heads

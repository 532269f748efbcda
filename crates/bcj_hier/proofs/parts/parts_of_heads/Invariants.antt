use Rattle.std.proofs.Common.{◌≡◌, ◌++◌, map, drop}
use Rattle.bcj_hier.specs.Numbers.{parts_of}
use Rattle.bcj_hier.proofs.parts.parts_of_heads.Given as goal

abbrev pub invariant-loop-head : goal.invariant-loop-head
invariant-loop-head l = l.all ++ map (parts_of l.names) (drop l.head-index l.heads) ≡ map (parts_of l.names) l.heads

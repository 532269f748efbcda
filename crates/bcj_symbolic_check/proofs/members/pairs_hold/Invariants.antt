use Rattle.std.proofs.Common.{◌≡◌, drop, map}
use Rattle.std.specs.List.{list_all}
use Rattle.bcj_symbolic_trees.specs.Units.{pair_of}
use Rattle.bcj_symbolic_check.specs.Classes as spec
use Rattle.bcj_symbolic_check.proofs.members.pairs_hold.Given as goal

abbrev pub invariant-loop-pair : goal.invariant-loop-pair
invariant-loop-pair l = list_all spec.pair_holds (map pair_of (drop l.pair-index l.pairs)) ≡ list_all spec.pair_holds (map pair_of l.pairs)

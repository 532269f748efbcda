use Rattle.std.proofs.Common.{◌≡◌, ◌<◌, ℕ, map, suc, length, Some}
use Rattle.std.specs.Option.{option_map_or}
use Rattle.bcj_parser_trees.specs.Plain as tree
use Rattle.bcj_decl_member_faults.proofs.Chain.{IsOnWay}
use Rattle.bcj_decl_member_faults.proofs.earlier.stands_before.Given as goal

abbrev pub invariant-loop-at : goal.invariant-loop-at
invariant-loop-at l = IsOnWay (map tree.member_of l.members) l.position l.at × ((k : ℕ) → l.at ≡ Some k → k < length l.members)

abbrev pub decreases-loop-at : goal.decreases-loop-at
decreases-loop-at l = option_map_or suc l.at 0

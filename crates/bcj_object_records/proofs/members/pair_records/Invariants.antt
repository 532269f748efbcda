use Rattle.std.proofs.Common.{◌≡◌, take, map}
use Rattle.bcj_symbolic_trees.specs.Units.{pair_of}
use Rattle.bcj_object_rules.specs.Records.{pair_record}
use Rattle.bcj_object_records.proofs.members.pair_records.Given as goal

abbrev pub invariant-loop-pair : goal.invariant-loop-pair
invariant-loop-pair l = l.all ≡ map pair_record (map pair_of (take l.pair-index l.pairs))

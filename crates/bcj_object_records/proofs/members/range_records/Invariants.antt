use Rattle.std.proofs.Common.{◌≡◌, take, map}
use Rattle.bcj_lower.specs.Views.{range_in}
use Rattle.bcj_object_rules.specs.Records.{range_record}
use Rattle.bcj_object_records.proofs.members.range_records.Given as goal

abbrev pub invariant-loop-range : goal.invariant-loop-range
invariant-loop-range l = l.all ≡ map (range_record l.text) (map range_in (take l.range-index l.ranges))

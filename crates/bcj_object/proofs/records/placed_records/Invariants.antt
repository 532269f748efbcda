use Rattle.std.proofs.Common.{◌≡◌, take, map}
use Rattle.bcj_object_rules.specs.Objects.{placed_record}
use Rattle.bcj_object.specs.function.Views.{placed_in}
use Rattle.bcj_object.proofs.records.placed_records.Given as goal

abbrev pub invariant-loop-p : goal.invariant-loop-p
invariant-loop-p l = l.all ≡ map placed_record (map placed_in (take l.p-index l.placed))

use Rattle.std.proofs.Common.{◌≡◌, take, map}
use Rattle.bcj_symbolic_trees.specs.Units.{field_of}
use Rattle.bcj_object_rules.specs.Records.{field_record}
use Rattle.bcj_object_records.proofs.members.field_records.Given as goal

abbrev pub invariant-loop-field : goal.invariant-loop-field
invariant-loop-field l = l.all ≡ map field_record (map field_of (take l.field-index l.fields))

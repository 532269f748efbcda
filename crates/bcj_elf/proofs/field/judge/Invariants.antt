use Rattle.std.proofs.Common.{◌≡◌, map, drop}
use Rattle.bcj_elf.specs.Fields.{first_bad}
use Rattle.bcj_elf.specs.function.Judging.{plain_field}
use Rattle.bcj_elf.proofs.field.judge.Given as goal

abbrev pub invariant-loop-field : goal.invariant-loop-field
invariant-loop-field l = first_bad l.bytes (map plain_field (drop l.field-index l.fields)) ≡ first_bad l.bytes (map plain_field l.fields)

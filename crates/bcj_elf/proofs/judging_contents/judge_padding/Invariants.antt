use Rattle.std.proofs.Common.{◌≡◌, ◌+◌, ◌-◌}
use Rattle.bcj_elf.specs.Fields.{first_bad}
use Rattle.bcj_elf.specs.Places.{padding_fields}
use Rattle.bcj_elf.proofs.judging_contents.judge_padding.Given as goal

abbrev pub invariant-loop-i : goal.invariant-loop-i
invariant-loop-i l = first_bad l.bytes (padding_fields l.bytes (l.at + l.i) (l.count - l.i)) ≡ first_bad l.bytes (padding_fields l.bytes l.at l.count)

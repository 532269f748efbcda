use Rattle.std.proofs.Common.{◌≡◌, ◌+◌, ◌-◌, length}
use Rattle.bcj_elf.specs.Fields.{first_bad}
use Rattle.bcj_elf.specs.Places.{name_fields}
use Rattle.bcj_elf.proofs.judging_contents.judge_names.Given as goal

abbrev pub invariant-loop : goal.invariant-loop
invariant-loop l = record {
  room : l.at + length l.left ≡ l.fn.at + length l.fn.left;
  same : first_bad l.bytes (name_fields l.at l.left (l.classes - l.counter)) ≡ first_bad l.bytes (name_fields l.fn.at l.fn.left l.classes);
}

use Rattle.std.proofs.Common.{◌≡◌, ◌+◌, ◌-◌, ◌*◌}
use Rattle.bcj_elf.specs.Elf.{relocation_size}
use Rattle.bcj_elf.specs.Fields.{first_bad}
use Rattle.bcj_elf.specs.Places.{relocations_fields}
use Rattle.bcj_elf.proofs.judging_contents.judge_relocations.Given as goal

abbrev pub invariant-loop : goal.invariant-loop
invariant-loop l = record {
  place : l.at ≡ l.fn.at + relocation_size * l.counter;
  same : first_bad l.bytes (relocations_fields l.bytes l.at l.t.section l.t.contents.now l.t.symbols l.least (l.count - l.counter)) ≡ first_bad l.bytes (relocations_fields l.bytes l.fn.at l.t.section l.t.contents.now l.t.symbols 0 l.count);
}

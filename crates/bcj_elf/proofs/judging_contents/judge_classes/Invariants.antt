use Rattle.std.proofs.Common.{◌≡◌, ◌+◌, ◌-◌, ◌*◌, ◌≤◌, length}
use Rattle.bcj_elf.specs.Elf.{symbol_size}
use Rattle.bcj_elf.specs.Fields.{first_bad}
use Rattle.bcj_elf.specs.Places.{classes_fields}
use Rattle.bcj_elf.specs.function.Judging.{plain_turn}
use Rattle.bcj_elf.proofs.judging_contents.judge_classes.Given as goal

abbrev pub invariant-loop-index : goal.invariant-loop-index
invariant-loop-index l = record {
  place : l.turn.at ≡ l.t.at + 2 * symbol_size * l.index;
  name : l.turn.name + length l.turn.left.now ≤ l.t.name + length l.t.left.now + 2 * l.index;
  same : first_bad l.bytes (classes_fields l.bytes l.s (plain_turn l.turn) (l.classes - l.index)) ≡ first_bad l.bytes (classes_fields l.bytes l.s (plain_turn l.t) l.classes);
}

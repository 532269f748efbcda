use Rattle.std.proofs.Common.{◌≡◌, ◌++◌, ◌*◌, ◌≤◌, false, take, drop}
use Rattle.bcj_asm.specs.Forms.{next_behind, next_forms, sizes}
use Rattle.bcj_asm.proofs.rounds.next_round.Given as goal

abbrev pub invariant-loop-formed : goal.invariant-loop-formed
invariant-loop-formed l = record {
  forms : l.round.forms.items ++ next_behind (take l.formed-index l.forms) (drop l.formed-index l.forms) ≡ next_forms l.forms;
  same : l.round.changed ≡ false → l.round.forms.items ≡ take l.formed-index l.forms;
  words : l.round.words ≡ sizes (take l.formed-index l.forms);
  few : l.round.words ≤ 2 * l.formed-index;
}

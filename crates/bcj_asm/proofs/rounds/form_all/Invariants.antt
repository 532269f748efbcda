use Rattle.std.proofs.Common.{◌≡◌, ◌-◌, ◌≤◌, length}
use Rattle.bcj_asm.specs.Forms.{formed, rounds}
use Rattle.bcj_asm.specs.Lists.{max_list_length}
use Rattle.bcj_asm.proofs.rounds.form_all.Given as goal

abbrev pub invariant-loop-turn : goal.invariant-loop-turn
invariant-loop-turn l = record {
  forms : rounds (length l.items - l._turn) l.forms.items ≡ formed l.items;
  few : length l.forms.items ≤ max_list_length;
}

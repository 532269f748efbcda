use Rattle.std.proofs.Common.{◌≡◌, take}
use Rattle.bcj_asm.specs.Forms.{all_long}
use Rattle.bcj_asm.proofs.rounds.all_long.Given as goal

abbrev pub invariant-loop-item : goal.invariant-loop-item
invariant-loop-item l = l.forms.items ≡ all_long (take l.item-index l.items)

use Rattle.bcj_asm.specs.Assembly.{AreItems}
use Rattle.bcj_machine_rows.proofs.assembling.add.Given as goal

abbrev pub invariant-loop-turn : goal.invariant-loop-turn
invariant-loop-turn l = AreItems l.items

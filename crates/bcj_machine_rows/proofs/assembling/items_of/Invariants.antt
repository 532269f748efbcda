use Rattle.bcj_asm.specs.Assembly.{AreItems}
use Rattle.bcj_machine_rows.proofs.assembling.items_of.Given as goal

abbrev pub invariant-loop-piece : goal.invariant-loop-piece
invariant-loop-piece l = AreItems l.items

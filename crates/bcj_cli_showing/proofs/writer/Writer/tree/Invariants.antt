use Rattle.bcj_cli_showing.proofs.Walks.{Walk, left}
use Rattle.bcj_cli_showing.proofs.writer.Writer.tree.Given as goal

abbrev pub invariant-loop-next : goal.invariant-loop-next
invariant-loop-next l = Walk l.hier l.initial.self l.self l.next

abbrev pub decreases-loop-next : goal.decreases-loop-next
decreases-loop-next l = left l.hier l.next

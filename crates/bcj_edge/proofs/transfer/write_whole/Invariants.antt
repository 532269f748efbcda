use Rattle.bcj_edge.proofs.Written.{Written}
use Rattle.bcj_edge.proofs.transfer.write_whole.Given as goal

abbrev pub invariant-loop-turn : goal.invariant-loop-turn
invariant-loop-turn g l = Written (g.W.Write.contents l.initial.writer) (g.W.Write.contents l.writer) l.bytes l.rest

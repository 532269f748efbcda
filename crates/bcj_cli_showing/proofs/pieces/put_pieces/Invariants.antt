use Rattle.std.proofs.Common.{length}
use Rattle.bcj_cli_showing.proofs.Puts.{Put}
use Rattle.bcj_cli_showing.proofs.pieces.put_pieces.Given as goal

abbrev pub invariant-loop-rest : goal.invariant-loop-rest
invariant-loop-rest g l = Put (g.S.Sink.taken l.initial.sink) (g.S.Sink.taken l.sink) (g.S.Sink.faults l.initial.sink) (g.S.Sink.faults l.sink) l.bytes l.rest

abbrev pub decreases-loop-rest : goal.decreases-loop-rest
decreases-loop-rest g l = length l.rest

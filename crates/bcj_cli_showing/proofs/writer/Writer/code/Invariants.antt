use Rattle.bcj_cli_showing.proofs.Codes.{Shown}
use Rattle.bcj_cli_showing.proofs.writer.Writer.code.Given as goal

abbrev pub invariant-loop-index : goal.invariant-loop-index
invariant-loop-index l = Shown l.initial.self l.self l.text l.index

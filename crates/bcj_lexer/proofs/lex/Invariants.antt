use Rattle.std.proofs.Common.{length}
use Rattle.bcj_lexer.proofs.Cutting.{Reached}
use Rattle.bcj_lexer.proofs.lex.Given as goal

abbrev pub invariant-loop-rest : goal.invariant-loop-rest
invariant-loop-rest l = Reached l.text l.rest l.tokens

abbrev pub decreases-loop-rest : goal.decreases-loop-rest
decreases-loop-rest l = length l.rest

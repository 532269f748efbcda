use Rattle.std.proofs.Common.{◌≡◌, length}
use Rattle.bcj_lexer.specs.Bytes as bytes
use Rattle.bcj_lexer.specs.function.Scan as spec
use Rattle.bcj_lexer.proofs.piece.behind_line.Given as goal

abbrev pub invariant-loop-rest : goal.invariant-loop-rest
invariant-loop-rest l = spec.behind bytes.in_line l.rest ≡ spec.behind bytes.in_line l.text

abbrev pub decreases-loop-rest : goal.decreases-loop-rest
decreases-loop-rest l = length l.rest

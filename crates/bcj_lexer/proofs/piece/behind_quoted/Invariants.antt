use Rattle.std.proofs.Common.{◌≡◌, length, false}
use Rattle.bcj_lexer.specs.function.Scan as spec
use Rattle.bcj_lexer.proofs.piece.behind_quoted.Given as goal

abbrev pub invariant-loop-rest : goal.invariant-loop-rest
invariant-loop-rest l = spec.behind_quoted l.quote l.escaped l.rest ≡ spec.behind_quoted l.quote false l.text

abbrev pub decreases-loop-rest : goal.decreases-loop-rest
decreases-loop-rest l = length l.rest

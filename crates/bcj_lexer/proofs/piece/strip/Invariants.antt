use Rattle.std.proofs.Common.{◌≡◌, length}
use Rattle.bcj_lexer.specs.function.Scan as spec
use Rattle.bcj_lexer.proofs.piece.strip.Given as goal

abbrev pub invariant-loop-wanted : goal.invariant-loop-wanted
invariant-loop-wanted l = spec.strip l.wanted l.rest ≡ spec.strip l.symbol l.text

abbrev pub decreases-loop-wanted : goal.decreases-loop-wanted
decreases-loop-wanted l = length l.wanted

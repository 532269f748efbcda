use Rattle.std.proofs.Common.{◌≡◌, ◌≤◌, length}
use Rattle.bcj_lexer.specs.function.Scan as spec
use Rattle.bcj_lexer.proofs.number.behind_tail.Given as goal

abbrev pub invariant-loop-rest : goal.invariant-loop-rest
invariant-loop-rest l = (spec.behind_tail l.hex l.previous l.rest ≡ spec.behind_tail l.hex l.first l.text) × (length l.rest ≤ length l.text)

abbrev pub decreases-loop-rest : goal.decreases-loop-rest
decreases-loop-rest l = length l.rest

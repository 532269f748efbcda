use Rattle.std.proofs.Common.{◌≡◌, ◌≤◌, length}
use Rattle.bcj_names.specs.Identifiers.{in_identifier}
use Rattle.bcj_lexer.specs.function.Scan as spec
use Rattle.bcj_lexer.proofs.piece.behind_word.Given as goal

abbrev pub invariant-loop-rest : goal.invariant-loop-rest
invariant-loop-rest l = (spec.behind in_identifier l.rest ≡ spec.behind in_identifier l.text) × (length l.rest ≤ length l.text)

abbrev pub decreases-loop-rest : goal.decreases-loop-rest
decreases-loop-rest l = length l.rest

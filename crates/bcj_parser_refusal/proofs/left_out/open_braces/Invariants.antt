use Rattle.std.proofs.Common.{◌≡◌, ◌≤◌, drop}
use Rattle.bcj_parser_rules.specs.LeftOut as spec
use Rattle.bcj_parser_refusal.proofs.left_out.open_braces.Given as goal

abbrev pub invariant-loop-lexeme : goal.invariant-loop-lexeme
invariant-loop-lexeme l = (spec.open_braces l.open (drop l.lexeme-index l.lexemes) ≡ spec.open_braces 0 l.lexemes) × (l.open ≤ l.lexeme-index)

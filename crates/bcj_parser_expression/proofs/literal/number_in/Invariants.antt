use Rattle.std.proofs.Common.{◌≡◌, ◌≤◌, min, length}
use Rattle.bcj_parser_rules.specs.Grammar.{number_in}
use Rattle.bcj_parser_rules.specs.Limits.{max_value}
use Rattle.bcj_parser_expression.proofs.Numbers.{along}
use Rattle.bcj_parser_expression.proofs.literal.number_in.Given as goal

abbrev pub invariant-loop-rest : goal.invariant-loop-rest
invariant-loop-rest l = (min (number_in l.radix l.digits) max_value ≡ min (along l.radix l.value l.rest) max_value) × (l.value ≤ max_value)

abbrev pub decreases-loop-rest : goal.decreases-loop-rest
decreases-loop-rest l = length l.rest

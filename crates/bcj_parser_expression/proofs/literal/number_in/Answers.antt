use Rattle.std.proofs.Common.{arith}
use Rattle.bcj_parser_rules.specs.Limits.{max_value}
use Rattle.bcj_parser_expression.proofs.Numbers.{turn}
use Rattle.bcj_parser_expression.proofs.literal.number_in.Goals as goal

pub loop-rest-preserved : goal.loop-rest-preserved
loop-rest-preserved c = (turn _ c.args.radix c.loop-rest.value _ max_value c.loop-rest.rest.now c.requires (omega arith) c.appended-value.ensures.value c.loop-rest.invariant.0, c.appended-value.ensures.small)

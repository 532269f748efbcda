use Rattle.std.proofs.Common.{◌<◌, arith}
use Rattle.bcj_parser_expression.proofs.Turns.{some_room}
use Rattle.bcj_parser_expression.proofs.grammar.Grammar.element_operand.Goals as goal

pub returns-clause-low : goal.returns-clause-low
returns-clause-low g c = let some : 0 < c.args.self.now.room = some_room c.args.self.now.room 1 _ _ _ c.in_ok-index.ensures.reads in omega (arith, c.in_ok-index.ensures.low, c.max.ensures)

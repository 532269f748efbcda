use Rattle.bcj_parser_expression.proofs.reading.+expression.Given as goal

abbrev pub decreases-expression : goal.decreases-expression
decreases-expression l = l.room

use Rattle.bcj_parser_expression.proofs.types.+brackets.Given as goal

abbrev pub decreases-brackets : goal.decreases-brackets
decreases-brackets l = l.room

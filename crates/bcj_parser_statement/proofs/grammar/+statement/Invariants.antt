use Rattle.bcj_parser_statement.proofs.grammar.+statement.Given as goal

abbrev pub decreases-statement : goal.decreases-statement
decreases-statement l = l.room

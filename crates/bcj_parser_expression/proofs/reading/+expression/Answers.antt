use Rattle.std.proofs.Common.{sym, subst, arith}
use Rattle.bcj_parser_rules.specs.function.Steps.{Outcome, Reads}
use Rattle.bcj_parser_rules.specs.function.Expressions.{Read, expression}
use Rattle.bcj_parser_expression.specs.function.Begin.{begin_of}
use Rattle.bcj_parser_expression.specs.function.Nests.{one_of}
use Rattle.bcj_parser_expression.proofs.Turns.{deeper}
use Rattle.bcj_parser_expression.proofs.reading.+expression.Goals as goal

pub returns-clause-reads : goal.returns-clause-reads
returns-clause-reads t c = let P : Outcome Read → Type 0 = λ o. Reads one_of o c.expression.result c.expression.new.cursor in
    subst P (sym (deeper (λ n. expression n (begin_of c.args.begin) c.args.least c.args.cursor.now) c.args.room (omega arith))) c.expression.ensures.reads

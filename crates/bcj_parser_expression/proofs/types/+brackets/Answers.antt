use Rattle.std.proofs.Common.{ℕ, sym, subst, arith}
use Rattle.bcj_parser_rules.specs.function.Steps.{Outcome, Reads}
use Rattle.bcj_parser_expression.proofs.Turns.{brackets_step}
use Rattle.bcj_parser_expression.proofs.types.+brackets.Goals as goal

pub returns-clause-reads : goal.returns-clause-reads
returns-clause-reads t c = let P : Outcome ℕ → Type 0 = λ o. Reads {A = ℕ} {B = ℕ} (λ d. d) o c.brackets.result c.brackets.new.cursor in
    subst P (sym (brackets_step c.args.site c.args.room c.args.dims _ _ _ (omega arith) c.if-not-sees.ensures c.advance.ensures c.in_ok-expect.ensures)) c.brackets.ensures.reads

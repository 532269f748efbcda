use Rattle.std.proofs.Common.{subst}
use Rattle.bcj_lexer.specs.Answers.{IsStop}
use Rattle.bcj_cli_compile.specs.Texts.{bad_character}
use Rattle.bcj_cli_compile.proofs.Causes.{text_refused}
use Rattle.bcj_cli_compile.proofs.Units.{not_lexed}
use Rattle.bcj_cli_compile.proofs.reading.tokens.Goals as goal

pub returns-in-Err-Bad-clause-stopped : goal.returns-in-Err-Bad-clause-stopped
returns-in-Err-Bad-clause-stopped c =
    let bad = subst (λ e. IsStop c.args.text.now e) c.in-Err-Bad.field-0-is c.in-Err-Bad.ensures.stops in
    text_refused c.args.text.now c.args.file _ _ _ (not_lexed _ _ bad.1) (bad_character bad.1) c.refusal.ensures

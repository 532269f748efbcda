use Rattle.std.proofs.Common.{subst}
use Rattle.bcj_lexer.specs.Answers.{IsStop}
use Rattle.bcj_cli.specs.Sources.{bad_character}
use Rattle.bcj_cli.proofs.Sources.{stopped, not_lexed}
use Rattle.bcj_cli.proofs.source.tokens.Goals as goal

pub returns-in-Err-Bad-clause-stopped : goal.returns-in-Err-Bad-clause-stopped
returns-in-Err-Bad-clause-stopped c = let bad = subst (λ e. IsStop c.args.text.now e) c.in-Err-Bad.field-0-is c.in-Err-Bad.ensures.stops in stopped c.args.main.now c.args.text.now _ _ _ (not_lexed _ _ _ bad.1) (bad_character bad.1) c.refusal.ensures

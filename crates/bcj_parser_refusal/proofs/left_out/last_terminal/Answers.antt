use Rattle.std.proofs.Common.{◌∙◌}
use Rattle.bcj_parser_refusal.proofs.Tokens.{last_is}
use Rattle.bcj_parser_refusal.proofs.left_out.last_terminal.Goals as goal

pub returns-in-len1-up : goal.returns-in-len1-up
returns-in-len1-up c = c.terminal.ensures ∙ last_is c.args.lexemes.now _ c.in-len1-up.len_at_least c.last-item.is

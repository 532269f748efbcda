use Rattle.std.proofs.Common.{◌∙◌, ap, sym}
use Rattle.bcj_parser_rules.specs.Lexemes as spec
use Rattle.bcj_parser_lexemes.proofs.terminals.terminal_of.Goals as goal

pub returns-in-Reserved : goal.returns-in-Reserved
returns-in-Reserved c = c.terminal_in.ensures ∙ ap (λ k. spec.terminal_of k c.args.word.now) (sym c.in-Reserved.is)

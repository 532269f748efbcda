use Rattle.std.proofs.Common.{◌≡◌, map, take}
use Rattle.bcj_parser_rules.specs.Lexemes.{lexeme_of}
use Rattle.bcj_parser_lexemes.proofs.lexemes.lexemes_of.Given as goal

abbrev pub invariant-loop-token : goal.invariant-loop-token
invariant-loop-token l = l.found.items ≡ map (lexeme_of l.text) (take l.token-index l.token-items)

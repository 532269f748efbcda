use Rattle.std.proofs.Common.{◌≡◌, drop, map}
use Rattle.bcj_parser_rules.specs.Lexemes as spec
use Rattle.bcj_parser_lexemes.proofs.terminals.terminal_in.Given as goal

abbrev pub invariant-loop-known : goal.invariant-loop-known
invariant-loop-known l = spec.terminal_in (map (λ e. record { word = e.0.now; terminal = e.1 }) (drop l.known-index l.table)) l.word ≡ spec.terminal_in (map (λ e. record { word = e.0.now; terminal = e.1 }) l.table) l.word

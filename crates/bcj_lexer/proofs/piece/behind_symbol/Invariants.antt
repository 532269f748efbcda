use Rattle.std.proofs.Common.{◌≡◌, length, map, option_copied, None}
use Rattle.bcj_lexer.specs.function.Scan as spec
use Rattle.bcj_lexer.proofs.piece.behind_symbol.Given as goal

abbrev pub invariant-loop-others : goal.invariant-loop-others
invariant-loop-others l = spec.behind_symbol (option_copied l.best) (map (λ w. w.now) l.others) l.text ≡ spec.behind_symbol None (map (λ w. w.now) l.symbols) l.text

abbrev pub decreases-loop-others : goal.decreases-loop-others
decreases-loop-others l = length l.others

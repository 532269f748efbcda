use Rattle.std.proofs.Common.{◌≡◌, ◌++◌}
use Rattle.bcj_lower_rules.specs.Bodies as b
use Rattle.bcj_lower_words.specs.Views.{lines_of}
use Rattle.bcj_lower_words.proofs.lines.Lines.zero_locals.Given as goal

abbrev pub invariant-loop-k : goal.invariant-loop-k
invariant-loop-k l = lines_of l.self ≡ lines_of l.initial.self ++ b.zero_locals l.frame l.i l.k

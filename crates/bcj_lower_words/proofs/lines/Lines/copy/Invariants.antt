use Rattle.std.proofs.Common.{◌≡◌, ◌++◌}
use Rattle.bcj_lower_rules.specs.Words as w
use Rattle.bcj_lower_words.specs.Views.{lines_of}
use Rattle.bcj_lower_words.proofs.lines.Lines.copy.Given as goal

abbrev pub invariant-loop-j : goal.invariant-loop-j
invariant-loop-j l = lines_of l.self ≡ lines_of l.initial.self ++ w.copy_from l.d 0 l.j

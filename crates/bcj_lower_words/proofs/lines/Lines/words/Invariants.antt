use Rattle.std.proofs.Common.{◌≡◌, ◌++◌, take}
use Rattle.bcj_lower_rules.specs.Lines as spec
use Rattle.bcj_lower_words.specs.Views.{lines_of}
use Rattle.bcj_lower_words.proofs.lines.Lines.words.Given as goal

abbrev pub invariant-loop-instr : goal.invariant-loop-instr
invariant-loop-instr l = lines_of l.self ≡ lines_of l.initial.self ++ spec.words (take l.instr-index l.instrs)

use Rattle.std.proofs.Common.{◌≡◌, ◌++◌, drop}
use Rattle.bcj_linker_rules.specs.Memory.{static_words}
use Rattle.bcj_linker_rows.proofs.statics.push_statics.Given as goal

abbrev pub invariant-loop-class : goal.invariant-loop-class
invariant-loop-class l = l.words ++ static_words (drop l.class-index l.classes) ≡ l.initial.words ++ static_words l.classes

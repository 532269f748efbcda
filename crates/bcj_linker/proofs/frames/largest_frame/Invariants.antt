use Rattle.std.proofs.Common.{◌≡◌, take}
use Rattle.bcj_linker_rules.specs.Memory.{largest_frame}
use Rattle.bcj_linker.proofs.frames.largest_frame.Given as goal

abbrev pub invariant-loop-class : goal.invariant-loop-class
invariant-loop-class l = l.largest ≡ largest_frame (take l.class-index l.classes)

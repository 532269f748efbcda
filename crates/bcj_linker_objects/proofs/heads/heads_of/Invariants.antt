use Rattle.std.proofs.Common.{◌≡◌, take}
use Rattle.bcj_linker_objects.specs.Names.{heads_in}
use Rattle.bcj_linker_objects.proofs.heads.heads_of.Given as goal

abbrev pub invariant-loop-class : goal.invariant-loop-class
invariant-loop-class l = l.heads ≡ heads_in (take l.class-index l.classes)

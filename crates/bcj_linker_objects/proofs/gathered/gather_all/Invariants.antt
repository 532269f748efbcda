use Rattle.std.proofs.Common.{◌∷◌, take}
use Rattle.bcj_linker_objects.specs.Steps.{Gathers}
use Rattle.bcj_linker_objects.proofs.gathered.gather_all.Given as goal

abbrev pub invariant-loop-index : goal.invariant-loop-index
invariant-loop-index l = Gathers (l.boot ∷ take l.index l.objects) l.gathering

use Rattle.std.proofs.Common.{◌≡◌, map, take}
use Rattle.std.specs.Prelude.{max}
use Rattle.std.specs.List.{fold}
use Rattle.bcj_linker.proofs.frames.largest_among.Given as goal

abbrev pub invariant-loop-method : goal.invariant-loop-method
invariant-loop-method l = l.largest ≡ fold max l.initial.largest (map (λ m. m.frame) (take l.method-index l.methods))

use Rattle.std.proofs.Common.{◌≡◌, map, sum, take}
use Rattle.bcj_layout_places.proofs.classes.method_words.Given as goal

abbrev pub invariant-loop-method : goal.invariant-loop-method
invariant-loop-method l = l.words ≡ sum (map (λ m. m.words) (take l.method-index l.methods))

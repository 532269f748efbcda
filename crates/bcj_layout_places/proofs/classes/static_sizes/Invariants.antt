use Rattle.std.proofs.Common.{◌≡◌, length, map, take}
use Rattle.bcj_layout_rules.specs.Places as places
use Rattle.bcj_layout_places.proofs.classes.static_sizes.Given as goal

abbrev pub invariant-loop-class : goal.invariant-loop-class
invariant-loop-class l = l.sizes ≡ map (λ c. length (places.statics_in c)) (take l.class-index l.classes)

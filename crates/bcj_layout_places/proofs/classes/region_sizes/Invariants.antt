use Rattle.std.proofs.Common.{◌≡◌, map, take}
use Rattle.bcj_layout_rules.specs.Places as places
use Rattle.bcj_layout_places.proofs.classes.region_sizes.Given as goal

abbrev pub invariant-loop-class : goal.invariant-loop-class
invariant-loop-class l = l.sizes ≡ map places.region_words (take l.class-index l.classes)

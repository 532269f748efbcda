use Rattle.std.proofs.Common.{◌≡◌, map, take}
use Rattle.bcj_hier_rules.specs.Heads.{name_of}
use Rattle.bcj_layout_resolution.specs.Places.{heads_in}
use Rattle.bcj_layout_rules.specs.Places as places
use Rattle.bcj_layout_places.proofs.types.dispatch_sizes.Given as goal

abbrev pub invariant-loop-class : goal.invariant-loop-class
invariant-loop-class l = l.sizes ≡ map (places.dispatch_words l.resolver) (map (name_of (heads_in l.resolver)) (take l.class-index l.classes))

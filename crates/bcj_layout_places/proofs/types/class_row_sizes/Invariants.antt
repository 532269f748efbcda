use Rattle.std.proofs.Common.{◌≡◌, map, take}
use Rattle.bcj_hier_rules.specs.Heads.{name_of}
use Rattle.bcj_layout_resolution.specs.Places.{heads_in}
use Rattle.bcj_layout_places.specs.Parts.{class_row}
use Rattle.bcj_layout_places.proofs.types.class_row_sizes.Given as goal

abbrev pub invariant-loop-class : goal.invariant-loop-class
invariant-loop-class l = l.sizes ≡ map (class_row l.members) (map (name_of (heads_in l.members)) (take l.class-index l.classes))

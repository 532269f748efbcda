use Rattle.std.proofs.Common.{◌≡◌, ◌++◌, map, take}
use Rattle.bcj_layout_rules.specs.Places.{row_head}
use Rattle.bcj_layout_places.proofs.types.push_array_rows.Given as goal

abbrev pub invariant-loop-array : goal.invariant-loop-array
invariant-loop-array l = l.sizes ≡ l.initial.sizes ++ map (λ _. row_head) (take l._array-index l.arrays)

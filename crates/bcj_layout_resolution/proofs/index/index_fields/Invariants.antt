use Rattle.std.proofs.Common.{map, take}
use Rattle.bcj_layout_resolution.specs.Index.{Indexes}
use Rattle.bcj_layout_resolution.proofs.index.index_fields.Given as goal

abbrev pub invariant-loop-i : goal.invariant-loop-i
invariant-loop-i l = Indexes (map (λ x. x.name) (take l.i l.fields)) l.buckets.items

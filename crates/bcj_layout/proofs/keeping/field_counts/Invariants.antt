use Rattle.std.proofs.Common.{◌≡◌, map, take}
use Rattle.bcj_layout.specs.Objects.{kept_fields}
use Rattle.bcj_layout.proofs.keeping.field_counts.Given as goal

abbrev pub invariant-loop-k : goal.invariant-loop-k
invariant-loop-k l = l.counts ≡ map (λ c. kept_fields l.resolver c.head.name) (take l.k l.resolver)

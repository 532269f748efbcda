use Rattle.std.proofs.Common.{◌≡◌, ◌++◌, List, drop, map}
use Rattle.bcj_lower_rules.specs.Lines.{Line}
use Rattle.bcj_lower_rules.specs.Classes.{ranges_at}
use Rattle.bcj_lower_bodies.specs.Views.{range_of}
use Rattle.bcj_lower.specs.Views.{range_in}
use Rattle.bcj_lower.specs.function.Labels.{HasPlaces}
use Rattle.bcj_lower.proofs.ranges.push_ranges.Given as goal

abbrev pub invariant-loop-one : goal.invariant-loop-one
invariant-loop-one l =
    (lines : List Line) → HasPlaces l.labels lines
    → map range_in l.all.items ++ ranges_at l.method l.start lines (map range_of (drop l.one-index l.ranges))
    ≡ map range_in l.fn.all.items ++ ranges_at l.method l.start lines (map range_of l.ranges)

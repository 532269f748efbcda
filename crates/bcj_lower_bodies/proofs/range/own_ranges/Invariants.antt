use Rattle.std.proofs.Common.{◌≡◌, ◌++◌, drop}
use Rattle.bcj_symbolic_trees.specs.Plain.{catches_of}
use Rattle.bcj_lower_rules.specs.Ranges.{own_ranges}
use Rattle.bcj_lower_bodies.specs.Views.{ranges_of}
use Rattle.bcj_lower_bodies.proofs.range.own_ranges.Given as goal

abbrev pub invariant-loop-handler : goal.invariant-loop-handler
invariant-loop-handler l = ranges_of l.ranges.items ++ own_ranges l.start l.end l.next (catches_of (drop l.handler-index l.catches)) ≡ ranges_of l.fn.ranges.items ++ own_ranges l.start l.end l.target (catches_of l.catches)

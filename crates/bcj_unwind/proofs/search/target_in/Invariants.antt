use Rattle.std.proofs.Common.{◌≡◌, drop, map}
use Rattle.std.specs.List.{find}
use Rattle.bcj_hier_rules.specs.Heads.{of_heads, name_of}
use Rattle.bcj_linker_rules.specs.Frames.{takes}
use Rattle.bcj_unwind.specs.Spans.{range_of}
use Rattle.bcj_unwind.proofs.search.target_in.Given as goal

abbrev pub invariant-loop-range : goal.invariant-loop-range
invariant-loop-range l =
    find (takes (of_heads l.hier) (name_of l.hier l.class) l.pc) (map (range_of l.hier) (drop l.range-index l.ranges))
    ≡ find (takes (of_heads l.hier) (name_of l.hier l.class) l.pc) (map (range_of l.hier) l.ranges)

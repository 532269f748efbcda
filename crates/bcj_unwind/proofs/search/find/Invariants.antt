use Rattle.std.proofs.Common.{◌≡◌, ℕ, suc, ◌+◌, length}
use Rattle.bcj_hier_rules.specs.Heads.{of_heads, name_of}
use Rattle.bcj_linker_rules.specs.Frames.{unwound_within, unwound}
use Rattle.bcj_unwind.specs.Spans.{spans_of}
use Rattle.bcj_unwind.proofs.search.find.Given as goal

abbrev pub invariant-loop-depth : goal.invariant-loop-depth
invariant-loop-depth l =
    (n : ℕ) → n + l.depth ≡ suc (length l.memory)
    → unwound_within (of_heads l.hier) (name_of l.hier l.class) (spans_of l.hier l.ranges) l.memory n l.frame.pc l.frame.sp l.depth
    ≡ unwound (of_heads l.hier) (name_of l.hier l.class) (spans_of l.hier l.ranges) l.memory l.fn.pc l.fn.sp

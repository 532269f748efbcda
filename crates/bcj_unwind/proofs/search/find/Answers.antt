use Rattle.std.proofs.Common.{arith}
use Rattle.bcj_hier_rules.specs.Heads.{of_heads, name_of}
use Rattle.bcj_linker_rules.specs.Frames.{handler, top, damaged}
use Rattle.bcj_unwind.specs.Spans.{spans_of}
use Rattle.bcj_unwind.proofs.Turns.{ends_here, goes_on, runs_out}
use Rattle.bcj_unwind.proofs.search.find.Goals as goal

pub returns-in-Start : goal.returns-in-Start
returns-in-Start c =
    ends_here (of_heads c.args.hier.now) (name_of c.args.hier.now c.args.class) (spans_of c.args.hier.now c.args.ranges.now) c.args.memory.now c.loop-depth.frame c.loop-depth.depth _
    (λ d. top) c.loop-depth.invariant (omega arith) c.in-Start.ensures

pub returns-in-Nowhere : goal.returns-in-Nowhere
returns-in-Nowhere c =
    ends_here (of_heads c.args.hier.now) (name_of c.args.hier.now c.args.class) (spans_of c.args.hier.now c.args.ranges.now) c.args.memory.now c.loop-depth.frame c.loop-depth.depth _
    (λ d. damaged) c.loop-depth.invariant (omega arith) c.in-Nowhere.ensures

pub returns-in-Target : goal.returns-in-Target
returns-in-Target c =
    ends_here (of_heads c.args.hier.now) (name_of c.args.hier.now c.args.class) (spans_of c.args.hier.now c.args.ranges.now) c.args.memory.now c.loop-depth.frame c.loop-depth.depth _
    (λ d. handler c.in-Target.pc c.loop-depth.frame.sp d) c.loop-depth.invariant (omega arith) c.in-Target.ensures

pub loop-depth-preserved : goal.loop-depth-preserved
loop-depth-preserved c =
    goes_on (of_heads c.args.hier.now) (name_of c.args.hier.now c.args.class) (spans_of c.args.hier.now c.args.ranges.now) c.args.memory.now c.loop-depth.frame c.loop-depth.depth _
    c.in-Caller.caller c.loop-depth.invariant c.in-Caller.ensures

pub returns-in-Caller : goal.returns-in-Caller
returns-in-Caller c =
    runs_out (of_heads c.args.hier.now) (name_of c.args.hier.now c.args.class) (spans_of c.args.hier.now c.args.ranges.now) c.args.memory.now c.loop-depth.frame c.loop-depth.depth _
    c.in-Caller.caller c.loop-depth.invariant c.in-Caller.ensures (omega arith)

use Rattle.std.proofs.Common.{sym}
use Rattle.std.specs.List.{All}
use Rattle.bcj_hier_rules.specs.Heads.{name_of}
use Rattle.bcj_linker_rules.specs.Frames.{is_in}
use Rattle.bcj_unwind.specs.Spans.{IsOf}
use Rattle.bcj_unwind.proofs.Firsts.{found_has}
use Rattle.bcj_unwind.proofs.Looks.{nowhere, handled, left}
use Rattle.bcj_unwind.proofs.search.look_at.Goals as goal

pub returns-in_default : goal.returns-in_default
returns-in_default c =
    nowhere c.args.hier.now (name_of c.args.hier.now c.args.class) c.args.ranges.now c.args.memory.now c.args.frame (sym c.if-is_in.ensures) c.in_default.ensures

pub target_in-requires-clause-there : goal.target_in-requires-clause-there
target_in-requires-clause-there c = (
  c.requires.there.0,
  rw c.as_slice.ensures
      (found_has (λ m. All (IsOf c.args.hier.now) m.ranges) (λ m. is_in m.first m.past c.args.frame.pc) c.in-Some.method.now c.args.ranges.now.methods c.in-Some.ensures c.requires.there.1),
)

pub returns-in-Some-target_in : goal.returns-in-Some-target_in
returns-in-Some-target_in c =
    handled c.args.hier.now (name_of c.args.hier.now c.args.class) c.args.ranges.now c.args.memory.now c.args.frame (sym c.if-is_in.ensures)
    c.in-Some.method.now c.in-Some.ensures c.in-Some-target_in.target (sym c.if-not-is_held.ensures)
    (rw c.as_slice.ensures at c.in-Some-target_in.ensures)

pub returns-in-None : goal.returns-in-None
returns-in-None c =
    left c.args.hier.now (name_of c.args.hier.now c.args.class) c.args.ranges.now c.args.memory.now c.args.frame (sym c.if-is_in.ensures)
    c.in-Some.method.now c.in-Some.ensures c.caller_of.result (sym c.if-not-is_held.ensures)
    (rw c.as_slice.ensures at c.in-None.ensures) c.caller_of.ensures.place c.caller_of.ensures.sp

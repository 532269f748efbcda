use Rattle.bcj_unwind.proofs.Methods.{found_there, found_later, found_nowhere}
use Rattle.bcj_unwind.proofs.ranges.method_at.Goals as goal
use Rattle.bcj_unwind.proofs.ranges.method_at.Goals.{in_default-via-in-Some+else-method-pc, in_default-via-in_default}

pub returns-in-Some : goal.returns-in-Some
returns-in-Some c =
    found_there c.args.pc c.args.methods.now c.place_ahead.result c.requires (rw c.as_slice.ensures at c.place_ahead.ensures.passed) (rw c.as_slice.ensures at c.place_ahead.ensures.ahead) c.in-Some.method.now c.in-Some.ensures.value c.if-method-pc.true

pub returns-in_default : goal.returns-in_default
returns-in_default c = elim c.in_default.branch [
  | in_default-via-in-Some+else-method-pc w ↦
      found_later c.args.pc c.args.methods.now c.place_ahead.result c.requires (rw c.as_slice.ensures at c.place_ahead.ensures.passed) (rw c.as_slice.ensures at c.place_ahead.ensures.ahead) w.in-Some.method.now w.in-Some.ensures.value w.if-method-pc.false
  | in_default-via-in_default w ↦ found_nowhere c.args.pc c.args.methods.now c.place_ahead.result c.requires (rw c.as_slice.ensures at c.place_ahead.ensures.passed) (rw c.as_slice.ensures at c.place_ahead.ensures.ahead) w.in_default.ensures.value
]

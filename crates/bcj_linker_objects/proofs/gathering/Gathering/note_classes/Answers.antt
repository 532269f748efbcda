use Rattle.std.proofs.lemmas.Result.{err_from_is_err_and}
use Rattle.bcj_linker_objects.proofs.Noted.{adds_none, turn, stop_in_turn}
use Rattle.bcj_linker_objects.proofs.gathering.Gathering.note_classes.Goals as goal

pub loop-class-init : goal.loop-class-init
loop-class-init c = adds_none _ _

pub loop-class-preserved : goal.loop-class-preserved
loop-class-preserved c =
    turn c.args.self.now c.loop-class.self c.note_class.new.self c.args.classes.now c.loop-class.class-index c.class-item.result c.args.object c.loop-class-test.true c.class-item.is c.loop-class.invariant
    c.in_ok-note_class.ensures.ok

pub returns-in_err-note_class-clause-err : goal.returns-in_err-note_class-clause-err
returns-in_err-note_class-clause-err c =
    let p = err_from_is_err_and c.from_residual.result c.from_residual.ensures.1 in
    rw (p.1, p.2)
    (stop_in_turn c.args.self.now c.loop-class.self c.args.classes.now c.loop-class.class-index c.class-item.result c.args.object c.in_err-note_class.field-0.0 c.loop-class-test.true c.class-item.is
    c.loop-class.invariant c.in_err-note_class.ensures.err)

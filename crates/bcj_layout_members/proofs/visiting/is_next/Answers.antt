use Rattle.bcj_layout_members.proofs.Ready.{is_ready}
use Rattle.bcj_layout_members.proofs.visiting.is_next.Goals as goal

pub returns-clause-ready : goal.returns-clause-ready
returns-clause-ready c it =
    is_ready c.args.classes.now c.args.rows.now c.args.c c.class_at.result.now c.class_at.ensures (c.is_loaded.ensures.0 c.if-not-is_loaded.false) (c.are_parts_done.ensures.0 it)

use Rattle.std.proofs.Common.{◌∙◌}
use Rattle.bcj_layout_members.proofs.Types.{ready_interfaces, put_together}
use Rattle.bcj_layout_members.proofs.filling.put_slots.Goals as goal

pub add_interfaces-requires-clause-interfaces : goal.add_interfaces-requires-clause-interfaces
add_interfaces-requires-clause-interfaces c =
    ready_interfaces c.args.classes.now c.args.rows.now c.args.c c.requires.linked c.requires.ready c.args.class.now c.requires.class c.as_slice-names.result.now c.as_slice-names.ensures

pub returns : goal.returns
returns c =
    put_together c.args.classes.now c.args.rows.now c.requires.linked c.args.c.0 c.args.class.now c.requires.class c.requires.ready.loads c.args.parent c.requires.parent
    c.len-start.result c.args.places.now.items c.add_own.new.places.items c.add_interfaces.new.places.items c.as_slice-methods.result.now c.as_slice-names.result.now (c.len-start.ensures ∙ c.args.places.now.ok.0)
    c.as_slice-methods.ensures c.as_slice-names.ensures c.in_ok-add_own.ensures c.in_ok-add_interfaces.ensures

use Rattle.std.proofs.Common.{◌∙◌, ap, ◌+◌, length, not}
use Rattle.std.specs.List.{filter}
use Rattle.bcj_layout_members.proofs.Types.{ready_parent, row_between}
use Rattle.bcj_layout_members.proofs.filling.type_row.Goals as goal

pub put_slots-requires-clause-parent : goal.put_slots-requires-clause-parent
put_slots-requires-clause-parent c =
    ready_parent c.args.classes.now c.args.rows.now c.args.hier.now c.requires.agree c.args.c c.requires.ready c.class_at-class.result.now c.class_at-class.ensures c.parent_of-parent.result
    c.parent_of-parent.ensures

pub returns-clause-row : goal.returns-clause-row
returns-clause-row c =
    let up = c.parent_of-parent.result in
    row_between c.args.classes.now c.args.rows.now c.requires.linked c.args.c.0 c.class_at-class.result.now c.class_at-class.ensures c.requires.ready.loads up
    (ready_parent c.args.classes.now c.args.rows.now c.args.hier.now c.requires.agree c.args.c c.requires.ready c.class_at-class.result.now c.class_at-class.ensures up c.parent_of-parent.ensures)
    c.in_ok-above.above c.in_ok-above.ensures c.len-start.result _ c.len-end.result c.put_slots.new.places.items (c.len-start.ensures ∙ c.args.places.now.ok.0)
    (c.len-end.ensures ∙ c.put_slots.new.places.ok.0) c.in_ok-put_slots.ensures c.in_ok-more.field-0 c.in_ok-more-2.field-0 c.in_ok-more.ensures
    (c.in_ok-more-2.ensures ∙ ap (λ n. c.in_ok-above.above.fields + n) (c.own_field_count.ensures ∙ ap (λ fs. length (filter (λ f. not f.is_static) fs)) c.as_slice-2.ensures))

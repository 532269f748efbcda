use Rattle.std.proofs.Common.{◌∙◌}
use Rattle.bcj_layout_members.proofs.Public.{fields_sum, number_is}
use Rattle.bcj_layout_members.proofs.table.field_number_at.Goals as goal

pub number_in-requires : goal.number_in-requires
number_in-requires c =
    let at = c.requires.field.1 in
    fields_sum c.args.classes.now c.args.rows.now c.args.places.now c.requires.linked c.requires.table c.args.c c.row_at-row.result c.row_at-row.ensures.there c.row_at-row.ensures.done
    c.requires.loads at.class at.record_of c.fields_of-fields.result.now (c.fields_of-fields.ensures at.class at.record_of)

pub returns : goal.returns
returns c f at =
    c.number_in.ensures
    ∙ number_is c.args.classes.now c.args.rows.now c.args.places.now c.requires.linked c.requires.table c.args.c c.row_at-row.result c.row_at-row.ensures.there c.row_at-row.ensures.done
    c.requires.loads at.class at.record_of c.fields_of-fields.result.now (c.fields_of-fields.ensures at.class at.record_of) c.args.field c.field_at-field.result.now c.field_at-field.ensures f
    at.there

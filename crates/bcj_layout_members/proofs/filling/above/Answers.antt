use Rattle.bcj_layout_members.proofs.Types.{above_of}
use Rattle.bcj_layout_members.proofs.filling.above.Goals as goal

pub returns-in_ok-more-in-Some : goal.returns-in_ok-more-in-Some
returns-in_ok-more-in-Some c =
    above_of c.args.classes.now c.args.rows.now c.args.places.now c.requires.table c.in-Some.p c.row_at-row.result c.row_at-row.ensures.there c.row_at-row.ensures.done c.args.parent
    c.in-Some.is c.in_ok-more-in-Some.field-0 c.in_ok-more-in-Some.ensures

use Rattle.std.proofs.Common.{sym, subst}
use Rattle.bcj_layout_members.specs.Tables.{AreAdded}
use Rattle.bcj_layout_members.proofs.Walking.{added}
use Rattle.bcj_layout_members.proofs.table.added_slots.Goals as goal

pub part-requires-clause-start : goal.part-requires-clause-start
part-requires-clause-start c = (c.requires.table.are_rows c.args.c.0 c.row_at.result c.row_at.ensures.there c.row_at.ensures.done).start

pub part-requires-clause-end : goal.part-requires-clause-end
part-requires-clause-end c = (c.requires.table.are_rows c.args.c.0 c.row_at.result c.row_at.ensures.there c.row_at.ensures.done).end

pub returns : goal.returns
returns c =
    subst (AreAdded c.args.classes.now c.args.c) (sym c.part.ensures)
    (added c.args.classes.now c.args.rows.now c.args.places.now c.requires.table c.args.c c.row_at.result c.row_at.ensures.there c.row_at.ensures.done)

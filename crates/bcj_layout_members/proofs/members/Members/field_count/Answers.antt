use Rattle.bcj_layout_members.proofs.Public.{fields_of}
use Rattle.bcj_layout_members.proofs.members.Members.field_count.Goals as goal

pub returns : goal.returns
returns c = fields_of c.self.inside.classes.now c.args.self.now c.self.view_is c.self.inside.rows.items c.self.inside.places.items c.self.invariant c.args.c c.row_at.result _ c.as_slice.ensures.value c.row_at.ensures.there c.row_at.ensures.done

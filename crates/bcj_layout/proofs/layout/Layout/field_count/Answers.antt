use Rattle.std.proofs.Common.{◌≡◌, ap, subst, map, get_or}
use Rattle.bcj_layout.specs.Objects.{kept_fields}
use Rattle.bcj_layout.specs.LaidOut.{LaidOut}
use Rattle.bcj_layout.proofs.ObjectLemmas.{count-there}
use Rattle.bcj_layout.proofs.layout.Layout.field_count.Goals as goal

pub returns : goal.returns
returns c =
    let P : LaidOut → Type 0 = λ l. c.self.inside.field_counts ≡ map (λ r. kept_fields l.classes r.head.name) l.classes in
    count-there c.args.self.now.classes c.self.inside.field_counts c.args.c _ (subst P c.self.view_is c.self.invariant.field_counts_are) c.requires (ap (λ l. get_or l c.args.c.0 0) c.as_slice.ensures)

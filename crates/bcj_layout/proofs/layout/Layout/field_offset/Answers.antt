use Rattle.std.proofs.Common.{◌≡◌, true, false, subst, string_bytes}
use Rattle.bcj_hier_rules.specs.Trees.{loads}
use Rattle.bcj_hier_rules.specs.Resolution.{FoundField}
use Rattle.bcj_layout_rules.specs.Rows.{mixture_of}
use Rattle.bcj_layout_rules.specs.Entries.{offset_of_field}
use Rattle.bcj_layout_resolution.specs.Places.{IsField}
use Rattle.bcj_layout.specs.LaidOut.{LaidOut}
use Rattle.bcj_layout.specs.MemberPlaces.{field_numbered}
use Rattle.bcj_layout.proofs.layout.Layout.field_offset.Goals as goal

pub returns : goal.returns
returns c =
    let P : LaidOut → Type 0 = λ l. (x : FoundField) → IsField l.classes (field_numbered c.args.c c.args.field) x → x.field.is_static ≡ false
    → loads (mixture_of l.classes) x.class ≡ true → c.field_place.result ≡ offset_of_field l.classes l.main x in
    subst P c.self.view_is (λ x is other loading.
    c.field_place.ensures.other_fields c.self.inside.resolver (string_bytes c.self.inside.main) x c.self.invariant.addresses is other loading)

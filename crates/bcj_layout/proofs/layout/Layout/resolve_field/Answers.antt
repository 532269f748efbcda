use Rattle.std.proofs.Common.{◌≡◌, Ok, Err, refl, subst, string_bytes}
use Rattle.bcj_hier_rules.specs.Shapes.{Named, Reference}
use Rattle.bcj_hier_rules.specs.Heads.{name_of}
use Rattle.bcj_hier_rules.specs.Resolution.{FoundField, resolved_field}
use Rattle.bcj_layout_rules.specs.Rows.{mixture_of}
use Rattle.bcj_layout_resolution.specs.Places.{heads_in, wanted}
use Rattle.bcj_layout.specs.declared.place.FieldPlace.{FieldPlace}
use Rattle.bcj_layout.specs.LaidOut.{LaidOut}
use Rattle.bcj_layout.specs.MemberPlaces.{IsFieldPlace}
use Rattle.bcj_layout.proofs.MemberLemmas.{field_placed}
use Rattle.bcj_layout.proofs.layout.Layout.resolve_field.Goals as goal

pub returns-in-Ok-clause-ok : goal.returns-in-Ok-clause-ok
returns-in-Ok-clause-ok c =
    let cs = c.self.inside.resolver in
    let main : Named = string_bytes c.self.inside.main in
    let r : Reference = wanted c.args.class.now c.args.name.now c.args.desc.now in
    let ok = c.in-Ok.ensures.ok in
    let p : FieldPlace = record { class = c.in-Ok.field.class; at = c.field_place.result } in
    let P : LaidOut → Type 0 = λ l. (x : FoundField) × (resolved_field (mixture_of l.classes) (name_of (heads_in l.classes) c.args.from) r c.args.is_static ≡ Ok x)
    × IsFieldPlace l.classes l.main c.args.is_static p x in
    let address = c.field_place.ensures.static_fields cs main ok.0 c.self.invariant.addresses ok.2 in
    let offset = c.field_place.ensures.other_fields cs main ok.0 c.self.invariant.addresses ok.2 in
    subst P c.self.view_is
    (ok.0, ok.1, field_placed cs main (name_of (heads_in cs) c.args.from) r c.args.is_static c.in-Ok.field ok.0 p refl ok.2 ok.1 address offset)

pub returns-in-Err-clause-err : goal.returns-in-Err-clause-err
returns-in-Err-clause-err c =
    let r : Reference = wanted c.args.class.now c.args.name.now c.args.desc.now in
    let P : LaidOut → Type 0 = λ l. resolved_field (mixture_of l.classes) (name_of (heads_in l.classes) c.args.from) r c.args.is_static ≡ Err c.in-Err.error in
    subst P c.self.view_is c.in-Err.ensures.err

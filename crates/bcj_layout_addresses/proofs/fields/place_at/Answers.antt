use Rattle.std.proofs.Common.{◌≡◌, ℕ, length, slice_get, Some, refl, sym, ◌∙◌, ap}
use Rattle.std.proofs.lemmas.Option.{slice_get_read}
use Rattle.std.proofs.lemmas.Result.{IfOk-weaker}
use Rattle.bcj_tables_rules.specs.declared.records.FieldRecord.{FieldRecord}
use Rattle.bcj_hier_rules.specs.Heads.{name_of}
use Rattle.bcj_hier_rules.specs.Shapes.{Field}
use Rattle.bcj_layout_rules.specs.Rows.{mixture_of}
use Rattle.bcj_layout_rules.specs.Members.{field_number}
use Rattle.bcj_layout_members.specs.Places.{IsFieldAt}
use Rattle.bcj_layout_resolution.specs.Places.{heads_in}
use Rattle.bcj_layout_addresses.proofs.Placing.{at_offset, at_nothing}
use Rattle.bcj_layout_addresses.proofs.fields.place_at.Goals as goal

pub returns-then-is_loaded : goal.returns-then-is_loaded
returns-then-is_loaded c =
    let r : FieldRecord = c.index-fields-k.result in
    let number : Field → ℕ = field_number (mixture_of c.args.members.now) (name_of (heads_in c.args.members.now) c.args.class) in
    let read : slice_get c.args.fields.now c.args.k ≡ Some r = slice_get_read c.args.fields.now (length c.args.fields.now) c.args.k r refl c.requires.within c.index-fields-k.is in
    IfOk-weaker c.offset_at.result _ _
    (λ w each. λ f e.
    let both : Some r ≡ Some f = sym read ∙ e in
    let same : r ≡ f = cc in
    let at : IsFieldAt c.args.members.now c.args.class c.args.k f =
    record { class = c.requires.fields.class; record_of = c.requires.fields.record_of; there = ap (λ l. slice_get l c.args.k) (sym c.requires.fields.all) ∙ e } in
    each f at ∙ sym (at_offset c.args.statics c.args.is_loaded number c.args.fields.now f (ap (λ g. g.is_static) (sym same) ∙ c.if-field.false) c.if-is_loaded.true))
    c.offset_at.ensures

pub returns-else-is_loaded : goal.returns-else-is_loaded
returns-else-is_loaded c =
    let r : FieldRecord = c.index-fields-k.result in
    let number : Field → ℕ = field_number (mixture_of c.args.members.now) (name_of (heads_in c.args.members.now) c.args.class) in
    let read : slice_get c.args.fields.now c.args.k ≡ Some r = slice_get_read c.args.fields.now (length c.args.fields.now) c.args.k r refl c.requires.within c.index-fields-k.is in
    λ f e.
    let both : Some r ≡ Some f = sym read ∙ e in
    let same : r ≡ f = cc in
    sym (at_nothing c.args.statics c.args.is_loaded number c.args.fields.now f (ap (λ g. g.is_static) (sym same) ∙ c.if-field.false) c.if-is_loaded.false)

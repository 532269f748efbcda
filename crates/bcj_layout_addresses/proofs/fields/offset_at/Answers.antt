use Rattle.std.proofs.Common.{◌≡◌, ℕ, sym, ◌∙◌, ap, subst}
use Rattle.bcj_layout_rules.specs.Entries.{field_offset}
use Rattle.bcj_layout_members.specs.Places.{IsFieldAt}
use Rattle.bcj_layout_addresses.proofs.fields.offset_at.Goals as goal

pub returns-in-Ok : goal.returns-in-Ok
returns-in-Ok c =
    let same : c.in-Ok.field ≡ c.args.k = c.in-Ok.ensures.1 in
    λ f at.
    let P : ℕ → Type 0 = λ k. IsFieldAt c.args.members.now c.args.class k f in
    c.field_offset.ensures ∙ ap field_offset (c.field_number.ensures f (subst P (sym same) at))

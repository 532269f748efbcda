use Rattle.std.proofs.Common.{◌<◌, ◌≡◌, ◌+◌, ◌-◌, sym, ◌∙◌, ap, arith, length, None}
use Rattle.bcj_decl_table.specs.Views.{world_in}
use Rattle.bcj_decl_fields.specs.FieldSearch as search_spec
use Rattle.bcj_decl_fields.proofs.FieldPlaces.{up_on}
use Rattle.bcj_decl_fields.proofs.lookup.first_up.Goals as goal

pub loop-step-preserved : goal.loop-step-preserved
loop-step-preserved c =
    let w = world_in c.args.listing.now.types in
    let n = length c.args.listing.now.types in
    let inside : c.loop-step._step < n = omega arith in
    let missed : search_spec.field_in w c.args.name.now c.in-Some.place ≡ None = sym c.field_in.ensures ∙ c.in-None-field_in.is in
    ap (search_spec.first_up w c.args.name.now (n - (c.loop-step._step + 1))) c.superclass_place-next.ensures
    ∙ (up_on w c.args.name.now n c.loop-step._step c.in-Some.place inside missed
    ∙ (ap (search_spec.first_up w c.args.name.now (n - c.loop-step._step)) (sym c.in-Some.is) ∙ c.loop-step.invariant))

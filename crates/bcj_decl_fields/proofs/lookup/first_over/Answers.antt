use Rattle.std.proofs.Common.{◌<◌, ◌≡◌, ◌+◌, ◌-◌, sym, ◌∙◌, ap, arith, length, None, false}
use Rattle.std.specs.Option.{is_some}
use Rattle.bcj_decl_table.specs.Views.{world_in}
use Rattle.bcj_decl_listing.specs.Places.{field_position}
use Rattle.bcj_decl_orders.specs.Orders.{list_at}
use Rattle.bcj_decl_fields.specs.FieldSearch as search_spec
use Rattle.bcj_decl_fields.proofs.FieldPlaces.{over_on}
use Rattle.bcj_decl_fields.proofs.lookup.first_over.Goals as goal

pub loop-step-preserved : goal.loop-step-preserved
loop-step-preserved c =
    let w = world_in c.args.listing.now.types in
    let n = length c.args.listing.now.types in
    let inside : c.loop-step._step < n = omega arith in
    let clear : is_some (field_position w c.in-Some.place c.args.name.now) ≡ false = cc (c.is_some.ensures, c.field_position.ensures, c.if-is_some.false) in
    let missed : search_spec.first_in w c.args.name.now (list_at c.args.orders.now c.in-Some.place) ≡ None = cc (c.first_in.ensures, c.places_above.ensures, c.in-None-first_in.is) in
    ap (search_spec.first_over w c.args.orders.now c.args.name.now (n - (c.loop-step._step + 1))) c.superclass_place-next.ensures
    ∙ (over_on w c.args.orders.now c.args.name.now n c.loop-step._step c.in-Some.place inside clear missed
    ∙ (ap (search_spec.first_over w c.args.orders.now c.args.name.now (n - c.loop-step._step)) (sym c.in-Some.is) ∙ c.loop-step.invariant))

use Rattle.std.proofs.Common.{◌≡◌, ◌<◌, ◌+◌, ◌-◌, false, sym, ◌∙◌, ap, arith, length}
use Rattle.bcj_decl_table.specs.Views.{world_in}
use Rattle.bcj_decl_fields.specs.Searches as search_spec
use Rattle.bcj_decl_fields.proofs.Places.{step_up}
use Rattle.bcj_decl_fields.proofs.subtyping.any_meets.Goals as goal

pub loop-step-preserved : goal.loop-step-preserved
loop-step-preserved c =
    let w = world_in c.args.listing.now.types in
    let n = length c.args.listing.now.types in
    let inside : c.loop-step._step < n = omega arith in
    let missed : search_spec.meets w c.args.orders.now c.args.name.now c.in-Some.place ≡ false = sym c.meets.ensures ∙ c.if-meets.false in
    ap (search_spec.any_meets w c.args.orders.now c.args.name.now (n - (c.loop-step._step + 1))) c.superclass_place-next.ensures
    ∙ (step_up w c.args.orders.now c.args.name.now n c.loop-step._step c.in-Some.place inside missed
    ∙ (ap (search_spec.any_meets w c.args.orders.now c.args.name.now (n - c.loop-step._step)) (sym c.in-Some.is) ∙ c.loop-step.invariant))

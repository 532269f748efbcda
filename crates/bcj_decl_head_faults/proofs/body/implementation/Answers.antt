use Rattle.std.proofs.Common.{◌≡◌, ◌∙◌, ◌+◌, ◌-◌, suc, ap, arith, length}
use Rattle.std.proofs.lemmas.List.{length-map}
use Rattle.bcj_decl_rules.specs.Faults.{can_implement}
use Rattle.bcj_decl_table.specs.Views.{method_of_info, declared_of, world_in}
use Rattle.bcj_decl_head_faults.proofs.Upward.{search_up, implementation_found, up_next}
use Rattle.bcj_decl_head_faults.proofs.body.implementation.Goals as goal

pub loop-step-init : goal.loop-step-init
loop-step-init c =
    let m = method_of_info c.args.method.now in
    let w = world_in c.args.listing.now.types in
    let t = declared_of c.args.info.now in
    let whole : length c.args.listing.now.types - 0 ≡ length w = omega (arith, length-map c.args.listing.now.types declared_of) in
    ap (λ n. search_up (can_implement m) n w t) whole ∙ implementation_found w t m

pub loop-step-preserved : goal.loop-step-preserved
loop-step-preserved c =
    let m = method_of_info c.args.method.now in
    let w = world_in c.args.listing.now.types in
    let t = declared_of c.loop-step.class.now in
    let u = declared_of c.in-Some-superclass_of.superclass.now in
    let all = length c.args.listing.now.types in
    let fewer : suc (all - (c.loop-step._step + 1)) ≡ all - c.loop-step._step = omega (arith, c.len-step-end.ensures) in
    up_next (can_implement m) (all - (c.loop-step._step + 1)) w t u c.in-None.ensures c.in-Some-superclass_of.ensures ∙ (ap (λ n. search_up (can_implement m) n w t) fewer ∙ c.loop-step.invariant)

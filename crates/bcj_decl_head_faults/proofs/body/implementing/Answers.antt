use Rattle.std.proofs.Common.{◌≡◌, ◌<◌, ◌∙◌, sym, ap, arith, length, get_or}
use Rattle.bcj_decl_rules.specs.Faults.{can_implement}
use Rattle.bcj_decl_table.specs.Views.{method_of_info}
use Rattle.bcj_decl_head_faults.proofs.Bodies.{find_here, find_next}
use Rattle.bcj_decl_head_faults.proofs.body.implementing.Goals as goal

pub returns-then-can_implement : goal.returns-then-can_implement
returns-then-can_implement c =
    let methods = c.args.info.now.methods in
    let i = c.loop-other.other-index in
    let x = c.other-item.result in
    let inside : i < length methods = omega (arith, ap length c.as_slice-other-items.ensures) in
    let is : x ≡ get_or methods i x = c.other-item.is ∙ ap (λ l. get_or l i x) c.as_slice-other-items.ensures in
    find_here method_of_info (can_implement (method_of_info c.args.method.now)) methods i x inside is (sym c.can_implement.ensures ∙ c.if-can_implement.true) ∙ c.loop-other.invariant

pub loop-other-preserved : goal.loop-other-preserved
loop-other-preserved c =
    let methods = c.args.info.now.methods in
    let i = c.loop-other.other-index in
    let x = c.other-item.result in
    let inside : i < length methods = omega (arith, ap length c.as_slice-other-items.ensures) in
    let is : x ≡ get_or methods i x = c.other-item.is ∙ ap (λ l. get_or l i x) c.as_slice-other-items.ensures in
    find_next method_of_info (can_implement (method_of_info c.args.method.now)) methods i x inside is (sym c.can_implement.ensures ∙ c.if-can_implement.false) ∙ c.loop-other.invariant

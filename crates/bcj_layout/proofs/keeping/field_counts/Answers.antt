use Rattle.std.proofs.Common.{◌≡◌, ◌<◌, ◌∙◌, ◌++◌, ◌∷◌, [], length, ap, arith}
use Rattle.std.proofs.lemmas.List.{length-map}
use Rattle.bcj_layout_rules.specs.Rows.{Classes}
use Rattle.bcj_layout.specs.Objects.{kept_fields}
use Rattle.bcj_layout.proofs.ObjectLemmas.{count-step}
use Rattle.bcj_layout.proofs.keeping.field_counts.Goals as goal

pub loop-k-preserved : goal.loop-k-preserved
loop-k-preserved c =
    let cs : Classes = c.args.resolver.now in
    let count : c.len-count.result ≡ length cs = c.len-count.ensures.count ∙ (ap length c.hier.ensures ∙ length-map cs (λ x. x.head)) in
    let inside : c.loop-k.k < length cs = omega (arith, count, c.loop-k-test.true) in
    count-step (kept_fields cs) cs c.loop-k.k c.loop-k.counts c.push.new.self c.loop-k.invariant
    (c.in_ok-push.ensures.ok ∙ ap (λ n. c.loop-k.counts ++ n ∷ []) c.field_count.ensures) inside

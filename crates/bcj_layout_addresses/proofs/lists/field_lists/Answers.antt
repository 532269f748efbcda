use Rattle.std.proofs.Common.{◌≡◌, ◌<◌, ◌∙◌, length, get_or, ap, arith}
use Rattle.std.proofs.lemmas.List.{length-map}
use Rattle.bcj_layout_addresses.specs.Lists.{fields_by}
use Rattle.bcj_layout_addresses.proofs.Growing.{one_more_class}
use Rattle.bcj_layout_addresses.proofs.lists.field_lists.Goals as goal

pub loop-k-preserved : goal.loop-k-preserved
loop-k-preserved c =
    let cs = c.args.resolver.now in
    let count : c.len-count.result ≡ length cs = c.len-count.ensures.count ∙ (ap length c.hier.ensures ∙ length-map cs (λ r. r.head)) in
    let inside : c.loop-k.k < length cs = omega (arith, count, c.loop-k-test.true) in
    one_more_class (λ k r. fields_by (get_or c.args.statics.now k 0) cs r) cs c.loop-k.k c.loop-k.lists c.push.new.self c.in_ok-field_words.field-0 inside c.in_ok-push.ensures.ok
    c.in_ok-field_words.ensures
    ∙ c.loop-k.invariant

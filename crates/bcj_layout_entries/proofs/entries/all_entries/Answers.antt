use Rattle.std.proofs.Common.{◌≡◌, ◌∙◌, ◌+◌, ap, length, arith}
use Rattle.std.proofs.lemmas.List.{length_push, length-map}
use Rattle.bcj_layout_entries.specs.Entries.{AreEntries}
use Rattle.bcj_layout_entries.proofs.Listing.{each-more}
use Rattle.bcj_layout_entries.proofs.entries.all_entries.Goals as goal

pub loop-k-preserved : goal.loop-k-preserved
loop-k-preserved c =
    let cs = c.args.parts.now.resolver.now in
    let es = c.in_ok-class_entries.field-0 in
    record {
      count = ap length c.in_ok-push.ensures.ok ∙ (length_push c.loop-k.all es ∙ ap (λ n. n + 1) c.loop-k.invariant.count);
      each = each-more cs (AreEntries cs c.args.parts.now.main.now) c.loop-k.all c.push.new.self c.loop-k.k es c.loop-k.invariant.count c.loop-k.invariant.each c.in_ok-class_entries.ensures c.in_ok-push.ensures.ok;
    }

pub returns : goal.returns
returns c =
    let cs = c.args.parts.now.resolver.now in
    let count : c.len-count.result ≡ length cs = c.len-count.ensures.count ∙ (ap length c.hier.ensures ∙ length-map cs (λ x. x.head)) in
    let all : length c.loop-k.all ≡ c.loop-k.k = c.loop-k.invariant.count in
    record { count = omega (arith, count, all); each = c.loop-k.invariant.each }

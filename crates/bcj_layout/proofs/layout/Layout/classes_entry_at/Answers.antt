use Rattle.std.proofs.Common.{◌<◌, ◌≡◌, ◌∙◌, ap, length, arith}
use Rattle.std.proofs.lemmas.List.{length-map}
use Rattle.bcj_layout.proofs.EntryLemmas.{class-of-within}
use Rattle.bcj_layout.proofs.layout.Layout.classes_entry_at.Goals as goal

pub returns : goal.returns
returns c = λ j e is here.
    let cs = c.args.self.now.classes in
    let count : c.len-count.result ≡ length cs = c.len-count.ensures.count ∙ (ap length c.hier.ensures ∙ length-map cs (λ x. x.head)) in
    let inside : j.0 < length cs = class-of-within cs c.args.self.now.main c.args.at j e is here in
    let passed : j.0 < c.loop-k.k = omega (arith, count, inside) in
    c.loop-k.invariant j.0 passed e is here

use Rattle.std.proofs.Common.{◌∷◌}
use Rattle.std.proofs.lemmas.Result.{MatchResult-weaker}
use Rattle.bcj_linker_objects.specs.Gathering.{linked_of}
use Rattle.bcj_linker.specs.Links.{IsMixture}
use Rattle.bcj_linker.proofs.Mixed.{are_objects, is_mixture, is_image}
use Rattle.bcj_linker.proofs.linking.link.Goals as goal

pub image_of-requires-clause-objects : goal.image_of-requires-clause-objects
image_of-requires-clause-objects c =
    let g = c.in_ok-gathered.gathered in
    are_objects (c.args.boot.now ∷ c.args.objects.now) g.objects g.records.classes c.in_ok-gathered.ensures.objects c.in_ok-gathered.ensures.counts

pub returns-clause-ok : goal.returns-clause-ok
returns-clause-ok c =
    let g = c.in_ok-gathered.gathered in
    let all = c.args.boot.now ∷ c.args.objects.now in
    let met = c.in_ok-gathered.ensures in
    let mixture : IsMixture all (linked_of g) = is_mixture all (linked_of g) g.records.classes met.classes met.objects met.distinct met.few in
    MatchResult-weaker c.image_of.result c.image_of.ensures.ok (λ i is. is_image c.args.boot.now c.args.objects.now c.args.main.now c.args.heap c.args.depth (linked_of g) i mixture is) (λ e h. h)

use Rattle.std.proofs.Common.{refl, sym, ◌∙◌}
use Rattle.std.specs.Iterator.Adapters.{zip_first, zip_second}
use Rattle.std.specs.Slice.Iter.{iter_rest}
use Rattle.std.proofs.lemmas.Slice.Zip.{either_empty_from_Zip}
use Rattle.bcj_lower.specs.function.Labels.{label_place}
use Rattle.bcj_lower.proofs.LabelLemmas.{used_up}
use Rattle.bcj_lower.proofs.labels.label_places.Goals as goal

pub returns : goal.returns
returns c =
    let at = c.loop-line in
    λ q. sym (used_up (label_place at.labels q) (iter_rest (zip_first at.line-iterator)) (iter_rest (zip_second at.line-iterator)) q (either_empty_from_Zip at.line-iterator c.next.new.self _ refl c.in-None.ensures.steps))
    ∙ at.invariant q

use Rattle.bcj_lower.proofs.WordLemmas.{assembled-words}
use Rattle.bcj_lower.proofs.LabelLemmas.{labels-placed}
use Rattle.bcj_lower.proofs.assembling.place.Goals as goal

pub returns-clause-code : goal.returns-clause-code
returns-clause-code c = assembled-words _ _ _ c.in_ok-items.ensures.items c.in_ok-code.ensures.code

pub returns-clause-labels : goal.returns-clause-labels
returns-clause-labels c =
    labels-placed _ _ _ _ _ c.in_ok-items.ensures.items c.in_ok-code.ensures.same c.in_ok-code.ensures.places c.as_slice.ensures c.in_ok-labels.ensures

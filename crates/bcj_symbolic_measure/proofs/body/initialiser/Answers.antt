use Rattle.std.proofs.Common.{◌∙◌, sym}
use Rattle.std.proofs.lemmas.List.{length-map}
use Rattle.bcj_symbolic_trees.specs.Types.{ty_of}
use Rattle.bcj_symbolic_measure.proofs.WalkLemmas.{init-noted}
use Rattle.bcj_symbolic_measure.proofs.body.initialiser.Goals as goal

pub returns : goal.returns
returns c =
    init-noted _ _ _ _ _ _ _ _ _ _ _ _ _ c.plain.ensures c.plain-2.ensures c.in_ok-superclass.ensures c.in_ok-statements.ensures c.ended.ensures
    (c.len.ensures ∙ sym (length-map _ ty_of)) c.init_body-body.ensures c.as_slice.ensures

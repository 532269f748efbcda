use Rattle.std.proofs.Common.{◌∙◌, sym}
use Rattle.std.proofs.lemmas.List.{length-map}
use Rattle.bcj_symbolic_trees.specs.Types.{ty_of}
use Rattle.bcj_symbolic_measure.proofs.DepthLemmas.{frame-built, kept}
use Rattle.bcj_symbolic_measure.proofs.body.method_frame.Goals as goal

pub returns : goal.returns
returns c =
    kept _ _ _ (sym c.is_abstract.ensures ∙ c.if-is_abstract.false)
    (frame-built _ _ _ _ _ _ _ (c.len.ensures ∙ sym (length-map _ ty_of)) c.as_slice.ensures c.plus-locals.ensures c.statements.ensures c.plus.ensures)

use Rattle.std.proofs.Common.{◌∙◌, sym}
use Rattle.std.proofs.lemmas.List.{length-map}
use Rattle.bcj_symbolic_trees.specs.Types.{ty_of}
use Rattle.bcj_symbolic_measure.proofs.DepthLemmas.{frame-built}
use Rattle.bcj_symbolic_measure.proofs.body.init_frame.Goals as goal

pub returns : goal.returns
returns c = frame-built _ _ _ _ _ _ _ (c.len.ensures ∙ sym (length-map _ ty_of)) c.as_slice.ensures c.plus-locals.ensures c.statements.ensures c.plus.ensures

use Rattle.bcj_symbolic_measure.proofs.SizeLemmas.{body-sized}
use Rattle.bcj_symbolic_measure.proofs.sizes.method_size.Goals as goal

pub returns : goal.returns
returns c = body-sized _ _ _ _ _ _ _ c.method_frame.ensures c.narrow-frame.ensures c.new-tally.ensures c.in_ok-method.ensures c.narrow-words.ensures

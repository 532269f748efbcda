use Rattle.bcj_symbolic_measure.proofs.SizeLemmas.{body-sized}
use Rattle.bcj_symbolic_measure.proofs.sizes.init_size.Goals as goal

pub returns : goal.returns
returns c = body-sized _ _ _ _ _ _ _ c.init_frame.ensures c.narrow-frame.ensures c.new-tally.ensures c.in_ok-initialiser.ensures c.narrow-words.ensures

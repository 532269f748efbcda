use Rattle.bcj_typing_expression.proofs.Arms.{binary_types}
use Rattle.bcj_typing_expression.proofs.operating.operated.Goals as goal

pub returns : goal.returns
returns c x y h l = binary_types _ _ _ _ _ _ _ _ _ _ h l c.together-together.ensures (record { judges = c.binary.ensures })

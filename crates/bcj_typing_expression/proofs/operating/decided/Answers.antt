use Rattle.bcj_typing_expression.proofs.Arms.{conditional_types}
use Rattle.bcj_typing_expression.proofs.operating.decided.Goals as goal

pub returns : goal.returns
returns c t x y g h l = conditional_types _ _ _ _ _ _ _ _ _ _ _ g h l c.join-join.ensures (record { judges = c.conditional.ensures })

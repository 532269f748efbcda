use Rattle.bcj_typing_rules.proofs.Whole.{types_whole}
use Rattle.bcj_typing_rules.proofs.types_are_whole.Goals as goal

pub returns : goal.returns
returns c = types_whole

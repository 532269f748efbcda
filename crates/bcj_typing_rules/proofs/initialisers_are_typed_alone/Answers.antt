use Rattle.bcj_typing_rules.proofs.Initialisers.{initialisers_same}
use Rattle.bcj_typing_rules.proofs.initialisers_are_typed_alone.Goals as goal

pub returns : goal.returns
returns c = initialisers_same

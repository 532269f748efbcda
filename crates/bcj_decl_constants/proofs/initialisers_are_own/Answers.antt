use Rattle.bcj_decl_constants.proofs.Owning.{own_initials}
use Rattle.bcj_decl_constants.proofs.initialisers_are_own.Goals as goal

pub returns : goal.returns
returns c = own_initials

use Rattle.bcj_decl_methods.proofs.PrivateMethods as hidden
use Rattle.bcj_decl_methods.proofs.private_methods_stand_alone.Goals as goal

pub returns : goal.returns
returns c = hidden.stand_alone

use Rattle.bcj_decl_methods.proofs.Searching as searching
use Rattle.bcj_decl_methods.proofs.choices_agree.Goals as goal

pub returns : goal.returns
returns c = searching.choices_agree

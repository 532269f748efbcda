use Rattle.bcj_parser_prefix.proofs.Units as law
use Rattle.bcj_parser_prefix.proofs.units_agree.Goals as goal

pub returns : goal.returns
returns c = law.units_agree

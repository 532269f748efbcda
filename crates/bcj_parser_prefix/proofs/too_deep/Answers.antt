use Rattle.bcj_parser_prefix.proofs.Units as law
use Rattle.bcj_parser_prefix.proofs.too_deep.Goals as goal

pub returns : goal.returns
returns c = law.too_deep

use Rattle.bcj_parser_prefix.proofs.Units as law
use Rattle.bcj_parser_prefix.proofs.no_unit.Goals as goal

pub returns : goal.returns
returns c = law.no_unit

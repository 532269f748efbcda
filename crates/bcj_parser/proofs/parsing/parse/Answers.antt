use Rattle.bcj_parser.proofs.Outcomes.{no_unit_left}
use Rattle.bcj_parser.proofs.parsing.parse.Goals as goal

pub returns-clause-complete : goal.returns-clause-complete
returns-clause-complete c = λ v w. no_unit_left _ _ v _ w c.read.ensures

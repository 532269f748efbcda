use Rattle.bcj_parser_wellformed.proofs.Constructors.{unit_lacks}
use Rattle.bcj_parser_wellformed.proofs.interfaces_have_no_constructors.Goals as goal

pub returns : goal.returns
returns c = record { none = unit_lacks }

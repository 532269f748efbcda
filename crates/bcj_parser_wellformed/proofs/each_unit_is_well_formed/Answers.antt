use Rattle.bcj_parser_wellformed.proofs.Units.{unit_formed}
use Rattle.bcj_parser_wellformed.proofs.each_unit_is_well_formed.Goals as goal

pub returns : goal.returns
returns c = record { formed = unit_formed }

use Rattle.bcj_cli_unit.proofs.Whole.{bounded}
use Rattle.bcj_cli_unit.proofs.laws.each_is_bounded.Goals as goal

pub returns : goal.returns
returns c = bounded

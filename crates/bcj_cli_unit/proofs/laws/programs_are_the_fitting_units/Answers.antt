use Rattle.bcj_cli_unit.proofs.Whole.{fitting}
use Rattle.bcj_cli_unit.proofs.laws.programs_are_the_fitting_units.Goals as goal

pub returns : goal.returns
returns c = fitting

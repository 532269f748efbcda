use Rattle.bcj_cli_compile.proofs.Carried.{carried}
use Rattle.bcj_cli_compile.proofs.laws.accepted_is_carried.Goals as goal

pub returns : goal.returns
returns c = carried c.elaborations_are_well_typed.ensures.derived c.units_are_decided.ensures.decided

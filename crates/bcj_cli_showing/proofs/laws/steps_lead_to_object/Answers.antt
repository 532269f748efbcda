use Rattle.bcj_cli_showing.proofs.Ways.{steps_lead_to_object}
use Rattle.bcj_cli_showing.proofs.laws.steps_lead_to_object.Goals as goal

pub returns : goal.returns
returns c = steps_lead_to_object

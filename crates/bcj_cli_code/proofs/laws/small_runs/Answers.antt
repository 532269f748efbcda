use Rattle.bcj_cli_code.proofs.Worked.{rows}
use Rattle.bcj_cli_code.proofs.laws.small_runs.Goals as goal

pub returns : goal.returns
returns c = rows

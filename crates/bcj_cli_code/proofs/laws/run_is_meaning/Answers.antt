use Rattle.bcj_cli_code.proofs.Theorem.{correct}
use Rattle.bcj_cli_code.proofs.laws.run_is_meaning.Goals as goal

pub returns : goal.returns
returns c = correct

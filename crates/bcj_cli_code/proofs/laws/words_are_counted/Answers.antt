use Rattle.bcj_cli_code.proofs.Theorem.{sizes}
use Rattle.bcj_cli_code.proofs.laws.words_are_counted.Goals as goal

pub returns : goal.returns
returns c = sizes

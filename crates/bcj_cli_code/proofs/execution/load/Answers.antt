use Rattle.std.proofs.Common.{arith}
use Rattle.bcj_cli_code.proofs.Advance.{load_size}
use Rattle.bcj_cli_code.proofs.execution.load.Goals as goal

pub new-machine-requires-clause-size : goal.new-machine-requires-clause-size
new-machine-requires-clause-size c = omega (arith, load_size c.args.words.now _ _ c.of.ensures c.in_ok-memory.ensures)

pub new-machine-requires-clause-read_only : goal.new-machine-requires-clause-read_only
new-machine-requires-clause-read_only c = omega (arith, load_size c.args.words.now _ _ c.of.ensures c.in_ok-memory.ensures)

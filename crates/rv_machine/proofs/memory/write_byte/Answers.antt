use Rattle.std.proofs.Common.{arith}
use Rattle.rv_machine.proofs.Stored.{with_byte}
use Rattle.rv_machine.proofs.memory.write_byte.Goals as goal

pub returns : goal.returns
returns c = with_byte c.args.memory.now c.args.place _ (omega (arith, c.requires))

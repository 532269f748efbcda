use Rattle.std.proofs.Common.{refl}
use Rattle.byteorder.specs.Endian.{little_bytes}
use Rattle.rv_machine.proofs.Stored.{placed}
use Rattle.rv_machine.proofs.memory.write_word.Goals as goal

pub returns : goal.returns
returns c =
    placed c.args.memory.now (little_bytes 4 c.args.v) c.write_u32.new.buf c.args.place 4 refl c.write_u32.ensures

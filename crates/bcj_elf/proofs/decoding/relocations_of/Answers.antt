use Rattle.std.proofs.Common.{arith}
use Rattle.bcj_elf.proofs.Loops.{relocations_go_on, relocations_end}
use Rattle.bcj_elf.proofs.decoding.relocations_of.Goals as goal

pub loop-rest-preserved : goal.loop-rest-preserved
loop-rest-preserved c = rw (c.in_ok-push.ensures.items, c.behind-rest.ensures, c.relocation_of.ensures) (relocations_go_on c.loop-rest.relocs.items c.loop-rest.rest.now _ c.loop-rest-test.true c.loop-rest.invariant)

pub returns : goal.returns
returns c = relocations_end c.loop-rest.relocs.items c.loop-rest.rest.now _ (omega arith) c.loop-rest.invariant

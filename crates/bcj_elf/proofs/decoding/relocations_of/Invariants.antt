use Rattle.std.proofs.Common.{◌≡◌, ◌++◌, ◌/◌, length}
use Rattle.bcj_elf.specs.Elf.{relocation_size}
use Rattle.bcj_elf.specs.function.Reading.{relocations_at}
use Rattle.bcj_elf.proofs.decoding.relocations_of.Given as goal

abbrev pub invariant-loop-rest : goal.invariant-loop-rest
invariant-loop-rest l = l.relocs.items ++ relocations_at (length l.rest / relocation_size) l.rest ≡ relocations_at (length l.bytes / relocation_size) l.bytes

abbrev pub decreases-loop-rest : goal.decreases-loop-rest
decreases-loop-rest l = length l.rest

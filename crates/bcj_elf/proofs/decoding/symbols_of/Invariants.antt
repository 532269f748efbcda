use Rattle.std.proofs.Common.{◌≡◌, ◌++◌, ◌/◌, length}
use Rattle.bcj_elf.specs.Elf.{symbol_size}
use Rattle.bcj_elf.specs.Plain.{plain_symbols}
use Rattle.bcj_elf.specs.function.Reading.{symbols_at}
use Rattle.bcj_elf.proofs.decoding.symbols_of.Given as goal

abbrev pub invariant-loop-rest : goal.invariant-loop-rest
invariant-loop-rest l = plain_symbols l.symbols.items ++ symbols_at (length l.rest / symbol_size) l.rest l.names ≡ symbols_at (length l.bytes / symbol_size) l.bytes l.fn.names

abbrev pub decreases-loop-rest : goal.decreases-loop-rest
decreases-loop-rest l = length l.rest

use Rattle.std.proofs.Common.{◌≡◌, drop}
use Rattle.bcj_elf.specs.Rules.{are_relocations}
use Rattle.bcj_elf.proofs.rules.are_relocations.Given as goal

abbrev pub invariant-loop-r : goal.invariant-loop-r
invariant-loop-r l = are_relocations l.section l.bytes l.symbols l.least (drop l.r-index l.relocs) ≡ are_relocations l.section l.bytes l.symbols 0 l.relocs

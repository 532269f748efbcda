use Rattle.std.proofs.Common.{◌≡◌, take}
use Rattle.bcj_elf.specs.Plain.{plain_symbols}
use Rattle.bcj_elf.specs.Layout.{strings}
use Rattle.bcj_elf.proofs.writing.strings_of.Given as goal

abbrev pub invariant-loop-s : goal.invariant-loop-s
invariant-loop-s l = l.out.items ≡ strings (plain_symbols (take l.s-index l.symbols))

use Rattle.std.proofs.Common.{◌≡◌, ◌++◌, take}
use Rattle.std.specs.List.{flat_map}
use Rattle.bcj_elf.specs.Spelling.{rela}
use Rattle.bcj_elf.proofs.writing.put_relas.Given as goal

abbrev pub invariant-loop-r : goal.invariant-loop-r
invariant-loop-r l = l.out.items ≡ l.initial.out.items ++ flat_map rela (take l.r-index l.relocs)

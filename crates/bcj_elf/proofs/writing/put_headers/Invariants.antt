use Rattle.std.proofs.Common.{◌≡◌, ◌++◌, take}
use Rattle.std.specs.List.{flat_map}
use Rattle.bcj_elf.specs.Spelling.{header_bytes}
use Rattle.bcj_elf.proofs.writing.put_headers.Given as goal

abbrev pub invariant-loop-h : goal.invariant-loop-h
invariant-loop-h l = l.out.items ≡ l.initial.out.items ++ flat_map header_bytes (take l.h-index l.all)

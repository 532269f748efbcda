use Rattle.std.proofs.Common.{◌≡◌, ◌+◌, drop}
use Rattle.bcj_elf.specs.Layout.{name_len}
use Rattle.bcj_elf.proofs.decoding.name_length.Given as goal

abbrev pub invariant-loop-i : goal.invariant-loop-i
invariant-loop-i l = l.i + name_len (drop l.i l.names) ≡ name_len l.names

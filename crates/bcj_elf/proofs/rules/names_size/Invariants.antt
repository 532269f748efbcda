use Rattle.std.proofs.Common.{◌≡◌, ◌+◌, ◌<◌, ◌^◌, drop, length}
use Rattle.std.specs.List.{flat_map}
use Rattle.bcj_elf.specs.Plain.{plain_symbols}
use Rattle.bcj_elf.specs.Layout.{strings, terminated}
use Rattle.bcj_elf.proofs.rules.names_size.Given as goal

abbrev pub invariant-loop-s : goal.invariant-loop-s
invariant-loop-s l = record {
  room : l.size + length (flat_map terminated (plain_symbols (drop l.s-index l.symbols))) ≡ length (strings (plain_symbols l.symbols));
  small : l.size < 2 ^ 32;
}

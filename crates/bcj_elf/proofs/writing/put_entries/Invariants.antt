use Rattle.std.proofs.Common.{◌≡◌, ◌+◌, ◌++◌, drop, length}
use Rattle.std.specs.List.{flat_map}
use Rattle.bcj_elf.specs.Plain.{plain_symbols}
use Rattle.bcj_elf.specs.Layout.{strings, terminated}
use Rattle.bcj_elf.specs.Spelling.{entries}
use Rattle.bcj_elf.proofs.writing.put_entries.Given as goal

abbrev pub invariant-loop-s : goal.invariant-loop-s
invariant-loop-s l = record {
  written : l.out.items ++ entries l.at (plain_symbols (drop l.s-index l.symbols)) ≡ l.initial.out.items ++ entries 1 (plain_symbols l.symbols);
  room : l.at + length (flat_map terminated (plain_symbols (drop l.s-index l.symbols))) ≡ length (strings (plain_symbols l.symbols));
}

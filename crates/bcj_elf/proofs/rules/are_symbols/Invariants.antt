use Rattle.std.proofs.Common.{◌≡◌, ◌≤◌, length}
use Rattle.bcj_elf.specs.Plain.{plain_symbols}
use Rattle.bcj_elf.specs.Rules.{are_symbols}
use Rattle.bcj_elf.proofs.rules.are_symbols.Given as goal

abbrev pub invariant-loop-rest : goal.invariant-loop-rest
invariant-loop-rest l = record {
  same : are_symbols l.text l.tab l.text_at l.tab_at (plain_symbols l.rest) ≡ are_symbols l.text l.tab 0 0 (plain_symbols l.symbols);
  in_text : l.text_at ≤ l.text;
  in_tab : l.tab_at ≤ l.tab;
}

abbrev pub decreases-loop-rest : goal.decreases-loop-rest
decreases-loop-rest l = length l.rest

use Rattle.std.proofs.Common.{◌≡◌, ◌++◌, map, drop}
use Rattle.bcj_layout_addresses.specs.Lists.{found_at}
use Rattle.bcj_layout_addresses.proofs.finding.found_words.Given as goal

abbrev pub invariant-loop-method : goal.invariant-loop-method
invariant-loop-method l = l.words ++ map (found_at l.text l.methods) (drop l.method-index l.methods) ≡ map (found_at l.text l.methods) l.methods

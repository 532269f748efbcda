use Rattle.std.proofs.Common.{◌≤◌, drop, length}
use Rattle.bcj_layout_addresses.specs.Finding.{HasFirst}
use Rattle.bcj_layout_addresses.proofs.finding.first_words.Given as goal

abbrev pub invariant-loop-k : goal.invariant-loop-k
invariant-loop-k l = record {
  within : l.k ≤ length l.methods;
  first : HasFirst l.class l.text l.methods (drop l.k l.methods) l.found;
}

abbrev pub decreases-loop-k : goal.decreases-loop-k
decreases-loop-k l = l.k

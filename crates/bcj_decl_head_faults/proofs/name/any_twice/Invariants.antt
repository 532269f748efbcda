use Rattle.std.proofs.Common.{◌≡◌, drop}
use Rattle.std.specs.HashSet.{contains_text}
use Rattle.bcj_decl_rules.specs.Faults.{stands_twice}
use Rattle.bcj_decl_head_faults.proofs.Twice.{stands_again}
use Rattle.bcj_decl_head_faults.proofs.name.any_twice.Given as goal

abbrev pub invariant-loop-name : goal.invariant-loop-name
invariant-loop-name l = stands_again (contains_text l.seen) (drop l.name-index l.names) ≡ stands_twice l.names

use Rattle.bcj_symbolic_trees.proofs.PlainLemmas.{tree_rules}
use Rattle.bcj_decl_member_faults.proofs.Unknown.{known_place, unknown-append}

pub ruleset fault_rules = (tree_rules)

pub ruleset known_rules = (known_place, unknown-append)

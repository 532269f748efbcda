use Rattle.std.proofs.Common.{append_assoc}
use Rattle.bcj_symbolic_trees.proofs.PlainLemmas.{tree_rules}

pub ruleset text_rules = (append_assoc, tree_rules)

pub ruleset list_rules = (append_assoc)

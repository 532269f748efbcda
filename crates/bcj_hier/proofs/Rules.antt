-- Rules for functions over types.
use Rattle.bcj_symbolic_trees.proofs.PlainLemmas.{tree_rules}

pub ruleset type_rules = tree_rules

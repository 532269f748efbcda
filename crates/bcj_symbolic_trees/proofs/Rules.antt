use Rattle.bcj_symbolic_trees.proofs.PlainLemmas.{tree_rules}
use Rattle.bcj_symbolic_trees.proofs.SameLemmas.{same_type-Decides, same_types-Decides, same_field_ref-Decides, same_method_ref-Decides}

pub ruleset same_rules = (tree_rules, same_type-Decides, same_types-Decides, same_field_ref-Decides, same_method_ref-Decides)

use Rattle.std.proofs.Common.{append_assoc}
use Rattle.std.proofs.lemmas.List.{map-append}
use Rattle.std.proofs.lemmas.List.Elements.{filter_map-append}
use Rattle.bcj_symbolic_trees.proofs.PlainLemmas.{tree_rules}

pub ruleset table_rules = (append_assoc, map-append, filter_map-append, tree_rules)

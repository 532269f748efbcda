use Rattle.std.proofs.Common.{append_assoc}
use Rattle.std.proofs.lemmas.List.{map-append}
use Rattle.bcj_symbolic_trees.proofs.PlainLemmas.{tree_rules}
use Rattle.bcj_typing_member.proofs.StepLemmas.{with_pair-map}

pub ruleset member_rules = (append_assoc, map-append, tree_rules)

pub ruleset pair_rules = (append_assoc, map-append, tree_rules, with_pair-map)

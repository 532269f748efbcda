use Rattle.std.proofs.Common.{append_assoc, append-nil}
use Rattle.std.proofs.lemmas.List.{length-map}
use Rattle.bcj_symbolic_trees.proofs.PlainLemmas.{tree_rules}
use Rattle.bcj_symbolic_measure.proofs.CountLemmas.{count-length}
use Rattle.bcj_lower_bodies.proofs.Walks.{static-is, made-is, catch-length}

pub ruleset line_rules = (append_assoc, tree_rules, count-length, static-is, made-is)

pub ruleset code_rules = (append_assoc, append-nil, tree_rules, length-map, catch-length)

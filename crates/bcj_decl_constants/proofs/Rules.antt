use Rattle.std.proofs.Common.{append_assoc, append-nil}
use Rattle.std.proofs.lemmas.List.{map-append}
use Rattle.std.proofs.lemmas.List.Concat.{flat_map-append}
use Rattle.std.proofs.lemmas.List.Elements.{filter_map-append}
use Rattle.bcj_parser_trees.proofs.PlainLemmas.{tree_rules}

pub ruleset needs_rules = (append_assoc, append-nil, map-append, tree_rules)

pub ruleset initial_rules = (append_assoc, append-nil, map-append, flat_map-append, filter_map-append, tree_rules)

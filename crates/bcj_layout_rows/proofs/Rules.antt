use Rattle.std.proofs.Common.{append_assoc}
use Rattle.std.proofs.lemmas.List.{map-append, length-map}
use Rattle.bcj_symbolic_trees.proofs.PlainLemmas.{tree_rules}
use Rattle.bcj_layout_rows.proofs.TextLemmas.{array_of-more, array_of-outside, text-bracket, text-element, text-end, text-step}
use Rattle.bcj_layout_rows.proofs.ArrayLemmas.{put-type, put-array, all-stay, type-position}
use Rattle.bcj_layout_rows.proofs.HierLemmas.{load-same, implements-same, name-found}
use Rattle.bcj_layout_rows.proofs.SelectorLemmas.{put-reference, reference-position, class-step}

pub ruleset text_rules = (tree_rules, array_of-more, array_of-outside, text-bracket, text-element, text-end, text-step)

pub ruleset key_rules = (append_assoc, tree_rules)

pub ruleset array_rules = (append_assoc, map-append, tree_rules, put-type, put-array)

pub ruleset row_rules = (append_assoc, map-append, tree_rules, put-type, type-position, all-stay, length-map)

pub ruleset loaded_rules = (length-map)

pub ruleset selector_rules = (length-map, put-reference, reference-position, class-step)

pub ruleset highest_rules = (load-same, implements-same, name-found, length-map)

use Rattle.std.proofs.Common.{append_assoc, length-append}
use Rattle.std.proofs.lemmas.List.{length-map}
use Rattle.bcj_symbolic_trees.proofs.PlainLemmas.{tree_rules}
use Rattle.bcj_symbolic_measure.proofs.TotalLemmas.{plus-plus, plus-two, plus-three, capped-none, larger-left, larger-right}
use Rattle.bcj_symbolic_measure.proofs.CountLemmas.{noted-nil, noted-append, count-length, with_entry-map, position-map}
use Rattle.bcj_symbolic_measure.proofs.DepthLemmas.{saved-left, saved-right, place-capped, frame-sum}
use Rattle.bcj_symbolic_measure.proofs.WalkLemmas.{bodies-begin}
use Rattle.bcj_symbolic_measure.proofs.ObjectLemmas.{record-sum}

pub ruleset entry_rules = (tree_rules)

pub ruleset tally_rules = (plus-plus, plus-two, plus-three, with_entry-map)

pub ruleset code_rules = (append_assoc, tree_rules, noted-nil, noted-append, count-length)

pub ruleset body_rules = (bodies-begin)

pub ruleset depth_rules = (tree_rules, saved-left, saved-right, larger-left, larger-right, place-capped, capped-none)

pub ruleset frame_rules = (frame-sum)

pub ruleset size_rules = (tree_rules, length-append)

pub ruleset object_rules = (plus-plus)

pub ruleset record_rules = (record-sum)

pub ruleset count_rules = (length-map)

pub ruleset table_rules = (length-map, with_entry-map, position-map)

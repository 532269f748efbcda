use Rattle.std.proofs.Common.{append_assoc}
use Rattle.bcj_symbolic_trees.proofs.PlainLemmas.{tree_rules}
use Rattle.bcj_symbolic_check.proofs.WalkLemmas.{noted-nil, noted-append, settle-none, settle-one, settle-two, settle-three}
use Rattle.bcj_symbolic_check.proofs.TypeLemmas.{few_dimensions, local_at}
use Rattle.bcj_symbolic_check.proofs.FaultLemmas.{first_found}
use Rattle.bcj_symbolic_check.proofs.LengthLemmas.{empty_by_length, none_by_length, no_marks, no_sorts, too_many}

pub ruleset walk_rules = (tree_rules, append_assoc, noted-nil, noted-append, settle-none, settle-one, settle-two, settle-three)

pub ruleset type_rules = (tree_rules, few_dimensions, local_at)

pub ruleset fault_rules = (first_found, settle-two)

pub ruleset length_rules = (empty_by_length, none_by_length, no_marks, no_sorts, too_many)

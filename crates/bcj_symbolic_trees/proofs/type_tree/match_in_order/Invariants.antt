use Rattle.std.proofs.Common.{◌≡◌, length, drop}
use Rattle.bcj_symbolic_trees.specs.Types.{types_of}
use Rattle.bcj_symbolic_trees.specs.Same.{same_types}
use Rattle.bcj_symbolic_trees.proofs.type_tree.match_in_order.Given as goal

abbrev pub invariant-loop-i : goal.invariant-loop-i
invariant-loop-i l =
    (length l.types ≡ length l.others)
    × (same_types (types_of (drop l.i l.types)) (types_of (drop l.i l.others)) ≡ same_types (types_of l.types) (types_of l.others))

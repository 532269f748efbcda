use Rattle.std.proofs.Common.{◌≡◌, length, drop}
use Rattle.bcj_decl_rules.specs.World.{param_types}
use Rattle.bcj_symbolic_trees.specs.Same.{same_types}
use Rattle.bcj_decl_member_faults.proofs.again.have_same_types.Given as goal

abbrev pub invariant-loop-i : goal.invariant-loop-i
invariant-loop-i l =
    (length l.params ≡ length l.others)
    × (same_types (param_types (drop l.i l.params)) (param_types (drop l.i l.others)) ≡ same_types (param_types l.params) (param_types l.others))

use Rattle.std.proofs.Common.{◌≤◌, length}
use Rattle.bcj_hier.specs.Walks.{HasChildrenFrom}
use Rattle.bcj_hier.proofs.tree.push_children.Given as goal

pub record IsPushed (A B : Type 0) : Type 0 where
  pub within : A
  pub children : B

abbrev pub invariant-loop-number : goal.invariant-loop-number
invariant-loop-number l = IsPushed (l.number ≤ length l.heads) (HasChildrenFrom l.heads l.number l.parent l.initial.stack l.stack)

abbrev pub decreases-loop-number : goal.decreases-loop-number
decreases-loop-number l = l.number

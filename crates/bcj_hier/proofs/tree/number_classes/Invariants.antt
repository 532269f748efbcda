use Rattle.bcj_hier.specs.Walks.{IsWalk, work}
use Rattle.bcj_hier.proofs.tree.number_classes.Given as goal

abbrev pub invariant-loop-visit : goal.invariant-loop-visit
invariant-loop-visit l = IsWalk l.heads l.tree.order.items l.tree.lows.items l.tree.highs.items l.stack

abbrev pub decreases-loop-visit : goal.decreases-loop-visit
decreases-loop-visit l = work l.heads l.stack

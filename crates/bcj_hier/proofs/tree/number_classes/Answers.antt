use Rattle.std.proofs.Common.{◌≡◌, [], List, subst}
use Rattle.bcj_hier.specs.declared.visits.Visit.{Visit}
use Rattle.bcj_hier.specs.Walks.{IsWalk}
use Rattle.bcj_hier.proofs.Walking.{ended}
use Rattle.bcj_hier.proofs.tree.number_classes.Goals as goal

pub returns : goal.returns
returns c =
    let W : List Visit → Type 0 = λ s. IsWalk c.args.heads.now c.loop-visit.tree.order.items c.loop-visit.tree.lows.items c.loop-visit.tree.highs.items s in
    let none : c.loop-visit.stack ≡ [] = c.in_default.ensures in
    ended c.args.heads.now c.requires.distinct c.requires.rooted c.loop-visit.tree.order.items c.loop-visit.tree.lows.items c.loop-visit.tree.highs.items (subst W none c.loop-visit.invariant)

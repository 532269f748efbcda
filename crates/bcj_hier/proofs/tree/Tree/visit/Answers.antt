use Rattle.std.proofs.Common.{◌≤◌, ◌+◌, ◌∷◌, length, arith}
use Rattle.bcj_hier.specs.Walks.{rest_names}
use Rattle.bcj_hier.proofs.Walking.{few_met}
use Rattle.bcj_hier.proofs.tree.Tree.visit.Goals as goal

pub leave-requires-clause-few : goal.leave-requires-clause-few
leave-requires-clause-few c =
    let few : length c.args.self.now.order.items + length (rest_names c.args.heads.now (c.args.visit ∷ c.args.stack.now)) ≤ length c.args.heads.now =
    few_met c.args.heads.now c.requires.distinct c.requires.rooted c.args.self.now.order.items c.args.self.now.lows.items c.args.self.now.highs.items (c.args.visit ∷ c.args.stack.now) c.requires.walk in
    omega arith

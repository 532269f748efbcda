use Rattle.std.proofs.Common.{◌∙◌, List, ap}
use Rattle.bcj_hier_rules.specs.Shapes.{Named}
use Rattle.bcj_hier_rules.specs.Heads.{number_of}
use Rattle.bcj_symbolic_trees.specs.declared.class_tree.ClassHead.{ClassHead}
use Rattle.bcj_hier.specs.Numbers.{numbered}
use Rattle.bcj_hier.proofs.Places.{numbered_is}
use Rattle.bcj_hier.proofs.hierarchy.Hier.place_of.Goals as goal

pub returns-clause-number : goal.returns-clause-number
returns-clause-number c =
    c.find.ensures.number
    ∙ (ap (λ (ns : List Named). numbered ns c.args.name.now) c.self.invariant.named
    ∙ (numbered_is c.self.inside.heads c.args.name.now ∙ ap (λ (hs : List ClassHead). number_of hs c.args.name.now) c.self.view_is))

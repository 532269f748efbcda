use Rattle.std.proofs.Common.{◌∙◌, ap}
use Rattle.bcj_symbolic_trees.specs.Types.{ty_of}
use Rattle.bcj_hier_rules.specs.Heads.{of_heads}
use Rattle.bcj_hier_rules.specs.Resolution.{element_error}
use Rattle.bcj_layout_resolution.specs.Places.{heads_in}
use Rattle.bcj_layout.proofs.InstanceLemmas.{component-loads}
use Rattle.bcj_layout.proofs.layout.Layout.stores.Goals as goal

pub is_of_type-requires-clause-loads : goal.is_of_type-requires-clause-loads
is_of_type-requires-clause-loads c =
    ap (element_error (of_heads (heads_in c.args.self.now.classes))) c.component.ensures ∙ component-loads (of_heads (heads_in c.args.self.now.classes)) (ty_of c.array.result.now) c.array.ensures.loads

use Rattle.std.proofs.Common.{◌≡◌, ◌∙◌, ap, sym, List}
use Rattle.bcj_symbolic_trees.specs.declared.class_tree.ClassHead.{ClassHead}
use Rattle.bcj_hier_rules.specs.Heads.{of_heads, name_of}
use Rattle.bcj_hier_rules.specs.Loading.{load_error}
use Rattle.bcj_layout_resolution.specs.Places.{heads_in}
use Rattle.bcj_layout_resolution.proofs.Records.{loads_same, none_loads}
use Rattle.bcj_layout_resolution.proofs.resolver.Resolver.load.Goals as goal

pub returns-in-None-clause-err : goal.returns-in-None-clause-err
returns-in-None-clause-err c = none_loads c.args.self.now c.args.name.now c.in-None.ensures.none

pub returns-in-Ok-clause-loads : goal.returns-in-Ok-clause-loads
returns-in-Ok-clause-loads c =
    let agree : c.self.inside.hier ≡ heads_in c.args.self.now = c.self.invariant.heads_are ∙ ap heads_in c.self.view_is in
    loads_same c.args.self.now c.args.name.now
    ∙ (ap (load_error (of_heads (heads_in c.args.self.now))) (sym c.in-Some.ensures.named)
    ∙ (ap (λ (hs : List ClassHead). load_error (of_heads hs) (name_of hs c.in-Some.class)) (sym agree) ∙ sym c.in-Ok.ensures))

pub returns-in-Err-clause-err : goal.returns-in-Err-clause-err
returns-in-Err-clause-err c =
    let agree : c.self.inside.hier ≡ heads_in c.args.self.now = c.self.invariant.heads_are ∙ ap heads_in c.self.view_is in
    loads_same c.args.self.now c.args.name.now
    ∙ (ap (load_error (of_heads (heads_in c.args.self.now))) (sym c.in-Some.ensures.named)
    ∙ (ap (λ (hs : List ClassHead). load_error (of_heads hs) (name_of hs c.in-Some.class)) (sym agree) ∙ sym c.in-Err.ensures))

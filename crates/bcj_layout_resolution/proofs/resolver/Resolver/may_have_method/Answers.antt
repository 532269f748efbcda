use Rattle.std.proofs.Common.{◌≡◌, subst, List, true, arith}
use Rattle.std.specs.List.{list_all}
use Rattle.bcj_symbolic_trees.specs.declared.class_tree.ClassHead.{ClassHead}
use Rattle.bcj_hier_rules.specs.Shapes.{is_method}
use Rattle.bcj_hier_rules.specs.Heads.{name_of, is_placed}
use Rattle.bcj_layout_resolution.specs.Places.{heads_in}
use Rattle.bcj_layout_resolution.specs.Searches.{own_method}
use Rattle.bcj_layout_resolution.proofs.Reaching.{no_method, all_without}
use Rattle.bcj_layout_resolution.proofs.resolver.Resolver.may_have_method.Goals as goal

pub returns : goal.returns
returns c = λ _ n.
    let P : List ClassHead → Type 0 = λ hs. list_all is_placed hs ≡ true in
    no_method c.args.self.now c.args.name.now c.args.desc.now (name_of (heads_in c.args.self.now) c.args.class) (subst P c.hier.ensures c.len-count.ensures.rooted.placed)
    (c.is_loaded_interface.ensures.loads c.if-not-is_loaded_interface.false) (c.is_loaded_interface.ensures.interface c.if-not-is_loaded_interface.false)
    (all_without c.hier.result.now c.args.self.now (own_method (is_method c.args.name.now c.args.desc.now)) (name_of (heads_in c.args.self.now) c.args.class) c.loop-k.k c.hier.ensures (omega arith) c.loop-k.invariant) n

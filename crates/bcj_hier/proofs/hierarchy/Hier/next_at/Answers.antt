use Rattle.std.proofs.Common.{◌≡◌, ◌<◌, ◌≤◌, ◌∙◌, List, IfSome, length, slice_get, sym, ap, subst}
use Rattle.std.specs.Option.{option_map}
use Rattle.bcj_symbolic_trees.specs.declared.class_tree.ClassHead.{ClassHead}
use Rattle.bcj_hier_rules.specs.Heads.{of_heads, max_types}
use Rattle.bcj_hier_rules.specs.Trees as tree
use Rattle.bcj_hier.specs.Numbers.{name_at}
use Rattle.bcj_hier.specs.Walks.{names_at}
use Rattle.bcj_hier.proofs.Calls.{next_none, next_is}
use Rattle.bcj_hier.proofs.Parents.{next_there, few_there}
use Rattle.bcj_hier.proofs.hierarchy.Hier.next_at.Goals as goal

pub returns-then-is_interface-clause-name : goal.returns-then-is_interface-clause-name
returns-then-is_interface-clause-name c = next_none c.args.self.now c.is_interface.ensures.distinct c.args.c c.requires (sym c.is_interface.ensures.kind ∙ c.if-is_interface.true)

item : (c : goal.After-item_at) → c.item_at.result ≡ slice_get c.self.inside.order.items c.low_at-number.result
item c = c.item_at.ensures ∙ ap (λ l. slice_get l c.low_at-number.result) c.deref.ensures.value

there : (c : goal.After-item_at) → IfSome c.item_at.result (λ d. d < length c.args.self.now)
there c =
    let P : List ClassHead → Type 0 = λ hs. IfSome c.item_at.result (λ d. d < length hs) in
    subst P c.self.view_is (next_there c.self.inside.heads c.self.inside.order.items c.low_at-number.result c.item_at.result c.self.invariant.numbered.classes (item c))

pub returns-clause-name : goal.returns-clause-name
returns-clause-name c =
    let Whole : List ClassHead → Type 0 = λ hs. names_at hs c.self.inside.order.items ≡ tree.preorder (of_heads hs) in
    ap (option_map (name_at c.args.self.now)) (item c)
    ∙ next_is c.args.self.now c.is_interface.ensures.distinct c.args.c c.low_at-number.result c.self.inside.order.items c.requires (sym c.is_interface.ensures.kind ∙ c.if-is_interface.false)
    (subst Whole c.self.view_is c.self.invariant.numbered.whole) c.low_at-number.ensures

pub returns-clause-there : goal.returns-clause-there
returns-clause-there c = there c

pub returns-clause-few : goal.returns-clause-few
returns-clause-few c =
    let Few : List ClassHead → Type 0 = λ hs. length hs ≤ max_types in
    few_there c.args.self.now c.item_at.result (subst Few c.self.view_is c.self.invariant.few) (there c)

use Rattle.std.proofs.Common.{◌≡◌, ◌<◌, ◌≤◌, ◌∙◌, List, None, length, sym, ap, subst}
use Rattle.bcj_symbolic_trees.specs.declared.class_tree.ClassHead.{ClassHead}
use Rattle.bcj_hier_rules.specs.Heads.{max_types}
use Rattle.bcj_hier.specs.Numbers.{parts_at}
use Rattle.bcj_hier.specs.Loads.{loading_error}
use Rattle.bcj_hier.proofs.Parents.{IsParent, parent_is, few_there}
use Rattle.bcj_hier.proofs.hierarchy.Hier.parent_at.Goals as goal

parent : (c : goal.After-superclass_place) → IsParent c.args.self.now c.args.place c.superclass_place.result
parent c =
    let P : List ClassHead → Type 0 = λ hs. IsParent hs c.args.place c.superclass_place.result in
    let Few : List ClassHead → Type 0 = λ hs. c.args.place < length hs in
    let Loads : List ClassHead → Type 0 = λ hs. loading_error hs c.args.place ≡ None in
    subst P c.self.view_is
    (parent_is c.self.inside.heads c.self.invariant.distinct c.args.place (subst Few (sym c.self.view_is) c.requires.there) (subst Loads (sym c.self.view_is) c.requires.loads) c.self.inside.parts
    c.parts_at.result.now c.superclass_place.result c.self.invariant.parted (c.parts_at.ensures ∙ ap (λ l. parts_at l c.args.place) c.as_slice.ensures) c.superclass_place.ensures)

pub returns-clause-name : goal.returns-clause-name
returns-clause-name c = (parent c).name

pub returns-clause-there : goal.returns-clause-there
returns-clause-there c = (parent c).there

pub returns-clause-few : goal.returns-clause-few
returns-clause-few c =
    let Few : List ClassHead → Type 0 = λ hs. length hs ≤ max_types in
    few_there c.args.self.now c.superclass_place.result (subst Few c.self.view_is c.self.invariant.few) (parent c).there

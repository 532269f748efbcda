use Rattle.std.proofs.Common.{◌<◌, ◌∷◌, ◌++◌, [], List, ℕ, length, subst, sym, ap, arith}
use Rattle.bcj_hier.specs.declared.visits.Visit.{Visit}
use Rattle.bcj_hier.specs.Walks.{IsWalk, HasChildrenFrom}
use Rattle.bcj_hier.proofs.Walking.{entered, entered_work, few_before}
use Rattle.bcj_hier.proofs.tree.Tree.enter.Goals as goal
use Rattle.bcj_hier.proofs.tree.Tree.enter.Goals.{After-push_children}

pub meet-requires-clause-few : goal.meet-requires-clause-few
meet-requires-clause-few c =
    let few : length c.args.self.now.order.items < length c.args.heads.now =
    few_before c.args.heads.now c.requires.distinct c.requires.rooted c.args.self.now.order.items c.args.self.now.lows.items c.args.self.now.highs.items c.args.class c.args.stack.now c.requires.walk in
    omega arith

pub returns-clause-walk : goal.returns-clause-walk
returns-clause-walk c =
    let H : List Visit → Type 0 = λ s. HasChildrenFrom c.args.heads.now 0 c.args.class s c.push_children.new.stack in
    let O : List ℕ → Type 0 = λ o. IsWalk c.args.heads.now o c.meet.new.self.lows.items c.meet.new.self.highs.items c.push_children.new.stack in
    let S : List ℕ → Type 0 = λ h. IsWalk c.args.heads.now (c.args.self.now.order.items ++ c.args.class ∷ []) c.meet.new.self.lows.items h c.push_children.new.stack in
    subst O (sym c.in_ok-meet.ensures.order)
    (subst S (sym (ap (λ v. v.items) c.in_ok-meet.ensures.highs))
    (entered c.args.heads.now c.requires.distinct c.requires.rooted c.args.self.now.order.items c.args.self.now.lows.items c.args.self.now.highs.items c.meet.new.self.lows.items c.args.class c.args.stack.now
    c.push_children.new.stack c.requires.walk c.in_ok-meet.ensures.lows (subst H c.in_ok-push.ensures c.in_ok-push_children.ensures)))

pub returns-clause-fewer : goal.returns-clause-fewer
returns-clause-fewer c =
    let H : List Visit → Type 0 = λ s. HasChildrenFrom c.args.heads.now 0 c.args.class s c.push_children.new.stack in
    entered_work c.args.heads.now c.requires.distinct c.requires.rooted c.args.self.now.order.items c.args.self.now.lows.items c.args.self.now.highs.items c.args.class c.args.stack.now c.push_children.new.stack
    c.requires.walk (subst H c.in_ok-push.ensures c.in_ok-push_children.ensures)

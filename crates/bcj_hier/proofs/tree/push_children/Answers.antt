use Rattle.std.proofs.Common.{◌≡◌, ◌-◌, ◌∷◌, ◌∙◌, List, cond, subst, sym, ap, arith}
use Rattle.bcj_hier.specs.declared.visits.Visit.{Visit}
use Rattle.bcj_hier.specs.declared.visits.Visit.TheVariants.{Enter}
use Rattle.bcj_hier.specs.Walks.{HasChildrenFrom}
use Rattle.bcj_hier.proofs.Children.{children_step}
use Rattle.bcj_hier.proofs.tree.push_children.Goals as goal
use Rattle.bcj_hier.proofs.tree.push_children.Goals.{After-is_child_at}

stepped : (c : After-is_child_at)
    → HasChildrenFrom c.args.heads.now (c.loop-number.number - 1) c.args.parent c.args.stack.now (cond c.is_child_at.result (Enter (c.loop-number.number - 1) ∷ c.loop-number.stack) c.loop-number.stack)
stepped c =
    children_step c.args.heads.now c.args.parts.now c.args.errors.now c.args.parent c.loop-number.number c.args.stack.now c.loop-number.stack c.requires.distinct c.requires.parts c.requires.errors c.requires.parent
    (omega arith) c.loop-number.invariant.within c.loop-number.invariant.children c.is_child_at.result c.is_child_at.ensures

pub loop-number-preserved-in-Continue-1 : goal.loop-number-preserved-in-Continue-1
loop-number-preserved-in-Continue-1 c =
    let P : List Visit → Type 0 = λ s. HasChildrenFrom c.args.heads.now (c.loop-number.number - 1) c.args.parent c.args.stack.now s in
    let e : cond c.is_child_at.result (Enter (c.loop-number.number - 1) ∷ c.loop-number.stack) c.loop-number.stack ≡ c.push.new.self =
    ap (λ b. cond b (Enter (c.loop-number.number - 1) ∷ c.loop-number.stack) c.loop-number.stack) c.if-is_child_at.true ∙ sym c.in_ok-push.ensures in
    record { within = omega arith; children = subst P e (stepped (goal.at.loop-number-preserved-in-Continue-1 c).After-is_child_at) }

pub loop-number-preserved : goal.loop-number-preserved
loop-number-preserved c =
    let P : List Visit → Type 0 = λ s. HasChildrenFrom c.args.heads.now (c.loop-number.number - 1) c.args.parent c.args.stack.now s in
    let e : cond c.is_child_at.result (Enter (c.loop-number.number - 1) ∷ c.loop-number.stack) c.loop-number.stack ≡ c.loop-number.stack =
    ap (λ b. cond b (Enter (c.loop-number.number - 1) ∷ c.loop-number.stack) c.loop-number.stack) c.if-is_child_at.false in
    record { within = omega arith; children = subst P e (stepped (goal.at.loop-number-preserved c).After-is_child_at) }

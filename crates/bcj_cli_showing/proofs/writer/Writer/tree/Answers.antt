use Rattle.std.proofs.Common.{◌<◌, Option, subst, sym}
use Rattle.bcj_hier_rules.specs.declared.class_id.ClassId.{ClassId}
use Rattle.bcj_cli_showing.proofs.Walks.{stands, walk_more, walk_end, left, left_falls}
use Rattle.bcj_cli_showing.proofs.writer.Writer.tree.Goals as goal

pub tree_class-requires-clause-loads : goal.tree_class-requires-clause-loads
tree_class-requires-clause-loads c =
    (stands _ (record { rooted = c.len-turns.ensures.rooted; distinct = c.len-turns.ensures.distinct }) _ _ _ (rw c.in-Some.is at c.loop-next.invariant)).loads

pub next_in_tree-next-requires-clause-loads : goal.next_in_tree-next-requires-clause-loads
next_in_tree-next-requires-clause-loads c =
    (stands _ (record { rooted = c.len-turns.ensures.rooted; distinct = c.len-turns.ensures.distinct }) _ _ _ (rw c.in-Some.is at c.loop-next.invariant)).loads

pub loop-next-smaller : goal.loop-next-smaller
loop-next-smaller c =
    let Falls : Option ClassId → Type 0 = λ o. left c.args.hier.now c.next_in_tree-next.result < left c.args.hier.now o in
    subst Falls (sym c.in-Some.is)
    (left_falls _ (record { rooted = c.len-turns.ensures.rooted; distinct = c.len-turns.ensures.distinct }) _ _ _ _ (rw c.in-Some.is at c.loop-next.invariant)
    c.next_in_tree-next.ensures.name c.next_in_tree-next.ensures.there)

pub loop-next-preserved : goal.loop-next-preserved
loop-next-preserved c =
    rw c.in_ok-tree_class.ensures
    (walk_more _ (record { rooted = c.len-turns.ensures.rooted; distinct = c.len-turns.ensures.distinct }) _ _ c.in-Some.class _ (rw c.in-Some.is at c.loop-next.invariant)
    c.next_in_tree-next.ensures.name c.next_in_tree-next.ensures.there)

pub returns : goal.returns
returns c = walk_end _ _ _ (rw c.in_default.is at c.loop-next.invariant)

use Rattle.std.proofs.Common.{List, subst, sym, ap, ◌∙◌, ◌≡◌}
use Rattle.bcj_symbolic_trees.specs.declared.class_tree.ClassHead.{ClassHead}
use Rattle.bcj_hier_rules.specs.Heads.{AreDistinct}
use Rattle.bcj_layout_rules.specs.Rows.{Classes}
use Rattle.bcj_linker_objects.specs.Names.{heads_in}
use Rattle.bcj_linker_objects.proofs.Rooted.{no_repeat}
use Rattle.bcj_linker_objects.proofs.gathered.finish.Goals as goal

pub unreachable-requires : goal.unreachable-requires
unreachable-requires c =
    let heads : c.in_ok-heads.heads ≡ heads_in c.args.gathering.classes = c.in_ok-heads.ensures ∙ ap (λ (cs : Classes). heads_in cs) c.as_slice.ensures in
    let distinct = subst (λ (hs : List ClassHead). AreDistinct hs) (sym heads) c.requires.distinct in
    let repeat = rw c.in-Err-Duplicate.field-0-is at c.in-Err-Duplicate.ensures.err in
    no_repeat c.in_ok-heads.heads c.in-Err-Duplicate.field-0-1 c.in-Err-Duplicate.field-0-2 c.in-Err-Duplicate.field-0-0 distinct repeat

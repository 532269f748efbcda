use Rattle.std.proofs.Common.{◌∙◌, sym}
use Rattle.bcj_object_boot.proofs.Rooted.{rooted_first}
use Rattle.bcj_object_boot.proofs.making.are_rooted.Goals as goal

pub returns-else-not-is_top : goal.returns-else-not-is_top
returns-else-not-is_top c is =
    rooted_first c.args.classes.now c.top-item.result c.in-len1-up.len_at_least c.top-item.is (c.is_top.ensures.named c.if-not-is_top.false) (c.is_top.ensures.class c.if-not-is_top.false)
    (c.is_top.ensures.alone c.if-not-is_top.false) (sym c.are_placed.ensures ∙ is)

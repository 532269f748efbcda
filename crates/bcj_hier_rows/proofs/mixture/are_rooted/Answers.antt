use Rattle.std.proofs.Common.{◌∙◌, sym}
use Rattle.bcj_hier_rows.proofs.Rooted.{rooted_first}
use Rattle.bcj_hier_rows.proofs.mixture.are_rooted.Goals as goal

pub returns-else-not-is_top : goal.returns-else-not-is_top
returns-else-not-is_top c is =
    rooted_first c.args.heads.now c.top-item.result c.in-len1-up.len_at_least c.top-item.is (c.is_top.ensures.named c.if-not-is_top.false) (c.is_top.ensures.class c.if-not-is_top.false)
    (c.is_top.ensures.alone c.if-not-is_top.false) (sym c.have_their_places.ensures ∙ is)

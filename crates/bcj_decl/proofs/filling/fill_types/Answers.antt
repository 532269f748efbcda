use Rattle.std.proofs.Common.{◌≡◌, ◌∙◌, ap, sym, length, arith}
use Rattle.bcj_decl.proofs.Views.{type_more}
use Rattle.bcj_decl.proofs.filling.fill_types.Goals as goal

pub loop-at-preserved : goal.loop-at-preserved
loop-at-preserved c =
    type_more c.loop-at.types c.args.types.now c.args.values.now c.loop-at.rest.now c.split_at.result.0.now c.split_at.result.1.now c.loop-at.at c.len-count.result c.index-types-at-in-loop-at.result
    c.index-types-at.result c.fill_type.new.info (omega arith) c.fill_type.ensures.same c.fill_type.ensures.set c.split_at.ensures.front c.split_at.ensures.back
    (sym c.len-count.ensures ∙ sym c.split_at.ensures.front_len) c.loop-at.invariant.0 c.loop-at.invariant.1 c.loop-at.invariant.2

use Rattle.std.proofs.Common.{arith}
use Rattle.bcj_decl.proofs.Views.{field_more}
use Rattle.bcj_decl.proofs.filling.set_constants.Goals as goal

pub loop-at-preserved : goal.loop-at-preserved
loop-at-preserved c =
    field_more c.loop-at.fields c.args.fields.now c.args.values.now c.loop-at.at c.index-fields-at.result c.set_constant.new.field _ (omega arith) (omega arith) c.set_constant.ensures.same c.set_constant.ensures.set
    c.loop-at.invariant.0 c.loop-at.invariant.1

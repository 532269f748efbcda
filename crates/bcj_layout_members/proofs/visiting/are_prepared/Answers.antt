use Rattle.std.proofs.Common.{◌≡◌, length, Some, refl}
use Rattle.std.specs.List.{slice_get}
use Rattle.std.proofs.lemmas.Option.{slice_get_read}
use Rattle.bcj_layout_members.specs.Tables.{IsPrepared}
use Rattle.bcj_layout_members.proofs.Ready.{one_more}
use Rattle.bcj_layout_members.proofs.visiting.are_prepared.Goals as goal

pub loop-name-preserved : goal.loop-name-preserved
loop-name-preserved c =
    let at : slice_get c.args.names.now c.loop-name.name-index ≡ Some c.name-item.result =
    slice_get_read c.args.names.now (length c.args.names.now) c.loop-name.name-index c.name-item.result refl c.loop-name-test.true c.name-item.is in
    one_more (IsPrepared c.args.classes.now c.args.rows.now) c.args.names.now c.loop-name.name-index c.name-item.result at (c.is_prepared.ensures.0 c.if-not-is_prepared.false)
    c.loop-name.invariant

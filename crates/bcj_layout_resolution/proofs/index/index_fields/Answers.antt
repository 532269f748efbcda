use Rattle.std.proofs.Common.{◌+◌, sym, subst, map, take, List}
use Rattle.bcj_layout_resolution.specs.Index.{Indexes, Numbers}
use Rattle.bcj_layout_resolution.proofs.Indexing.{indexes_step}
use Rattle.bcj_layout_resolution.proofs.index.index_fields.Goals as goal

pub loop-i-preserved : goal.loop-i-preserved
loop-i-preserved c =
    let P : List Numbers → Type 0 = λ bs. Indexes (map (λ x. x.name) (take (c.loop-i.i + 1) c.args.fields.now)) bs in
    subst P (sym c.in_ok-add.ensures)
    (indexes_step (λ x. x.name) c.args.fields.now c.loop-i.buckets.items c.loop-i.i c.index-fields-i.result c.loop-i.invariant c.loop-i-test.true c.index-fields-i.is)

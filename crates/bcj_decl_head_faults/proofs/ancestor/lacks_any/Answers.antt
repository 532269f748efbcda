use Rattle.std.proofs.Common.{ℕ}
use Rattle.bcj_decl_table.specs.Views.{declared_of, world_in}
use Rattle.bcj_decl_head_faults.specs.Lacks.{LacksOf}
use Rattle.bcj_decl_head_faults.proofs.Some.{some_at, if_true}
use Rattle.bcj_decl_head_faults.proofs.ancestor.lacks_any.Goals as goal

pub returns-then-branch : goal.returns-then-branch
returns-then-branch c =
    let P : ℕ → Type 0 = LacksOf (world_in c.args.listing.now.types) c.args.steps.now (declared_of c.args.info.now) c.args.from.now in
    some_at P c.args.places.now c.loop-place.place-index 0 c.loop-place-test.true (if_true c.in_ok-lacks_at.field-0 c.if-branch.true c.in_ok-lacks_at.ensures)

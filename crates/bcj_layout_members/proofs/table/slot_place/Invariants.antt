use Rattle.std.proofs.Common.{◌≡◌, IfSome}
use Rattle.std.specs.List.{slice_get}
use Rattle.bcj_layout_members.specs.Tables.{slots_above, IsDone, steps_left}
use Rattle.bcj_layout_members.proofs.table.slot_place.Given as goal

abbrev pub invariant-loop-at : goal.invariant-loop-at
invariant-loop-at l =
    record {
      there : IfSome l.at (λ c. IsDone l.rows c.0);
      so_far : slice_get (slots_above l.classes l.at) l.k ≡ slice_get (slots_above l.classes l.fn.from) l.k;
    }

abbrev pub decreases-loop-at : goal.decreases-loop-at
decreases-loop-at l = steps_left l.rows l.at

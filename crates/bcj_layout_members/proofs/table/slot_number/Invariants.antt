use Rattle.std.proofs.Common.{◌≡◌, IfSome}
use Rattle.std.specs.List.{position}
use Rattle.std.specs.Option.{option_or}
use Rattle.bcj_layout_rules.specs.Members.{same_slot}
use Rattle.bcj_layout_members.specs.Places.{wanted}
use Rattle.bcj_layout_members.specs.Tables.{slots_above, IsDone, steps_left}
use Rattle.bcj_layout_members.proofs.table.slot_number.Given as goal

abbrev pub invariant-loop-at : goal.invariant-loop-at
invariant-loop-at l =
    let p = same_slot (wanted l.classes l.name l.desc l.owner) in
    record {
      there : IfSome l.at (λ c. IsDone l.rows c.0);
      so_far : option_or (position p (slots_above l.classes l.at)) l.found ≡ position p (slots_above l.classes l.fn.from);
    }

abbrev pub decreases-loop-at : goal.decreases-loop-at
decreases-loop-at l = steps_left l.rows l.at

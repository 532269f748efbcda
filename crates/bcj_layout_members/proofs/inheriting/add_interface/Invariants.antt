use Rattle.std.proofs.Common.{◌≡◌, drop}
use Rattle.std.specs.List.{fold}
use Rattle.bcj_layout_rules.specs.Members.{slots, with_slot}
use Rattle.bcj_layout_rules.specs.Rows.{mixture_of}
use Rattle.bcj_layout_members.specs.Places.{name_at}
use Rattle.bcj_layout_members.specs.Tables.{current, IsGoing}
use Rattle.bcj_layout_members.proofs.inheriting.add_interface.Given as goal

abbrev pub invariant-loop-k : goal.invariant-loop-k
invariant-loop-k l =
    let all = slots (mixture_of l.classes) (name_at l.classes l.fn.i.0) in
    record {
      going : IsGoing l.classes l.rows l.parent l.start l.places.items;
      so_far :
          fold with_slot (current l.classes l.parent l.start l.places.items) (drop l.k all)
          ≡ fold with_slot (current l.classes l.parent l.start l.initial.places.items) all;
    }

use Rattle.std.proofs.Common.{◌≡◌, drop}
use Rattle.std.specs.List.{fold}
use Rattle.bcj_layout_members.specs.Tables.{current, IsGoing, with_slots_of}
use Rattle.bcj_layout_members.proofs.inheriting.add_interfaces.Given as goal

abbrev pub invariant-loop-name : goal.invariant-loop-name
invariant-loop-name l =
    record {
      going : IsGoing l.classes l.rows l.parent l.start l.places.items;
      so_far :
          fold (with_slots_of l.classes) (current l.classes l.parent l.start l.places.items) (drop l.name-index l.names)
          ≡ fold (with_slots_of l.classes) (current l.classes l.parent l.start l.initial.places.items) l.names;
    }

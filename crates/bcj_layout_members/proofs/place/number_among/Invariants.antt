use Rattle.std.proofs.Common.{◌≡◌, map, drop}
use Rattle.std.specs.List.{position, position_from}
use Rattle.bcj_layout_rules.specs.Members.{same_slot}
use Rattle.bcj_layout_members.specs.Places.{slot_at, wanted}
use Rattle.bcj_layout_members.proofs.place.number_among.Given as goal

abbrev pub invariant-loop-k : goal.invariant-loop-k
invariant-loop-k l =
    let p = same_slot (wanted l.classes l.name l.desc l.owner) in
    position_from p l.k (map (slot_at l.classes) (drop l.k l.places)) ≡ position p (map (slot_at l.classes) l.places)

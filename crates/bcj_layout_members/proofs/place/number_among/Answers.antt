use Rattle.std.proofs.Common.{sym, map}
use Rattle.bcj_layout_rules.specs.Members.{same_slot}
use Rattle.bcj_layout_members.specs.Places.{slot_at, wanted}
use Rattle.bcj_layout_members.proofs.Positions.{position_is, search_ends, search_goes_on, search_fails}
use Rattle.bcj_layout_members.proofs.place.number_among.Goals as goal

pub loop-k-init : goal.loop-k-init
loop-k-init c =
    sym (position_is (same_slot (wanted c.args.classes.now c.args.name.now c.args.desc.now c.args.owner)) (map (slot_at c.args.classes.now) c.args.places.now))

pub returns-then-is_slot : goal.returns-then-is_slot
returns-then-is_slot c =
    search_ends (same_slot (wanted c.args.classes.now c.args.name.now c.args.desc.now c.args.owner)) (slot_at c.args.classes.now) c.args.places.now c.loop-k.k _ c.is_slot.result
    c.loop-k-test.true c.is_slot.ensures c.if-is_slot.true c.loop-k.invariant

pub loop-k-preserved : goal.loop-k-preserved
loop-k-preserved c =
    search_goes_on (same_slot (wanted c.args.classes.now c.args.name.now c.args.desc.now c.args.owner)) (slot_at c.args.classes.now) c.args.places.now c.loop-k.k _ c.is_slot.result
    c.loop-k-test.true c.is_slot.ensures c.if-is_slot.false c.loop-k.invariant

pub returns : goal.returns
returns c =
    search_fails (same_slot (wanted c.args.classes.now c.args.name.now c.args.desc.now c.args.owner)) (slot_at c.args.classes.now) c.args.places.now c.loop-k.k c.loop-k-test.false
    c.loop-k.invariant

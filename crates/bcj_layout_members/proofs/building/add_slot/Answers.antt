use Rattle.std.proofs.Common.{◌∙◌, sym, ap, List, Bool}
use Rattle.std.specs.List.{list_any}
use Rattle.bcj_layout_rules.specs.Members.{same_slot}
use Rattle.bcj_layout_members.specs.declared.place.Place.{Place}
use Rattle.bcj_layout_members.specs.Places.{slot_at}
use Rattle.bcj_layout_members.specs.Tables.{current}
use Rattle.bcj_layout_members.proofs.Growing.{goes_on_new}
use Rattle.bcj_layout_members.proofs.building.add_slot.Goals as goal

pub returns-in_ok-push : goal.returns-in_ok-push
returns-in_ok-push c =
    let there : List Place → Bool = λ ps. list_any (same_slot (slot_at c.args.classes.now c.args.place)) (current c.args.classes.now c.args.parent c.args.start ps) in
    goes_on_new c.args.classes.now c.args.rows.now c.args.parent c.args.start c.args.places.now.items c.args.place c.requires.going c.requires.there
    (ap there (sym c.as_slice.ensures.value) ∙ (sym c.has_slot.ensures ∙ c.if-not-has_slot.true)) c.push.new.self.items c.in_ok-push.ensures.items

use Rattle.std.proofs.Common.{◌∙◌, sym, ap, refl, ◌||◌, map, drop, is_some}
use Rattle.std.specs.List.{position}
use Rattle.bcj_layout_rules.specs.Members.{same_slot}
use Rattle.bcj_layout_members.specs.Places.{slot_at, wanted}
use Rattle.bcj_layout_members.proofs.Growing.{among}
use Rattle.bcj_layout_members.proofs.building.is_among.Goals as goal

pub returns-then-is_some : goal.returns-then-is_some
returns-then-is_some c =
    let p = same_slot (wanted c.args.classes.now c.args.method.now.name c.args.method.now.desc c.args.owner) in
    let own = is_some (position p (map (slot_at c.args.classes.now) (drop c.args.start c.args.places.now))) in
    c.if-is_some.true
    ∙ (sym (ap (λ a. a || own) c.if-is_some.true)
    ∙ among c.args.classes.now c.args.parent c.args.start c.args.places.now p c.is_some.result own (c.is_some.ensures ∙ ap is_some c.slot_number-above.ensures) refl)

pub returns-else-is_some : goal.returns-else-is_some
returns-else-is_some c =
    let p = same_slot (wanted c.args.classes.now c.args.method.now.name c.args.method.now.desc c.args.owner) in
    sym (ap (λ a. a || c.is_some-else-is_some.result) c.if-is_some.false)
    ∙ among c.args.classes.now c.args.parent c.args.start c.args.places.now p c.is_some.result c.is_some-else-is_some.result (c.is_some.ensures ∙ ap is_some c.slot_number-above.ensures)
    (c.is_some-else-is_some.ensures ∙ ap is_some (c.number_among-own.ensures ∙ ap (λ ps. position p (map (slot_at c.args.classes.now) ps)) c.behind.ensures))

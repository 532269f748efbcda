use Rattle.std.proofs.Common.{◌-◌, ◌<◌, sym, ◌∙◌, ap, Some, option_map}
use Rattle.std.specs.List.{slice_get}
use Rattle.bcj_layout_members.specs.Places.{slot_at}
use Rattle.bcj_layout_members.specs.Tables.{slots_above, steps_left}
use Rattle.bcj_layout_members.proofs.Walking.{parent_done, walk_falls, slot_above, slot_own, place_in}
use Rattle.bcj_layout_members.proofs.table.slot_place.Goals as goal

pub own_slot-requires-clause-start : goal.own_slot-requires-clause-start
own_slot-requires-clause-start c = (c.requires.table.are_rows c.in-Some.c.0 c.row_at-row.result c.row_at-row.ensures.there c.row_at-row.ensures.done).start

pub own_slot-requires-clause-end : goal.own_slot-requires-clause-end
own_slot-requires-clause-end c = (c.requires.table.are_rows c.in-Some.c.0 c.row_at-row.result c.row_at-row.ensures.there c.row_at-row.ensures.done).end

pub returns-then-row-k-clause-slot : goal.returns-then-row-k-clause-slot
returns-then-row-k-clause-slot c =
    ap (option_map (slot_at c.args.classes.now)) c.own_slot.ensures
    ∙ (slot_own c.args.classes.now c.args.rows.now c.args.places.now c.requires.table c.in-Some.c c.row_at-row.result c.row_at-row.ensures.there c.row_at-row.ensures.done c.args.k c.if-row-k.true
    ∙ (ap (λ o. slice_get (slots_above c.args.classes.now o) c.args.k) (sym c.in-Some.is) ∙ c.loop-at.invariant.so_far))

pub returns-then-row-k-clause-place : goal.returns-then-row-k-clause-place
returns-then-row-k-clause-place c =
    place_in c.args.classes.now c.args.places.now c.requires.table.are_places c.row_at-row.result.start c.row_at-row.result.end (c.args.k - c.row_at-row.result.before) c.own_slot.result
    c.own_slot.ensures

pub loop-at-smaller : goal.loop-at-smaller
loop-at-smaller c =
    let falls : steps_left c.args.rows.now c.row_at-row.result.parent < steps_left c.args.rows.now (Some c.in-Some.c) =
    walk_falls c.args.classes.now c.args.rows.now c.args.places.now c.requires.table c.in-Some.c c.row_at-row.result c.row_at-row.ensures.there c.row_at-row.ensures.done in
    rw c.in-Some.is falls

pub loop-at-preserved : goal.loop-at-preserved
loop-at-preserved c = record {
  there = parent_done c.args.classes.now c.args.rows.now c.args.places.now c.requires.table c.in-Some.c c.row_at-row.result c.row_at-row.ensures.there c.row_at-row.ensures.done;
  so_far =
      slot_above c.args.classes.now c.args.rows.now c.args.places.now c.requires.table c.in-Some.c c.row_at-row.result c.row_at-row.ensures.there c.row_at-row.ensures.done c.args.k c.if-row-k.false
      ∙ (ap (λ o. slice_get (slots_above c.args.classes.now o) c.args.k) (sym c.in-Some.is) ∙ c.loop-at.invariant.so_far);
}

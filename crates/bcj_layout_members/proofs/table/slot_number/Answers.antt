use Rattle.std.proofs.Common.{◌<◌, sym, ◌∙◌, ap, Some}
use Rattle.std.specs.List.{position}
use Rattle.std.specs.Option.{option_or}
use Rattle.bcj_layout_rules.specs.Members.{same_slot}
use Rattle.bcj_layout_members.specs.Places.{wanted}
use Rattle.bcj_layout_members.specs.Tables.{slots_above, steps_left}
use Rattle.bcj_layout_members.proofs.Walking.{search_up, parent_done, walk_falls}
use Rattle.bcj_layout_members.proofs.table.slot_number.Goals as goal

pub own_number-requires-clause-start : goal.own_number-requires-clause-start
own_number-requires-clause-start c = (c.requires.table.are_rows c.in-Some.c.0 c.row_at-row.result c.row_at-row.ensures.there c.row_at-row.ensures.done).start

pub own_number-requires-clause-end : goal.own_number-requires-clause-end
own_number-requires-clause-end c = (c.requires.table.are_rows c.in-Some.c.0 c.row_at-row.result c.row_at-row.ensures.there c.row_at-row.ensures.done).end

pub own_number-requires-clause-total : goal.own_number-requires-clause-total
own_number-requires-clause-total c = (c.requires.table.are_rows c.in-Some.c.0 c.row_at-row.result c.row_at-row.ensures.there c.row_at-row.ensures.done).total

pub loop-at-smaller : goal.loop-at-smaller
loop-at-smaller c =
    let falls : steps_left c.args.rows.now c.row_at-row.result.parent < steps_left c.args.rows.now (Some c.in-Some.c) =
    walk_falls c.args.classes.now c.args.rows.now c.args.places.now c.requires.table c.in-Some.c c.row_at-row.result c.row_at-row.ensures.there c.row_at-row.ensures.done in
    rw c.in-Some.is falls

pub loop-at-preserved : goal.loop-at-preserved
loop-at-preserved c =
    let p = same_slot (wanted c.args.classes.now c.args.name.now c.args.desc.now c.args.owner) in
    record {
      there = parent_done c.args.classes.now c.args.rows.now c.args.places.now c.requires.table c.in-Some.c c.row_at-row.result c.row_at-row.ensures.there c.row_at-row.ensures.done;
      so_far =
          ap (option_or (position p (slots_above c.args.classes.now c.row_at-row.result.parent))) (c.or-found.ensures ∙ ap (λ o. option_or o c.loop-at.found) c.own_number.ensures)
          ∙ (search_up c.args.classes.now c.args.rows.now c.args.places.now c.requires.table c.in-Some.c c.row_at-row.result c.row_at-row.ensures.there c.row_at-row.ensures.done p c.loop-at.found
          ∙ (ap (λ o. option_or (position p (slots_above c.args.classes.now o)) c.loop-at.found) (sym c.in-Some.is) ∙ c.loop-at.invariant.so_far));
    }

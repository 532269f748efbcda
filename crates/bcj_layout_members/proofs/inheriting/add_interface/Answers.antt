use Rattle.std.proofs.Common.{◌≡◌, ◌+◌, ◌-◌, ◌≤◌, List, sym, ◌∙◌, ap, arith, drop, Some, length}
use Rattle.std.specs.List.{fold, slice_get}
use Rattle.std.proofs.lemmas.List.{drop_all}
use Rattle.bcj_layout_rules.specs.Members.{Slot, slots, with_slot}
use Rattle.bcj_layout_rules.specs.Rows.{mixture_of}
use Rattle.bcj_layout_members.specs.Places.{name_at, slot_at}
use Rattle.bcj_layout_members.specs.Tables.{current}
use Rattle.bcj_layout_members.proofs.Elements.{fold_next}
use Rattle.bcj_layout_members.proofs.Interfaces.{own_at, own_within, own_count}
use Rattle.bcj_layout_members.proofs.inheriting.add_interface.Goals as goal

pub overflow_sub-k-end : goal.overflow_sub-k-end
overflow_sub-k-end c = (c.requires.going.table.are_rows c.args.i.0 c.row_at-row.result c.row_at-row.ensures.there c.row_at-row.ensures.done).start

pub place_at-place-requires : goal.place_at-place-requires
place_at-place-requires c =
    rw c.as_slice.ensures.value
    (own_within c.args.classes.now c.args.rows.now c.loop-k.places.items c.loop-k.invariant.going.table c.args.i c.row_at-row.result c.row_at-row.ensures.there c.row_at-row.ensures.done
    c.requires.top c.loop-k.k c.loop-k-test.true)

pub loop-k-preserved : goal.loop-k-preserved
loop-k-preserved c =
    let all : List Slot = slots (mixture_of c.args.classes.now) (name_at c.args.classes.now c.args.i.0) in
    let place = c.place_at-place.result in
    let there : slice_get c.loop-k.places.items (c.row_at-row.result.start + c.loop-k.k) ≡ Some place =
    ap (λ ps. slice_get ps (c.row_at-row.result.start + c.loop-k.k)) (sym c.as_slice.ensures.value) ∙ c.place_at-place.ensures in
    let element : slice_get all c.loop-k.k ≡ Some (slot_at c.args.classes.now place) =
    own_at c.args.classes.now c.args.rows.now c.loop-k.places.items c.loop-k.invariant.going.table c.args.i c.row_at-row.result c.row_at-row.ensures.there c.row_at-row.ensures.done
    c.requires.top c.loop-k.k c.loop-k-test.true place there in
    record {
      going = c.in_ok-add_slot.ensures.going;
      so_far =
          ap (λ xs. fold with_slot xs (drop (c.loop-k.k + 1) all)) c.in_ok-add_slot.ensures.slots_are
          ∙ (sym (fold_next with_slot (current c.args.classes.now c.args.parent c.args.start c.loop-k.places.items) all c.loop-k.k (slot_at c.args.classes.now place) element)
          ∙ c.loop-k.invariant.so_far);
    }

pub returns : goal.returns
returns c =
    let all : List Slot = slots (mixture_of c.args.classes.now) (name_at c.args.classes.now c.args.i.0) in
    let count : length all ≡ c.row_at-row.result.end - c.row_at-row.result.start =
    own_count c.args.classes.now c.args.rows.now c.loop-k.places.items c.loop-k.invariant.going.table c.args.i c.row_at-row.result c.row_at-row.ensures.there c.row_at-row.ensures.done
    c.requires.top in
    let past : length all ≤ c.loop-k.k = omega arith in
    let now : List Slot = current c.args.classes.now c.args.parent c.args.start c.loop-k.places.items in
    record {
      going = c.loop-k.invariant.going;
      slots_are = sym (ap (fold with_slot now) (drop_all c.loop-k.k all past)) ∙ c.loop-k.invariant.so_far;
    }

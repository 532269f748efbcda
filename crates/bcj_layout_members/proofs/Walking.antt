-- Walks from a type up to the top, over rows that are done.
use Rattle.std.proofs.Common.{◌≡◌, ◌+◌, ◌-◌, ◌<◌, ◌≤◌, List, [], ◌++◌, Option, Some, None, Bool, true, refl, sym, ◌∙◌, ap, ℕ, length, arith, IfSome, option_map, subst}
use Rattle.std.specs.List.{position, slice_get, slice_range}
use Rattle.std.proofs.lemmas.Option.{slice_get-map}
use Rattle.std.specs.Option.{option_or, option_map_or}
use Rattle.bcj_hier_rules.specs.declared.class_id.ClassId.{ClassId}
use Rattle.bcj_layout_rules.specs.Members.{Slot, slots}
use Rattle.bcj_layout_rules.specs.Rows.{Classes, mixture_of}
use Rattle.bcj_layout_members.specs.declared.place.Place.{Place}
use Rattle.bcj_layout_members.specs.declared.row.Row.{Row}
use Rattle.bcj_layout_members.specs.Places.{name_at, slot_at, IsPlace, ArePlaces}
use Rattle.bcj_layout_members.specs.Tables.{AreAdded, IsTable, IsRow, IsDone, IsAbove, slots_above, own_slots, steps_left}
use Rattle.bcj_layout_members.proofs.Elements.{get_before, get_behind, range_of}
use Rattle.bcj_layout_members.proofs.Positions.{position-append}

-- one answer or another or a third
or_assoc : {A : Type 0} (a b c : Option A) → option_or (option_or a b) c ≡ option_or a (option_or b c)
or_assoc None b c = refl
or_assoc (Some x) b c = refl

-- one step of a search up: what the type has beside its superclass's comes behind
pub search_up : (cs : Classes) (rows : List Row) (places : List Place) → IsTable cs rows places → (c : ClassId) (r : Row) → slice_get rows c.0 ≡ Some r → r.done ≡ true
    → (p : Slot → Bool) (found : Option ℕ)
    → option_or (position p (slots_above cs r.parent)) (option_or (option_map (λ k. r.before + k) (position p (own_slots cs places r))) found)
    ≡ option_or (position p (slots_above cs (Some c))) found
search_up cs rows places table c r there done p found =
    let row : IsRow cs rows places c.0 r = table.are_rows c.0 r there done in
    let above : List Slot = slots_above cs r.parent in
    let own : List Slot = own_slots cs places r in
    sym (or_assoc (position p above) (option_map (λ k. r.before + k) (position p own)) found)
    ∙ ap (λ o. option_or o found) (ap (λ n. option_or (position p above) (option_map (λ k. n + k) (position p own))) row.before ∙ (sym (position-append p above own) ∙ ap (position p) (sym row.slots)))

-- what is above is done
above_done : (rows : List Row) (depth : ℕ) (o : Option ClassId) → IfSome o (IsAbove rows depth) → IfSome o (λ c. IsDone rows c.0)
above_done rows depth None h = h
above_done rows depth (Some c) h = record { row = h.row; there = h.there; done = h.done }

-- the superclass of a type whose row is done has one that is done
pub parent_done : (cs : Classes) (rows : List Row) (places : List Place) → IsTable cs rows places → (c : ClassId) (r : Row) → slice_get rows c.0 ≡ Some r → r.done ≡ true → IfSome r.parent (λ p. IsDone rows p.0)
parent_done cs rows places table c r there done = above_done rows r.depth r.parent (table.are_rows c.0 r there done).above

-- a step up leaves fewer
fewer_left : (rows : List Row) (c : ClassId) (r : Row) → slice_get rows c.0 ≡ Some r → (o : Option ClassId) → IfSome o (IsAbove rows r.depth) → steps_left rows o < steps_left rows (Some c)
fewer_left rows c r there None h =
    let e : option_map_or (λ r. r.depth) (slice_get rows c.0) 0 ≡ r.depth = ap (λ o. option_map_or (λ r. r.depth) o 0) there in
    omega arith
fewer_left rows c r there (Some p) h =
    let e : option_map_or (λ r. r.depth) (slice_get rows c.0) 0 ≡ r.depth = ap (λ o. option_map_or (λ r. r.depth) o 0) there in
    let f : option_map_or (λ r. r.depth) (slice_get rows p.0) 0 ≡ h.row.depth = ap (λ o. option_map_or (λ r. r.depth) o 0) h.there in
    let nearer : h.row.depth < r.depth = h.nearer in
    omega arith

-- each step up leaves fewer
pub walk_falls : (cs : Classes) (rows : List Row) (places : List Place) → IsTable cs rows places → (c : ClassId) (r : Row) → slice_get rows c.0 ≡ Some r → r.done ≡ true → steps_left rows r.parent < steps_left rows (Some c)
walk_falls cs rows places table c r there done = fewer_left rows c r there r.parent (table.are_rows c.0 r there done).above

-- ---- the slot with a number

-- the slots above, by the superclass's name
above_mapped : (cs : Classes) (up : Option ClassId) → option_map_or (slots (mixture_of cs)) (option_map (λ p. name_at cs p.0) up) [] ≡ slots_above cs up
above_mapped cs None = refl
above_mapped cs (Some p) = refl

module _ (cs : Classes) (rows : List Row) (places : List Place) (table : IsTable cs rows places) (c : ClassId) (r : Row) (there : slice_get rows c.0 ≡ Some r) (done : r.done ≡ true) where
  -- what the row says
  is_row : IsRow cs rows places c.0 r
  is_row = table.are_rows c.0 r there done

  -- one that the superclass has
  pub slot_above : (k : ℕ) → k < r.before → slice_get (slots_above cs r.parent) k ≡ slice_get (slots_above cs (Some c)) k
  slot_above k h =
      let row : IsRow cs rows places c.0 r = is_row in
      let few : k < length (slots_above cs r.parent) = subst (λ n. k < n) row.before h in
      sym (get_before (slots_above cs r.parent) (own_slots cs places r) k few) ∙ ap (λ xs. slice_get xs k) (sym row.slots)

  -- one that the superclass hasn't
  pub slot_own : (k : ℕ) → r.before ≤ k → option_map (slot_at cs) (slice_get (slice_range places r.start r.end) (k - r.before)) ≡ slice_get (slots_above cs (Some c)) k
  slot_own k h =
      let row : IsRow cs rows places c.0 r = is_row in
      sym (slice_get-map (slot_at cs) (slice_range places r.start r.end) (k - r.before))
      ∙ (sym (get_behind (slots_above cs r.parent) (own_slots cs places r) k r.before row.before h) ∙ ap (λ xs. slice_get xs k) (sym row.slots))

  -- what a type has beside its superclass's slots
  pub added : AreAdded cs c (slice_range places r.start r.end)
  added =
      let row : IsRow cs rows places c.0 r = is_row in
      record {
        slots_are =
            row.slots
            ∙ ap (λ xs. xs ++ own_slots cs places r) (sym (ap (λ o. option_map_or (slots (mixture_of cs)) o []) row.up ∙ above_mapped cs r.parent));
        are_places = λ k p e. table.are_places (r.start + k) p (range_of places r.start r.end k p e);
      }

-- what stands in a part of places is a place
pub place_in : (cs : Classes) (places : List Place) → ArePlaces cs places → (a b k : ℕ) (o : Option Place) → o ≡ slice_get (slice_range places a b) k → IfSome o (IsPlace cs)
place_in cs places all a b k None e = tt
place_in cs places all a b k (Some p) e = all (a + k) p (range_of places a b k p (sym e))

-- Slots of a type as they are put together.
use Rattle.std.proofs.Common.{◌≡◌, ◌-◌, ◌≤◌, ◌||◌, List, [], ◌∷◌, ◌++◌, Option, Some, None, Bool, true, false, cond, refl, sym, ◌∙◌, ap, ℕ, zero, suc, inl, inr, length, map, drop, take, arith, is_some, length-append, length-drop, subst, ◌⊎◌, append_assoc}
use Rattle.std.proofs.lemmas.List.{drop-append-le, take-append-le, map-append}
use Rattle.std.specs.List.{position, list_any, slice_get, slice_range}
use Rattle.std.specs.Option.{option_map_or}
use Rattle.std.proofs.lemmas.List.Folds.{list_any-append}
use Rattle.bcj_tables_rules.specs.declared.records.MethodRecord.{MethodRecord}
use Rattle.bcj_tables_rules.specs.declared.records.ClassRecord.{ClassRecord}
use Rattle.bcj_hier_rules.specs.declared.class_id.ClassId.{ClassId}
use Rattle.bcj_hier_rules.specs.Shapes.{Named, Method, method_of_record}
use Rattle.bcj_layout_rules.specs.Members.{Slot, same_slot, with_slot, open_slot, private_slot}
use Rattle.bcj_layout_rules.specs.Rows.{Classes}
use Rattle.bcj_layout_members.specs.declared.place.Place.{Place}
use Rattle.bcj_layout_members.specs.declared.row.Row.{Row}
use Rattle.bcj_layout_members.specs.Places.{name_at, slot_by, IsPlace, ArePlaces, IsMethodAt, AreMethodsOf, no_slot, slot_at, wanted}
use Rattle.bcj_layout_members.specs.Tables.{IsTable, IsRow, IsGoing, GoesOn, slots_above, current}
use Rattle.bcj_layout_members.proofs.Positions.{position_any}
use Rattle.bcj_layout_members.proofs.Merging.{with_old, with_new}

abbrev owned_by : Bool → ClassId → Option ClassId
owned_by private class = cond private (Some class) None

-- the same, by the class and whether the method is private
wanted_at : (cs : Classes) (class : ClassId) (c : ClassRecord) (name : Named) (desc : List ℕ) (private : Bool) (m : Method) → slice_get cs class.0 ≡ Some c → m.name ≡ name → m.desc ≡ desc
    → wanted cs name desc (owned_by private class) ≡ cond private (private_slot c.head.name m) (open_slot m)
wanted_at cs class c name desc true m e en ed =
    let named : name_at cs class.0 ≡ c.head.name = ap (λ o. option_map_or (λ c. c.head.name) o []) e in
    let slot : Named → List ℕ → Named → Slot = λ n d o. record { name = n; desc = d; owner = Some o } in
    ap (λ n. slot n desc (name_at cs class.0)) (sym en) ∙ (ap (λ d. slot m.name d (name_at cs class.0)) (sym ed) ∙ ap (slot m.name m.desc) named)
wanted_at cs class c name desc false m e en ed =
    let slot : Named → List ℕ → Slot = λ n d. record { name = n; desc = d; owner = None } in
    ap (λ n. slot n desc) (sym en) ∙ ap (slot m.name) (sym ed)

-- the slot at a place, by the method's record
pub slot_at_is : (cs : Classes) (p : Place) (c : ClassRecord) (m : MethodRecord) → slice_get cs p.class.0 ≡ Some c → slice_get c.methods p.method ≡ Some m → slot_at cs p ≡ slot_by c.head.name m
slot_at_is cs p c m e there =
    ap (λ o. elim o [ None ↦ no_slot | Some c ↦ option_map_or (slot_by c.head.name) (slice_get c.methods p.method) no_slot ]) e
    ∙ ap (λ o. option_map_or (slot_by c.head.name) o no_slot) there

-- the slot of a method by its name, its descriptor and its owner
pub wanted_is : (cs : Classes) (p : Place) (m : MethodRecord) → IsMethodAt cs p m → wanted cs m.name m.desc (cond m.is_private (Some p.class) None) ≡ slot_at cs p
wanted_is cs p m at = wanted_at cs p.class at.class m.name m.desc m.is_private (method_of_record m) at.record_of refl refl ∙ sym (slot_at_is cs p at.class m at.record_of at.there)

-- a slot is among those so far where it is among the superclass's or among the others
pub among : (cs : Classes) (up : Option ClassId) (start : ℕ) (places : List Place) (p : Slot → Bool) (a b : Bool)
    → a ≡ is_some (position p (slots_above cs up)) → b ≡ is_some (position p (map (slot_at cs) (drop start places))) → (a || b) ≡ list_any p (current cs up start places)
among cs up start places p a b ea eb =
    ap (λ a. a || b) (ea ∙ position_any p (slots_above cs up))
    ∙ (ap (λ b. list_any p (slots_above cs up) || b) (eb ∙ position_any p (map (slot_at cs) (drop start places))) ∙ sym (list_any-append p (slots_above cs up) (map (slot_at cs) (drop start places))))

-- ---- one more behind the others

-- an element of a list with one more is one of the others, or that one
pub split_push : {X : Type 0} (xs : List X) (x : X) (k : ℕ) (y : X) → slice_get (xs ++ x ∷ []) k ≡ Some y → (slice_get xs k ≡ Some y) ⊎ (x ≡ y)
split_push [] x zero y h = let e : x ≡ y = cc in inr e
split_push [] x (suc k) y h = cc
split_push (z ∷ xs) x zero y h = inl h
split_push (z ∷ xs) x (suc k) y h = split_push xs x k y h

-- a part of a list stands there with more behind
range_kept : {X : Type 0} (xs ys : List X) (a b : ℕ) → a ≤ b → b ≤ length xs → slice_range (xs ++ ys) a b ≡ slice_range xs a b
range_kept xs ys a b h k =
    let l : b - a ≤ length (drop a xs) = omega (arith, length-drop a xs) in
    ap (take (b - a)) (drop-append-le a xs ys (omega arith)) ∙ take-append-le (b - a) (drop a xs) ys l

-- places with one more are places
places_push : (cs : Classes) (places : List Place) (p : Place) → ArePlaces cs places → IsPlace cs p → ArePlaces cs (places ++ p ∷ [])
places_push cs places p all one k q e =
    elim (split_push places p k q e) [
      | inl before ↦ all k q before
      | inr last ↦ subst (IsPlace cs) last one
    ]

-- a row says the same with one more place behind
row_push : (cs : Classes) (rows : List Row) (places : List Place) (p : Place) (k : ℕ) (r : Row) → IsRow cs rows places k r → IsRow cs rows (places ++ p ∷ []) k r
row_push cs rows places p k r h =
    record {
      up = h.up;
      above = h.above;
      slots = h.slots ∙ ap (λ xs. slots_above cs r.parent ++ map (slot_at cs) xs) (sym (range_kept places (p ∷ []) r.start r.end h.start h.end));
      before = h.before;
      start = h.start;
      end = (let e : r.end ≤ length places = h.end in omega (arith, length-append places (p ∷ [])));
      total = h.total;
      fields_before = h.fields_before;
      fields = h.fields;
    }

-- a table stays one with one more place
table_push : (cs : Classes) (rows : List Row) (places : List Place) (p : Place) → IsTable cs rows places → IsPlace cs p → IsTable cs rows (places ++ p ∷ [])
table_push cs rows places p h one =
    record {
      each_has_one = h.each_has_one;
      are_places = places_push cs places p h.are_places one;
      are_rows = λ k r there done. row_push cs rows places p k r (h.are_rows k r there done);
    }

-- one more place is one more slot
current_push : (cs : Classes) (up : Option ClassId) (start : ℕ) (places : List Place) (p : Place) → start ≤ length places
    → current cs up start (places ++ p ∷ []) ≡ current cs up start places ++ slot_at cs p ∷ []
current_push cs up start places p h =
    ap (λ xs. slots_above cs up ++ map (slot_at cs) xs) (drop-append-le start places (p ∷ []) h)
    ∙ (ap (λ xs. slots_above cs up ++ xs) (map-append (slot_at cs) (drop start places) (p ∷ [])) ∙ sym (append_assoc (slots_above cs up) (map (slot_at cs) (drop start places)) (slot_at cs p ∷ [])))

-- a method whose slot is new is put behind the others
pub goes_on_new : (cs : Classes) (rows : List Row) (up : Option ClassId) (start : ℕ) (places : List Place) (p : Place) → IsGoing cs rows up start places → IsPlace cs p
    → list_any (same_slot (slot_at cs p)) (current cs up start places) ≡ false → (after : List Place) → after ≡ places ++ p ∷ []
    → GoesOn cs rows up start after (with_slot (current cs up start places) (slot_at cs p))
goes_on_new cs rows up start places p h one new after e =
    let within : start ≤ length places = h.within in
    let pushed : GoesOn cs rows up start (places ++ p ∷ []) (with_slot (current cs up start places) (slot_at cs p)) = record {
      going = record {
        table = table_push cs rows places p h.table one;
        above = h.above;
        within = omega (arith, length-append places (p ∷ []));
      };
      slots_are = current_push cs up start places p within ∙ sym (with_new (current cs up start places) (slot_at cs p) new);
    } in
    subst (λ ps. GoesOn cs rows up start ps (with_slot (current cs up start places) (slot_at cs p))) (sym e) pushed

-- one whose slot is there changes nothing
pub goes_on_old : (cs : Classes) (rows : List Row) (up : Option ClassId) (start : ℕ) (places : List Place) (p : Place) → IsGoing cs rows up start places
    → list_any (same_slot (slot_at cs p)) (current cs up start places) ≡ true → GoesOn cs rows up start places (with_slot (current cs up start places) (slot_at cs p))
goes_on_old cs rows up start places p h old = record { going = h; slots_are = sym (with_old (current cs up start places) (slot_at cs p) old) }

-- ---- the methods of a class

-- a method of a class stands at its number
pub method_is_at : (cs : Classes) (c : ClassId) (methods : List MethodRecord) → AreMethodsOf cs c methods → (k n : ℕ) (m : MethodRecord) → n ≡ k → slice_get methods k ≡ Some m
    → IsMethodAt cs (record { class = c; method = n }) m
method_is_at cs c methods of k n m en e = record {
  class = of.class;
  record_of = of.record_of;
  there = ap (slice_get of.class.methods) en ∙ (ap (λ ms. slice_get ms k) (sym of.all) ∙ e);
}

-- where a method stands is a place
pub place_of_method : (cs : Classes) (p : Place) (m : MethodRecord) → IsMethodAt cs p m → IsPlace cs p
place_of_method cs p m at = record { class = at.class; record_of = at.record_of; method = m; there = at.there }

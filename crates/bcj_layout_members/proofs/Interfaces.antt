-- The slots of an interface whose row is done, one by one.
use Rattle.std.proofs.Common.{◌≡◌, ◌+◌, ◌-◌, ◌<◌, ◌≤◌, List, ◌++◌, Option, Some, None, true, refl, sym, ◌∙◌, ap, ℕ, length, get_or, arith, option_map, subst, length-take, length-drop}
use Rattle.std.proofs.lemmas.List.{length-map}
use Rattle.std.specs.List.{slice_get, slice_range}
use Rattle.std.proofs.lemmas.Option.{slice_get-map, slice_get_read, same_Some}
use Rattle.bcj_hier_rules.specs.declared.class_id.ClassId.{ClassId}
use Rattle.bcj_hier_rules.specs.Shapes.{Named}
use Rattle.bcj_layout_rules.specs.Members.{slots}
use Rattle.bcj_layout_rules.specs.Rows.{Classes, mixture_of}
use Rattle.bcj_layout_members.specs.declared.place.Place.{Place}
use Rattle.bcj_layout_members.specs.declared.row.Row.{Row}
use Rattle.bcj_layout_members.specs.Places.{heads_in, name_at, superclass_at, slot_at}
use Rattle.bcj_layout_members.specs.Tables.{IsTable, IsRow, IsDone, IsPrepared, IsInterface, AreInterfaces, slots_above, own_slots}
use Rattle.bcj_symbolic_trees.specs.declared.class_tree.ClassHead.{ClassHead}
use Rattle.bcj_hier_rules.specs.Heads.{number_of}
use Rattle.bcj_layout_members.proofs.Elements.{get_range}
use Rattle.bcj_layout_members.proofs.Numbers.{IsNumbered, is_numbered, name_at_is}

-- nothing comes of nothing
none_mapped : {A B : Type 0} (f : A → B) (o : Option A) → None ≡ option_map f o → o ≡ None
none_mapped f None h = refl
none_mapped f (Some x) h = cc

module _ (cs : Classes) (rows : List Row) (places : List Place) (table : IsTable cs rows places) (i : ClassId) (r : Row) (there : slice_get rows i.0 ≡ Some r) (done : r.done ≡ true)
    (top : superclass_at cs i.0 ≡ None) where
  -- a type without superclass has no slots but those of its row
  pub all_own : slots (mixture_of cs) (name_at cs i.0) ≡ own_slots cs places r
  all_own =
      let row : IsRow cs rows places i.0 r = table.are_rows i.0 r there done in
      let none : r.parent ≡ None = none_mapped (λ p. name_at cs p.0) r.parent (sym top ∙ row.up) in
      row.slots ∙ ap (λ up. slots_above cs up ++ own_slots cs places r) none

  -- each of these is the slot of a method
  pub own_at : (k : ℕ) → k < r.end - r.start → (p : Place) → slice_get places (r.start + k) ≡ Some p → slice_get (slots (mixture_of cs) (name_at cs i.0)) k ≡ Some (slot_at cs p)
  own_at k h p e =
      ap (λ xs. slice_get xs k) all_own ∙ (slice_get-map (slot_at cs) (slice_range places r.start r.end) k ∙ ap (option_map (slot_at cs)) (get_range places r.start r.end k h ∙ e))

  -- these methods lie within the places
  pub own_within : (k : ℕ) → k < r.end - r.start → r.start + k < length places
  own_within k h =
      let row : IsRow cs rows places i.0 r = table.are_rows i.0 r there done in
      let s : r.start ≤ r.end = row.start in
      let e : r.end ≤ length places = row.end in
      omega arith

  -- they are as many as the row says
  pub own_count : length (slots (mixture_of cs) (name_at cs i.0)) ≡ r.end - r.start
  own_count =
      let row : IsRow cs rows places i.0 r = table.are_rows i.0 r there done in
      let s : r.start ≤ r.end = row.start in
      let e : r.end ≤ length places = row.end in
      let n : length (own_slots cs places r) ≡ r.end - r.start = simp (length-map, length-take, length-drop) (omega arith) in
      ap length all_own ∙ n

-- the type that a prepared name tells
pub record Told (cs : Classes) (rows : List Row) (name : Named) (c : ClassId) : Type 0 where
  pub done : IsDone rows c.0
  pub named : name_at cs c.0 ≡ name

-- what is told by a number
told_at : (cs : Classes) (rows : List Row) (name : Named) (c : ClassId) → IsDone rows c.0 → IsNumbered cs name c.0 → Told cs rows name c
told_at cs rows name c done n = record { done = done; named = name_at_is cs c.0 n.class n.record_of ∙ n.named }

-- a name has one number
same_number : (cs : Classes) (hs : List ClassHead) (name : Named) (k n : ℕ) → hs ≡ heads_in cs → number_of (heads_in cs) name ≡ Some k → number_of hs name ≡ Some n → k ≡ n
same_number cs hs name k n agree a b = same_Some k n (sym a ∙ (ap (λ hs. number_of hs name) (sym agree) ∙ b))

-- a prepared name tells a type whose row is done
pub told : (cs : Classes) (rows : List Row) (hs : List ClassHead) (name : Named) (c : ClassId) → hs ≡ heads_in cs → IsPrepared cs rows name → number_of hs name ≡ Some c.0 → Told cs rows name c
told cs rows hs name c agree p e =
    let same : p.at ≡ c.0 = same_number cs hs name p.at c.0 agree p.number e in
    told_at cs rows name c (subst (IsDone rows) same p.done) (is_numbered cs name c.0 (ap (λ hs. number_of hs name) (sym agree) ∙ e))

-- an interface that is told has no superclass
pub told_top : (cs : Classes) (rows : List Row) (hs : List ClassHead) (name : Named) (c : ClassId) → hs ≡ heads_in cs → IsInterface cs rows name → number_of hs name ≡ Some c.0 → superclass_at cs c.0 ≡ None
told_top cs rows hs name c agree i e =
    let same : i.prepared.at ≡ c.0 = same_number cs hs name i.prepared.at c.0 agree i.prepared.number e in
    subst (λ k. superclass_at cs k ≡ None) same i.top

-- each of interfaces is one
pub item_interface : (cs : Classes) (rows : List Row) (names : List Named) → AreInterfaces cs rows names → (k : ℕ) (name : Named) → k < length names → name ≡ get_or names k name → IsInterface cs rows name
item_interface cs rows names all k name h e = all k name (slice_get_read names (length names) k name refl h e)

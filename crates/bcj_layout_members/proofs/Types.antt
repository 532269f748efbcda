-- A type whose superclass and superinterfaces are done.
use Rattle.std.proofs.Common.{◌≡◌, ◌+◌, ◌-◌, ◌≤◌, ◌||◌, List, [], ◌∷◌, ◌++◌, Option, Some, None, Bool, true, false, not, cond, refl, sym, ◌∙◌, ap, ℕ, suc, inl, inr, length, map, drop, arith, subst, is_none, option_map, IfSome, length-append, length-take, length-drop}
use Rattle.std.proofs.lemmas.List.{drop_all, take_all, append-nil, length-map}
use Rattle.std.specs.List.{fold, filter, slice_get, slice_range, list_all}
use Rattle.std.specs.Option.{option_map_or, option_and_then}
use Rattle.std.specs.Str.{bytes_eq}
use Rattle.std.proofs.lemmas.Bool.{cases_Bool, and_parts, or_left}
use Rattle.bcj_symbolic_trees.specs.Names.{object_name}
use Rattle.bcj_symbolic_trees.specs.declared.class_tree.ClassHead.{ClassHead}
use Rattle.bcj_tables_rules.specs.declared.records.FieldRecord.{FieldRecord}
use Rattle.bcj_tables_rules.specs.declared.records.MethodRecord.{MethodRecord}
use Rattle.bcj_tables_rules.specs.declared.records.ClassRecord.{ClassRecord}
use Rattle.bcj_hier_rules.specs.declared.class_id.ClassId.{ClassId}
use Rattle.bcj_hier_rules.specs.Shapes.{Named, Shape, found, record_shape, field_of_record, method_of_record, behind_first}
use Rattle.bcj_hier_rules.specs.Heads.{is_placed, number_of}
use Rattle.bcj_hier_rules.specs.Resolution.{same_bool}
use Rattle.bcj_hier_rules.specs.Loading.{is_interface, load_error}
use Rattle.bcj_hier_soundness.proofs.Loads.{superinterfaces_load}
use Rattle.bcj_layout_rules.specs.Members.{Slot, slots, field_count, own_fields, with_method}
use Rattle.bcj_layout_rules.specs.Rows.{Classes, mixture_of}
use Rattle.bcj_layout_members.specs.declared.place.Place.{Place}
use Rattle.bcj_layout_members.specs.declared.row.Row.{Row}
use Rattle.bcj_layout_members.specs.declared.row.Above.{Above}
use Rattle.bcj_layout_members.specs.Places.{heads_in, name_at, superclass_at, slot_at}
use Rattle.bcj_layout_members.specs.Tables.{IsTable, IsRow, IsAboveOf, GoesOn, current, own_slots, IsPrepared, AreInterfaces, AreLinked, IsReady, IsParent, slots_above, fields_above, with_slots_of}
use Rattle.bcj_layout_members.proofs.Parts.{NoneAbove, slots_by_parts, fields_by_parts}
use Rattle.bcj_layout_members.proofs.Numbers.{IsNumbered, is_numbered, Around, around, own_number, name_at_is, superclass_at_is}
use Rattle.bcj_layout_members.proofs.Interfaces.{Told, told}

-- ---- interfaces have no superclass

-- what is found is placed
placed_found : (cs : Classes) (name : Named) (s : Shape) → list_all is_placed (heads_in cs) ≡ true → found (mixture_of cs) name ≡ Some s → is_placed s.head ≡ true
placed_found [] name s all h = cc
placed_found (c ∷ cs) name s all h =
    let parts : (is_placed c.head ≡ true) × (list_all is_placed (heads_in cs) ≡ true) = and_parts (is_placed c.head) (list_all is_placed (heads_in cs)) all in
    elim (cases_Bool (bytes_eq c.head.name name)) [
      | inl it ↦
          let e : Some (record_shape c) ≡ Some s = sym (ap (λ b. cond b (Some (record_shape c)) (found (mixture_of cs) name)) it) ∙ h in
          let same : record_shape c ≡ s = cc in
          subst (λ s. is_placed s.head ≡ true) same parts.0
      | inr other ↦ placed_found cs name s parts.1 (sym (ap (λ b. cond b (Some (record_shape c)) (found (mixture_of cs) name)) other) ∙ h)
    ]

-- what tests as nothing is nothing
is_none_of : {A : Type 0} (o : Option A) → is_none o ≡ true → o ≡ None
is_none_of None h = refl
is_none_of (Some x) h = cc

-- what is the same as true is true
same_true : (a b : Bool) → same_bool a b ≡ true → b ≡ true → a ≡ true
same_true true b h e = refl
same_true false b h e = let wrong : false ≡ true = ap not (sym e) ∙ h in absurd (cc)

-- no interface has a superclass
pub none_above : (cs : Classes) → AreLinked cs → NoneAbove (mixture_of cs)
none_above cs linked i s e h =
    let placed : is_placed s.head ≡ true = placed_found cs i s linked.rooted.placed e in
    is_none_of s.head.superclass (same_true (is_none s.head.superclass) (s.head.interface || bytes_eq s.head.name object_name) placed (or_left s.head.interface (bytes_eq s.head.name object_name) h))

-- ---- the type of a number

-- a record is what its name tells
pub own_found : (cs : Classes) → AreLinked cs → (k : ℕ) (class : ClassRecord) → slice_get cs k ≡ Some class → found (mixture_of cs) (name_at cs k) ≡ Some (record_shape class)
own_found cs linked k class h =
    let n : IsNumbered cs class.head.name k = is_numbered cs class.head.name k (own_number cs linked.distinct k class h) in
    let e : Some n.class ≡ Some class = sym n.record_of ∙ h in
    let same : n.class ≡ class = cc in
    ap (found (mixture_of cs)) (name_at_is cs k class h) ∙ (n.is_found ∙ ap (λ c. Some (record_shape c)) same)

-- what stands in its head is an interface without superclass
interface_top : (cs : Classes) → AreLinked cs → (name : Named) (k : ℕ) → number_of (heads_in cs) name ≡ Some k → is_interface (mixture_of cs) name ≡ true → superclass_at cs k ≡ None
interface_top cs linked name k e h =
    let n : IsNumbered cs name k = is_numbered cs name k e in
    let kind : n.class.head.interface ≡ true = sym (ap (λ o. option_map_or (λ s. s.head.interface) o false) n.is_found) ∙ h in
    superclass_at_is cs k n.class n.record_of ∙ none_above cs linked name (record_shape n.class) n.is_found kind

-- the superinterfaces of a type that is ready are interfaces
pub ready_interfaces : (cs : Classes) (rows : List Row) (c : ClassId) → AreLinked cs → IsReady cs rows c → (class : ClassRecord) → slice_get cs c.0 ≡ Some class
    → (names : List Named) → names ≡ class.head.interfaces → AreInterfaces cs rows names
ready_interfaces cs rows c linked r class h names same k name e =
    let ec : Some class ≡ Some r.class = sym h ∙ r.record_of in
    let one : class ≡ r.class = cc in
    let at : slice_get r.class.head.interfaces k ≡ Some name = ap (λ ns. slice_get ns k) (sym (same ∙ ap (λ c. c.head.interfaces) one)) ∙ e in
    let a : Around r.class.head.interfaces k name = around r.class.head.interfaces k name at in
    let up : is_interface (mixture_of cs) name ≡ true =
    (superinterfaces_load (mixture_of cs) (name_at cs c.0) name (record_shape r.class) a.before a.behind r.loads (own_found cs linked c.0 r.class r.record_of) a.whole).1 in
    let p : IsPrepared cs rows name = r.interfaces k name at in
    record { prepared = p; top = interface_top cs linked name p.at p.number up }

-- ---- the superclass

-- a superclass that is prepared is the one that its number tells
pub is_parent : (cs : Classes) (rows : List Row) (hs : List ClassHead) → hs ≡ heads_in cs → (superclass : Option Named) → IfSome superclass (IsPrepared cs rows) → (up : Option ClassId)
    → option_map (λ c. c.0) up ≡ option_and_then (number_of hs) superclass → IsParent cs rows superclass up
is_parent cs rows hs agree None p None e = record { named = refl; done = tt }
is_parent cs rows hs agree None p (Some c) e = cc
is_parent cs rows hs agree (Some name) p None e =
    let none : None ≡ Some p.at = e ∙ (ap (λ hs. number_of hs name) agree ∙ p.number) in
    absurd (cc)
is_parent cs rows hs agree (Some name) p (Some c) e =
    let t : Told cs rows name c = told cs rows hs name c agree p (sym e) in
    record { named = ap Some (sym t.named); done = t.done }

-- the superclass of a type that is ready
pub ready_parent : (cs : Classes) (rows : List Row) (hs : List ClassHead) → hs ≡ heads_in cs → (c : ClassId) → IsReady cs rows c → (class : ClassRecord) → slice_get cs c.0 ≡ Some class
    → (up : Option ClassId) → option_map (λ c. c.0) up ≡ option_and_then (number_of hs) class.head.superclass → IsParent cs rows class.head.superclass up
ready_parent cs rows hs agree c r class h up e =
    let ec : Some r.class ≡ Some class = sym r.record_of ∙ h in
    let one : r.class ≡ class = cc in
    is_parent cs rows hs agree class.head.superclass (subst (λ c. IfSome c.head.superclass (IsPrepared cs rows)) one r.superclass) up e

-- the slots above, by the superclass's number
slots_of_parent : (cs : Classes) (up : Option ClassId) → option_map_or (slots (mixture_of cs)) (option_map (λ p. name_at cs p.0) up) [] ≡ slots_above cs up
slots_of_parent cs None = refl
slots_of_parent cs (Some p) = refl

-- the fields above, by the superclass's number
pub fields_of_parent : (cs : Classes) (up : Option ClassId) → option_map_or (field_count (mixture_of cs)) (option_map (λ p. name_at cs p.0) up) 0 ≡ fields_above cs up
fields_of_parent cs None = refl
fields_of_parent cs (Some p) = refl

-- ---- by parts

-- the slots of a type as they are put together
pub whole_slots : (cs : Classes) (rows : List Row) → AreLinked cs → (k : ℕ) (class : ClassRecord) → slice_get cs k ≡ Some class → load_error (mixture_of cs) (name_at cs k) ≡ None
    → (up : Option ClassId) → IsParent cs rows class.head.superclass up
    → fold (with_slots_of cs) (fold (with_method (name_at cs k)) (slots_above cs up) (map method_of_record (behind_first class.methods))) class.head.interfaces ≡ slots (mixture_of cs) (name_at cs k)
whole_slots cs rows linked k class h loads up parent =
    let own : List Slot → Named → List Slot = λ xs name. fold (with_method name) xs (map method_of_record (behind_first class.methods)) in
    let above : option_map_or (slots (mixture_of cs)) class.head.superclass [] ≡ slots_above cs up = ap (λ o. option_map_or (slots (mixture_of cs)) o []) parent.named ∙ slots_of_parent cs up in
    ap (λ name. fold (with_slots_of cs) (own (slots_above cs up) name) class.head.interfaces) (name_at_is cs k class h)
    ∙ (ap (λ xs. fold (with_slots_of cs) (own xs class.head.name) class.head.interfaces) (sym above)
    ∙ sym (slots_by_parts (mixture_of cs) (none_above cs linked) (name_at cs k) (record_shape class) loads (own_found cs linked k class h)))

-- as many fields aren't static among records
pub count_mapped : (fs : List FieldRecord) → length (filter (λ f. not f.is_static) (map field_of_record fs)) ≡ length (filter (λ f. not f.is_static) fs)
count_mapped [] = refl
count_mapped (f ∷ fs) =
    elim (cases_Bool (not f.is_static)) [
      | inl it ↦
          ap (λ b. length (cond b (field_of_record f ∷ filter (λ f. not f.is_static) (map field_of_record fs)) (filter (λ f. not f.is_static) (map field_of_record fs)))) it
          ∙ (ap suc (count_mapped fs) ∙ sym (ap (λ b. length (cond b (f ∷ filter (λ f. not f.is_static) fs) (filter (λ f. not f.is_static) fs))) it))
      | inr other ↦
          ap (λ b. length (cond b (field_of_record f ∷ filter (λ f. not f.is_static) (map field_of_record fs)) (filter (λ f. not f.is_static) (map field_of_record fs)))) other
          ∙ (count_mapped fs ∙ sym (ap (λ b. length (cond b (f ∷ filter (λ f. not f.is_static) fs) (filter (λ f. not f.is_static) fs))) other))
    ]

-- the fields of a type: its superclass's, and its own
pub whole_fields : (cs : Classes) (rows : List Row) → AreLinked cs → (k : ℕ) (class : ClassRecord) → slice_get cs k ≡ Some class → load_error (mixture_of cs) (name_at cs k) ≡ None
    → (up : Option ClassId) → IsParent cs rows class.head.superclass up → field_count (mixture_of cs) (name_at cs k) ≡ fields_above cs up + length (filter (λ f. not f.is_static) class.fields)
whole_fields cs rows linked k class h loads up parent =
    let above : option_map_or (field_count (mixture_of cs)) class.head.superclass 0 ≡ fields_above cs up = ap (λ o. option_map_or (field_count (mixture_of cs)) o 0) parent.named ∙ fields_of_parent cs up in
    fields_by_parts (mixture_of cs) (name_at cs k) (record_shape class) loads (own_found cs linked k class h)
    ∙ (ap (λ n. n + length (own_fields (mixture_of cs) (record_shape class))) above ∙ ap (λ n. fields_above cs up + n) (count_mapped class.fields))

-- ---- the slots that are put together

-- a type's own slots and then those of its superinterfaces, behind those of its superclass
pub put_together : (cs : Classes) (rows : List Row) → AreLinked cs → (k : ℕ) (class : ClassRecord) → slice_get cs k ≡ Some class → load_error (mixture_of cs) (name_at cs k) ≡ None
    → (up : Option ClassId) → IsParent cs rows class.head.superclass up → (start : ℕ) (places mid after : List Place) (methods : List MethodRecord) (names : List Named)
    → start ≡ length places → methods ≡ class.methods → names ≡ class.head.interfaces
    → GoesOn cs rows up start mid (fold (with_method (name_at cs k)) (current cs up start places) (map method_of_record (behind_first methods)))
    → GoesOn cs rows up start after (fold (with_slots_of cs) (current cs up start mid) names) → GoesOn cs rows up (length places) after (slots (mixture_of cs) (name_at cs k))
put_together cs rows linked k class h loads up parent start places mid after methods names es em en own inherited =
    let none : drop start places ≡ [] = drop_all start places (omega arith) in
    let first : current cs up start places ≡ slots_above cs up = ap (λ ps. slots_above cs up ++ map (slot_at cs) ps) none ∙ append-nil (slots_above cs up) in
    let whole : current cs up start after ≡ slots (mixture_of cs) (name_at cs k) =
    inherited.slots_are
    ∙ (ap (λ xs. fold (with_slots_of cs) xs names) own.slots_are
    ∙ (ap (λ xs. fold (with_slots_of cs) (fold (with_method (name_at cs k)) xs (map method_of_record (behind_first methods))) names) first
    ∙ (ap (λ ms. fold (with_slots_of cs) (fold (with_method (name_at cs k)) (slots_above cs up) (map method_of_record (behind_first ms))) names) em
    ∙ (ap (fold (with_slots_of cs) (fold (with_method (name_at cs k)) (slots_above cs up) (map method_of_record (behind_first class.methods)))) en
    ∙ whole_slots cs rows linked k class h loads up parent)))) in
    subst (λ n. GoesOn cs rows up n after (slots (mixture_of cs) (name_at cs k))) es (record { going = inherited.going; slots_are = whole })

-- ---- the row

-- a row counts all slots
pub total_is : (cs : Classes) (rows : List Row) (places : List Place) (k : ℕ) (r : Row) → IsRow cs rows places k r → r.total ≡ length (slots (mixture_of cs) (name_at cs k))
total_is cs rows places k r row =
    let s : r.start ≤ r.end = row.start in
    let e : r.end ≤ length places = row.end in
    let t : r.total ≡ r.before + (r.end - r.start) = row.total in
    let b : r.before ≡ length (slots_above cs r.parent) = row.before in
    let n : length (own_slots cs places r) ≡ r.end - r.start = simp (length-map, length-take, length-drop) (omega arith) in
    let all : length (slots (mixture_of cs) (name_at cs k)) ≡ length (slots_above cs r.parent) + length (own_slots cs places r) =
    ap length row.slots ∙ length-append (slots_above cs r.parent) (own_slots cs places r) in
    omega arith

-- what a type has of a superclass whose row this is
pub above_of : (cs : Classes) (rows : List Row) (places : List Place) → IsTable cs rows places → (p : ClassId) (r : Row) → slice_get rows p.0 ≡ Some r → r.done ≡ true
    → (up : Option ClassId) → up ≡ Some p → (depth : ℕ) → depth ≡ r.depth + 1 → IsAboveOf cs rows up (record { depth = depth; slots = r.total; fields = r.fields })
above_of cs rows places table p r there done up is depth more =
    let row : IsRow cs rows places p.0 r = table.are_rows p.0 r there done in
    let a : IsAboveOf cs rows (Some p) (record { depth = depth; slots = r.total; fields = r.fields }) = record {
      above = record { row = r; there = there; done = done; nearer = omega arith };
      slots = total_is cs rows places p.0 r row;
      fields = row.fields;
    } in
    subst (λ o. IsAboveOf cs rows o (record { depth = depth; slots = r.total; fields = r.fields })) (sym is) a

-- the row of a type whose slots are put together
pub row_of : (cs : Classes) (rows : List Row) → AreLinked cs → (k : ℕ) (class : ClassRecord) → slice_get cs k ≡ Some class → load_error (mixture_of cs) (name_at cs k) ≡ None
    → (up : Option ClassId) → IsParent cs rows class.head.superclass up → (a : Above) → IsAboveOf cs rows up a → (start : ℕ) (after : List Place)
    → GoesOn cs rows up start after (slots (mixture_of cs) (name_at cs k)) → (total fields : ℕ) → total ≡ a.slots + (length after - start)
    → fields ≡ a.fields + length (filter (λ f. not f.is_static) class.fields)
    → IsRow cs rows after k
    (record { done = true; parent = up; depth = a.depth; before = a.slots; total = total; start = start; end = length after; fields_before = a.fields; fields = fields })
row_of cs rows linked k class h loads up parent a above start after goes total fields et ef =
    let within : start ≤ length after = goes.going.within in
    let rest : slice_range after start (length after) ≡ drop start after = take_all (length after - start) (drop start after) (omega (arith, length-drop start after)) in
    record {
      up = superclass_at_is cs k class h ∙ parent.named;
      above = above.above;
      slots = sym goes.slots_are ∙ ap (λ ps. slots_above cs up ++ map (slot_at cs) ps) (sym rest);
      before = above.slots;
      start = within;
      end = omega arith;
      total = et;
      fields_before = above.fields;
      fields =
          ef
          ∙ (ap (λ n. n + length (filter (λ f. not f.is_static) class.fields)) above.fields ∙ sym (whole_fields cs rows linked k class h loads up parent));
    }

abbrev row : Option ClassId → Above → ℕ → ℕ → ℕ → ℕ → Row
row up a start end total fields =
    record { done = true; parent = up; depth = a.depth; before = a.slots; total = total; start = start; end = end; fields_before = a.fields; fields = fields }

-- the same where the ends of its slots are known by equations
pub row_between : (cs : Classes) (rows : List Row) → AreLinked cs → (k : ℕ) (class : ClassRecord) → slice_get cs k ≡ Some class → load_error (mixture_of cs) (name_at cs k) ≡ None
    → (up : Option ClassId) → IsParent cs rows class.head.superclass up → (a : Above) → IsAboveOf cs rows up a → (start from end : ℕ) (after : List Place) → start ≡ from → end ≡ length after
    → GoesOn cs rows up from after (slots (mixture_of cs) (name_at cs k)) → (total fields : ℕ) → total ≡ a.slots + (end - start)
    → fields ≡ a.fields + length (filter (λ f. not f.is_static) class.fields)
    → IsRow cs rows after k (record { done = true; parent = up; depth = a.depth; before = a.slots; total = total; start = start; end = end; fields_before = a.fields; fields = fields })
row_between cs rows linked k class h loads up parent a above start from end after es ee goes total fields et ef =
    let here_goes : GoesOn cs rows up start after (slots (mixture_of cs) (name_at cs k)) = subst (λ n. GoesOn cs rows up n after (slots (mixture_of cs) (name_at cs k))) (sym es) goes in
    let sum : total ≡ a.slots + (length after - start) = et ∙ ap (λ n. a.slots + (n - start)) ee in
    subst (λ n. IsRow cs rows after k (row up a start n total fields)) (sym ee) (row_of cs rows linked k class h loads up parent a above start after here_goes total fields sum ef)

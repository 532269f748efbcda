-- Types that are ready, and what a visit of them changes.
use Rattle.std.proofs.Common.{◌≡◌, ◌+◌, ◌<◌, List, [], ◌∷◌, Option, Some, None, true, false, refl, sym, ◌∙◌, ap, ℕ, zero, suc, inl, inr, length, arith, subst, set, IfSome}
use Rattle.std.proofs.lemmas.List.{length-set}
use Rattle.std.specs.List.{slice_get}
use Rattle.std.proofs.lemmas.Bool.{cases_lt, cases_eq}
use Rattle.bcj_tables_rules.specs.declared.records.ClassRecord.{ClassRecord}
use Rattle.bcj_hier_rules.specs.declared.class_id.ClassId.{ClassId}
use Rattle.bcj_hier_rules.specs.Shapes.{Named}
use Rattle.bcj_hier_rules.specs.Loading.{load_error}
use Rattle.bcj_layout_rules.specs.Rows.{Classes, mixture_of}
use Rattle.bcj_layout_members.specs.declared.place.Place.{Place}
use Rattle.bcj_layout_members.specs.declared.row.Row.{Row}
use Rattle.bcj_layout_members.specs.Places.{name_at}
use Rattle.bcj_layout_members.specs.Tables.{IsTable, IsRow, IsDone, IsAbove, IsPrepared, IsReady, ArePartsDone, Keeps, Fills, IsOpen}

-- what holds of the elements before a place and of the one there
pub one_more : {X : Type 0} (P : X → Type 0) (xs : List X) (n : ℕ) (x : X) → slice_get xs n ≡ Some x → P x → ((k : ℕ) (y : X) → k < n → slice_get xs k ≡ Some y → P y)
    → (k : ℕ) (y : X) → k < n + 1 → slice_get xs k ≡ Some y → P y
one_more P xs n x at it before k y h e =
    elim (cases_lt k n) [
      | inl less ↦ before k y less e
      | inr last ↦
          let same : n ≡ k = omega arith in
          let both : Some x ≡ Some y = sym at ∙ (ap (slice_get xs) same ∙ e) in
          let one : x ≡ y = cc in
          subst P one it
    ]

-- ---- a row that is put

-- what is put stands there
get_set : {X : Type 0} (xs : List X) (i : ℕ) (x : X) → i < length xs → slice_get (set xs i x) i ≡ Some x
get_set [] i x h = absurd (omega arith)
get_set (y ∷ ys) zero x h = refl
get_set (y ∷ ys) (suc i) x h = get_set ys i x (omega arith)

-- and the others stay
get_set_other : {X : Type 0} (xs : List X) (i : ℕ) (x : X) (k : ℕ) → (k ≡ i → ⊥) → slice_get (set xs i x) k ≡ slice_get xs k
get_set_other [] i x k h = refl
get_set_other (y ∷ ys) zero x zero h = absurd (h refl)
get_set_other (y ∷ ys) zero x (suc k) h = refl
get_set_other (y ∷ ys) (suc i) x zero h = refl
get_set_other (y ∷ ys) (suc i) x (suc k) h = get_set_other ys i x k (λ e. h (ap suc e))

-- a row that is done is no free one
apart : (rows : List Row) (i : ℕ) → IsOpen rows i → (k : ℕ) (r : Row) → slice_get rows k ≡ Some r → r.done ≡ true → k ≡ i → ⊥
apart rows i free k r there done e =
    let none : r.done ≡ false = free r (ap (slice_get rows) (sym e) ∙ there) in
    let wrong : true ≡ false = sym done ∙ none in
    cc

-- to fill an open row keeps what is done
pub keeps_set : (rows : List Row) (i : ℕ) (r : Row) → IsOpen rows i → Keeps rows (set rows i r)
keeps_set rows i r free k d = record { row = d.row; there = get_set_other rows i r k (apart rows i free k d.row d.there d.done) ∙ d.there; done = d.done }

-- what is above stays so
above_set : (rows : List Row) (i : ℕ) (r : Row) → IsOpen rows i → (depth : ℕ) (o : Option ClassId) → IfSome o (IsAbove rows depth) → IfSome o (IsAbove (set rows i r) depth)
above_set rows i r free depth None h = h
above_set rows i r free depth (Some p) h = record {
  row = h.row;
  there = get_set_other rows i r p.0 (apart rows i free p.0 h.row h.there h.done) ∙ h.there;
  done = h.done;
  nearer = h.nearer;
}

-- what a row says stays so
row_set : (cs : Classes) (rows : List Row) (places : List Place) (i : ℕ) (r : Row) → IsOpen rows i → (k : ℕ) (q : Row) → IsRow cs rows places k q → IsRow cs (set rows i r) places k q
row_set cs rows places i r free k q h = record {
  up = h.up;
  above = above_set rows i r free q.depth q.parent h.above;
  slots = h.slots;
  before = h.before;
  start = h.start;
  end = h.end;
  total = h.total;
  fields_before = h.fields_before;
  fields = h.fields;
}

-- each row that is done says what it should
rows_set : (cs : Classes) (rows : List Row) (places : List Place) (i : ℕ) (r : Row) → IsTable cs rows places → IsOpen rows i → i < length rows → IsRow cs rows places i r
    → (k : ℕ) (q : Row) → slice_get (set rows i r) k ≡ Some q → q.done ≡ true → IsRow cs (set rows i r) places k q
rows_set cs rows places i r table free within new k q there done =
    elim (cases_eq k i) [
      | inl same ↦
          let both : Some r ≡ Some q = sym (get_set rows i r within) ∙ (ap (slice_get (set rows i r)) (sym same) ∙ there) in
          let one : r ≡ q = cc in
          subst (λ q. IsRow cs (set rows i r) places k q) one (subst (λ n. IsRow cs (set rows i r) places n r) (sym same) (row_set cs rows places i r free i r new))
      | inr other ↦ row_set cs rows places i r free k q (table.are_rows k q (sym (get_set_other rows i r k other) ∙ there) done)
    ]

-- a row that is filled leaves a table
pub table_set : (cs : Classes) (rows : List Row) (places : List Place) (i : ℕ) (r : Row) → IsTable cs rows places → IsOpen rows i → i < length rows → IsRow cs rows places i r
    → IsTable cs (set rows i r) places
table_set cs rows places i r table free within new = record {
  each_has_one = length-set rows i r ∙ table.each_has_one;
  are_places = table.are_places;
  are_rows = rows_set cs rows places i r table free within new;
}

-- a row that is filled is done
pub done_set : (rows : List Row) (i : ℕ) (r : Row) → i < length rows → r.done ≡ true → IsDone (set rows i r) i
done_set rows i r within done = record { row = r; there = get_set rows i r within; done = done }

-- ---- what a visit asks

-- a type that loads and of which all parts are done is ready
pub is_ready : (cs : Classes) (rows : List Row) (c : ClassId) (class : ClassRecord) → slice_get cs c.0 ≡ Some class → load_error (mixture_of cs) (name_at cs c.0) ≡ None → ArePartsDone cs rows class
    → IsReady cs rows c
is_ready cs rows c class h loads parts = record { class = class; record_of = h; loads = loads; superclass = parts.superclass; interfaces = parts.interfaces }

-- what is prepared stays so
prepared_later : (cs : Classes) (before after : List Row) → Keeps before after → (name : Named) → IsPrepared cs before name → IsPrepared cs after name
prepared_later cs before after keeps name p = record { at = p.at; number = p.number; done = keeps p.at p.done }

-- and so it does for a superclass
superclass_later : (cs : Classes) (before after : List Row) → Keeps before after → (o : Option Named) → IfSome o (IsPrepared cs before) → IfSome o (IsPrepared cs after)
superclass_later cs before after keeps None h = h
superclass_later cs before after keeps (Some p) h = prepared_later cs before after keeps p h

-- what was done above a type stays so
parts_later : (cs : Classes) (before after : List Row) → Keeps before after → (class : ClassRecord) → ArePartsDone cs before class → ArePartsDone cs after class
parts_later cs before after keeps class h = record {
  superclass = superclass_later cs before after keeps class.head.superclass h.superclass;
  interfaces = λ k name e. prepared_later cs before after keeps name (h.interfaces k name e);
}

-- one visit more in a round
pub fills_more : (cs : Classes) (first before after : List Row) (n : ℕ) → Keeps first before → Keeps before after → ((j : ℕ) → j < n → Fills cs first before j) → Fills cs before after n
    → (j : ℕ) → j < n + 1 → Fills cs first after j
fills_more cs first before after n kept keeps fills one j h class e loads parts =
    elim (cases_lt j n) [
      | inl less ↦ keeps j (fills j less class e loads parts)
      | inr last ↦
          let same : n ≡ j = omega arith in
          subst (IsDone after) same
          (one class (ap (slice_get cs) same ∙ e) (ap (λ k. load_error (mixture_of cs) (name_at cs k)) same ∙ loads) (parts_later cs first before kept class parts))
    ]

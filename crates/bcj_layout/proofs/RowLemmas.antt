-- Rows by their numbers and addresses.
use Rattle.std.proofs.Common.{◌≡◌, refl, ap, sym, subst, ◌∙◌, ◌+◌, ◌<◌, ◌≤◌, ℕ, zero, suc, Bool, true, false, cond, List, [], ◌∷◌, ◌++◌, map, filter, take, sum, length, position, slice_get, get_or, Option, Some, None, is_none, arith, append_assoc, inl, inr}
use Rattle.std.specs.Option.{option_map, option_map_or, unwrap_or}
use Rattle.std.specs.List.{All, IsDistinct, AllByRecursion}
use Rattle.std.specs.Str.{bytes_eq}
use Rattle.std.specs.Bool.{Decides}
use Rattle.std.proofs.lemmas.Slice.Eq.{bytes_eq-Decides}
use Rattle.std.proofs.lemmas.Bool.{cases_Bool, cases_lt}
use Rattle.std.proofs.lemmas.List.{length-map, length-append}
use Rattle.std.proofs.lemmas.List.Sums.{sum_by-cons}
use Rattle.std.proofs.lemmas.Option.{slice_get-map, slice_get_within, slice_get-get_or, get_or_from_slice_get}
use Rattle.std.proofs.lemmas.Map.Keys.{IsDistinct-head, IsDistinct-tail, IsDistinct-cons}
use Rattle.bcj_symbolic_trees.specs.Types.{PlainTy, class_type}
use Rattle.bcj_symbolic_trees.specs.declared.class_tree.ClassHead.{ClassHead}
use Rattle.bcj_tables_rules.specs.declared.records.ClassRecord.{ClassRecord}
use Rattle.bcj_hier_rules.specs.declared.class_id.ClassId.{ClassId}
use Rattle.bcj_hier_rules.specs.declared.link_error.LinkError.{LinkError}
use Rattle.bcj_hier_rules.specs.Shapes.{Named}
use Rattle.bcj_hier_rules.specs.Heads.{IsIn, name_of, number_of, is_called, AreDistinct}
use Rattle.bcj_hier_rules.specs.Loading.{load_error}
use Rattle.bcj_hier_rules.specs.Trees.{loads}
use Rattle.bcj_hier_soundness.proofs.Names.{same_bytes, bytes_same}
use Rattle.bcj_hier_soundness.proofs.Distinct.{position_first, names_have_numbers}
use Rattle.bcj_layout_members.proofs.Elements.{some_at}
use Rattle.bcj_layout_rules.specs.Rows.{Classes, mixture_of, loaded, array_types, row_types, row_number}
use Rattle.bcj_layout_rules.specs.Places.{row_words, row_at}
use Rattle.bcj_layout_resolution.specs.Places.{heads_in}
use Rattle.bcj_layout_rows.specs.Found.{IsLoading}
use Rattle.bcj_layout_rows.proofs.ListLemmas.{each-kept}
use Rattle.bcj_layout_rows.proofs.RowLemmas.{classes_first}
use Rattle.bcj_layout_places.specs.declared.places.Places.{Places}
use Rattle.bcj_layout_places.specs.Places.{ArePlaces}
use Rattle.bcj_layout_entries.proofs.Words.{row-named}
use Rattle.bcj_layout.specs.LaidOut.{LaidOut}
use Rattle.bcj_layout.specs.declared.row_id.RowId.{RowId}
use Rattle.bcj_layout.specs.declared.row_id.RowId.TheVariants as row
use Rattle.bcj_layout.specs.RowTypes.{IsRow, class_number, number_of_row}

-- ---- places

-- what stands at the place of the first that passes
pub record First {A : Type 0} (test : A → Bool) (xs : List A) (k : ℕ) : Type 0 where
  pub item : A
  pub there : slice_get xs k ≡ Some item
  pub passes : test item ≡ true

-- the place of the first that passes is one of an element that passes
position-there : {A : Type 0} (test : A → Bool) (xs : List A) (k : ℕ) → position test xs ≡ Some k → First test xs k
position-there test [] k h = let wrong : None ≡ Some k = h in absurd (cc)
position-there {A} test (x ∷ xs) k h = by (test x) refl (position test xs) (λ j e. position-there test xs j e) (sym (position_first test x xs) ∙ h)
  where
    P : ℕ → Type 0
    P n = First test (x ∷ xs) n

    by : (b : Bool) → test x ≡ b → (o : Option ℕ) → ((j : ℕ) → o ≡ Some j → First test xs j) → cond b (Some 0) (option_map suc o) ≡ Some k → First test (x ∷ xs) k
    by true it o more h = let here : 0 ≡ k = cc in subst P here (record { item = x; there = refl; passes = it })
    by false it None more h = let wrong : None ≡ Some k = h in absurd (cc)
    by false it (Some j) more h =
        let here : suc j ≡ k = cc in
        let rest : First test xs j = more j refl in
        subst P here (record { item = rest.item; there = rest.there; passes = rest.passes })

-- what passes among those that are kept has a place there
kept-place : {A : Type 0} (keep test : A → Bool) (xs : List A) (k : ℕ) (x : A) → slice_get xs k ≡ Some x → keep x ≡ true → test x ≡ true → position test (filter keep xs) ≡ None → ⊥
kept-place keep test [] k x e it passes none = cc
kept-place keep test (y ∷ ys) zero x e it passes none =
    let same : y ≡ x = cc in
    let kept : keep y ≡ true = ap keep same ∙ it in
    let whole : position test (y ∷ filter keep ys) ≡ None = ap (λ b. position test (cond b (y ∷ filter keep ys) (filter keep ys))) (sym kept) ∙ none in
    let first : cond (test y) (Some 0) (option_map suc (position test (filter keep ys))) ≡ None = sym (position_first test y (filter keep ys)) ∙ whole in
    let wrong : Some 0 ≡ None = ap (λ b. cond b (Some 0) (option_map suc (position test (filter keep ys)))) (sym (ap test same ∙ passes)) ∙ first in
    cc
kept-place keep test (y ∷ ys) (suc k) x e it passes none = kept-place keep test ys k x e it passes (by (keep y) none)
  where
    behind : (d : Bool) (o : Option ℕ) → cond d (Some 0) (option_map suc o) ≡ None → o ≡ None
    behind true o h = cc
    behind false None h = refl
    behind false (Some n) h = cc

    by : (b : Bool) → position test (cond b (y ∷ filter keep ys) (filter keep ys)) ≡ None → position test (filter keep ys) ≡ None
    by true h = behind (test y) (position test (filter keep ys)) (sym (position_first test y (filter keep ys)) ∙ h)
    by false h = h

-- what holds of each holds of the one at a place
pub at-place : {A : Type 0} (P : A → Type 0) (xs : List A) (k : ℕ) (x : A) → AllByRecursion P xs → slice_get xs k ≡ Some x → P x
at-place P [] k x h e = cc
at-place P (y ∷ ys) zero x h e = let same : y ≡ x = cc in subst P same h.0
at-place P (y ∷ ys) (suc k) x h e = at-place P ys k x h.1 e

-- what differs differs either way round
turned : {A : Type 0} (same : A → A → Bool) → ((a b : A) → Decides (same a b) (a ≡ b)) → (a b : A) → same a b ≡ false → same b a ≡ false
turned same decides a b h =
    elim (cases_Bool (same b a)) [
      | inl it ↦ let wrong : true ≡ false = sym ((decides a b).1 (sym ((decides b a).0 it))) ∙ h in cc
      | inr other ↦ other
    ]

-- where nothing stands twice, the place of each is where it stands
pub own-place : {A : Type 0} (same : A → A → Bool) → ((a b : A) → Decides (same a b) (a ≡ b)) → (xs : List A) (k : ℕ) (x : A) → IsDistinct same xs → slice_get xs k ≡ Some x → position (same x) xs ≡ Some k
own-place same decides [] k x h e = cc
own-place same decides (y ∷ ys) zero x h e =
    let it : x ≡ y = cc in
    position_first (same x) y ys ∙ ap (λ b. cond b (Some 0) (option_map suc (position (same x) ys))) ((decides x y).1 it)
own-place same decides (y ∷ ys) (suc k) x h e =
    position_first (same x) y ys
    ∙ (ap (λ b. cond b (Some 0) (option_map suc (position (same x) ys))) (turned same decides y x (at-place (λ z. same y z ≡ false) ys k x (IsDistinct-head same y ys h) e))
    ∙ ap (option_map suc) (own-place same decides ys k x (IsDistinct-tail same y ys h) e))

-- ---- the names of types that load

-- where a list has no place for a test, its first fails and the others have none
none-parts : (d : Bool) (o : Option ℕ) → cond d (Some 0) (option_map suc o) ≡ None → (d ≡ false) × (o ≡ None)
none-parts true o h = cc
none-parts false None h = (refl, refl)
none-parts false (Some k) h = cc

-- a name that stands nowhere behind
first-apart : (h : ClassHead) (before hs : List ClassHead) → AreDistinct (h ∷ (before ++ hs)) → AllByRecursion (λ y. bytes_eq h.name y ≡ false) (map (λ x. x.name) hs)
first-apart h before [] d = tt
first-apart h before (x ∷ hs) d =
    let P : List ClassHead → Type 0 = λ l. AreDistinct (h ∷ l) in (
      (none-parts (bytes_eq h.name x.name) (number_of before x.name) (sym (position_first (is_called x.name) h before) ∙ d (h ∷ before) x hs refl)).0,
      first-apart h (before ++ x ∷ []) hs (subst P (sym (append_assoc before (x ∷ []) hs)) d),
    )

-- the heads behind the first are distinct
others-distinct : (h : ClassHead) (hs : List ClassHead) → AreDistinct (h ∷ hs) → AreDistinct hs
others-distinct h hs d = λ before x behind e.
    (none-parts (bytes_eq h.name x.name) (number_of before x.name) (sym (position_first (is_called x.name) h before) ∙ d (h ∷ before) x behind (ap (λ l. h ∷ l) e))).1

-- no name stands twice
names-distinct : (hs : List ClassHead) → AreDistinct hs → IsDistinct bytes_eq (map (λ h. h.name) hs)
unfolding IsDistinct
names-distinct [] d = tt
names-distinct (h ∷ hs) d = (first-apart h [] hs d, names-distinct hs (others-distinct h hs d))

-- names that are kept of distinct ones are distinct
kept-distinct : (keep : Named → Bool) (names : List Named) → IsDistinct bytes_eq names → IsDistinct bytes_eq (filter keep names)
kept-distinct keep [] h = h
kept-distinct keep (n ∷ ns) h = by (keep n) (kept-distinct keep ns (IsDistinct-tail bytes_eq n ns h))
  where
    by : (b : Bool) → IsDistinct bytes_eq (filter keep ns) → IsDistinct bytes_eq (cond b (n ∷ filter keep ns) (filter keep ns))
    by true rest = IsDistinct-cons bytes_eq n (filter keep ns) (each-kept (λ y. bytes_eq n y ≡ false) keep ns (IsDistinct-head bytes_eq n ns h)) rest
    by false rest = rest

-- the names of the records are those of their heads
names-are : (cs : Classes) → map (λ h. h.name) (heads_in cs) ≡ map (λ c. c.head.name) cs
names-are [] = refl
names-are (c ∷ cs) = ap (λ l. c.head.name ∷ l) (names-are cs)

-- no type loads twice
loaded-distinct : (cs : Classes) → AreDistinct (heads_in cs) → IsDistinct bytes_eq (loaded cs)
loaded-distinct cs d = kept-distinct (loads (mixture_of cs)) (map (λ c. c.head.name) cs) (subst (IsDistinct bytes_eq) (names-are cs) (names-distinct (heads_in cs) d))

-- ---- numbers of rows

-- a class by its number
pub record InRecords (cs : Classes) (c : ClassId) : Type 0 where
  pub class : ClassRecord
  pub there : slice_get cs c.0 ≡ Some class
  pub named : name_of (heads_in cs) c ≡ class.head.name

-- one of these has a record
pub in-records : (cs : Classes) (c : ClassId) → IsIn (heads_in cs) c → InRecords cs c
in-records cs c h =
    let some = some_at cs c.0 (omega (arith, length-map cs (λ x. x.head))) in
    record {
      class = some.0;
      there = some.1;
      named = ap (λ o. option_map_or (λ x. x.name) o []) (slice_get-map (λ x. x.head) cs c.0 ∙ ap (option_map (λ x. x.head)) some.1);
    }

-- the number of a class that loads is that of its name among those that load
pub record Numbered (cs : Classes) (c : ClassId) (k : ℕ) : Type 0 where
  pub number : row_number cs (class_type (name_of (heads_in cs) c)) ≡ Some k
  pub there : slice_get (loaded cs) k ≡ Some (name_of (heads_in cs) c)
  pub within : k < length (loaded cs)

loads-true : (o : Option LinkError) → o ≡ None → is_none o ≡ true
loads-true None h = refl
loads-true (Some e) h = cc

pub loading-number : (cs : Classes) (c : ClassId) → IsLoading cs c → Numbered cs c (class_number cs c)
loading-number cs c h = by (position (bytes_eq name) (loaded cs)) refl
  where
    name : Named
    name = name_of (heads_in cs) c

    at : InRecords cs c
    at = in-records cs c h.there

    listed : slice_get (map (λ x. x.head.name) cs) c.0 ≡ Some name
    listed = slice_get-map (λ x. x.head.name) cs c.0 ∙ (ap (option_map (λ x. x.head.name)) at.there ∙ ap Some (sym at.named))

    by : (o : Option ℕ) → position (bytes_eq name) (loaded cs) ≡ o → Numbered cs c (class_number cs c)
    by None e = absurd (kept-place (loads (mixture_of cs)) (bytes_eq name) (map (λ x. x.head.name) cs) c.0 name listed (loads-true (load_error (mixture_of cs) name) h.loads) (bytes_same name) e)
    by (Some k) e =
        let number : row_number cs (class_type name) ≡ Some k = classes_first cs name ∙ e in
        let is : k ≡ class_number cs c = sym (ap (λ (o : Option ℕ). option_map_or (λ n. n) o 0) number) in
        let first : First (bytes_eq name) (loaded cs) k = position-there (bytes_eq name) (loaded cs) k e in
        let there : slice_get (loaded cs) k ≡ Some name = first.there ∙ ap Some (sym (same_bytes name first.item first.passes)) in
        let P : ℕ → Type 0 = λ n. Numbered cs c n in
        subst P is (record { number = number; there = there; within = slice_get_within (loaded cs) k name there })

-- the number of the class that stands at a place among those that load is this place
pub loaded-number : (cs : Classes) (c : ClassId) (k : ℕ) → AreDistinct (heads_in cs) → slice_get (loaded cs) k ≡ Some (name_of (heads_in cs) c) → class_number cs c ≡ k
loaded-number cs c k d e =
    ap (λ (o : Option ℕ). option_map_or (λ n. n) o 0) (classes_first cs (name_of (heads_in cs) c) ∙ own-place bytes_eq bytes_eq-Decides (loaded cs) k (name_of (heads_in cs) c) (loaded-distinct cs d) e)

-- how many rows there are
pub rows-count : (cs : Classes) → length (row_types cs) ≡ length (loaded cs) + length (array_types cs)
rows-count cs = length-append (map class_type (loaded cs)) (array_types cs) ∙ ap (λ n. n + length (array_types cs)) (length-map (loaded cs) class_type)

-- a class is told by its name
same-class : (cs : Classes) (c d : ClassId) → AreDistinct (heads_in cs) → IsIn (heads_in cs) c → IsIn (heads_in cs) d → name_of (heads_in cs) c ≡ name_of (heads_in cs) d → c ≡ d
same-class cs c d distinct in_c in_d e =
    let at : InRecords cs c = in-records cs c in_c in
    let other : InRecords cs d = in-records cs d in_d in
    let first : number_of (heads_in cs) at.class.head.name ≡ Some c.0 =
    names_have_numbers (heads_in cs) c.0 at.class.head distinct (slice_get-map (λ x. x.head) cs c.0 ∙ ap (option_map (λ x. x.head)) at.there) in
    let second : number_of (heads_in cs) other.class.head.name ≡ Some d.0 =
    names_have_numbers (heads_in cs) d.0 other.class.head distinct (slice_get-map (λ x. x.head) cs d.0 ∙ ap (option_map (λ x. x.head)) other.there) in
    let names : at.class.head.name ≡ other.class.head.name = sym at.named ∙ (e ∙ other.named) in
    let both : Some c.0 ≡ Some d.0 = sym first ∙ (ap (number_of (heads_in cs)) names ∙ second) in
    let numbers : c.0 ≡ d.0 = cc in
    λ i. record { 0 = numbers i }

-- a row is told by its number
pub same-row : (cs : Classes) (r s : RowId) → AreDistinct (heads_in cs) → IsRow cs r → IsRow cs s → number_of_row cs r ≡ number_of_row cs s → r ≡ s
same-row cs (row.Class c) (row.Class d) distinct is_r is_s e =
    let one : Numbered cs c (class_number cs c) = loading-number cs c is_r in
    let other : Numbered cs d (class_number cs d) = loading-number cs d is_s in
    let both : Some (name_of (heads_in cs) c) ≡ Some (name_of (heads_in cs) d) = sym one.there ∙ (ap (slice_get (loaded cs)) e ∙ other.there) in
    let names : name_of (heads_in cs) c ≡ name_of (heads_in cs) d = cc in
    ap row.Class (same-class cs c d distinct is_r.there is_s.there names)
same-row cs (row.Class c) (row.Array n) distinct is_r is_s e =
    let one : Numbered cs c (class_number cs c) = loading-number cs c is_r in
    absurd (omega (arith, e, one.within))
same-row cs (row.Array n) (row.Class d) distinct is_r is_s e =
    let one : Numbered cs d (class_number cs d) = loading-number cs d is_s in
    absurd (omega (arith, e, one.within))
same-row cs (row.Array n) (row.Array k) distinct is_r is_s e =
    let numbers : n ≡ k = omega (arith, e) in
    ap row.Array numbers

-- ---- addresses of rows

-- sums of what is more than 0 rise
sums-rise : {A : Type 0} (f : A → ℕ) → ((x : A) → 0 < f x) → (xs : List A) (i j : ℕ) → i < j → j ≤ length xs → sum (map f (take i xs)) < sum (map f (take j xs))
sums-rise f more xs i zero less within = absurd (omega arith)
sums-rise f more [] i (suc j) less within = absurd (omega arith)
sums-rise f more (x ∷ xs) zero (suc j) less within =
    let none : sum (map f (take zero (x ∷ xs))) ≡ 0 = refl in
    let step : sum (map f (take (suc j) (x ∷ xs))) ≡ f x + sum (map f (take j xs)) = sum_by-cons (λ n. n) (f x) (map f (take j xs)) in
    let some : 0 < f x = more x in
    omega (arith, none, step, some)
sums-rise f more (x ∷ xs) (suc i) (suc j) less within =
    let first : sum (map f (take (suc i) (x ∷ xs))) ≡ f x + sum (map f (take i xs)) = sum_by-cons (λ n. n) (f x) (map f (take i xs)) in
    let second : sum (map f (take (suc j) (x ∷ xs))) ≡ f x + sum (map f (take j xs)) = sum_by-cons (λ n. n) (f x) (map f (take j xs)) in
    let rest : sum (map f (take i xs)) < sum (map f (take j xs)) = sums-rise f more xs i j (omega arith) (omega arith) in
    omega (arith, first, second, rest)

-- and are no less than their count
sums-count : {A : Type 0} (f : A → ℕ) → ((x : A) → 0 < f x) → (xs : List A) (n : ℕ) → n ≤ length xs → n ≤ sum (map f (take n xs))
sums-count f more xs zero within = omega arith
sums-count f more [] (suc n) within = absurd (omega arith)
sums-count f more (x ∷ xs) (suc n) within =
    let step : sum (map f (take (suc n) (x ∷ xs))) ≡ f x + sum (map f (take n xs)) = sum_by-cons (λ m. m) (f x) (map f (take n xs)) in
    let some : 0 < f x = more x in
    let rest : n ≤ sum (map f (take n xs)) = sums-count f more xs n (omega arith) in
    omega (arith, step, some, rest)

-- rows have words
row-has-words : (cs : Classes) (main : Named) (t : PlainTy) → 0 < row_words cs main t
row-has-words cs main t = omega arith

-- the addresses of rows rise
pub rows-rise : (cs : Classes) (main : Named) (i j : ℕ) → i < j → j ≤ length (row_types cs) → row_at cs main i < row_at cs main j
rows-rise cs main i j less within =
    let sums : sum (map (row_words cs main) (take i (row_types cs))) < sum (map (row_words cs main) (take j (row_types cs))) =
    sums-rise (row_words cs main) (row-has-words cs main) (row_types cs) i j less within in
    omega (arith, sums)

-- and are no less than their numbers
pub rows-few : (cs : Classes) (main : Named) (n : ℕ) → n ≤ length (row_types cs) → n ≤ row_at cs main n
rows-few cs main n within =
    let sums : n ≤ sum (map (row_words cs main) (take n (row_types cs))) = sums-count (row_words cs main) (row-has-words cs main) (row_types cs) n within in
    omega (arith, sums)

-- rows that begin at the same address have the same number
pub rows-apart : (cs : Classes) (main : Named) (i j : ℕ) → i ≤ length (row_types cs) → j ≤ length (row_types cs) → row_at cs main i ≡ row_at cs main j → i ≡ j
rows-apart cs main i j in_i in_j e =
    elim (cases_lt i j) [
      | inl less ↦ absurd (omega (arith, rows-rise cs main i j less in_j, e))
      | inr more ↦
          elim (cases_lt j i) [
            | inl less ↦ absurd (omega (arith, rows-rise cs main j i less in_i, e))
            | inr most ↦ omega (arith, more, most)
          ]
    ]

-- and no row behind another begins before it
pub rows-ordered : (cs : Classes) (main : Named) (i j : ℕ) → i ≤ j → j ≤ length (row_types cs) → row_at cs main i ≤ row_at cs main j
rows-ordered cs main i j order within =
    elim (cases_lt i j) [
      | inl less ↦ omega (arith, rows-rise cs main i j less within)
      | inr more ↦ let same : i ≡ j = omega (arith, order, more) in omega (arith, ap (row_at cs main) same)
    ]

-- ---- what is kept of rows

-- the number that is kept of a class that loads
pub class-read : (cs : Classes) (rows : List (Option ℕ)) (c : ClassId) (n : ℕ) → rows ≡ map (λ r. row_number cs (class_type r.head.name)) cs → IsLoading cs c → n ≡ unwrap_or (get_or rows c.0 None) 0 → n ≡ class_number cs c
class-read cs rows c n are h read =
    let at : InRecords cs c = in-records cs c h.there in
    let kept : slice_get rows c.0 ≡ Some (row_number cs (class_type (name_of (heads_in cs) c))) = row-named cs rows c at.class are at.there in
    let number : Numbered cs c (class_number cs c) = loading-number cs c h in
    read ∙ ap (λ o. unwrap_or o 0) (get_or_from_slice_get rows c.0 (row_number cs (class_type (name_of (heads_in cs) c))) None kept ∙ number.number)

-- the numbers that are kept of classes are as many as the classes
pub numbers-count : (cs : Classes) (rows : List (Option ℕ)) (c : ClassId) → rows ≡ map (λ r. row_number cs (class_type r.head.name)) cs → IsIn (heads_in cs) c → c.0 < length rows
numbers-count cs rows c are h =
    omega (arith, h, ap length are, length-map cs (λ r. row_number cs (class_type r.head.name)), length-map cs (λ x. x.head))

-- the address that is kept of a row
pub row-read : (cs : Classes) (main : Named) (rows : List ℕ) (n : ℕ) → ((k : ℕ) → k ≤ length (row_types cs) → slice_get rows k ≡ Some (row_at cs main k)) → n ≤ length (row_types cs) → get_or rows n 0 ≡ row_at cs main n
row-read cs main rows n are h = get_or_from_slice_get rows n (row_at cs main n) 0 (are n h)

-- the addresses that are kept rise
pub kept-ordered : (cs : Classes) (main : Named) (rows : List ℕ) → ((k : ℕ) → k ≤ length (row_types cs) → slice_get rows k ≡ Some (row_at cs main k)) → length rows ≡ suc (length (row_types cs))
    → (i j : ℕ) → i ≤ j → j < length rows → get_or rows i 0 ≤ get_or rows j 0
kept-ordered cs main rows are count i j order within =
    omega (arith, row-read cs main rows i are (omega (arith, count)), row-read cs main rows j are (omega (arith, count)), rows-ordered cs main i j order (omega (arith, count)))

-- the class that stands at a place has the row of this number
pub numbered-class : (cs : Classes) (ids : List ClassId) (k : ℕ) (d : ClassId) → AreDistinct (heads_in cs) → map (name_of (heads_in cs)) ids ≡ loaded cs → k < length ids → class_number cs (get_or ids k d) ≡ k
numbered-class cs ids k d distinct are h =
    loaded-number cs (get_or ids k d) k distinct
    (sym (ap (λ l. slice_get l k) are) ∙ (slice_get-map (name_of (heads_in cs)) ids k ∙ ap (option_map (name_of (heads_in cs))) (slice_get-get_or ids k d h)))

-- a row has one of the numbers
pub row-within : (cs : Classes) (r : RowId) → IsRow cs r → number_of_row cs r < length (row_types cs)
row-within cs (row.Class c) h = let number : Numbered cs c (class_number cs c) = loading-number cs c h in omega (arith, number.within, rows-count cs)
row-within cs (row.Array n) h = omega (arith, h, rows-count cs)

-- what is known of the numbers of the classes that load
pub record Known (cs : Classes) (ids : List ClassId) : Type 0 where
  pub distinct : AreDistinct (heads_in cs)
  pub names : map (name_of (heads_in cs)) ids ≡ loaded cs
  pub loading : All (IsLoading cs) ids

-- by what is kept
pub known : (l m : LaidOut) (p : Places) (heads : List ClassHead) (ids : List ClassId) → l ≡ m → ArePlaces l.classes l.main p → AreDistinct heads → heads ≡ heads_in l.classes → ids ≡ p.loaded → Known m.classes ids
known l m p heads ids e places distinct are same =
    let P : LaidOut → Type 0 = λ k. Known k.classes ids in
    let L : List ClassId → Type 0 = λ k. All (IsLoading l.classes) k in
    subst P e
    (record { distinct = subst AreDistinct are distinct; names = ap (map (name_of (heads_in l.classes))) same ∙ places.types; loading = subst L (sym same) places.loading })

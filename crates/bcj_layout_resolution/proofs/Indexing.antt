-- Buckets of numbers: how they grow, and what is found in them.
use Rattle.std.proofs.Common.{◌≡◌, ◌<◌, ◌≤◌, ◌+◌, ◌%◌, List, [], ◌∷◌, ◌++◌, map, take, set, slice_get, get_or, length, position, Option, Some, None, Bool, true, false, not, cond, ◌&&◌, refl, sym, ◌∙◌, ap, subst, ℕ, zero, suc, inl, inr, ◌⊎◌, arith}
use Rattle.std.proofs.lemmas.Bool.{cases_lt, cases_eq, and_parts}
use Rattle.std.proofs.lemmas.Option.{slice_get-map, slice_get_read, same_Some}
use Rattle.std.proofs.lemmas.List.{length_push, get_or_append_left, get_or-set_same, get_or-set_other, length-set, length-map, map-append, take_more, length-take-le}
use Rattle.std.specs.Option.{option_map}
use Rattle.std.specs.Str.{bytes_eq}
use Rattle.bcj_tables_rules.specs.declared.records.FieldRecord.{FieldRecord}
use Rattle.bcj_tables_rules.specs.declared.records.MethodRecord.{MethodRecord}
use Rattle.bcj_tables_rules.specs.declared.records.ClassRecord.{ClassRecord}
use Rattle.bcj_hier_rules.specs.Shapes.{Named, Method, field_of_record, method_of_record, behind_first, is_constructor, is_static, is_field, is_method}
use Rattle.bcj_hier_soundness.proofs.Distinct.{position_first}
use Rattle.bcj_hier_soundness.proofs.Names.{same_bytes}
use Rattle.bcj_layout_resolution.specs.declared.sought.Sought.{Sought}
use Rattle.bcj_layout_resolution.specs.declared.sought.Sought.TheVariants as sought
use Rattle.bcj_layout_resolution.specs.Searches.{fits, asks_name}
use Rattle.bcj_layout_resolution.specs.Index.{hash_of, Numbers, bucket_number, bucket_of, with_number, IsBucket, StandsIn, Indexes}

-- ---- lists that grow

-- the last item of a list
last_of : {A : Type 0} (xs : List A) (y d : A) → get_or (xs ++ y ∷ []) (length xs) d ≡ y
last_of [] y d = refl
last_of (x ∷ xs) y d = last_of xs y d

-- an item of a list with one more
record Pushed {A : Type 0} (xs : List A) (y : A) (k : ℕ) (x : A) : Type 0 where
  either : (slice_get xs k ≡ Some x) ⊎ ((k ≡ length xs) × (y ≡ x))

-- each item of a list with one more is one of the list or the new one
pushed : {A : Type 0} (xs : List A) (y : A) (k : ℕ) (x : A) → slice_get (xs ++ y ∷ []) k ≡ Some x → Pushed xs y k x
pushed [] y zero x e = record { either = inr (refl, same_Some y x e) }
pushed [] y (suc k) x e = cc
pushed (z ∷ zs) y zero x e = record { either = inl e }
pushed (z ∷ zs) y (suc k) x e =
    let rest : Pushed zs y k x = pushed zs y k x e in
    record { either = elim rest.either [ inl it ↦ inl it | inr last ↦ inr (ap suc last.0, last.1) ] }

-- a bucket stands below more numbers
bucket_more : (n : ℕ) (l : Numbers) → IsBucket n l → IsBucket (n + 1) l
bucket_more n l is = record { within = λ i less. (let b : get_or l i 0 < n = is.within i less in omega arith); ascending = is.ascending }

-- a bucket takes the next number
bucket_push : (n : ℕ) (l : Numbers) → IsBucket n l → IsBucket (n + 1) (l ++ n ∷ [])
bucket_push n l is = record {
  within = λ i less.
      let count : length (l ++ n ∷ []) ≡ length l + 1 = length_push l n in
      elim (cases_lt i (length l)) [
        | inl old ↦
            let b : get_or l i 0 < n = is.within i old in
            let same : get_or (l ++ n ∷ []) i 0 ≡ get_or l i 0 = get_or_append_left l (n ∷ []) 0 i old in
            omega arith
        | inr past ↦
            let at_it : length l ≡ i = omega arith in
            let same : get_or (l ++ n ∷ []) i 0 ≡ n = ap (λ j. get_or (l ++ n ∷ []) j 0) (sym at_it) ∙ last_of l n 0 in
            omega arith
      ];
  ascending = λ i j less end.
      let count : length (l ++ n ∷ []) ≡ length l + 1 = length_push l n in
      let first : i < length l = omega arith in
      let same_i : get_or (l ++ n ∷ []) i 0 ≡ get_or l i 0 = get_or_append_left l (n ∷ []) 0 i first in
      elim (cases_lt j (length l)) [
        | inl old ↦
            let b : get_or l i 0 < get_or l j 0 = is.ascending i j less old in
            let same_j : get_or (l ++ n ∷ []) j 0 ≡ get_or l j 0 = get_or_append_left l (n ∷ []) 0 j old in
            omega arith
        | inr past ↦
            let b : get_or l i 0 < n = is.within i first in
            let at_it : length l ≡ j = omega arith in
            let same_j : get_or (l ++ n ∷ []) j 0 ≡ n = ap (λ k. get_or (l ++ n ∷ []) k 0) (sym at_it) ∙ last_of l n 0 in
            omega arith
      ];
}

-- what stands in a bucket stands in it behind one more
stands_push : (l : Numbers) (x k : ℕ) → StandsIn l k → StandsIn (l ++ x ∷ []) k
stands_push l x k s =
    let less : s.place < length l = s.within in
    let count : length (l ++ x ∷ []) ≡ length l + 1 = length_push l x in
    record { place = s.place; within = omega arith; is_it = get_or_append_left l (x ∷ []) 0 s.place less ∙ s.is_it }

-- the new number stands in the bucket
stands_last : (l : Numbers) (x : ℕ) → StandsIn (l ++ x ∷ []) x
stands_last l x =
    let count : length (l ++ x ∷ []) ≡ length l + 1 = length_push l x in
    record { place = length l; within = omega arith; is_it = last_of l x 0 }

-- ---- buckets that grow

-- empty buckets index no names
pub indexes_none : (buckets : List Numbers) → 0 < length buckets → ((b : ℕ) → get_or buckets b [] ≡ []) → Indexes [] buckets
indexes_none buckets some empty = record {
  some = some;
  each = λ b. (let P : Numbers → Type 0 = λ l. IsBucket 0 l in subst P (sym (empty b)) (record { within = λ i less. absurd (omega arith); ascending = λ i j less end. absurd (omega arith) }));
  complete = λ k name e. absurd (cc);
}

-- what stands in a bucket stands in it still
still : (buckets : List Numbers) (at b k n : ℕ) → at < length buckets → StandsIn (get_or buckets b []) k → StandsIn (get_or (set buckets at (get_or buckets at [] ++ n ∷ [])) b []) k
still buckets at b k n within s =
    let P : Numbers → Type 0 = λ l. StandsIn l k in
    elim (cases_eq b at) [
      | inl same ↦
          let Q : ℕ → Type 0 = λ c. StandsIn (get_or buckets c []) k in
          subst P (ap (λ c. get_or (set buckets at (get_or buckets at [] ++ n ∷ [])) c []) (sym same))
          (subst P (sym (get_or-set_same buckets at (get_or buckets at [] ++ n ∷ []) [] within)) (stands_push (get_or buckets at []) n k (subst Q same s)))
      | inr other ↦ subst P (sym (get_or-set_other buckets at b (get_or buckets at [] ++ n ∷ []) [] other)) s
    ]

-- each bucket stays one where one of them takes the next number
each_more : (buckets : List Numbers) (at b n : ℕ) → at < length buckets → ((c : ℕ) → IsBucket n (get_or buckets c [])) → IsBucket (n + 1) (get_or (set buckets at (get_or buckets at [] ++ n ∷ [])) b [])
each_more buckets at b n within each =
    let P : Numbers → Type 0 = λ l. IsBucket (n + 1) l in
    elim (cases_eq b at) [
      | inl same ↦
          subst P (ap (λ c. get_or (set buckets at (get_or buckets at [] ++ n ∷ [])) c []) (sym same))
          (subst P (sym (get_or-set_same buckets at (get_or buckets at [] ++ n ∷ []) [] within)) (bucket_push n (get_or buckets at []) (each at)))
      | inr other ↦ subst P (sym (get_or-set_other buckets at b (get_or buckets at [] ++ n ∷ []) [] other)) (bucket_more n (get_or buckets b []) (each b))
    ]

-- the bucket of a name is there
place_within : (buckets : List Numbers) (name : Named) → 0 < length buckets → bucket_number buckets name < length buckets
place_within buckets name some = omega arith

-- one more name
pub indexes_more : (names : List Named) (buckets : List Numbers) (name : Named) (n : ℕ) → Indexes names buckets → length names ≡ n → Indexes (names ++ name ∷ []) (with_number buckets name n)
indexes_more names buckets name n is count =
    let at : ℕ = bucket_number buckets name in
    let within : at < length buckets = place_within buckets name is.some in
    let whole : List Numbers = set buckets at (get_or buckets at [] ++ n ∷ []) in
    let kept : length whole ≡ length buckets = length-set buckets at (get_or buckets at [] ++ n ∷ []) in
    let E : ℕ → Type 0 = λ c. (b : ℕ) → IsBucket c (get_or buckets b []) in
    let Q : ℕ → Type 0 = λ c. (b : ℕ) → IsBucket c (get_or whole b []) in
    let total : n + 1 ≡ length (names ++ name ∷ []) = ap (λ c. c + 1) (sym count) ∙ sym (length_push names name) in
    record {
      some = omega arith;
      each = subst Q total (λ b. each_more buckets at b n within (subst E count is.each));
      complete = λ k other e.
          let p : Pushed names name k other = pushed names name k other e in
          let S : ℕ → Type 0 = λ c. StandsIn (get_or whole (hash_of other % c) []) k in
          subst S (sym kept)
          (elim p.either [
            | inl old ↦ still buckets at (bucket_number buckets other) k n within (is.complete k other old)
            | inr last ↦
                let L : Numbers → Type 0 = λ l. StandsIn l k in
                let same_place : at ≡ bucket_number buckets other = ap (bucket_number buckets) last.1 in
                let is_n : n ≡ k = sym count ∙ sym last.0 in
                let T : ℕ → Type 0 = λ j. StandsIn (get_or buckets at [] ++ n ∷ []) j in
                subst L (ap (λ c. get_or whole c []) same_place)
                (subst L (sym (get_or-set_same buckets at (get_or buckets at [] ++ n ∷ []) [] within)) (subst T is_n (stands_last (get_or buckets at []) n)))
          ]);
    }

-- one more item with a name
pub indexes_step : {A : Type 0} (f : A → Named) (xs : List A) (buckets : List Numbers) (i : ℕ) (x : A) → Indexes (map f (take i xs)) buckets → i < length xs → x ≡ get_or xs i x
    → Indexes (map f (take (i + 1) xs)) (with_number buckets (f x) i)
indexes_step f xs buckets i x is within read =
    let P : List Named → Type 0 = λ ns. Indexes ns (with_number buckets (f x) i) in
    let front : take (i + 1) xs ≡ take i xs ++ x ∷ [] = take_more xs i x within ∙ ap (λ y. take i xs ++ y ∷ []) (sym read) in
    let count : length (map f (take i xs)) ≡ i = length-map (take i xs) f ∙ length-take-le i xs (omega arith) in
    subst P (sym (ap (map f) front ∙ map-append f (take i xs) (x ∷ []))) (indexes_more (map f (take i xs)) buckets (f x) i is count)

-- ---- searches

-- the first place that passes, one further
position_by : (b : Bool) (o : Option ℕ) (k : ℕ) → b ≡ false → o ≡ Some k → cond b (Some 0) (option_map suc o) ≡ Some (suc k)
position_by b o k fails e = ap (λ c. cond c (Some 0) (option_map suc o)) fails ∙ ap (option_map suc) e

-- the first place whose item passes
position_is : {A : Type 0} (p : A → Bool) (xs : List A) (k : ℕ) (x : A) → slice_get xs k ≡ Some x → p x ≡ true → ((j : ℕ) (y : A) → j < k → slice_get xs j ≡ Some y → p y ≡ false) → position p xs ≡ Some k
position_is p [] k x e passes before = cc
position_is p (z ∷ zs) zero x e passes before =
    let same : z ≡ x = same_Some z x e in
    position_first p z zs ∙ ap (λ b. cond b (Some 0) (option_map suc (position p zs))) (ap p same ∙ passes)
position_is p (z ∷ zs) (suc k) x e passes before =
    position_first p z zs
    ∙ position_by (p z) (position p zs) k (before 0 z (omega arith) refl) (position_is p zs k x e passes (λ j y less there. before (suc j) y (omega arith) there))

-- where none passes, there is no place
position_none : {A : Type 0} (p : A → Bool) (xs : List A) → ((j : ℕ) (y : A) → slice_get xs j ≡ Some y → p y ≡ false) → position p xs ≡ None
position_none p [] all = refl
position_none p (z ∷ zs) all =
    position_first p z zs
    ∙ (ap (λ b. cond b (Some 0) (option_map suc (position p zs))) (all 0 z refl) ∙ ap (option_map suc) (position_none p zs (λ j y there. all (suc j) y there)))

-- those that stand first in a bucket don't pass
abbrev pub Passed : {A : Type 0} → (A → Bool) → List A → Numbers → ℕ → Type 0
Passed {A = A} p xs l i = (j : ℕ) → j < i → (x : A) → slice_get xs (get_or l j 0) ≡ Some x → p x ≡ false

-- one more doesn't pass
pub passed_more : {A : Type 0} (p : A → Bool) (xs : List A) (l : Numbers) (i : ℕ) (x : A) → Passed p xs l i → slice_get xs (get_or l i 0) ≡ Some x → p x ≡ false → Passed p xs l (i + 1)
passed_more p xs l i x before there fails j less y e =
    elim (cases_lt j i) [
      | inl old ↦ before j old y e
      | inr past ↦
          let at_it : j ≡ i = omega arith in
          let same : x ≡ y = same_Some x y (sym there ∙ (ap (λ k. slice_get xs (get_or l k 0)) (sym at_it) ∙ e)) in
          ap p (sym same) ∙ fails
    ]

-- a number in a bucket is a place of the list
pub place_there : {A : Type 0} (f : A → Named) (xs : List A) (buckets : List Numbers) (name : Named) (i : ℕ) → Indexes (map f xs) buckets → i < length (bucket_of buckets name)
    → get_or (bucket_of buckets name) i 0 < length xs
place_there f xs buckets name i is less =
    let below : get_or (bucket_of buckets name) i 0 < length (map f xs) = (is.each (bucket_number buckets name)).within i less in
    let count : length (map f xs) ≡ length xs = length-map xs f in
    omega arith

-- where an item passes, its number stands in the bucket of the name that the test asks for
stands : {A : Type 0} (p : A → Bool) (f : A → Named) (xs : List A) (buckets : List Numbers) (name : Named) (j : ℕ) (y : A) → Indexes (map f xs) buckets → ((z : A) → p z ≡ true → f z ≡ name)
    → slice_get xs j ≡ Some y → p y ≡ true → StandsIn (bucket_of buckets name) j
stands p f xs buckets name j y is asks there passes = is.complete j name (slice_get-map f xs j ∙ (ap (option_map f) there ∙ ap Some (asks y passes)))

-- what stands before a number of the bucket and passes would stand before it in the bucket
before_it : {A : Type 0} (p : A → Bool) (f : A → Named) (xs : List A) (buckets : List Numbers) (name : Named) (i j : ℕ) (y : A) → Indexes (map f xs) buckets → ((z : A) → p z ≡ true → f z ≡ name)
    → i < length (bucket_of buckets name) → Passed p xs (bucket_of buckets name) i → j < get_or (bucket_of buckets name) i 0 → slice_get xs j ≡ Some y → p y ≡ true → p y ≡ false
before_it p f xs buckets name i j y is asks less before earlier there passes =
    let s : StandsIn (bucket_of buckets name) j = stands p f xs buckets name j y is asks there passes in
    elim (cases_lt s.place i) [
      | inl old ↦ before s.place old y (ap (slice_get xs) s.is_it ∙ there)
      | inr past ↦
          elim (cases_eq s.place i) [
            | inl same ↦
                let at_it : get_or (bucket_of buckets name) i 0 ≡ j = ap (λ k. get_or (bucket_of buckets name) k 0) (sym same) ∙ s.is_it in
                absurd (omega arith)
            | inr other ↦
                let behind : get_or (bucket_of buckets name) i 0 < get_or (bucket_of buckets name) s.place 0 = (is.each (bucket_number buckets name)).ascending i s.place (omega arith) s.within in
                let at_it : get_or (bucket_of buckets name) s.place 0 ≡ j = s.is_it in
                absurd (omega arith)
          ]
    ]

-- what can't be true is false
by_test : (b : Bool) → (b ≡ true → b ≡ false) → b ≡ false
by_test true h = h refl
by_test false h = refl

-- the first number in a bucket whose item passes is the first of all
pub first_in_bucket : {A : Type 0} (p : A → Bool) (f : A → Named) (xs : List A) (buckets : List Numbers) (name : Named) (i : ℕ) (x : A) → Indexes (map f xs) buckets → ((z : A) → p z ≡ true → f z ≡ name)
    → i < length (bucket_of buckets name) → Passed p xs (bucket_of buckets name) i → slice_get xs (get_or (bucket_of buckets name) i 0) ≡ Some x → p x ≡ true
    → position p xs ≡ Some (get_or (bucket_of buckets name) i 0)
first_in_bucket p f xs buckets name i x is asks less before there passes =
    position_is p xs (get_or (bucket_of buckets name) i 0) x there passes
    (λ j y earlier e. by_test (p y) (λ it. before_it p f xs buckets name i j y is asks less before earlier e it))

-- where none in a bucket passes, none does
pub none_in_bucket : {A : Type 0} (p : A → Bool) (f : A → Named) (xs : List A) (buckets : List Numbers) (name : Named) (i : ℕ) → Indexes (map f xs) buckets → ((z : A) → p z ≡ true → f z ≡ name)
    → length (bucket_of buckets name) ≤ i → Passed p xs (bucket_of buckets name) i → position p xs ≡ None
none_in_bucket p f xs buckets name i is asks end before =
    position_none p xs
    (λ j y e. by_test (p y)
    (λ it.
    let s : StandsIn (bucket_of buckets name) j = stands p f xs buckets name j y is asks e it in
    let less : s.place < length (bucket_of buckets name) = s.within in
    before s.place (omega arith) y (ap (slice_get xs) s.is_it ∙ e)))

-- ---- what a test asks for

-- a field that fits has the name
pub field_asks : (name desc : Named) (z : FieldRecord) → is_field name desc (field_of_record z) ≡ true → z.name ≡ name
field_asks name desc z passes = same_bytes z.name name (and_parts (bytes_eq z.name name) (bytes_eq z.ty desc) passes).0

-- a method that fits has the name
method_named : (name desc : Named) (m : Method) → is_method name desc m ≡ true → m.name ≡ name
method_named name desc m passes =
    same_bytes m.name name (and_parts (bytes_eq m.name name) (bytes_eq m.desc desc) (and_parts (not (is_constructor m)) (bytes_eq m.name name && bytes_eq m.desc desc) passes).1).0

-- and so has one that a search by name takes
pub method_asks : (s : Sought) (name desc : Named) (z : MethodRecord) → asks_name s ≡ true → fits s name desc (method_of_record z) ≡ true → z.name ≡ name
method_asks sought.Method name desc z asks passes = method_named name desc (method_of_record z) passes
method_asks sought.Open name desc z asks passes =
    method_named name desc (method_of_record z) (and_parts (is_method name desc (method_of_record z)) (not (is_static (method_of_record z)) && not z.is_private) passes).0
method_asks sought.Constructor name desc z asks passes = cc

-- ---- all classes

-- what holds of each class and its index holds with one more
pub each_pushed : {X : Type 0} (P : ClassRecord → X → Type 0) (cs : List ClassRecord) (all : List X) (d : X) (i : ℕ) (item : ClassRecord) (b : X) → length all ≡ i
    → ((k : ℕ) (r : ClassRecord) → k < i → slice_get cs k ≡ Some r → P r (get_or all k d)) → i < length cs → item ≡ get_or cs i item → P item b
    → (k : ℕ) (r : ClassRecord) → k < i + 1 → slice_get cs k ≡ Some r → P r (get_or (all ++ b ∷ []) k d)
each_pushed {X = X} P cs all d i item b count each within read new k r less e =
    elim (cases_lt k i) [
      | inl old ↦
          let Q : X → Type 0 = λ x. P r x in
          subst Q (sym (get_or_append_left all (b ∷ []) d k (let l : k < length all = omega arith in l))) (each k r old e)
      | inr past ↦
          let at_it : i ≡ k = omega arith in
          let same : item ≡ r = same_Some item r (sym (slice_get_read cs (length cs) i item refl within read) ∙ (ap (slice_get cs) at_it ∙ e)) in
          let last : b ≡ get_or (all ++ b ∷ []) k d = sym (last_of all b d) ∙ ap (λ j. get_or (all ++ b ∷ []) j d) (count ∙ at_it) in
          let Q : ClassRecord → Type 0 = λ x. P x b in
          let R : X → Type 0 = λ x. P r x in
          subst R last (subst Q same new)
    ]

-- there are no more behind the first than in all
pub length_behind : {A : Type 0} (xs : List A) → length (behind_first xs) ≤ length xs
length_behind [] = omega arith
length_behind (x ∷ xs) = omega arith

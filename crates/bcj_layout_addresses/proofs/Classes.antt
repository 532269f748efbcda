-- A class of a list with distinct names, by its name and by its number.
use Rattle.std.proofs.Common.{◌≡◌, ◌+◌, ◌<◌, ◌≤◌, ℕ, suc, length, get_or, arith, Bool, cond, List, [], ◌∷◌, map, slice_get, find, position, Option, Some, None, refl, sym, ◌∙◌, ap, subst, inl, inr}
use Rattle.std.proofs.lemmas.Bool.{cases_Bool}
use Rattle.std.proofs.lemmas.Option.{slice_get-map, slice_get_within, get_or_from_slice_get}
use Rattle.std.specs.Option.{option_map, option_map_or}
use Rattle.std.specs.Str.{bytes_eq}
use Rattle.bcj_tables_rules.specs.declared.records.ClassRecord.{ClassRecord}
use Rattle.bcj_hier_rules.specs.declared.class_id.ClassId.{ClassId}
use Rattle.bcj_hier_rules.specs.Shapes.{Named, field_of_record}
use Rattle.bcj_hier_rules.specs.Heads.{is_called, name_of, AreDistinct}
use Rattle.bcj_hier_rules.specs.Trees.{loads}
use Rattle.bcj_hier_soundness.proofs.Distinct.{position_first, names_have_numbers}
use Rattle.bcj_layout_rules.specs.Members.{field_number}
use Rattle.bcj_layout_rules.specs.Rows.{Classes, mixture_of}
use Rattle.bcj_layout_rules.specs.Places.{record_of, index_of, class_text_at, class_statics_at, method_at, static_at}
use Rattle.bcj_layout_rules.specs.Entries.{field_offset}
use Rattle.bcj_layout_resolution.specs.Places.{heads_in}
use Rattle.bcj_layout_rows.proofs.ListLemmas.{position-made}
use Rattle.bcj_layout_addresses.specs.Addresses.{own_addresses, method_addresses, field_places}
use Rattle.bcj_layout_addresses.specs.Lists.{is_same_method, code_at, found_at, fields_by, by_number}
use Rattle.bcj_layout_addresses.proofs.Growing.{number_at, number_map}

-- ---- names

-- the head of a record stands where the record does
head_there : (cs : Classes) (k : ℕ) (c : ClassRecord) → slice_get cs k ≡ Some c → slice_get (heads_in cs) k ≡ Some c.head
head_there cs k c e = slice_get-map (λ r. r.head) cs k ∙ ap (option_map (λ r. r.head)) e

-- the name of a number is that of its record
pub name_there : (cs : Classes) (id : ClassId) (c : ClassRecord) → slice_get cs id.0 ≡ Some c → name_of (heads_in cs) id ≡ c.head.name
name_there cs id c e = ap (λ o. option_map_or (λ h. h.name) o []) (head_there cs id.0 c e)

-- a name has the number of its record
number_of_name : (cs : Classes) (k : ℕ) (c : ClassRecord) → AreDistinct (heads_in cs) → slice_get cs k ≡ Some c → position (λ r. bytes_eq r.head.name c.head.name) cs ≡ Some k
number_of_name cs k c distinct e =
    sym (position-made (λ (r : ClassRecord). r.head) (is_called c.head.name) cs) ∙ names_have_numbers (heads_in cs) k c.head distinct (head_there cs k c e)

-- the same, as the definitions of addresses ask for it
pub index_there : (cs : Classes) (k : ℕ) (c : ClassRecord) → AreDistinct (heads_in cs) → slice_get cs k ≡ Some c → index_of cs c.head.name ≡ k
index_there cs k c distinct e = ap (λ o. option_map_or (λ n. n) o 0) (number_of_name cs k c distinct e)

-- what stands at the first place that passes is found
by_place : {X : Type 0} (p : X → Bool) (x y : X) (xs : List X) (k : ℕ) (o : Option ℕ) → ((j : ℕ) → o ≡ Some j → slice_get xs j ≡ Some x → find p xs ≡ Some x)
    → option_map suc o ≡ Some k → slice_get (y ∷ xs) k ≡ Some x → find p xs ≡ Some x
by_place p x y xs k None again e there = cc
by_place p x y xs k (Some j) again e there =
    let next : suc j ≡ k = cc in
    let P : ℕ → Type 0 = λ i. slice_get (y ∷ xs) i ≡ Some x in
    again j refl (subst P (sym next) there)

found_there : {X : Type 0} (p : X → Bool) (xs : List X) (k : ℕ) (x : X) → position p xs ≡ Some k → slice_get xs k ≡ Some x → find p xs ≡ Some x
found_there p [] k x e there = cc
found_there p (y ∷ xs) k x e there =
    let first : cond (p y) (Some 0) (option_map suc (position p xs)) ≡ Some k = sym (position_first p y xs) ∙ e in
    elim (cases_Bool (p y)) [
      | inl it ↦
          let here : Some 0 ≡ Some k = ap (λ b. cond b (Some 0) (option_map suc (position p xs))) (sym it) ∙ first in
          let zero_it : 0 ≡ k = cc in
          let P : ℕ → Type 0 = λ i. slice_get (y ∷ xs) i ≡ Some x in
          ap (λ b. cond b (Some y) (find p xs)) it ∙ subst P (sym zero_it) there
      | inr other ↦
          let later : option_map suc (position p xs) ≡ Some k = ap (λ b. cond b (Some 0) (option_map suc (position p xs))) (sym other) ∙ first in
          ap (λ b. cond b (Some y) (find p xs)) other ∙ by_place p x y xs k (position p xs) (λ j ej tj. found_there p xs j x ej tj) later there
    ]

-- a name finds its record
pub record_there : (cs : Classes) (k : ℕ) (c : ClassRecord) → AreDistinct (heads_in cs) → slice_get cs k ≡ Some c → record_of cs c.head.name ≡ Some c
record_there cs k c distinct e = found_there (λ r. bytes_eq r.head.name c.head.name) cs k c (number_of_name cs k c distinct e) e

-- ---- all classes

-- where each class's code begins
abbrev pub BeginsText : Classes → Named → List ℕ → Type 0
BeginsText cs main text = (k : ℕ) → k ≤ length cs → slice_get text k ≡ Some (class_text_at cs main k)

-- where each class's static fields begin
abbrev pub BeginsStatics : Classes → Named → List ℕ → Type 0
BeginsStatics cs main statics = (k : ℕ) → k ≤ length cs → slice_get statics k ≡ Some (class_statics_at cs main k)

-- the word of a class in such a list
begin_there : (cs : Classes) (begins : List ℕ) (at : ℕ → ℕ) → ((k : ℕ) → k ≤ length cs → slice_get begins k ≡ Some (at k)) → (k : ℕ) (c : ClassRecord) → slice_get cs k ≡ Some c
    → get_or begins (0 + k) 0 ≡ at k
begin_there cs begins at each k c e =
    let inside : k < length cs = slice_get_within cs k c e in
    let zero_it : 0 + k ≡ k = omega arith in
    ap (λ n. get_or begins n 0) zero_it ∙ get_or_from_slice_get begins k (at k) 0 (each k (omega arith))

-- where the methods of a class are
pub own_made : (cs : Classes) (main : Named) (text : List ℕ) → BeginsText cs main text → (k : ℕ) (c : ClassRecord) → slice_get cs k ≡ Some c
    → slice_get (by_number (λ k c. map (code_at (get_or text k 0) c.methods) c.methods) 0 cs) k ≡ Some (own_addresses cs main k c)
own_made cs main text begins k c e =
    number_at (λ k c. map (code_at (get_or text k 0) c.methods) c.methods) 0 cs k c e
    ∙ ap (λ n. Some (map (code_at n c.methods) c.methods)) (begin_there cs text (class_text_at cs main) begins k c e)

-- where searches find them
pub found_made : (cs : Classes) (main : Named) (text : List ℕ) → AreDistinct (heads_in cs) → BeginsText cs main text
    → by_number (λ k c. map (found_at (get_or text k 0) c.methods) c.methods) 0 cs ≡ map (method_addresses cs main) cs
found_made cs main text distinct begins =
    number_map (λ k c. map (found_at (get_or text k 0) c.methods) c.methods) (method_addresses cs main) 0 cs
    (λ k c e.
    let index : k ≡ index_of cs c.head.name = sym (index_there cs k c distinct e) in
    let record_is : Some c ≡ record_of cs c.head.name = sym (record_there cs k c distinct e) in
    ap (λ n. map (found_at n c.methods) c.methods) (begin_there cs text (class_text_at cs main) begins k c e)
    ∙ λ i. map (λ m. option_map_or (λ r. option_map_or (method_at cs main (index i) r) (find (is_same_method m.name m.desc) r.methods) 0) (record_is i) 0) c.methods)

-- where the fields are
pub fields_made : (cs : Classes) (main : Named) (statics : List ℕ) → AreDistinct (heads_in cs) → BeginsStatics cs main statics
    → by_number (λ k c. fields_by (get_or statics k 0) cs c) 0 cs ≡ map (field_places cs main) cs
fields_made cs main statics distinct begins =
    number_map (λ k c. fields_by (get_or statics k 0) cs c) (field_places cs main) 0 cs
    (λ k c e.
    let index : k ≡ index_of cs c.head.name = sym (index_there cs k c distinct e) in
    let record_is : Some c ≡ record_of cs c.head.name = sym (record_there cs k c distinct e) in
    ap (λ n. fields_by n cs c) (begin_there cs statics (class_statics_at cs main) begins k c e)
    ∙ λ i. map
    (λ f. cond f.is_static (option_map_or (λ r. static_at cs main (index i) r f.name f.ty) (record_is i) 0)
    (cond (loads (mixture_of cs) c.head.name) (field_offset (field_number (mixture_of cs) c.head.name (field_of_record f))) 0))
    c.fields)

-- The method that is run, by the number of its record.
use Rattle.std.proofs.Common.{◌≡◌, ◌∙◌, ◌<◌, length, arith, sym, ap, refl, subst, ℕ, suc, Bool, cond, List, [], ◌∷◌, find, position, slice_get, Option, Some, None, Ok, Err, inl, inr, option_map}
use Rattle.std.proofs.lemmas.Bool.{cases_Bool}
use Rattle.std.proofs.lemmas.Option.{slice_get-map}
use Rattle.std.specs.Option.{option_map_or}
use Rattle.std.specs.Str.{bytes_eq}
use Rattle.bcj_tables_rules.specs.declared.records.ClassRecord.{ClassRecord}
use Rattle.bcj_tables_rules.specs.declared.records.MethodRecord.{MethodRecord}
use Rattle.bcj_hier_rules.specs.declared.link_error.LinkError.TheVariants as error
use Rattle.bcj_hier_rules.specs.Shapes.{Named}
use Rattle.bcj_hier_rules.specs.Heads.{AreDistinct, is_called, number_of}
use Rattle.bcj_hier_soundness.proofs.Distinct.{position_first, names_have_numbers}
use Rattle.bcj_layout_rules.specs.Rows.{Classes}
use Rattle.bcj_layout_rules.specs.Places.{record_of, index_of, method_at, is_main, main_descriptor}
use Rattle.bcj_layout_resolution.specs.Places.{heads_in}
use Rattle.bcj_layout_rows.proofs.ListLemmas.{position-made}
use Rattle.bcj_layout_entries.specs.Start.{address_taken, address_within, main_result}

-- what stands at the first place that passes is found
by-place : {X : Type 0} (p : X → Bool) (x y : X) (xs : List X) (k : ℕ) (o : Option ℕ) → ((j : ℕ) → o ≡ Some j → slice_get xs j ≡ Some x → find p xs ≡ Some x)
    → option_map suc o ≡ Some k → slice_get (y ∷ xs) k ≡ Some x → find p xs ≡ Some x
by-place p x y xs k None again e there = cc
by-place p x y xs k (Some j) again e there =
    let next : suc j ≡ k = cc in
    let P : ℕ → Type 0 = λ i. slice_get (y ∷ xs) i ≡ Some x in
    again j refl (subst P (sym next) there)

-- the same in a list of any length
found-there : {X : Type 0} (p : X → Bool) (xs : List X) (k : ℕ) (x : X) → position p xs ≡ Some k → slice_get xs k ≡ Some x → find p xs ≡ Some x
found-there p [] k x e there = cc
found-there p (y ∷ xs) k x e there =
    let first : cond (p y) (Some 0) (option_map suc (position p xs)) ≡ Some k = sym (position_first p y xs) ∙ e in
    elim (cases_Bool (p y)) [
      | inl it ↦
          let here : Some 0 ≡ Some k = ap (λ b. cond b (Some 0) (option_map suc (position p xs))) (sym it) ∙ first in
          let zero_it : 0 ≡ k = cc in
          let P : ℕ → Type 0 = λ i. slice_get (y ∷ xs) i ≡ Some x in
          ap (λ b. cond b (Some y) (find p xs)) it ∙ subst P (sym zero_it) there
      | inr other ↦
          let later : option_map suc (position p xs) ≡ Some k = ap (λ b. cond b (Some 0) (option_map suc (position p xs))) (sym other) ∙ first in
          ap (λ b. cond b (Some y) (find p xs)) other ∙ by-place p x y xs k (position p xs) (λ j ej tj. found-there p xs j x ej tj) later there
    ]

-- where none passes none is found
none-there : {X : Type 0} (p : X → Bool) (xs : List X) → position p xs ≡ None → find p xs ≡ None
none-there p [] e = refl
none-there p (y ∷ xs) e =
    let first : cond (p y) (Some 0) (option_map suc (position p xs)) ≡ None = sym (position_first p y xs) ∙ e in
    elim (cases_Bool (p y)) [
      | inl it ↦
          let here : ◌≡◌ {A = Option ℕ} (Some 0) None = ap (λ b. cond b (Some 0) (option_map suc (position p xs))) (sym it) ∙ first in cc
      | inr other ↦
          let later : option_map suc (position p xs) ≡ None = ap (λ b. cond b (Some 0) (option_map suc (position p xs))) (sym other) ∙ first in
          ap (λ b. cond b (Some y) (find p xs)) other ∙ none-there p xs (none-behind (position p xs) later)
    ]
  where
    none-behind : (o : Option ℕ) → option_map suc o ≡ None → o ≡ None
    none-behind None h = refl
    none-behind (Some k) h = cc

-- a class's record stands at the number of its name
number-there : (cs : Classes) (k : ℕ) (c : ClassRecord) → AreDistinct (heads_in cs) → slice_get cs k ≡ Some c → position (λ r. bytes_eq r.head.name c.head.name) cs ≡ Some k
number-there cs k c distinct e =
    sym (position-made (λ (r : ClassRecord). r.head) (is_called c.head.name) cs)
    ∙ names_have_numbers (heads_in cs) k c.head distinct (slice_get-map (λ r. r.head) cs k ∙ ap (option_map (λ r. r.head)) e)

-- without a record there is no such method
pub main-nowhere : (cs : Classes) (main : Named) → number_of (heads_in cs) main ≡ None → main_result cs main ≡ Err error.NoSuchMethod
main-nowhere cs main e =
    ap (address_within cs main)
    (none-there (λ r. bytes_eq r.head.name main) cs (sym (position-made (λ (r : ClassRecord). r.head) (is_called main) cs) ∙ e))

module _ (cs : Classes) (main : Named) (k : ℕ) (c : ClassRecord) (distinct : AreDistinct (heads_in cs)) (there : slice_get cs k ≡ Some c) (named : c.head.name ≡ main) where
  -- the record of the main class
  main-record : record_of cs main ≡ Some c
  main-record =
      let P : Named → Type 0 = λ name. record_of cs name ≡ Some c in
      subst P named (found-there (λ r. bytes_eq r.head.name c.head.name) cs k c (number-there cs k c distinct there) there)

  -- which stands at its number
  main-index : index_of cs main ≡ k
  main-index =
      let P : Named → Type 0 = λ name. index_of cs name ≡ k in
      subst P named (ap (λ o. option_map_or (λ n. n) o 0) (number-there cs k c distinct there))

  -- where it declares none, there is none
  pub main-missing : position (is_main (main_descriptor cs main)) c.methods ≡ None → main_result cs main ≡ Err error.NoSuchMethod
  main-missing e = ap (address_within cs main) main-record ∙ ap (address_taken cs main c) (none-there (is_main (main_descriptor cs main)) c.methods e)

  -- else the address is that of the first that is one
  pub main-taken : (n : ℕ) (m : MethodRecord) → position (is_main (main_descriptor cs main)) c.methods ≡ Some n → slice_get c.methods n ≡ Some m → main_result cs main ≡ Ok (method_at cs main k c m)
  main-taken n m e at =
      ap (address_within cs main) main-record
      ∙ (ap (address_taken cs main c) (found-there (is_main (main_descriptor cs main)) c.methods n m e at) ∙ ap (λ j. Ok (method_at cs main j c m)) main-index)

-- the class of a number, its record, and the place in it of the method that is run
pub record IsTaken (cs : Classes) (main : Named) (k : ℕ) (c : ClassRecord) (n : Option ℕ) : Type 0 where
  pub distinct : AreDistinct (heads_in cs)
  pub there : slice_get cs k ≡ Some c
  pub named : c.head.name ≡ main
  pub number : n ≡ position (is_main (main_descriptor cs main)) c.methods

-- a place is within the list
pub position-within : {X : Type 0} (p : X → Bool) (xs : List X) (k : ℕ) → position p xs ≡ Some k → k < length xs
position-within p [] k e = cc
position-within p (y ∷ xs) k e =
    let first : cond (p y) (Some 0) (option_map suc (position p xs)) ≡ Some k = sym (position_first p y xs) ∙ e in
    elim (cases_Bool (p y)) [
      | inl it ↦
          let here : Some 0 ≡ Some k = ap (λ b. cond b (Some 0) (option_map suc (position p xs))) (sym it) ∙ first in
          let zero_it : 0 ≡ k = cc in
          omega arith
      | inr other ↦ later (position p xs) (λ j. position-within p xs j) (ap (λ b. cond b (Some 0) (option_map suc (position p xs))) (sym other) ∙ first)
    ]
  where
    later : (o : Option ℕ) → ((j : ℕ) → o ≡ Some j → j < length xs) → option_map suc o ≡ Some k → k < suc (length xs)
    later None within h = cc
    later (Some j) within h =
        let next : suc j ≡ k = cc in
        let inside : j < length xs = within j refl in
        omega arith

-- What fields are worth needs the numbers of the fields that their initialisers name.
use Rattle.std.proofs.Common.{◌≡◌, ◌<◌, ℕ, zero, suc, cond, List, [], ◌∷◌, map, length, Option, Some, None, refl, sym, ◌∙◌, ap, subst, inl, inr, slice_get}
use Rattle.std.proofs.lemmas.Bool.{cases_Bool}
use Rattle.std.proofs.lemmas.Option.{slice_get_within}
use Rattle.std.specs.Option.{option_and_then, option_map_or}
use Rattle.bcj_parser_trees.specs.Trees.{PlainOption, absent, present}
use Rattle.bcj_decl_rules.specs.declared.value.Value.{Value}
use Rattle.bcj_decl_rules.specs.World.{Field, World}
use Rattle.bcj_decl_rules.specs.Constants.{of_type}
use Rattle.bcj_decl_rules.specs.function.Constants.{Known, value_in, initial_value}
use Rattle.bcj_decl_soundness.proofs.Constants.{Passed, passed}
use Rattle.bcj_decl_constants.specs.Needs.{fields_in, known_in, needs}
use Rattle.bcj_decl_constants.specs.Numbers.{EachOnce, meant, needs_with, needs_of, worth_of, worth}
use Rattle.bcj_decl_constants.specs.Waiting.{Table, list_at, IsKnownAt, AllAt}
use Rattle.bcj_decl_constants.proofs.Core.{Grows, IsWorth}
use Rattle.bcj_decl_constants.proofs.Strictness.{AllKnown, Agree, strict, agrees}
use Rattle.bcj_decl_constants.proofs.Tables.{known_at, known_is}

-- values of fields are values at their numbers
all_at : (fields : List Field) (vs : Table) (is : List ℕ) (fs : List Field) → EachOnce fields → map (slice_get fields) is ≡ map Some fs → AllKnown (known_in fields vs) fs → AllAt vs is
all_at fields vs [] fs once e all i m h = absurd (cc)
all_at fields vs (k ∷ is) [] once e all i m h = absurd (cc)
all_at fields vs (k ∷ is) (f ∷ fs) once e all zero m h =
    let at : (n : ℕ) × (slice_get fields n ≡ Some f) × (slice_get vs n ≡ Some (Some all.0.0)) = known_at fields vs f all.0.0 all.0.1 in
    let number : k ≡ m = cc in
    let first : slice_get fields k ≡ Some f = ap (λ l. elim l [ [] ↦ None | o ∷ os ↦ o ]) e in
    let same : at.0 ≡ k = once at.0 k f at.1 first in
    (all.0.0, subst (λ (n : ℕ). slice_get vs n ≡ Some (Some all.0.0)) (same ∙ number) at.2)
all_at fields vs (k ∷ is) (f ∷ fs) once e all (suc i) m h =
    let rest : map (slice_get fields) is ≡ map Some fs = ap (λ l. elim l [ [] ↦ map (slice_get fields) is | o ∷ os ↦ os ]) e in
    all_at fields vs is fs once rest all.1 i m h

-- tables that know all the numbers and grow agree on the fields
agree_at : (fields : List Field) (old new : Table) (is : List ℕ) (fs : List Field) → EachOnce fields → map (slice_get fields) is ≡ map Some fs → Grows old new → AllAt old is
    → Agree (known_in fields old) (known_in fields new) fs
agree_at fields old new is [] once e grows all = tt
agree_at fields old new [] (f ∷ fs) once e grows all = absurd (cc)
agree_at fields old new (k ∷ is) (f ∷ fs) once e grows all =
    let first : slice_get fields k ≡ Some f = ap (λ l. elim l [ [] ↦ None | o ∷ os ↦ o ]) e in
    let rest : map (slice_get fields) is ≡ map Some fs = ap (λ l. elim l [ [] ↦ map (slice_get fields) is | o ∷ os ↦ os ]) e in
    let known : IsKnownAt old k = all 0 k refl in (
      known_is fields old k f (Some known.0) once first known.1 ∙ sym (known_is fields new k f (Some known.0) once first (grows k known.0 known.1)),
      agree_at fields old new is fs once rest grows (λ i m h. all (suc i) m h),
    )

worth_strict : (w : World) (known : Known) (f : Field) (init : PlainOption) (v : Value) → worth_of w known f init ≡ Some v → AllKnown known (needs_with w f init)
worth_strict w known f absent v h = tt
worth_strict w known f (present e) v h =
    elim (cases_Bool f.is_final) [
      | inl final ↦
          let found : option_and_then (of_type f.ty) (value_in w known f.class e) ≡ Some v = ap (λ b. cond b (initial_value w known f (present e)) None) (sym final) ∙ h in
          let p : Passed (of_type f.ty) (value_in w known f.class e) v = passed _ _ v found in
          let P : List Field → Type 0 = AllKnown known in
          subst P (ap (λ b. cond b (needs w f.class e) []) (sym final)) (strict w known f.class e p.value p.given)
      | inr other ↦
          let wrong : None ≡ Some v = ap (λ b. cond b (initial_value w known f (present e)) None) (sym other) ∙ h in
          absurd (cc)
    ]

pub worth_agrees : (w : World) (known other : Known) (f : Field) (init : PlainOption) → Agree known other (needs_with w f init) → worth_of w known f init ≡ worth_of w other f init
worth_agrees w known other f absent p = refl
worth_agrees w known other f (present e) p =
    elim (cases_Bool f.is_final) [
      | inl final ↦
          let P : List Field → Type 0 = Agree known other in
          let named : Agree known other (needs w f.class e) = subst P (ap (λ b. cond b (needs w f.class e) []) final) p in
          ap (λ b. cond b (initial_value w known f (present e)) None) final
          ∙ (ap (option_and_then (of_type f.ty)) (agrees w known other f.class e named) ∙ ap (λ b. cond b (initial_value w other f (present e)) None) (sym final))
      | inr not_final ↦ ap (λ b. cond b (initial_value w known f (present e)) None) not_final ∙ ap (λ b. cond b (initial_value w other f (present e)) None) (sym not_final)
    ]

-- by what the two look-ups give
strict_by : (w : World) (known : Known) (o : Option Field) (i : Option PlainOption) (v : Value) → option_and_then (λ f. option_and_then (worth_of w known f) i) o ≡ Some v
    → AllKnown known (option_map_or (λ f. option_map_or (needs_with w f) i []) o [])
strict_by w known None i v h = absurd (cc)
strict_by w known (Some f) None v h = absurd (cc)
strict_by w known (Some f) (Some init) v h = worth_strict w known f init v h

agrees_by : (w : World) (known other : Known) (o : Option Field) (i : Option PlainOption) → Agree known other (option_map_or (λ f. option_map_or (needs_with w f) i []) o [])
    → option_and_then (λ f. option_and_then (worth_of w known f) i) o ≡ option_and_then (λ f. option_and_then (worth_of w other f) i) o
agrees_by w known other None i p = refl
agrees_by w known other (Some f) None p = refl
agrees_by w known other (Some f) (Some init) p = worth_agrees w known other f init p

pub is_worth : (w : World) (inits : List PlainOption) (ids : List (List ℕ)) → EachOnce (fields_in w) → ((n : ℕ) → meant w (list_at ids n) ≡ map Some (needs_of w inits n)) → IsWorth (worth w inits) (list_at ids)
is_worth w inits ids once means =
    record {
      strict = λ vs n v h. all_at (fields_in w) vs (list_at ids n) (needs_of w inits n) once (means n) (strict_by w (known_in (fields_in w) vs) (slice_get (fields_in w) n) (slice_get inits n) v h);
      agrees = λ old new n grows all. agrees_by w (known_in (fields_in w) old) (known_in (fields_in w) new) (slice_get (fields_in w) n) (slice_get inits n) (agree_at (fields_in w) old new (list_at ids n) (needs_of w inits n) once (means n) grows all);
    }

number_below : (fields : List Field) (is : List ℕ) (fs : List Field) → map (slice_get fields) is ≡ map Some fs → (i m : ℕ) → slice_get is i ≡ Some m → m < length fields
number_below fields [] fs e i m h = absurd (cc)
number_below fields (k ∷ is) [] e i m h = absurd (cc)
number_below fields (k ∷ is) (f ∷ fs) e zero m h =
    let number : k ≡ m = cc in
    let first : slice_get fields k ≡ Some f = ap (λ l. elim l [ [] ↦ None | o ∷ os ↦ o ]) e in
    subst (λ (n : ℕ). n < length fields) number (slice_get_within fields k f first)
number_below fields (k ∷ is) (f ∷ fs) e (suc i) m h =
    let rest : map (slice_get fields) is ≡ map Some fs = ap (λ l. elim l [ [] ↦ map (slice_get fields) is | o ∷ os ↦ os ]) e in
    number_below fields is fs rest i m h

pub needs_below : (w : World) (inits : List PlainOption) (ids : List (List ℕ)) → ((n : ℕ) → meant w (list_at ids n) ≡ map Some (needs_of w inits n)) → (n i m : ℕ) → slice_get (list_at ids n) i ≡ Some m → m < length (fields_in w)
needs_below w inits ids means n i m h = number_below (fields_in w) (list_at ids n) (needs_of w inits n) (means n) i m h

-- What holds of each of a list.
use Rattle.std.proofs.Common.{◌≡◌, refl, sym, ap, subst, ◌∙◌, inl, inr, Bool, true, false, cond, ◌&&◌, List, [], ◌∷◌, ◌++◌, map, filter, Option, Some, None, arith}
use Rattle.std.specs.List.{All, Contains, find, filter_map, flat_map, cons_option, list_all, list_any}
use Rattle.std.proofs.lemmas.Bool.{cases_Bool, and_parts, or_cases}
use Rattle.std.proofs.lemmas.List.Elements.{All-nil, All-cons, All-contains, Contains-append_right}
use Rattle.bcj_symbolic_check.specs.Typing.{Each, each_of_none, each_of_more}

-- it holds of the first
pub each_first : {A : Type 0} {P : A → Type 0} {x : A} {xs : List A} → Each P (x ∷ xs) → P x
each_first (each_of_more p r) = p

-- and of those behind it
pub each_behind : {A : Type 0} {P : A → Type 0} {x : A} {xs : List A} → Each P (x ∷ xs) → Each P xs
each_behind (each_of_more p r) = r

-- what follows from it holds of each
pub each_weaker : {A : Type 0} {P Q : A → Type 0} {xs : List A} → ((x : A) → P x → Q x) → Each P xs → Each Q xs
each_weaker f each_of_none = each_of_none
each_weaker f (each_of_more p r) = each_of_more (f _ p) (each_weaker f r)

-- two things that hold of each
pub each_both : {A : Type 0} {P Q : A → Type 0} {xs : List A} → Each P xs → Each Q xs → Each (λ x. P x × Q x) xs
each_both each_of_none each_of_none = each_of_none
each_both (each_of_more p r) (each_of_more q s) = each_of_more (p, q) (each_both r s)

-- of two lists, one behind the other
pub each_append : {A : Type 0} {P : A → Type 0} {xs ys : List A} → Each P xs → Each P ys → Each P (xs ++ ys)
each_append each_of_none e = e
each_append (each_of_more p r) e = each_of_more p (each_append r e)

-- of the second
pub each_right : {A : Type 0} {P : A → Type 0} (xs ys : List A) → Each P (xs ++ ys) → Each P ys
each_right [] ys e = e
each_right (x ∷ xs) ys (each_of_more p r) = each_right xs ys r

-- of what a function makes of each
pub each_map : {A B : Type 0} {P : B → Type 0} (f : A → B) {xs : List A} → Each (λ x. P (f x)) xs → Each P (map f xs)
each_map f each_of_none = each_of_none
each_map f (each_of_more p r) = each_of_more p (each_map f r)

-- of those that pass a test
pub each_filter : {A : Type 0} {P : A → Type 0} (p : A → Bool) {xs : List A} → Each P xs → Each P (filter p xs)
each_filter p each_of_none = each_of_none
each_filter {A} {P} p (each_of_more {x = x} {xs = xs} h r) =
    elim (p x) as (λ b. Each P (cond b (x ∷ filter p xs) (filter p xs))) [ true ↦ each_of_more h (each_filter p r) | false ↦ each_filter p r ]

-- of the lists that each becomes
pub each_flat_map : {A B : Type 0} {P : B → Type 0} (f : A → List B) {xs : List A} → Each (λ x. Each P (f x)) xs → Each P (flat_map f xs)
each_flat_map f each_of_none = each_of_none
each_flat_map f (each_of_more p r) = each_append p (each_flat_map f r)

-- what is picked from each
pub each_picked : {A B : Type 0} {P : B → Type 0} (f : A → Option B) {xs : List A} → Each (λ x. (y : B) → f x ≡ Some y → P y) xs → Each P (filter_map f xs)
each_picked f each_of_none = each_of_none
each_picked {A} {B} {P} f (each_of_more {x = x} {xs = xs} p r) = by (f x) refl (each_picked f r) where
  by : (o : Option B) → f x ≡ o → Each P (filter_map f xs) → Each P (cons_option o (filter_map f xs))
  by None e k = k
  by (Some y) e k = each_of_more (p y e) k

-- of the one that is found
pub each_found : {A : Type 0} {P : A → Type 0} (p : A → Bool) {xs : List A} (x : A) → Each P xs → find p xs ≡ Some x → P x
each_found p x each_of_none e = cc
each_found {A} {P} p x (each_of_more {x = y} {xs = ys} h r) e =
    elim (cases_Bool (p y)) [
      | inl it ↦
          let f : Some y ≡ Some x = ap (λ b. cond b (Some y) (find p ys)) (sym it) ∙ e in
          let g : y ≡ x = cc in
          subst P g h
      | inr other ↦ each_found p x r (ap (λ b. cond b (Some y) (find p ys)) (sym other) ∙ e)
    ]

-- by place
each_at : {A : Type 0} {P : A → Type 0} {xs : List A} → Each P xs → All P xs
each_at {A} {P} each_of_none = All-nil P
each_at {A} {P} (each_of_more {x = x} {xs = xs} p r) = All-cons P x xs p (each_at r)

-- of one that the list contains
pub each_contained : {A : Type 0} {P : A → Type 0} {xs : List A} (x : A) → Each P xs → Contains xs x → P x
each_contained {A} {P} {xs} x e c = All-contains P xs x (each_at e) c

-- what is found is contained
pub found_contained : {A : Type 0} (p : A → Bool) (xs : List A) (x : A) → find p xs ≡ Some x → Contains xs x
found_contained p [] x e = cc
found_contained {A} p (y ∷ ys) x e =
    elim (cases_Bool (p y)) [
      | inl it ↦
          let f : Some y ≡ Some x = ap (λ b. cond b (Some y) (find p ys)) (sym it) ∙ e in
          let g : y ≡ x = cc in
          (0, omega arith, g)
      | inr other ↦ Contains-append_right (y ∷ []) ys x (found_contained p ys x (ap (λ b. cond b (Some y) (find p ys)) (sym other) ∙ e))
    ]

-- one that passes a test is among them
pub record Passing {A : Type 0} (P : A → Type 0) (p : A → Bool) : Type 0 where
  pub item : A
  pub holds : P item
  pub passes : p item ≡ true

-- where some one passes a test
pub each_any : {A : Type 0} {P : A → Type 0} (p : A → Bool) {xs : List A} → Each P xs → list_any p xs ≡ true → Passing P p
each_any p each_of_none h = cc
each_any p (each_of_more {x = x} {xs = xs} k r) h = elim (or_cases (p x) (list_any p xs) h) [ inl it ↦ record { item = x; holds = k; passes = it } | inr other ↦ each_any p r other ]

-- a test of two lists, one behind the other
pub all_parts : {A : Type 0} (p : A → Bool) (xs ys : List A) → list_all p (xs ++ ys) ≡ true → (list_all p xs ≡ true) × (list_all p ys ≡ true)
all_parts p [] ys h = (refl, h)
all_parts p (x ∷ xs) ys h =
    let a = and_parts (p x) (list_all p (xs ++ ys)) h in
    let b = all_parts p xs ys a.1 in
    (ap (λ c. c && list_all p xs) a.0 ∙ b.0, b.1)

-- a test of the lists that each becomes
pub all_of_each : {A B : Type 0} (p : B → Bool) (f : A → List B) (xs : List A) → list_all p (flat_map f xs) ≡ true → Each (λ x. list_all p (f x) ≡ true) xs
all_of_each p f [] h = each_of_none
all_of_each p f (x ∷ xs) h = let a = all_parts p (f x) (flat_map f xs) h in each_of_more a.0 (all_of_each p f xs a.1)

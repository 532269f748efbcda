-- Places of a world, and where the type of a place stands.
use Rattle.std.proofs.Common.{◌≡◌, ◌<◌, ◌+◌, ℕ, cond, List, [], ◌∷◌, length, slice_get, unwrap_or, Option, Some, None, option_map, inl, inr, refl, sym, ap, subst, ◌∙◌, arith}
use Rattle.std.proofs.lemmas.Bool.{cases_Bool}
use Rattle.std.proofs.lemmas.List.{length-map}
use Rattle.std.proofs.lemmas.Option.{slice_get-map}
use Rattle.std.proofs.lemmas.List.Elements.{Contains-append_left, Contains-append_right, Contains-push}
use Rattle.std.specs.List.{Contains, filter_map, cons_option}
use Rattle.std.specs.Str.{bytes_eq}
use Rattle.bcj_decl_rules.specs.World.{Named, Declared, World}
use Rattle.bcj_decl_rules.specs.Subtypes.{direct_supertypes}
use Rattle.bcj_decl_listing.specs.Places.{place_from, place_of, places_of, steps_from, steps_of_world}
use Rattle.bcj_decl_graph.specs.Reached.{steps_of, AreBelow, IsWithin}
use Rattle.bcj_decl_graph.proofs.Membership.{none_in_nil, first_or_other}

-- a place is that of a type of the world
place_below : (i : ℕ) (w : World) (name : Named) (k : ℕ) → place_from i w name ≡ Some k → k < i + length w
place_below i [] name k e = cc
place_below i (t ∷ ts) name k e =
    elim (cases_Bool (bytes_eq t.name name)) [
      | inl it ↦
          let here_it : Some i ≡ Some k = ap (λ b. cond b (Some i) (place_from (i + 1) ts name)) (sym it) ∙ e in
          let same : i ≡ k = cc in
          omega (arith, same)
      | inr other ↦
          let further : k < (i + 1) + length ts = place_below (i + 1) ts name k (ap (λ b. cond b (Some i) (place_from (i + 1) ts name)) (sym other) ∙ e) in
          omega arith
    ]

pub place_of_below : (w : World) (name : Named) (k : ℕ) → place_of w name ≡ Some k → k < length w
place_of_below w name k e = let below : k < 0 + length w = place_below 0 w name k e in omega arith

-- what a filter gives comes from one of the items
pub record GivenBy {A B : Type 0} (f : A → Option B) (xs : List A) (y : B) : Type 0 where
  pub item : A
  pub among : Contains xs item
  pub gives : f item ≡ Some y

given_here : {A B : Type 0} (f : A → Option B) (x : A) (xs : List A) (y : B) → f x ≡ Some y → GivenBy f (x ∷ xs) y
given_here f x xs y e = record { item = x; among = Contains-append_left (x ∷ []) xs x (Contains-push [] x); gives = e }

given_further : {A B : Type 0} (f : A → Option B) (x : A) (xs : List A) (y : B) → GivenBy f xs y → GivenBy f (x ∷ xs) y
given_further f x xs y g = record { item = g.item; among = Contains-append_right (x ∷ []) xs g.item g.among; gives = g.gives }

given_by : {A B : Type 0} (f : A → Option B) (x : A) (xs : List A) (y : B) (o : Option B) → f x ≡ o → ((z : B) → Contains (filter_map f xs) z → GivenBy f xs z) → Contains (cons_option o (filter_map f xs)) y → GivenBy f (x ∷ xs) y
given_by f x xs y None e rest h = given_further f x xs y (rest y h)
given_by f x xs y (Some z) e rest h =
    elim (first_or_other z (filter_map f xs) y h) [
      | inl it ↦ given_here f x xs y (e ∙ ap Some it)
      | inr other ↦ given_further f x xs y (rest y other)
    ]

pub given_item : {A B : Type 0} (f : A → Option B) (xs : List A) (y : B) → Contains (filter_map f xs) y → GivenBy f xs y
given_item f [] y h = absurd (none_in_nil y h)
given_item f (x ∷ xs) y h = given_by f x xs y (f x) refl (λ z. given_item f xs z) h

-- and an item gives what the filter gives
kept_by : {B : Type 0} (o : Option B) (ys : List B) (y : B) → Contains ys y → Contains (cons_option o ys) y
kept_by None ys y h = h
kept_by (Some z) ys y h = Contains-append_right (z ∷ []) ys y h

pub item_given : {A B : Type 0} (f : A → Option B) (xs : List A) (x : A) (y : B) → Contains xs x → f x ≡ Some y → Contains (filter_map f xs) y
item_given f [] x y h e = absurd (none_in_nil x h)
item_given {A = A} {B = B} f (a ∷ rest) x y h e =
    elim (first_or_other a rest x h) [
      | inl it ↦
          let P : Option B → Type 0 = λ o. Contains (cons_option o (filter_map f rest)) y in
          subst P (sym (ap f it ∙ e)) (Contains-append_left (y ∷ []) (filter_map f rest) y (Contains-push [] y))
      | inr other ↦ kept_by (f a) (filter_map f rest) y (item_given f rest x y other e)
    ]

-- places of names are places of the world
pub places_below : (w : World) (names : List Named) → AreBelow (length w) (places_of w names)
places_below w names k h = let g : GivenBy (place_of w) names k = given_item (place_of w) names k h in place_of_below w g.item k g.gives

-- ---- the steps of a world

pub steps_by : (w : World) (j : ℕ) (o : Option Declared) → slice_get w j ≡ o → steps_of (steps_of_world w) j ≡ unwrap_or (option_map (steps_from w) o) []
steps_by w j o e = ap (λ p. unwrap_or p []) (slice_get-map (steps_from w) w j) ∙ ap (λ p. unwrap_or (option_map (steps_from w) p) []) e

within_by : (w : World) (o : Option Declared) → AreBelow (length w) (unwrap_or (option_map (steps_from w) o) [])
within_by w None k h = absurd (none_in_nil k h)
within_by w (Some t) k h = places_below w (direct_supertypes t) k h

pub steps_length : (w : World) → length (steps_of_world w) ≡ length w
steps_length w = length-map w (steps_from w)

-- the steps of a world lead to its places
pub world_within : (w : World) → IsWithin (steps_of_world w)
world_within w j k h =
    let P : List ℕ → Type 0 = λ l. Contains l k in
    let below : k < length w = within_by w (slice_get w j) k (subst P (steps_by w j (slice_get w j) refl) h) in
    omega (arith, steps_length w)

-- what a search requires of steps, and of where it starts
pub steps_within : (w : World) (steps : List (List ℕ)) → steps ≡ steps_of_world w → IsWithin steps
steps_within w steps e = let P : List (List ℕ) → Type 0 = λ s. IsWithin s in subst P (sym e) (world_within w)

pub starts_within : (w : World) (steps : List (List ℕ)) (names : List Named) (from : List ℕ) → steps ≡ steps_of_world w → from ≡ places_of w names → AreBelow (length steps) from
starts_within w steps names from e at k h =
    let P : List ℕ → Type 0 = λ l. Contains l k in
    let below : k < length w = places_below w names k (subst P at h) in
    omega (arith, steps_length w, ap length e)

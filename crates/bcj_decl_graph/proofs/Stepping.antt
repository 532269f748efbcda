-- The types at the places of a world, and the steps between them.
use Rattle.std.proofs.Common.{◌≡◌, ℕ, cond, List, [], ◌∷◌, slice_get, Option, Some, None, inl, inr, refl, sym, ap, subst, ◌∙◌, ◌-◌, arith}
use Rattle.std.proofs.lemmas.Bool.{cases_Bool}
use Rattle.std.proofs.lemmas.Slice.Eq.{bytes_eq-Decides}
use Rattle.std.specs.List.{Contains}
use Rattle.std.specs.Str.{bytes_eq}
use Rattle.bcj_decl_rules.specs.World.{Named, Declared, World, type_named}
use Rattle.bcj_decl_rules.specs.Subtypes.{direct_supertypes}
use Rattle.bcj_decl_listing.specs.Places.{place_of, steps_from, steps_of_world}
use Rattle.bcj_decl_listing.proofs.PlaceLemmas.{type_at, found_none}
use Rattle.bcj_decl_graph.specs.Reached.{steps_of}
use Rattle.bcj_decl_graph.proofs.Membership.{none_in_nil}
use Rattle.bcj_decl_graph.proofs.Within.{steps_by, item_given}

-- the type of a name is that at its place
pub type_of_place : (w : World) (name : Named) (k : ℕ) → place_of w name ≡ Some k → type_named w name ≡ slice_get w k
type_of_place w name k e =
    let same : k - 0 ≡ k = omega arith in
    let found : slice_get w (k - 0) ≡ type_named w name = rw e at (type_at 0 w name) in
    sym found ∙ ap (slice_get w) same

-- a type with its place
pub record Placed (w : World) (name : Named) : Type 0 where
  pub type : Declared
  pub named : type_named w name ≡ Some type
  pub place : ℕ
  pub at : place_of w name ≡ Some place
  pub stands : slice_get w place ≡ Some type

placed_by : (w : World) (name : Named) (t : Declared) → type_named w name ≡ Some t → (o : Option ℕ) → place_of w name ≡ o → Placed w name
placed_by w name t it None e = let none : None ≡ Some t = found_none w name e ∙ it in absurd (cc)
placed_by w name t it (Some k) e = record { type = t; named = it; place = k; at = e; stands = sym (type_of_place w name k e) ∙ it }

-- a name of a type has a place
pub placed : (w : World) (name : Named) (t : Declared) → type_named w name ≡ Some t → Placed w name
placed w name t it = placed_by w name t it (place_of w name) refl

-- what is found by a name has it
pub found_name : (w : World) (name : Named) (t : Declared) → type_named w name ≡ Some t → t.name ≡ name
found_name [] name t e = cc
found_name (u ∷ us) name t e =
    elim (cases_Bool (bytes_eq u.name name)) [
      | inl it ↦
          let here_it : Some u ≡ Some t = ap (λ b. cond b (Some u) (type_named us name)) (sym it) ∙ e in
          let named : u ≡ t = cc in
          sym (ap (λ v. v.name) named) ∙ (bytes_eq-Decides u.name name).0 it
      | inr other ↦ found_name us name t (ap (λ b. cond b (Some u) (type_named us name)) (sym other) ∙ e)
    ]

-- the names of one place are the same
pub same_name : (w : World) (a b : Named) (k : ℕ) (t : Declared) → type_named w a ≡ Some t → place_of w a ≡ Some k → place_of w b ≡ Some k → a ≡ b
same_name w a b k t it at_a at_b =
    let other : type_named w b ≡ Some t = type_of_place w b k at_b ∙ (sym (type_of_place w a k at_a) ∙ it) in
    sym (found_name w a t it) ∙ found_name w b t other

-- a step from a place is one of the type that stands there
pub record StepFrom (w : World) (j k : ℕ) : Type 0 where
  pub type : Declared
  pub stands : slice_get w j ≡ Some type
  pub leads : Contains (steps_from w type) k

step_by : (w : World) (j k : ℕ) (o : Option Declared) → slice_get w j ≡ o → Contains (steps_of (steps_of_world w) j) k → StepFrom w j k
step_by w j k None e h = let P : List ℕ → Type 0 = λ l. Contains l k in absurd (none_in_nil k (subst P (steps_by w j None e) h))
step_by w j k (Some t) e h = let P : List ℕ → Type 0 = λ l. Contains l k in record { type = t; stands = e; leads = subst P (steps_by w j (Some t) e) h }

pub step_from : (w : World) (j k : ℕ) → Contains (steps_of (steps_of_world w) j) k → StepFrom w j k
step_from w j k h = step_by w j k (slice_get w j) refl h

-- and a type steps from its place
pub steps_at : (w : World) (j k : ℕ) (t : Declared) → slice_get w j ≡ Some t → Contains (steps_from w t) k → Contains (steps_of (steps_of_world w) j) k
steps_at w j k t e h = let P : List ℕ → Type 0 = λ l. Contains l k in subst P (sym (steps_by w j (Some t) e)) h

-- a type steps to the place of each supertype that it names
pub steps_to : (w : World) (t : Declared) (name : Named) (k : ℕ) → Contains (direct_supertypes t) name → place_of w name ≡ Some k → Contains (steps_from w t) k
steps_to w t name k among at = item_given (place_of w) (direct_supertypes t) name k among at

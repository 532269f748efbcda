-- A type is found by the place of its name.
use Rattle.std.proofs.Common.{◌≡◌, ◌+◌, ◌-◌, ◌≤◌, List, [], ◌∷◌, map, ℕ, suc, zero, Bool, true, false, cond, Option, Some, None, refl, sym, ◌∙◌, ap, inl, inr, arith, slice_get}
use Rattle.std.proofs.lemmas.Bool.{cases_Bool}
use Rattle.std.specs.Option.{option_map}
use Rattle.std.specs.Str.{bytes_eq}
use Rattle.bcj_decl_rules.specs.World.{Named, Declared, World, type_named}
use Rattle.bcj_decl_listing.specs.Places.{place_from, place_of}

-- the type that stands at a place counted from i
abbrev at_place : ℕ → World → Option ℕ → Option Declared
at_place i w None = None
at_place i w (Some k) = slice_get w (k - i)

place_above : (i : ℕ) (w : World) (name : Named) (k : ℕ) → place_from i w name ≡ Some k → i ≤ k
place_above i [] name k h = cc
place_above i (t ∷ ts) name k h =
    elim (cases_Bool (bytes_eq t.name name)) [
      | inl it ↦
          let here_it : Some i ≡ Some k = ap (λ b. cond b (Some i) (place_from (i + 1) ts name)) (sym it) ∙ h in
          let same : i ≡ k = cc in
          omega (arith, same)
      | inr other ↦
          let further : i + 1 ≤ k = place_above (i + 1) ts name k (ap (λ b. cond b (Some i) (place_from (i + 1) ts name)) (sym other) ∙ h) in
          omega arith
    ]

-- one place further on
at_next : (i : ℕ) (t : Declared) (ts : World) (name : Named) (o : Option ℕ) → place_from (i + 1) ts name ≡ o → at_place i (t ∷ ts) o ≡ at_place (i + 1) ts o
at_next i t ts name None e = refl
at_next i t ts name (Some k) e =
    let above : i + 1 ≤ k = place_above (i + 1) ts name k e in
    let one : k - i ≡ suc (k - (i + 1)) = omega arith in
    ap (slice_get (t ∷ ts)) one

type_at_by : (i : ℕ) (t : Declared) (ts : World) (name : Named) (b : Bool) → bytes_eq t.name name ≡ b → at_place (i + 1) ts (place_from (i + 1) ts name) ≡ type_named ts name
    → at_place i (t ∷ ts) (place_from i (t ∷ ts) name) ≡ type_named (t ∷ ts) name
type_at_by i t ts name true it rest =
    let here_it : place_from i (t ∷ ts) name ≡ Some i = ap (λ b. cond b (Some i) (place_from (i + 1) ts name)) it in
    let zero_is : i - i ≡ 0 = omega arith in
    ap (at_place i (t ∷ ts)) here_it ∙ (ap (slice_get (t ∷ ts)) zero_is ∙ sym (ap (λ b. cond b (Some t) (type_named ts name)) it))
type_at_by i t ts name false it rest =
    let further : place_from i (t ∷ ts) name ≡ place_from (i + 1) ts name = ap (λ b. cond b (Some i) (place_from (i + 1) ts name)) it in
    ap (at_place i (t ∷ ts)) further ∙ (at_next i t ts name _ refl ∙ (rest ∙ sym (ap (λ b. cond b (Some t) (type_named ts name)) it)))

pub type_at : (i : ℕ) (w : World) (name : Named) → at_place i w (place_from i w name) ≡ type_named w name
type_at i [] name = refl
type_at i (t ∷ ts) name = type_at_by i t ts name (bytes_eq t.name name) refl (type_at (i + 1) ts name)

pub found_none : (w : World) (name : Named) → place_of w name ≡ None → None ≡ type_named w name
found_none w name e = ap (at_place 0 w) (sym e) ∙ type_at 0 w name

slice_get-map : {A B : Type 0} (f : A → B) (xs : List A) (k : ℕ) → option_map f (slice_get xs k) ≡ slice_get (map f xs) k
slice_get-map f [] k = refl
slice_get-map f (x ∷ xs) zero = refl
slice_get-map f (x ∷ xs) (suc k) = slice_get-map f xs k

pub found_some : {A : Type 0} (f : A → Declared) (xs : List A) (name : Named) (k : ℕ) → place_of (map f xs) name ≡ Some k → option_map f (slice_get xs k) ≡ type_named (map f xs) name
found_some f xs name k e =
    let same : k - 0 ≡ k = omega arith in
    slice_get-map f xs k ∙ (ap (slice_get (map f xs)) (sym same) ∙ (ap (at_place 0 (map f xs)) (sym e) ∙ type_at 0 (map f xs) name))

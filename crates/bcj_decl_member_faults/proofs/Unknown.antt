-- The first unknown name of a list.
use Rattle.std.proofs.Common.{◌≡◌, ◌+◌, ℕ, Bool, true, false, not, ◌||◌, cond, List, [], ◌∷◌, ◌++◌, Option, Some, inl, inr, refl, sym, ◌∙◌, ap}
use Rattle.std.proofs.lemmas.Bool.{cases_Bool}
use Rattle.std.specs.Option.{is_some, option_or}
use Rattle.std.specs.Str.{bytes_eq}
use Rattle.bcj_decl_rules.specs.World.{Named, World, has_type}
use Rattle.bcj_decl_rules.specs.Faults.{first_unknown}
use Rattle.bcj_decl_listing.specs.Places.{place_from, place_of}

-- the first type or a later one
by_test : (i : ℕ) (b has : Bool) (o : Option ℕ) → has ≡ is_some o → (b || has) ≡ is_some (cond b (Some i) o)
by_test i true has o e = refl
by_test i false has o e = e

-- counted from a number
place_is : (i : ℕ) (w : World) (name : Named) → has_type w name ≡ is_some (place_from i w name)
place_is i [] name = refl
place_is i (t ∷ ts) name = by_test i (bytes_eq t.name name) (has_type ts name) (place_from (i + 1) ts name) (place_is (i + 1) ts name)

-- a name that has a place is known, one that has none isn't
pub known_place : (w : World) (name : Named) → has_type w name ≡ is_some (place_of w name)
known_place w name = place_is 0 w name

-- behind a known name
pub known_first : (w : World) (name : Named) (names : List Named) → not (has_type w name) ≡ false → first_unknown w (name ∷ names) ≡ first_unknown w names
known_first w name names e = ap (λ b. cond b (Some name) (first_unknown w names)) e

-- at an unknown name
pub unknown_first : (w : World) (name : Named) (names : List Named) → not (has_type w name) ≡ true → first_unknown w (name ∷ names) ≡ Some name
unknown_first w name names e = ap (λ b. cond b (Some name) (first_unknown w names)) e

-- the first of two lists
pub unknown-append : (w : World) (xs ys : List Named) → first_unknown w (xs ++ ys) ≡ option_or (first_unknown w xs) (first_unknown w ys)
unknown-append w [] ys = refl
unknown-append w (x ∷ xs) ys =
    elim (cases_Bool (not (has_type w x))) [
      | inl it ↦ unknown_first w x (xs ++ ys) it ∙ sym (ap (λ o. option_or o (first_unknown w ys)) (unknown_first w x xs it))
      | inr other ↦ known_first w x (xs ++ ys) other ∙ (unknown-append w xs ys ∙ sym (ap (λ o. option_or o (first_unknown w ys)) (known_first w x xs other)))
    ]

-- Names that stand twice, by the names that were seen; and whether a name has a place.
use Rattle.std.proofs.Common.{◌≡◌, ◌<◌, List, [], ◌∷◌, ◌++◌, ℕ, suc, ◌+◌, length, drop, get_or, Bool, true, false, not, cond, ◌||◌, refl, sym, ◌∙◌, ap, inl, inr, Option, None, Some, add-one}
use Rattle.std.proofs.Math.Seq.{drop-cons}
use Rattle.std.proofs.lemmas.List.Folds.{find-append}
use Rattle.std.proofs.lemmas.Bool.{cases_Bool}
use Rattle.std.specs.List.{list_any}
use Rattle.std.specs.Option.{is_some, option_or}
use Rattle.std.specs.Str.{bytes_eq}
use Rattle.bcj_decl_rules.specs.World.{Named, World, has_type}
use Rattle.bcj_decl_rules.specs.Faults.{stands_twice, first_unknown}
use Rattle.bcj_decl_listing.specs.Places.{place_from}

-- one of the names was seen, or stands twice among them
abbrev pub stands_again : (Named → Bool) → List Named → Bool
stands_again seen names = list_any seen names || stands_twice names

pub again_seen : (seen : Named → Bool) (name : Named) (names : List Named) → seen name ≡ true → stands_again seen (name ∷ names) ≡ true
again_seen seen name names e = ap (λ b. (b || list_any seen names) || stands_twice (name ∷ names)) e

regrouped : (a b c : Bool) → ((a || b) || c) ≡ (b || (a || c))
regrouped true true c = refl
regrouped true false c = refl
regrouped false true c = refl
regrouped false false c = refl

either_or : (a b c d : Bool) → (cond a true b || (c || d)) ≡ ((a || c) || (b || d))
either_or true true c d = refl
either_or true false true d = refl
either_or true false false d = refl
either_or false true true d = refl
either_or false true false d = refl
either_or false false c d = refl

-- seen or this name
either : (seen more : Named → Bool) (name : Named) → ((q : Named) → more q ≡ cond (bytes_eq name q) true (seen q)) → (names : List Named)
    → list_any more names ≡ (list_any (bytes_eq name) names || list_any seen names)
either seen more name grows [] = refl
either seen more name grows (n ∷ ns) =
    ap (λ b. b || list_any more ns) (grows n)
    ∙ (ap (λ b. cond (bytes_eq name n) true (seen n) || b) (either seen more name grows ns) ∙ either_or (bytes_eq name n) (seen n) (list_any (bytes_eq name) ns) (list_any seen ns))

pub again_new : (seen more : Named → Bool) (name : Named) (names : List Named) → seen name ≡ false → ((q : Named) → more q ≡ cond (bytes_eq name q) true (seen q))
    → stands_again seen (name ∷ names) ≡ stands_again more names
again_new seen more name names new grows =
    ap (λ b. (b || list_any seen names) || stands_twice (name ∷ names)) new
    ∙ sym (ap (λ b. b || stands_twice names) (either seen more name grows names) ∙ regrouped (list_any (bytes_eq name) names) (list_any seen names) (stands_twice names))

none_seen : (seen : Named → Bool) → ((q : Named) → seen q ≡ false) → (names : List Named) → list_any seen names ≡ false
none_seen seen none [] = refl
none_seen seen none (n ∷ ns) = ap (λ b. b || list_any seen ns) (none n) ∙ none_seen seen none ns

pub again_first : (seen : Named → Bool) → ((q : Named) → seen q ≡ false) → (names : List Named) → stands_again seen names ≡ stands_twice names
again_first seen none names = ap (λ b. b || stands_twice names) (none_seen seen none names)

-- a name has a place where a type has the name
pub known_by_place : (i : ℕ) (w : World) (name : Named) → is_some (place_from i w name) ≡ has_type w name
known_by_place i [] name = refl
known_by_place i (t ∷ ts) name =
    elim (cases_Bool (bytes_eq t.name name)) [
      | inl it ↦ ap (λ b. is_some (cond b (Some i) (place_from (i + 1) ts name))) it ∙ sym (ap (λ b. b || has_type ts name) it)
      | inr other ↦ ap (λ b. is_some (cond b (Some i) (place_from (i + 1) ts name))) other ∙ (known_by_place (i + 1) ts name ∙ sym (ap (λ b. b || has_type ts name) other))
    ]

-- ---- in a loop over names

pub is_seen : (new seen : Bool) → new ≡ not seen → new ≡ true → seen ≡ false
is_seen new true e h = cc
is_seen new false e h = refl

pub again_further : (seen more : Named → Bool) (names : List Named) (i : ℕ) (name : Named) → i < length names → name ≡ get_or names i name → seen name ≡ false
    → ((q : Named) → more q ≡ cond (bytes_eq name q) true (seen q)) → stands_again more (drop (i + 1) names) ≡ stands_again seen (drop i names)
again_further seen more names i name inside is new grows =
    let parts : drop i names ≡ name ∷ drop (suc i) names = drop-cons names i name inside ∙ ap (λ y. y ∷ drop (suc i) names) (sym is) in
    ap (λ n. stands_again more (drop n names)) (add-one i) ∙ (sym (again_new seen more name (drop (suc i) names) new grows) ∙ ap (stands_again seen) (sym parts))

-- ---- unknown names of two lists

abbrev unknown : World → Named → Bool
unknown w name = not (has_type w name)

pub unknown_first : (w : World) (xs ys : List Named) (name : Named) → Some name ≡ first_unknown w xs → Some name ≡ first_unknown w (xs ++ ys)
unknown_first w xs ys name e = ap (λ o. option_or o (first_unknown w ys)) e ∙ sym (find-append (unknown w) xs ys)

pub unknown_later : (w : World) (xs ys : List Named) (o : Option Named) → None ≡ first_unknown w xs → o ≡ first_unknown w ys → o ≡ first_unknown w (xs ++ ys)
unknown_later w xs ys o none e = e ∙ (ap (λ p. option_or p (first_unknown w ys)) none ∙ sym (find-append (unknown w) xs ys))

-- Where a type stands in the world that it is the last of.
use Rattle.std.proofs.Common.{◌≡◌, ◌<◌, ◌≤◌, ◌+◌, ◌++◌, ℕ, List, [], ◌∷◌, map, length, slice_get, true, false, cond, ◌||◌, refl, sym, ap, ◌∙◌, Some, inl, inr, append_assoc, arith, option_map}
use Rattle.std.proofs.lemmas.Bool.{cases_Bool, or_parts, lt-ltb, le-ltb}
use Rattle.std.proofs.lemmas.Option.{slice_get-map}
use Rattle.std.proofs.lemmas.Slice.Eq.{bytes_eq-Decides}
use Rattle.std.specs.Str.{bytes_eq}
use Rattle.bcj_parser_trees.specs.Trees.{PlainType}
use Rattle.bcj_decl_rules.specs.World.{Named, Declared, World, boot_types, declared_type, has_type, type_named}
use Rattle.bcj_decl_listing.specs.Places.{place_from, place_of, steps_from, steps_of_world}
use Rattle.bcj_decl_head_faults.specs.Kinds.{is_below}
use Rattle.bcj_decl_head_faults.specs.Refusals.{StandsBehind}

-- the types that stand before
abbrev pub earlier_types : List PlainType → World
earlier_types before = boot_types ++ map declared_type before

map-append : {X Y : Type 0} (f : X → Y) (xs ys : List X) → map f (xs ++ ys) ≡ map f xs ++ map f ys
map-append f [] ys = refl
map-append f (x ∷ xs) ys = ap (λ l. f x ∷ l) (map-append f xs ys)

pub split_world : (w : World) (place : ℕ) (before : List PlainType) (t : PlainType) (s : StandsBehind w place before t) → w ≡ earlier_types before ++ declared_type t ∷ map declared_type s.behind
split_world w place before t s =
    s.is_world
    ∙ (ap (λ l. boot_types ++ l) (map-append declared_type before (t ∷ s.behind)) ∙ sym (append_assoc boot_types (map declared_type before) (declared_type t ∷ map declared_type s.behind)))

-- ---- behind a list of types

not_below : (i n : ℕ) (ys : World) (name : Named) → n ≤ i → is_below n (place_from i ys name) ≡ false
not_below i n [] name h = refl
not_below i n (y ∷ ys) name h =
    elim (cases_Bool (bytes_eq y.name name)) [
      | inl it ↦ ap (λ b. is_below n (cond b (Some i) (place_from (i + 1) ys name))) it ∙ le-ltb i n h
      | inr other ↦ ap (λ b. is_below n (cond b (Some i) (place_from (i + 1) ys name))) other ∙ not_below (i + 1) n ys name (omega arith)
    ]

-- a place below their number is that of a type among them
below_by : (i n : ℕ) (xs ys : World) (name : Named) → i + length xs ≡ n → is_below n (place_from i (xs ++ ys) name) ≡ has_type xs name
below_by i n [] ys name e = not_below i n ys name (omega (arith, e))
below_by i n (x ∷ xs) ys name e =
    elim (cases_Bool (bytes_eq x.name name)) [
      | inl it ↦
          let less : i < n = omega (arith, e) in
          ap (λ b. is_below n (cond b (Some i) (place_from (i + 1) (xs ++ ys) name))) it ∙ (lt-ltb i n less ∙ sym (ap (λ b. b || has_type xs name) it))
      | inr other ↦
          ap (λ b. is_below n (cond b (Some i) (place_from (i + 1) (xs ++ ys) name))) other
          ∙ (below_by (i + 1) n xs ys name (omega (arith, e)) ∙ sym (ap (λ b. b || has_type xs name) other))
    ]

pub taken_before : (w : World) (place : ℕ) (before : List PlainType) (t : PlainType) → StandsBehind w place before t → is_below place (place_of w t.name) ≡ has_type (earlier_types before) t.name
taken_before w place before t s =
    let same : 0 + length (earlier_types before) ≡ place = omega (arith, s.is_place) in
    ap (λ v. is_below place (place_from 0 v t.name)) (split_world w place before t s) ∙ below_by 0 place (earlier_types before) (declared_type t ∷ map declared_type s.behind) t.name same

-- ---- behind types of other names

bytes_same : (a : Named) → bytes_eq a a ≡ true
bytes_same a = (bytes_eq-Decides a a).1 refl

named_behind : (name : Named) (xs : World) (t : Declared) (ys : World) → has_type xs name ≡ false → bytes_eq t.name name ≡ true → type_named (xs ++ t ∷ ys) name ≡ Some t
named_behind name [] t ys none it = ap (λ b. cond b (Some t) (type_named ys name)) it
named_behind name (x ∷ xs) t ys none it =
    let parts : (bytes_eq x.name name ≡ false) × (has_type xs name ≡ false) = or_parts (bytes_eq x.name name) (has_type xs name) none in
    ap (λ b. cond b (Some x) (type_named (xs ++ t ∷ ys) name)) parts.0 ∙ named_behind name xs t ys parts.1 it

place_behind : (i n : ℕ) (name : Named) (xs : World) (t : Declared) (ys : World) → i + length xs ≡ n → has_type xs name ≡ false → bytes_eq t.name name ≡ true
    → place_from i (xs ++ t ∷ ys) name ≡ Some n
place_behind i n name [] t ys e none it = let same : i ≡ n = omega (arith, e) in ap (λ b. cond b (Some i) (place_from (i + 1) ys name)) it ∙ ap Some same
place_behind i n name (x ∷ xs) t ys e none it =
    let parts : (bytes_eq x.name name ≡ false) × (has_type xs name ≡ false) = or_parts (bytes_eq x.name name) (has_type xs name) none in
    ap (λ b. cond b (Some i) (place_from (i + 1) (xs ++ t ∷ ys) name)) parts.0 ∙ place_behind (i + 1) n name xs t ys (omega (arith, e)) parts.1 it

pub is_named_there : (w : World) (place : ℕ) (before : List PlainType) (t : PlainType) → StandsBehind w place before t → has_type (earlier_types before) t.name ≡ false
    → type_named w t.name ≡ Some (declared_type t)
is_named_there w place before t s none =
    ap (λ v. type_named v t.name) (split_world w place before t s) ∙ named_behind t.name (earlier_types before) (declared_type t) (map declared_type s.behind) none (bytes_same t.name)

pub is_placed_there : (w : World) (place : ℕ) (before : List PlainType) (t : PlainType) → StandsBehind w place before t → has_type (earlier_types before) t.name ≡ false
    → place_of w t.name ≡ Some place
is_placed_there w place before t s none =
    let same : 0 + length (earlier_types before) ≡ place = omega (arith, s.is_place) in
    ap (λ v. place_from 0 v t.name) (split_world w place before t s)
    ∙ place_behind 0 place t.name (earlier_types before) (declared_type t) (map declared_type s.behind) same none (bytes_same t.name)

-- ---- at its place

at_end : {X : Type 0} (xs : List X) (x : X) (ys : List X) → slice_get (xs ++ x ∷ ys) (length xs) ≡ Some x
at_end [] x ys = refl
at_end (y ∷ xs) x ys = at_end xs x ys

pub stands_there : (w : World) (place : ℕ) (before : List PlainType) (t : PlainType) → StandsBehind w place before t → slice_get w place ≡ Some (declared_type t)
stands_there w place before t s =
    ap (λ k. slice_get w k) (sym s.is_place) ∙ (ap (λ v. slice_get v (length (earlier_types before))) (split_world w place before t s) ∙ at_end (earlier_types before) (declared_type t) (map declared_type s.behind))

pub steps_there : (w : World) (place : ℕ) (before : List PlainType) (t : PlainType) → StandsBehind w place before t → slice_get (steps_of_world w) place ≡ Some (steps_from w (declared_type t))
steps_there w place before t s = slice_get-map (steps_from w) w place ∙ ap (option_map (steps_from w)) (stands_there w place before t s)

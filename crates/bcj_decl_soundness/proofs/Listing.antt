-- Where the types of a list of units stand.
use Rattle.std.proofs.Common.{◌≡◌, ◌++◌, List, [], ◌∷◌, map, true, false, ◌||◌, refl, sym, ◌∙◌, ap, subst, ℕ, length, append_assoc, ◌⊎◌, inl, inr, append-nil}
use Rattle.std.proofs.lemmas.Bool.{or_cases, cases_Bool}
use Rattle.std.proofs.lemmas.List.Folds.{list_any-append}
use Rattle.std.proofs.lemmas.List.Concat.{flat_map-append}
use Rattle.std.specs.List.{list_any}
use Rattle.std.specs.Str.{bytes_eq}
use Rattle.bcj_parser_trees.specs.Trees.{PlainType, PlainUnit}
use Rattle.bcj_decl_rules.specs.World.{Named, Declared, World, boot_types, source_types, declared_type, is_named, has_type, world_of}
use Rattle.bcj_decl_soundness.specs.Laws as law
use Rattle.bcj_decl_rules.specs.Faults.{StandsIn, here, IsDeclared, in_head, second_of_name}

-- a type of a list of units, with where it stands
pub record Standing (units : List PlainUnit) (name : Named) : Type 0 where
  pub file : ℕ
  pub before : List PlainType
  pub type : PlainType
  pub stands : StandsIn units file before type
  pub called : bytes_eq type.name name ≡ true

pub map-append : {X Y : Type 0} (f : X → Y) (xs ys : List X) → map f (xs ++ ys) ≡ map f xs ++ map f ys
map-append f [] ys = refl
map-append f (x ∷ xs) ys = ap (λ l. f x ∷ l) (map-append f xs ys)

-- behind one type more of a unit
one_more : (units earlier later : List PlainUnit) (before ts : List PlainType) (t : PlainType) → units ≡ earlier ++ (before ++ t ∷ ts) ∷ later → units ≡ earlier ++ ((before ++ t ∷ []) ++ ts) ∷ later
one_more units earlier later before ts t e = e ∙ ap (λ u. earlier ++ u ∷ later) (sym (append_assoc before (t ∷ []) ts))

-- among the types of one unit, behind some of them
in_unit : (units earlier later : List PlainUnit) (before behind : List PlainType) (name : Named) → units ≡ earlier ++ (before ++ behind) ∷ later
    → list_any (is_named name) (map declared_type behind) ≡ true → Standing units name
in_unit units earlier later before [] name e h = cc
in_unit units earlier later before (t ∷ ts) name e h =
    elim (or_cases (bytes_eq t.name name) (list_any (is_named name) (map declared_type ts)) h) [
      | inl it ↦ record { file = length earlier; before = source_types earlier ++ before; type = t; stands = here earlier later before ts e; called = it }
      | inr other ↦ in_unit units earlier later (before ++ t ∷ []) ts name (one_more units earlier later before ts t e) other
    ]

-- behind one unit more
next_unit : (units earlier later : List PlainUnit) (u : PlainUnit) → units ≡ earlier ++ u ∷ later → units ≡ (earlier ++ u ∷ []) ++ later
next_unit units earlier later u e = e ∙ sym (append_assoc earlier (u ∷ []) later)

in_units : (units earlier later : List PlainUnit) (name : Named) → units ≡ earlier ++ later → list_any (is_named name) (map declared_type (source_types later)) ≡ true → Standing units name
in_units units earlier [] name e h = cc
in_units units earlier (u ∷ us) name e h =
    let split : (list_any (is_named name) (map declared_type u) || list_any (is_named name) (map declared_type (source_types us))) ≡ true =
    sym (list_any-append (is_named name) (map declared_type u) (map declared_type (source_types us))) ∙ (ap (list_any (is_named name)) (sym (map-append declared_type u (source_types us))) ∙ h) in
    elim (or_cases (list_any (is_named name) (map declared_type u)) (list_any (is_named name) (map declared_type (source_types us))) split) [
      | inl here_it ↦ in_unit units earlier us [] u name e here_it
      | inr other ↦ in_units units (earlier ++ u ∷ []) us name (next_unit units earlier us u e) other
    ]

-- a name of the world is that of a boot type or of a source type
pub boot_or_source : (units : List PlainUnit) (name : Named) → has_type (world_of units) name ≡ true → (has_type boot_types name ≡ true) ⊎ Standing units name
unfolding world_of
boot_or_source units name h =
    elim (or_cases (has_type boot_types name) (list_any (is_named name) (map declared_type (source_types units))) (sym (list_any-append (is_named name) boot_types (map declared_type (source_types units))) ∙ h))
    [ inl boot ↦ inl boot | inr source ↦ inr (in_units units [] units name refl source) ]

-- ---- each name once

-- none of these types has a name that stands before it
abbrev pub AllNew : World → World → Type 0
AllNew before [] = Unit {0}
AllNew before (t ∷ ts) = (has_type before t.name ≡ false) × AllNew (before ++ t ∷ []) ts

pub new_at : (before : World) (ts front : List Declared) (t : Declared) (behind : List Declared) → AllNew before ts → ts ≡ front ++ t ∷ behind → has_type (before ++ front) t.name ≡ false
new_at before [] [] t behind new e = cc
new_at before [] (f ∷ fs) t behind new e = cc
new_at before (x ∷ xs) [] t behind new e =
    let head : x ≡ t = ap (λ l. elim l [ [] ↦ x | y ∷ ys ↦ y ]) e in
    let P : World → Type 0 = λ w. has_type w t.name ≡ false in
    let Q : Declared → Type 0 = λ y. has_type before y.name ≡ false in
    subst P (sym (append-nil before)) (subst Q head new.0)
new_at before (x ∷ xs) (f ∷ fs) t behind new e =
    let head : x ≡ f = ap (λ l. elim l [ [] ↦ x | y ∷ ys ↦ y ]) e in
    let tail : xs ≡ fs ++ t ∷ behind = ap (λ l. elim l [ [] ↦ xs | y ∷ ys ↦ ys ]) e in
    let P : World → Type 0 = λ w. has_type w t.name ≡ false in
    let Q : Declared → Type 0 = λ y. has_type (before ++ y ∷ fs) t.name ≡ false in
    subst Q head (subst P (append_assoc before (x ∷ []) fs) (new_at (before ++ x ∷ []) xs fs t behind new.1 tail))

pub new-append : (before : World) (xs ys : List Declared) → AllNew before xs → AllNew (before ++ xs) ys → AllNew before (xs ++ ys)
new-append before [] ys new more =
    let P : World → Type 0 = λ w. AllNew w ys in
    subst P (append-nil before) more
new-append before (x ∷ xs) ys new more =
    let P : World → Type 0 = λ w. AllNew w ys in
    (new.0, new-append (before ++ x ∷ []) xs ys new.1 (subst P (sym (append_assoc before (x ∷ []) xs)) more))

-- the boot types by computing
pub boot_new : AllNew [] boot_types
boot_new = (refl, (refl, (refl, (refl, (refl, (refl, (refl, (refl, (refl, (refl, (refl, (refl, (refl, (refl, (refl, (refl, (refl, (refl, (refl, (refl, (refl, (refl, (refl, (refl, (refl, tt)))))))))))))))))))))))))

-- the types that stand before, as the world has them
abbrev pub earlier_types : List PlainType → World
earlier_types before = boot_types ++ map declared_type before

-- a type of declared units has a name that none before it has
pub new_name : (units : List PlainUnit) → IsDeclared units → (file : ℕ) (before : List PlainType) (t : PlainType) → StandsIn units file before t → has_type (earlier_types before) t.name ≡ false
new_name units fine file before t stands =
    elim (cases_Bool (has_type (earlier_types before) t.name)) [
      | inl twice ↦ absurd (fine _ _ (in_head stands (second_of_name twice)))
      | inr new ↦ new
    ]

pub one_type_more : (before : List PlainType) (t : PlainType) → earlier_types before ++ declared_type t ∷ [] ≡ earlier_types (before ++ t ∷ [])
one_type_more before t = append_assoc boot_types (map declared_type before) (declared_type t ∷ []) ∙ ap (λ l. boot_types ++ l) (sym (map-append declared_type before (t ∷ [])))

unit_new : (units : List PlainUnit) → IsDeclared units → (earlier later : List PlainUnit) (before behind : List PlainType) → units ≡ earlier ++ (before ++ behind) ∷ later
    → AllNew (earlier_types (source_types earlier ++ before)) (map declared_type behind)
unit_new units fine earlier later before [] e = tt
unit_new units fine earlier later before (t ∷ ts) e =
    let P : World → Type 0 = λ w. AllNew w (map declared_type ts) in (
      new_name units fine _ _ t (here earlier later before ts e),
      subst P (sym (one_type_more (source_types earlier ++ before) t ∙ ap earlier_types (append_assoc (source_types earlier) before (t ∷ []))))
          (unit_new units fine earlier later (before ++ t ∷ []) ts (one_more units earlier later before ts t e)),
    )

units_new : (units : List PlainUnit) → IsDeclared units → (earlier later : List PlainUnit) → units ≡ earlier ++ later → AllNew (earlier_types (source_types earlier)) (map declared_type (source_types later))
units_new units fine earlier [] e = tt
units_new units fine earlier (u ∷ us) e =
    let P : List Declared → Type 0 = λ l. AllNew (earlier_types (source_types earlier)) l in
    let Q : World → Type 0 = λ w. AllNew w (map declared_type (source_types us)) in
    let R : World → Type 0 = λ w. AllNew w (map declared_type u) in
    let first : AllNew (earlier_types (source_types earlier)) (map declared_type u) = subst R (ap earlier_types (append-nil (source_types earlier))) (unit_new units fine earlier us [] u e) in
    let types : source_types (earlier ++ u ∷ []) ≡ source_types earlier ++ u = flat_map-append (λ v. v) earlier (u ∷ []) ∙ ap (λ l. source_types earlier ++ l) (append-nil u) in
    let place : earlier_types (source_types (earlier ++ u ∷ [])) ≡ earlier_types (source_types earlier) ++ map declared_type u =
    ap earlier_types types ∙ (ap (λ l. boot_types ++ l) (map-append declared_type (source_types earlier) u) ∙ sym (append_assoc boot_types (map declared_type (source_types earlier)) (map declared_type u))) in
    subst P (sym (map-append declared_type u (source_types us)))
    (new-append _ (map declared_type u) (map declared_type (source_types us)) first (subst Q place (units_new units fine (earlier ++ u ∷ []) us (next_unit units earlier us u e))))

pub world_new : (units : List PlainUnit) → IsDeclared units → AllNew [] (world_of units)
unfolding world_of
world_new units fine =
    let P : World → Type 0 = λ w. AllNew w (map declared_type (source_types units)) in
    new-append [] boot_types (map declared_type (source_types units)) boot_new (subst P (append-nil boot_types) (units_new units fine [] units refl))

pub each_name_is_one : law.EachNameIsOneType
each_name_is_one units fine before t behind e = new_at [] (world_of units) before t behind (world_new units fine) e

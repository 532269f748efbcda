-- A declared world has no circles: a boot type by computing, a source type since it would be refused.
use Rattle.std.proofs.Common.{◌≡◌, List, [], ◌∷◌, Option, Some, None, Bool, true, false, cond, ◌&&◌, ◌||◌, refl, sym, ◌∙◌, ap, subst, ℕ, zero, suc, inl, inr, arith}
use Rattle.std.proofs.lemmas.Bool.{or_cases, and_parts, cases_Bool}
use Rattle.std.specs.List.{list_all, Contains}
use Rattle.std.specs.Option.{option_map_or, is_none}
use Rattle.std.specs.Str.{bytes_eq}
use Rattle.bcj_parser_trees.specs.Trees.{PlainUnit}
use Rattle.bcj_decl_rules.specs.World.{Named, Declared, World, boot_types, has_type, type_named, world_of}
use Rattle.bcj_decl_rules.specs.Subtypes.{Sub, same, through, StepsTo, ProperSub, direct_supertypes}
use Rattle.bcj_decl_rules.specs.Faults.{in_head, own_supertype}
use Rattle.bcj_decl_soundness.proofs.Listing.{boot_or_source}
use Rattle.bcj_decl_soundness.proofs.Climbing.{same_bytes}
use Rattle.bcj_decl_orders.specs.Laws as law

-- each way up from a name has at most so many types
abbrev pub ends : ℕ → World → Named → Bool
ends zero w name = is_none (type_named w name)
ends (suc n) w name = option_map_or (λ t. list_all (ends n w) (direct_supertypes t)) (type_named w name) true

-- what holds of all holds of each
pub each_of : (f : Named → Bool) (xs : List Named) (x : Named) → list_all f xs ≡ true → Contains xs x → f x ≡ true
each_of f [] x all (k, inside, e) = absurd (omega arith)
each_of f (y ∷ ys) x all (zero, inside, e) =
    let parts : (f y ≡ true) × (list_all f ys ≡ true) = and_parts (f y) (list_all f ys) all in
    ap f (sym e) ∙ parts.0
each_of f (y ∷ ys) x all (suc k, inside, e) =
    let parts : (f y ≡ true) × (list_all f ys ≡ true) = and_parts (f y) (list_all f ys) all in
    each_of f ys x parts.1 (k, omega arith, e)

pub all_of : (f : Named → Bool) (xs : List Named) → ((x : Named) → Contains xs x → f x ≡ true) → list_all f xs ≡ true
all_of f [] each = refl
all_of f (x ∷ xs) each =
    let first : f x ≡ true = each x (0, omega arith, refl) in
    let rest : list_all f xs ≡ true = all_of f xs (λ y inside. each y (suc inside.0, omega (arith, inside.1), inside.2)) in
    ap (λ b. b && list_all f xs) first ∙ rest

-- a step goes to a name with one type less
step_ends : (n : ℕ) (w : World) (s u : Named) → ends (suc n) w s ≡ true → StepsTo w s u → ends n w u ≡ true
step_ends n w s u h step =
    each_of (ends n w) (direct_supertypes step.type) u (ap (λ o. option_map_or (λ t. list_all (ends n w) (direct_supertypes t)) o true) (sym step.is_it) ∙ h) step.names_it

no_step : (w : World) (s u : Named) → ends zero w s ≡ true → StepsTo w s u → ⊥
no_step w s u h step =
    let wrong : false ≡ true = ap is_none (sym step.is_it) ∙ h in
    absurd (cc)

grow_by : (n : ℕ) (w : World) (again : (m : Named) → ends n w m ≡ true → ends (suc n) w m ≡ true) (o : Option Declared) → option_map_or (λ t. list_all (ends n w) (direct_supertypes t)) o true ≡ true
    → option_map_or (λ t. list_all (ends (suc n) w) (direct_supertypes t)) o true ≡ true
grow_by n w again None h = refl
grow_by n w again (Some t) h = all_of (ends (suc n) w) (direct_supertypes t) (λ x inside. again x (each_of (ends n w) (direct_supertypes t) x h inside))

none_grows : (w : World) (o : Option Declared) → is_none o ≡ true → option_map_or (λ t. list_all (ends zero w) (direct_supertypes t)) o true ≡ true
none_grows w None h = refl
none_grows w (Some t) h = absurd (cc)

-- more types are no harm
pub ends_grow : (n : ℕ) (w : World) (name : Named) → ends n w name ≡ true → ends (suc n) w name ≡ true
ends_grow zero w name h = none_grows w (type_named w name) h
ends_grow (suc n) w name h = grow_by n w (ends_grow n w) (type_named w name) h

ends_along : (n : ℕ) (w : World) (s t : Named) → ends n w s ≡ true → Sub w s t → ends n w t ≡ true
ends_along n w s t h same = h
ends_along zero w s t h (through first rest) = absurd (no_step w s _ h first)
ends_along (suc n) w s t h (through first rest) = ends_along (suc n) w _ t (ends_grow n w _ (step_ends n w s _ h first)) rest

-- a circle would have no end
pub no_circle : (n : ℕ) (w : World) (s : Named) → ends n w s ≡ true → ProperSub w s s → ⊥
no_circle zero w s h circle = no_step w s circle.between h circle.first
no_circle (suc n) w s h circle = no_circle n w s (ends_along n w circle.between s (step_ends n w s circle.between h circle.first) circle.rest) circle

abbrev boot_depth : ℕ
boot_depth = 9

boot_ends : (units : List PlainUnit) → list_all (λ t. ends boot_depth (world_of units) t.name) boot_types ≡ true
unfolding world_of
boot_ends units = refl

boot_named : (w : World) (ts : List Declared) (name : Named) → list_all (λ t. ends boot_depth w t.name) ts ≡ true → has_type ts name ≡ true → ends boot_depth w name ≡ true
boot_named w [] name all h = cc
boot_named w (t ∷ ts) name all h =
    let both : (ends boot_depth w t.name ≡ true) × (list_all (λ u. ends boot_depth w u.name) ts ≡ true) = and_parts (ends boot_depth w t.name) (list_all (λ u. ends boot_depth w u.name) ts) all in
    elim (or_cases (bytes_eq t.name name) (has_type ts name) h) [
      | inl it ↦ ap (ends boot_depth w) (sym (same_bytes t.name name it)) ∙ both.0
      | inr other ↦ boot_named w ts name both.1 other
    ]

-- a name that is found is that of a type
pub found_has : (w : World) (name : Named) (t : Declared) → type_named w name ≡ Some t → has_type w name ≡ true
found_has [] name t e = cc
found_has (u ∷ us) name t e =
    elim (cases_Bool (bytes_eq u.name name)) [
      | inl it ↦ ap (λ b. b || has_type us name) it
      | inr other ↦ ap (λ b. b || has_type us name) other ∙ found_has us name t (ap (λ b. cond b (Some u) (type_named us name)) (sym other) ∙ e)
    ]

pub no_circles : law.DeclaredWorldsAreAcyclic
no_circles units fine s circle =
    elim (boot_or_source units s (found_has (world_of units) s circle.first.type circle.first.is_it)) [
      | inl boot ↦ no_circle boot_depth (world_of units) s (boot_named (world_of units) boot_types s (boot_ends units) boot) circle
      | inr source ↦
          let P : Named → Type 0 = λ m. ProperSub (world_of units) m m in
          fine _ _ (in_head source.stands (own_supertype (subst P (sym (same_bytes source.type.name s source.called)) circle)))
    ]

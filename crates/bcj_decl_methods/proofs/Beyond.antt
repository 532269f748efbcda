-- The methods at the places above a place are those of the types above its type.
use Rattle.std.proofs.Common.{◌≡◌, ◌++◌, List, [], ◌∷◌, Option, Some, None, true, false, refl, sym, ◌∙◌, ap, subst, ℕ, zero, suc, length, arith, slice_get}
use Rattle.std.proofs.lemmas.List.Folds.{find-append}
use Rattle.std.proofs.lemmas.List.Concat.{flat_map-append}
use Rattle.std.proofs.lemmas.List.Elements.{filter_map-append}
use Rattle.std.specs.List.{All, find, flat_map, cons_option}
use Rattle.std.specs.Option.{option_or, option_and_then, option_map_or}
use Rattle.bcj_symbolic_trees.specs.Types.{PlainArg}
use Rattle.bcj_decl_rules.specs.World.{Named, Method, Declared, World}
use Rattle.bcj_decl_rules.specs.Members.{methods_of_type}
use Rattle.bcj_decl_rules.specs.Methods.{methods_named, candidates, none_applies, Chooses, none, MostSpecific, IsApplicable}
use Rattle.bcj_decl_rules.specs.function.Above.{interfaces_over, types_searched, HasSameFirsts}
use Rattle.bcj_decl_listing.specs.Places.{place_of, types_at}
use Rattle.bcj_decl_listing.proofs.PlaceLemmas.{found_none}
use Rattle.bcj_decl_orders.specs.Orders.{AreOrders, list_at}
use Rattle.bcj_decl_fields.specs.Searches.{superclasses, superclass_place, places_up}
use Rattle.bcj_decl_fields.proofs.Visits.{searched_types}
use Rattle.bcj_decl_fields.proofs.Supertypes.{chain_is}
use Rattle.bcj_decl_fields.proofs.Places.{IsPlaced, placed}
use Rattle.bcj_decl_methods.specs.Laws as law
use Rattle.bcj_decl_methods.specs.Candidates.{open_methods, simple_candidates}
use Rattle.bcj_decl_methods.specs.Passes.{Best, Passed}
use Rattle.bcj_decl_methods.specs.Search.{shown, offered, places_beyond, candidates_at, decided}
use Rattle.bcj_decl_methods.proofs.Passing.{appended}
use Rattle.bcj_decl_methods.proofs.Searching as searching
use Rattle.bcj_decl_methods.proofs.Deciding.{start, again, two_passes}

-- ---- all passes of a search

flat_flat : {X Y Z : Type 0} (f : Y → List Z) (g : X → List Y) (xs : List X) → flat_map f (flat_map g xs) ≡ flat_map (λ x. flat_map f (g x)) xs
flat_flat f g [] = refl
flat_flat f g (x ∷ xs) = flat_map-append f (g x) (flat_map g xs) ∙ ap (λ l. flat_map f (g x) ++ l) (flat_flat f g xs)

pub passed_all : (w : World) (from : Named) (args : List PlainArg) (orders : List (List ℕ)) (name : Named) (k n : ℕ) → n ≡ length w → (b own classes near far : Best) → Passed w from args b (offered true w name k) own
    → Passed w from args own (flat_map (offered false w name) (places_up n w (superclass_place w k))) classes
    → Passed w from args classes (flat_map (offered false w name) (list_at orders k)) near
    → Passed w from args near (flat_map (λ j. flat_map (offered false w name) (list_at orders j)) (places_up n w (superclass_place w k))) far
    → Passed w from args b (candidates_at w orders name k) far
passed_all w from args orders name k n long b own classes near far p q r s =
    let f : ℕ → List Method = offered false w name in
    let up : List ℕ = places_up n w (superclass_place w k) in
    let P : List Method → Type 0 = λ l. Passed w from args near l far in
    let Q : List Method → Type 0 = λ l. Passed w from args classes l far in
    let R : List Method → Type 0 = λ l. Passed w from args own l far in
    let S : ℕ → Type 0 =
    λ m. Passed w from args own (flat_map f (places_up m w (superclass_place w k) ++ (list_at orders k ++ flat_map (list_at orders) (places_up m w (superclass_place w k))))) far in
    let last : Passed w from args near (flat_map f (flat_map (list_at orders) up)) far = subst P (sym (flat_flat f (list_at orders) up)) s in
    let over : Passed w from args classes (flat_map f (list_at orders k ++ flat_map (list_at orders) up)) far =
    subst Q (sym (flat_map-append f (list_at orders k) (flat_map (list_at orders) up))) (appended w from args classes (flat_map f (list_at orders k)) near (flat_map f (flat_map (list_at orders) up)) far r last) in
    let above : Passed w from args own (flat_map f (up ++ (list_at orders k ++ flat_map (list_at orders) up))) far =
    subst R (sym (flat_map-append f up (list_at orders k ++ flat_map (list_at orders) up)))
    (appended w from args own (flat_map f up) classes (flat_map f (list_at orders k ++ flat_map (list_at orders) up)) far q over) in
    appended w from args b (offered true w name k) own (flat_map f (places_beyond w orders k)) far p (subst S long above)

-- ---- methods at places

type_offers : (name : Named) (ts : List Declared) (o : Option Declared)
    → shown false (option_map_or (λ t. methods_named name t.methods) o []) ++ flat_map (open_methods name) ts ≡ flat_map (open_methods name) (cons_option o ts)
type_offers name ts None = refl
type_offers name ts (Some t) = refl

types_offer : (w : World) (name : Named) (ks : List ℕ) → flat_map (offered false w name) ks ≡ flat_map (open_methods name) (types_at w ks)
types_offer w name [] = refl
types_offer w name (k ∷ ks) = ap (λ l. offered false w name k ++ l) (types_offer w name ks) ∙ type_offers name (types_at w ks) (slice_get w k)

candidates_are : (w : World) (orders : List (List ℕ)) (name : Named) (k : ℕ) (t : Declared) → slice_get w k ≡ Some t
    → candidates_at w orders name k ≡ simple_candidates name (t ∷ types_at w (places_beyond w orders k))
candidates_are w orders name k t e =
    ap (λ o. shown true (option_map_or (λ u. methods_named name u.methods) o []) ++ flat_map (offered false w name) (places_beyond w orders k)) e
    ∙ ap (λ l. methods_named name t.methods ++ l) (types_offer w name (places_beyond w orders k))

-- ---- types at places

abbrev found_up : ℕ → World → Option Declared → List Declared
found_up n w None = []
found_up n w (Some t) = t ∷ superclasses n w t.superclass

next_place : (w : World) (s : Named) (k : ℕ) (at : IsPlaced w s k) → superclass_place w k ≡ option_and_then (place_of w) at.type.superclass
next_place w s k at = ap (option_and_then (λ t. option_and_then (place_of w) t.superclass)) at.there

up_named : (w : World) (n : ℕ) → ((s : Option Named) → types_at w (places_up n w (option_and_then (place_of w) s)) ≡ superclasses n w s) → (s : Named) (o : Option ℕ) → place_of w s ≡ o
    → types_at w (places_up (suc n) w o) ≡ superclasses (suc n) w (Some s)
up_named w n onward s None e = ap (found_up n w) (found_none w s e)
up_named w n onward s (Some k) e =
    let at : IsPlaced w s k = placed w s k e in
    ap (λ o. cons_option o (types_at w (places_up n w (superclass_place w k)))) at.there
    ∙ (ap (λ l. at.type ∷ l) (ap (λ o. types_at w (places_up n w o)) (next_place w s k at) ∙ onward at.type.superclass) ∙ ap (found_up n w) (sym at.named))

up_types : (w : World) (n : ℕ) (s : Option Named) → types_at w (places_up n w (option_and_then (place_of w) s)) ≡ superclasses n w s
up_types w zero s = refl
up_types w (suc n) None = refl
up_types w (suc n) (Some s) = up_named w n (up_types w n) s (place_of w s) refl

same_append : (xs us ys vs : List Declared) → HasSameFirsts xs us → HasSameFirsts ys vs → HasSameFirsts (xs ++ ys) (us ++ vs)
same_append xs us ys vs a b p = find-append p xs ys ∙ ((λ i. option_or (a p i) (b p i)) ∙ sym (find-append p us vs))

-- the interfaces over the superclasses from a name up
abbrev OverUp : World → List (List ℕ) → ℕ → Option ℕ → Option Named → Type 0
OverUp w orders n o s = HasSameFirsts (flat_map (interfaces_over w) (superclasses n w s)) (types_at w (flat_map (list_at orders) (places_up n w o)))

over_named : (w : World) (orders : List (List ℕ)) → AreOrders w orders → (n : ℕ) → ((s : Option Named) → OverUp w orders n (option_and_then (place_of w) s) s) → (s : Named) (o : Option ℕ)
    → place_of w s ≡ o → OverUp w orders (suc n) o (Some s)
over_named w orders right n onward s None e p = ap (λ o. find p (flat_map (interfaces_over w) (found_up n w o))) (sym (found_none w s e))
over_named w orders right n onward s (Some k) e p =
    let at : IsPlaced w s k = placed w s k e in
    let rest : HasSameFirsts (flat_map (interfaces_over w) (superclasses n w at.type.superclass)) (types_at w (flat_map (list_at orders) (places_up n w (superclass_place w k)))) =
    λ q. onward at.type.superclass q ∙ ap (λ o. find q (types_at w (flat_map (list_at orders) (places_up n w o)))) (sym (next_place w s k at)) in
    ap (λ o. find p (flat_map (interfaces_over w) (found_up n w o))) at.named
    ∙ (same_append (interfaces_over w at.type) (types_at w (list_at orders k)) (flat_map (interfaces_over w) (superclasses n w at.type.superclass))
    (types_at w (flat_map (list_at orders) (places_up n w (superclass_place w k))))
    (λ q. sym ((right.each k at.type at.there).firsts q))
    rest p
    ∙ ap (find p) (sym (filter_map-append (slice_get w) (list_at orders k) (flat_map (list_at orders) (places_up n w (superclass_place w k))))))

over_up : (w : World) (orders : List (List ℕ)) → AreOrders w orders → (n : ℕ) (s : Option Named) → OverUp w orders n (option_and_then (place_of w) s) s
over_up w orders right zero s p = refl
over_up w orders right (suc n) None p = refl
over_up w orders right (suc n) (Some s) p = over_named w orders right n (over_up w orders right n) s (place_of w s) refl p

-- the types above a type and those at the places above its place
firsts_above : (w : World) (orders : List (List ℕ)) → AreOrders w orders → (class : Named) (k : ℕ) (at : IsPlaced w class k) → HasSameFirsts (types_searched w at.type) (at.type ∷ types_at w (places_beyond w orders k))
firsts_above w orders right class k at p =
    let t : Declared = at.type in
    let ss : List Declared = superclasses (length w) w t.superclass in
    let up : List ℕ = places_up (length w) w (superclass_place w k) in
    let is_up : types_at w up ≡ ss = ap (λ o. types_at w (places_up (length w) w o)) (next_place w class k at) ∙ up_types w (length w) t.superclass in
    let own : HasSameFirsts (interfaces_over w t) (types_at w (list_at orders k)) = λ q. sym ((right.each k t at.there).firsts q) in
    let farther : HasSameFirsts (flat_map (interfaces_over w) ss) (types_at w (flat_map (list_at orders) up)) =
    λ q. over_up w orders right (length w) t.superclass q ∙ ap (λ o. find q (types_at w (flat_map (list_at orders) (places_up (length w) w o)))) (sym (next_place w class k at)) in
    let apart : types_at w (places_beyond w orders k) ≡ types_at w up ++ (types_at w (list_at orders k) ++ types_at w (flat_map (list_at orders) up)) =
    filter_map-append (slice_get w) up (list_at orders k ++ flat_map (list_at orders) up)
    ∙ ap (λ l. types_at w up ++ l) (filter_map-append (slice_get w) (list_at orders k) (flat_map (list_at orders) up)) in
    ap (find p) (searched_types w t ∙ ap (λ l. l ++ flat_map (interfaces_over w) l) (chain_is w t))
    ∙ (same_append (t ∷ ss) (t ∷ types_at w up) (interfaces_over w t ++ flat_map (interfaces_over w) ss) (types_at w (list_at orders k) ++ types_at w (flat_map (list_at orders) up))
    (λ q. ap (λ l. find q (t ∷ l)) (sym is_up))
    (same_append (interfaces_over w t) (types_at w (list_at orders k)) (flat_map (interfaces_over w) ss) (types_at w (flat_map (list_at orders) up)) own farther)
    p
    ∙ ap (λ l. find p (t ∷ l)) (sym apart))

-- ---- the choice

pub chosen : (w : World) (orders : List (List ℕ)) → AreOrders w orders → law.PrivateMethodsStandAlone w → law.SubtypesGoOn w → (class name : Named) (k : ℕ) → place_of w class ≡ Some k → (from : Named)
    (args : List PlainArg) (c d : Best) → Passed w from args start (candidates_at w orders name k) c → Passed w from args (again c) (candidates_at w orders name k) d
    → MostSpecific w from class name args (decided c.method d.changed)
chosen w orders right alone on class name k e from args c d passed more =
    let at : IsPlaced w class k = placed w class k e in
    let P : List Method → Type 0 = λ l. Chooses w from args l (decided c.method d.changed) in
    let simple : Chooses w from args (simple_candidates name (at.type ∷ types_at w (places_beyond w orders k))) (decided c.method d.changed) =
    subst P (candidates_are w orders name k at.type at.there) (two_passes w on from args (candidates_at w orders name k) c d passed more) in
    (searching.choices_agree w alone class name at.type at.named (types_at w (places_beyond w orders k)) (firsts_above w orders right class k at) from args (decided c.method d.changed)).1 simple

-- a name of no type has no methods
pub none_chosen : (w : World) (from class name : Named) (args : List PlainArg) → place_of w class ≡ None → MostSpecific w from class name args none_applies
unfolding candidates
none_chosen w from class name args e =
    let P : List Method → Type 0 = λ l. Chooses w from args l none_applies in
    let nothing : All (λ m. IsApplicable w from m args → ⊥) [] = λ k d h a. omega (arith, h) in
    subst P (ap (λ o. option_map_or (λ t. methods_named name (methods_of_type w t)) o []) (found_none w class e)) (none nothing)

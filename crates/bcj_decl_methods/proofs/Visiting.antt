-- What is known at each visit of a search: its way was visited before, and leads up to it.
use Rattle.std.proofs.Common.{◌≡◌, ◌<◌, ◌++◌, List, [], ◌∷◌, Option, Some, None, Bool, true, false, ◌&&◌, refl, sym, ap, subst, ℕ, zero, suc, length, arith}
use Rattle.std.proofs.lemmas.Bool.{and_parts}
use Rattle.std.proofs.lemmas.List.Elements.{Contains-append_right}
use Rattle.std.specs.List.{Contains, list_all, flat_map}
use Rattle.std.specs.Option.{option_to_list}
use Rattle.bcj_decl_rules.specs.World.{Named, Declared, World, type_named}
use Rattle.bcj_decl_rules.specs.Subtypes.{direct_supertypes, or_object}
use Rattle.bcj_decl_rules.specs.Members.{Visit, steps_on, superclasses_above, interfaces_above, class_chain}
use Rattle.bcj_decl_methods.proofs.Finding.{both_true, contains_behind, contains_first}

-- steps from a type up to a name
pub data Reach (w : World) : Declared → Named → Type 0 where
  direct : {k : Declared} {name : Named} → Contains (direct_supertypes k) name → Reach w k name
  through : {k : Declared} {name : Named} (step : Named) (j : Declared) → Contains (direct_supertypes k) step → type_named w step ≡ Some j → Reach w j name → Reach w k name

-- a type of the world below a name
pub record Below (w : World) (k : Declared) (name : Named) : Type 0 where
  pub called : Named
  pub known : type_named w called ≡ Some k
  pub reach : Reach w k name

abbrev pub EachBelow : World → List Declared → Named → Type 0
EachBelow w [] name = Unit {0}
EachBelow w (k ∷ ks) name = Below w k name × EachBelow w ks name

reach_on : (w : World) (k : Declared) (name : Named) (j : Declared) (next : Named) → Reach w k name → type_named w name ≡ Some j → Contains (direct_supertypes j) next → Reach w k next
reach_on w k name j next (direct c) named up = through name j c named (direct up)
reach_on w k name j next (through step i c e r) named up = through step i c e (reach_on w i name j next r named up)

below_on : (w : World) (way : List Declared) (name : Named) (j : Declared) (next : Named) → EachBelow w way name → type_named w name ≡ Some j → Contains (direct_supertypes j) next
    → EachBelow w (steps_on way j) next
below_on w [] name j next below named up = (record { called = name; known = named; reach = direct up }, tt)
below_on w (k ∷ ks) name j next below named up =
    (record { called = below.0.called; known = below.0.known; reach = reach_on w k name j next below.0.reach named up }, below_on w ks name j next below.1 named up)

-- ---- what is known at a visit, where a test holds of all types before

pub record Fair (w : World) (test : Declared → Bool) (v : Visit) : Type 0 where
  pub shown : list_all test v.way ≡ true
  pub called : Named
  pub known : type_named w called ≡ Some v.type
  pub below : EachBelow w v.way called
  pub lowest : Declared
  pub rest : List Declared
  pub way_is : v.way ≡ lowest ∷ rest

abbrev pub Laid : World → (Declared → Bool) → List Visit → Type 0
Laid w test [] = Unit {0}
Laid w test (v ∷ vs) = Fair w test v × (test v.type ≡ true → Laid w test vs)

abbrev pub all_pass : (Declared → Bool) → List Visit → Bool
all_pass test = list_all (λ v. test v.type)

laid_append : (w : World) (test : Declared → Bool) (xs ys : List Visit) → Laid w test xs → (all_pass test xs ≡ true → Laid w test ys) → Laid w test (xs ++ ys)
laid_append w test [] ys laid more = more refl
laid_append w test (x ∷ xs) ys laid more = (laid.0, λ e. laid_append w test xs ys (laid.1 e) (λ a. more (both_true (test x.type) (all_pass test xs) e a)))

-- a way that was visited, and leads up to a name
pub record Climbed (w : World) (test : Declared → Bool) (way : List Declared) : Type 0 where
  pub shown : list_all test way ≡ true
  pub lowest : Declared
  pub rest : List Declared
  pub way_is : way ≡ lowest ∷ rest

shown_on : (test : Declared → Bool) (way : List Declared) (t : Declared) → list_all test way ≡ true → test t ≡ true → list_all test (steps_on way t) ≡ true
shown_on test [] t all it = ap (λ b. b && true) it
shown_on test (k ∷ ks) t all it =
    let parts : (test k ≡ true) × (list_all test ks ≡ true) = and_parts (test k) (list_all test ks) all in
    both_true (test k) (list_all test (steps_on ks t)) parts.0 (shown_on test ks t parts.1 it)

climbed_on : (w : World) (test : Declared → Bool) (way : List Declared) (t : Declared) → Climbed w test way → test t ≡ true → Climbed w test (steps_on way t)
climbed_on w test way t c it =
    record { shown = shown_on test way t c.shown it; lowest = c.lowest; rest = steps_on c.rest t; way_is = ap (λ l. l ++ t ∷ []) c.way_is }

fair_at : (w : World) (test : Declared → Bool) (way : List Declared) (name : Named) (t : Declared) → Climbed w test way → EachBelow w way name → type_named w name ≡ Some t
    → Fair w test (record { type = t; way = way })
fair_at w test way name t c below named = record { shown = c.shown; called = name; known = named; below = below; lowest = c.lowest; rest = c.rest; way_is = c.way_is }

-- ---- superclasses

superclass_among : (t : Declared) (s : Named) → t.superclass ≡ Some s → Contains (direct_supertypes t) s
superclass_among t s e =
    let P : List Named → Type 0 = λ l. Contains l s in
    subst P (ap (λ o. option_to_list o ++ or_object t.interface t.interfaces) (sym e)) (contains_first s (or_object t.interface t.interfaces))

abbrev LeadsTo : World → List Declared → Option Named → Type 0
LeadsTo w way o = (s : Named) → o ≡ Some s → EachBelow w way s

abbrev LaidUp : ℕ → World → (Declared → Bool) → Type 0
LaidUp n w test = (way : List Declared) (o : Option Named) → Climbed w test way → LeadsTo w way o → Laid w test (superclasses_above n w way o)

laid_superclass : (n : ℕ) (w : World) (test : Declared → Bool) → LaidUp n w test → (way : List Declared) (name : Named) → Climbed w test way → EachBelow w way name → (o : Option Declared)
    → type_named w name ≡ o → Laid w test (elim o [ None ↦ [] | Some t ↦ record { type = t; way = way } ∷ superclasses_above n w (steps_on way t) t.superclass ])
laid_superclass n w test again way name c below None e = tt
laid_superclass n w test again way name c below (Some t) e = (
  fair_at w test way name t c below e,
  λ it. again (steps_on way t) t.superclass (climbed_on w test way t c it) (λ s up. below_on w way name t s below e (superclass_among t s up)),
)

laid_superclasses : (n : ℕ) (w : World) (test : Declared → Bool) → LaidUp n w test
laid_superclasses zero w test way o c leads = tt
laid_superclasses (suc n) w test way None c leads = tt
laid_superclasses (suc n) w test way (Some name) c leads = laid_superclass n w test (laid_superclasses n w test) way name c (leads name refl) (type_named w name) refl

-- ---- superinterfaces

interface_in : (b : Bool) (names : List Named) (s : Named) → Contains names s → Contains (or_object b names) s
interface_in false names s c = c
interface_in true (n ∷ ns) s c = c
interface_in true [] s c = let none : c.0 < 0 = c.1 in absurd (omega (arith, none))

interface_among : (t : Declared) (s : Named) → Contains t.interfaces s → Contains (direct_supertypes t) s
interface_among t s c = Contains-append_right (option_to_list t.superclass) (or_object t.interface t.interfaces) s (interface_in t.interface t.interfaces s c)

abbrev LeadToAll : World → List Declared → List Named → Type 0
LeadToAll w way names = (s : Named) → Contains names s → EachBelow w way s

abbrev LaidFor : ℕ → World → (Declared → Bool) → Type 0
LaidFor n w test = (way : List Declared) (names : List Named) → Climbed w test way → LeadToAll w way names → Laid w test (interfaces_above n w way names)

laid_interface : (n : ℕ) (w : World) (test : Declared → Bool) → LaidFor n w test → (way : List Declared) (name : Named) → Climbed w test way → EachBelow w way name → (o : Option Declared)
    → type_named w name ≡ o → Laid w test (elim o [ None ↦ [] | Some t ↦ record { type = t; way = way } ∷ interfaces_above n w (steps_on way t) t.interfaces ])
laid_interface n w test again way name c below None e = tt
laid_interface n w test again way name c below (Some t) e =
    (fair_at w test way name t c below e, λ it. again (steps_on way t) t.interfaces (climbed_on w test way t c it) (λ s up. below_on w way name t s below e (interface_among t s up)))

laid_each : (n : ℕ) (w : World) (test : Declared → Bool) → LaidFor n w test → LaidFor (suc n) w test
laid_each n w test again way [] c leads = tt
laid_each n w test again way (name ∷ names) c leads =
    laid_append w test _ (interfaces_above (suc n) w way names) (laid_interface n w test again way name c (leads name (contains_first name names)) (type_named w name) refl)
    (λ a. laid_each n w test again way names c (λ s in_rest. leads s (contains_behind name names s in_rest)))

pub laid_interfaces : (n : ℕ) (w : World) (test : Declared → Bool) → LaidFor n w test
laid_interfaces zero w test way names c leads = tt
laid_interfaces (suc n) w test way names c leads = laid_each n w test (laid_interfaces n w test) way names c leads

-- ---- the whole search

abbrev interfaces_from : World → Visit → List Visit
interfaces_from w v = interfaces_above (length w) w (steps_on v.way v.type) v.type.interfaces

laid_over : (w : World) (test : Declared → Bool) (v : Visit) → Fair w test v → test v.type ≡ true → Laid w test (interfaces_from w v)
laid_over w test v f it =
    laid_interfaces (length w) w test (steps_on v.way v.type) v.type.interfaces (climbed_on w test v.way v.type (record { shown = f.shown; lowest = f.lowest; rest = f.rest; way_is = f.way_is }) it)
    (λ s up. below_on w v.way f.called v.type s f.below f.known (interface_among v.type s up))

laid_over_all : (w : World) (test : Declared → Bool) (vs : List Visit) → Laid w test vs → all_pass test vs ≡ true → Laid w test (flat_map (interfaces_from w) vs)
laid_over_all w test [] laid all = tt
laid_over_all w test (v ∷ vs) laid all =
    let parts : (test v.type ≡ true) × (all_pass test vs ≡ true) = and_parts (test v.type) (all_pass test vs) all in
    laid_append w test (interfaces_from w v) (flat_map (interfaces_from w) vs) (laid_over w test v laid.0 parts.0) (λ a. laid_over_all w test vs (laid.1 parts.0) parts.1)

-- the visits behind that of the type itself
abbrev pub further_visits : World → Declared → List Visit
further_visits w t = superclasses_above (length w) w (t ∷ []) t.superclass ++ flat_map (λ v. interfaces_above (length w) w (steps_on v.way v.type) v.type.interfaces) (class_chain w t)

pub laid_visits : (w : World) (test : Declared → Bool) (name : Named) (t : Declared) → type_named w name ≡ Some t → test t ≡ true → Laid w test (further_visits w t)
laid_visits w test name t named it =
    let start : Climbed w test (t ∷ []) = record { shown = ap (λ b. b && true) it; lowest = t; rest = []; way_is = refl } in
    let classes : Laid w test (superclasses_above (length w) w (t ∷ []) t.superclass) =
    laid_superclasses (length w) w test (t ∷ []) t.superclass start (λ s up. below_on w [] name t s tt named (superclass_among t s up)) in
    let own : Laid w test (interfaces_above (length w) w (t ∷ []) t.interfaces) =
    laid_interfaces (length w) w test (t ∷ []) t.interfaces start (λ s up. below_on w [] name t s tt named (interface_among t s up)) in
    laid_append w test (superclasses_above (length w) w (t ∷ []) t.superclass) _ classes
    (λ all. laid_append w test (interfaces_above (length w) w (t ∷ []) t.interfaces) _ own (λ a. laid_over_all w test _ classes all))

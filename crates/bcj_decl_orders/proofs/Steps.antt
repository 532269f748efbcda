-- In a world without circles each way up is no longer than the world, and a search with as many steps finds all.
use Rattle.std.proofs.Common.{◌≡◌, List, [], ◌∷◌, ◌++◌, Option, Some, None, Bool, true, false, cond, ◌||◌, refl, sym, ◌∙◌, ap, subst, ℕ, zero, suc, inl, inr, ◌≤◌, ◌<◌, length, arith}
use Rattle.std.proofs.Math.Nat.{le-suc_iff}
use Rattle.std.proofs.lemmas.Bool.{and_parts, cases_Bool}
use Rattle.std.proofs.lemmas.List.Folds.{list_all-append}
use Rattle.std.specs.List.{list_all}
use Rattle.std.specs.Option.{option_map_or, option_to_list, is_none}
use Rattle.std.specs.Str.{bytes_eq}
use Rattle.bcj_decl_rules.specs.World.{Named, Declared, World, has_type, type_named}
use Rattle.bcj_decl_rules.specs.Subtypes.{Sub, same, through, StepsTo, direct_supertypes, or_object}
use Rattle.bcj_decl_rules.specs.Members.{Visit, superclasses_above, interfaces_above, steps_on}
use Rattle.bcj_decl_rules.specs.function.Above.{IsAcyclic, types_above}
use Rattle.bcj_decl_soundness.proofs.Climbing.{same_bytes}
use Rattle.bcj_decl_orders.specs.Laws as law
use Rattle.bcj_decl_orders.proofs.Circles.{ends, all_of, found_has}

-- ---- the types that are left

abbrev without : Named → World → World
without name [] = []
without name (t ∷ ts) = cond (bytes_eq t.name name) (without name ts) (t ∷ without name ts)

without_short : (name : Named) (ts : World) → length (without name ts) ≤ length ts
without_short name [] = omega arith
without_short name (t ∷ ts) =
    let rest : length (without name ts) ≤ length ts = without_short name ts in
    elim (bytes_eq t.name name) as (λ b. length (cond b (without name ts) (t ∷ without name ts)) ≤ length (t ∷ ts)) [ true ↦ omega arith | false ↦ omega arith ]

without_less : (name : Named) (ts : World) → has_type ts name ≡ true → length (without name ts) < length ts
without_less name [] h = absurd (cc)
without_less name (t ∷ ts) h =
    let rest : length (without name ts) ≤ length ts = without_short name ts in
    elim (cases_Bool (bytes_eq t.name name)) [
      | inl it ↦
          let P : Bool → Type 0 = λ b. length (cond b (without name ts) (t ∷ without name ts)) < length (t ∷ ts) in
          subst P (sym it) (omega arith)
      | inr other ↦
          let P : Bool → Type 0 = λ b. length (cond b (without name ts) (t ∷ without name ts)) < length (t ∷ ts) in
          let behind : has_type ts name ≡ true = ap (λ b. b || has_type ts name) (sym other) ∙ h in
          let less : length (without name ts) < length ts = without_less name ts behind in
          subst P (sym other) (omega arith)
    ]

not_same : (name other this : Named) → bytes_eq other name ≡ false → bytes_eq this name ≡ true → bytes_eq this other ≡ false
not_same name other this ne it =
    elim (cases_Bool (bytes_eq this other)) [
      | inl both ↦
          let wrong : true ≡ false = sym it ∙ (ap (λ m. bytes_eq m name) (same_bytes this other both) ∙ ne) in
          absurd (cc)
      | inr apart ↦ apart
    ]

kept_by : (a b c : Bool) → (a || b) ≡ true → (b ≡ true → c ≡ true) → (a || c) ≡ true
kept_by true b c h keeps = refl
kept_by false b c h keeps = keeps h

-- another name stays
without_keeps : (name other : Named) (ts : World) → bytes_eq other name ≡ false → has_type ts other ≡ true → has_type (without name ts) other ≡ true
without_keeps name other [] ne h = h
without_keeps name other (t ∷ ts) ne h =
    elim (cases_Bool (bytes_eq t.name name)) [
      | inl it ↦
          let not_it : bytes_eq t.name other ≡ false = not_same name other t.name ne it in
          let behind : has_type ts other ≡ true = ap (λ b. b || has_type ts other) (sym not_it) ∙ h in
          ap (λ b. has_type (cond b (without name ts) (t ∷ without name ts)) other) it ∙ without_keeps name other ts ne behind
      | inr kept ↦
          ap (λ b. has_type (cond b (without name ts) (t ∷ without name ts)) other) kept ∙ kept_by (bytes_eq t.name other) (has_type ts other) (has_type (without name ts) other) h (without_keeps name other ts ne)
    ]

-- ---- the ways

-- all that stands above a name is among these types
abbrev Covers : World → World → Named → Type 0
Covers w rest name = (u : Named) (t : Declared) → Sub w name u → type_named w u ≡ Some t → has_type rest u ≡ true

covers_next : (w : World) → IsAcyclic w → (rest : World) (name next : Named) → Covers w rest name → StepsTo w name next → Covers w (without name rest) next
covers_next w fine rest name next covers step u t above named =
    elim (cases_Bool (bytes_eq u name)) [
      | inl it ↦
          let P : Named → Type 0 = λ m. Sub w next m in
          absurd (fine name (record { between = next; first = step; rest = subst P (same_bytes u name it) above }))
      | inr other ↦ without_keeps name u rest other (covers u t (through step above) named)
    ]

abbrev Ways : World → ℕ → Type 0
Ways w n = (rest : World) (name : Named) → Covers w rest name → length rest ≤ n → ends n w name ≡ true

no_way : (w : World) (rest : World) (name : Named) → Covers w rest name → length rest ≤ zero → (o : Option Declared) → type_named w name ≡ o → ends zero w name ≡ true
no_way w rest name covers few None e = ap is_none e
no_way w rest name covers few (Some t) e =
    let less : length (without name rest) < length rest = without_less name rest (covers name t same e) in
    absurd (omega arith)

one_more : (w : World) → IsAcyclic w → (n : ℕ) → Ways w n → (rest : World) (name : Named) → Covers w rest name → length rest ≤ suc n → (o : Option Declared) → type_named w name ≡ o
    → ends (suc n) w name ≡ true
one_more w fine n again rest name covers few None e = ap (λ o. option_map_or (λ t. list_all (ends n w) (direct_supertypes t)) o true) e
one_more w fine n again rest name covers few (Some t) e =
    let less : length (without name rest) < length rest = without_less name rest (covers name t same e) in
    let fewer : length (without name rest) ≤ n = omega arith in
    ap (λ o. option_map_or (λ t. list_all (ends n w) (direct_supertypes t)) o true) e
    ∙ all_of (ends n w) (direct_supertypes t) (λ x inside. again (without name rest) x (covers_next w fine rest name x covers (record { type = t; is_it = e; names_it = inside })) fewer)

ways_end : (w : World) → IsAcyclic w → (n : ℕ) → Ways w n
ways_end w fine zero rest name covers few = no_way w rest name covers few (type_named w name) refl
ways_end w fine (suc n) rest name covers few = one_more w fine n (ways_end w fine n) rest name covers few (type_named w name) refl

pub each_way_ends : (w : World) → IsAcyclic w → (n : ℕ) → length w ≤ n → (name : Named) → ends n w name ≡ true
each_way_ends w fine n few name = ways_end w fine n w name (λ u t above named. found_has w u t named) few

-- ---- searches

or_object_all : (f : Named → Bool) (i : Bool) (names : List Named) → list_all f (or_object i names) ≡ true → list_all f names ≡ true
or_object_all f true [] h = refl
or_object_all f true (n ∷ ns) h = h
or_object_all f false names h = h

class_all : (f : Named → Bool) (o : Option Named) → list_all f (option_to_list o) ≡ true → option_map_or f o true ≡ true
class_all f None h = refl
class_all f (Some n) h = (and_parts (f n) true h).0

both_all : (f : Named → Bool) (t : Declared) → list_all f (direct_supertypes t) ≡ true → (list_all f (option_to_list t.superclass) ≡ true) × (list_all f (or_object t.interface t.interfaces) ≡ true)
both_all f t h =
    and_parts (list_all f (option_to_list t.superclass)) (list_all f (or_object t.interface t.interfaces)) (sym (list_all-append f (option_to_list t.superclass) (or_object t.interface t.interfaces)) ∙ h)

pub interfaces_all : (f : Named → Bool) (t : Declared) → list_all f (direct_supertypes t) ≡ true → list_all f t.interfaces ≡ true
interfaces_all f t h = or_object_all f t.interface t.interfaces (both_all f t h).1

superclass_all : (f : Named → Bool) (t : Declared) → list_all f (direct_supertypes t) ≡ true → option_map_or f t.superclass true ≡ true
superclass_all f t h = class_all f t.superclass (both_all f t h).0

abbrev pub AllEnd : ℕ → World → List Named → Type 0
AllEnd n w names = list_all (ends n w) names ≡ true

abbrev one_above : ℕ → World → Option Declared → List Declared
one_above n w o = elim o [ None ↦ [] | Some t ↦ t ∷ types_above n w t.interfaces ]

no_type : (w : World) (o : Option Declared) → is_none o ≡ true → [] ≡ one_above zero w o
no_type w None h = refl
no_type w (Some t) h = absurd (cc)

no_types : (w : World) (names : List Named) → AllEnd zero w names → types_above zero w names ≡ types_above (suc zero) w names
no_types w [] h = refl
no_types w (x ∷ xs) h =
    let parts : (ends zero w x ≡ true) × AllEnd zero w xs = and_parts (ends zero w x) (list_all (ends zero w) xs) h in
    no_types w xs parts.1 ∙ ap (λ l. l ++ types_above (suc zero) w xs) (no_type w (type_named w x) parts.0)

one_type : (n : ℕ) (w : World) → ((names : List Named) → AllEnd n w names → types_above n w names ≡ types_above (suc n) w names) → (o : Option Declared)
    → option_map_or (λ t. list_all (ends n w) (direct_supertypes t)) o true ≡ true → one_above n w o ≡ one_above (suc n) w o
one_type n w again None h = refl
one_type n w again (Some t) h = ap (λ l. t ∷ l) (again t.interfaces (interfaces_all (ends n w) t h))

more_types : (n : ℕ) (w : World) → ((names : List Named) → AllEnd n w names → types_above n w names ≡ types_above (suc n) w names) → (names : List Named) → AllEnd (suc n) w names
    → types_above (suc n) w names ≡ types_above (suc (suc n)) w names
more_types n w again [] h = refl
more_types n w again (x ∷ xs) h =
    let parts : (ends (suc n) w x ≡ true) × AllEnd (suc n) w xs = and_parts (ends (suc n) w x) (list_all (ends (suc n) w) xs) h in
    ap (λ l. l ++ types_above (suc n) w xs) (one_type n w again (type_named w x) parts.0) ∙ ap (λ l. one_above (suc n) w (type_named w x) ++ l) (more_types n w again xs parts.1)

-- one step more finds no more types
types_more : (n : ℕ) (w : World) (names : List Named) → AllEnd n w names → types_above n w names ≡ types_above (suc n) w names
types_more zero w names h = no_types w names h
types_more (suc n) w names h = more_types n w (types_more n w) names h

pub all_end : (w : World) → IsAcyclic w → (n : ℕ) → length w ≤ n → (names : List Named) → AllEnd n w names
all_end w fine n few names = all_of (ends n w) names (λ x inside. each_way_ends w fine n few x)

pub types_above_end : law.TypesAboveEnd
types_above_end w fine zero few names =
    let none : zero ≡ length w = omega arith in
    ap (λ k. types_above k w names) none
types_above_end w fine (suc n) few names =
    elim (le-suc_iff.0 few) [
      | inl fewer ↦ sym (types_more n w names (all_end w fine n fewer names)) ∙ types_above_end w fine n fewer names
      | inr as_many ↦ ap (λ k. types_above k w names) (sym as_many)
    ]

-- ---- with their ways

abbrev visits_above : ℕ → World → List Declared → Option Declared → List Visit
visits_above n w way o = elim o [ None ↦ [] | Some t ↦ record { type = t; way = way } ∷ interfaces_above n w (steps_on way t) t.interfaces ]

abbrev InterfacesMore : ℕ → World → Type 0
InterfacesMore n w = (way : List Declared) (names : List Named) → AllEnd n w names → interfaces_above n w way names ≡ interfaces_above (suc n) w way names

no_visit : (w : World) (way : List Declared) (o : Option Declared) → is_none o ≡ true → [] ≡ visits_above zero w way o
no_visit w way None h = refl
no_visit w way (Some t) h = absurd (cc)

no_visits : (w : World) → InterfacesMore zero w
no_visits w way [] h = refl
no_visits w way (x ∷ xs) h =
    let parts : (ends zero w x ≡ true) × AllEnd zero w xs = and_parts (ends zero w x) (list_all (ends zero w) xs) h in
    no_visits w way xs parts.1 ∙ ap (λ l. l ++ interfaces_above (suc zero) w way xs) (no_visit w way (type_named w x) parts.0)

one_visit : (n : ℕ) (w : World) → InterfacesMore n w → (way : List Declared) (o : Option Declared)
    → option_map_or (λ t. list_all (ends n w) (direct_supertypes t)) o true ≡ true → visits_above n w way o ≡ visits_above (suc n) w way o
one_visit n w again way None h = refl
one_visit n w again way (Some t) h = ap (λ l. record { type = t; way = way } ∷ l) (again (steps_on way t) t.interfaces (interfaces_all (ends n w) t h))

more_visits : (n : ℕ) (w : World) → InterfacesMore n w → InterfacesMore (suc n) w
more_visits n w again way [] h = refl
more_visits n w again way (x ∷ xs) h =
    let parts : (ends (suc n) w x ≡ true) × AllEnd (suc n) w xs = and_parts (ends (suc n) w x) (list_all (ends (suc n) w) xs) h in
    ap (λ l. l ++ interfaces_above (suc n) w way xs) (one_visit n w again way (type_named w x) parts.0)
    ∙ ap (λ l. visits_above (suc n) w way (type_named w x) ++ l) (more_visits n w again way xs parts.1)

interfaces_more : (n : ℕ) (w : World) → InterfacesMore n w
interfaces_more zero w = no_visits w
interfaces_more (suc n) w = more_visits n w (interfaces_more n w)

pub interfaces_end : law.InterfacesEnd
interfaces_end w fine zero few way names =
    let none : zero ≡ length w = omega arith in
    ap (λ k. interfaces_above k w way names) none
interfaces_end w fine (suc n) few way names =
    elim (le-suc_iff.0 few) [
      | inl fewer ↦ sym (interfaces_more n w way names (all_end w fine n fewer names)) ∙ interfaces_end w fine n fewer way names
      | inr as_many ↦ ap (λ k. interfaces_above k w way names) (sym as_many)
    ]

-- ---- superclasses

abbrev SuperclassesMore : ℕ → World → Type 0
SuperclassesMore n w = (way : List Declared) (name : Option Named) → option_map_or (ends n w) name true ≡ true → superclasses_above n w way name ≡ superclasses_above (suc n) w way name

abbrev classes_above : ℕ → World → List Declared → Option Declared → List Visit
classes_above n w way o = elim o [ None ↦ [] | Some t ↦ record { type = t; way = way } ∷ superclasses_above n w (steps_on way t) t.superclass ]

no_class : (w : World) (way : List Declared) (o : Option Declared) → is_none o ≡ true → [] ≡ classes_above zero w way o
no_class w way None h = refl
no_class w way (Some t) h = absurd (cc)

one_class : (n : ℕ) (w : World) → SuperclassesMore n w → (way : List Declared) (o : Option Declared)
    → option_map_or (λ t. list_all (ends n w) (direct_supertypes t)) o true ≡ true → classes_above n w way o ≡ classes_above (suc n) w way o
one_class n w again way None h = refl
one_class n w again way (Some t) h = ap (λ l. record { type = t; way = way } ∷ l) (again (steps_on way t) t.superclass (superclass_all (ends n w) t h))

superclasses_more : (n : ℕ) (w : World) → SuperclassesMore n w
superclasses_more zero w way None h = refl
superclasses_more zero w way (Some name) h = no_class w way (type_named w name) h
superclasses_more (suc n) w way None h = refl
superclasses_more (suc n) w way (Some name) h = one_class n w (superclasses_more n w) way (type_named w name) h

one_ends : (w : World) → IsAcyclic w → (n : ℕ) → length w ≤ n → (name : Option Named) → option_map_or (ends n w) name true ≡ true
one_ends w fine n few None = refl
one_ends w fine n few (Some name) = each_way_ends w fine n few name

pub superclasses_end : law.SuperclassesEnd
superclasses_end w fine zero few way name =
    let none : zero ≡ length w = omega arith in
    ap (λ k. superclasses_above k w way name) none
superclasses_end w fine (suc n) few way name =
    elim (le-suc_iff.0 few) [
      | inl fewer ↦ sym (superclasses_more n w way name (one_ends w fine n fewer name)) ∙ superclasses_end w fine n fewer way name
      | inr as_many ↦ ap (λ k. superclasses_above k w way name) (sym as_many)
    ]

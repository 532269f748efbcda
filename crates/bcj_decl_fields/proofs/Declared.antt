-- Declared worlds have what the searches need.
use Rattle.std.proofs.Common.{◌≡◌, ◌++◌, List, [], ◌∷◌, map, Option, Some, None, Bool, true, false, not, ◌&&◌, ◌||◌, cond, refl, sym, ◌∙◌, ap, subst, ℕ, ◌⊎◌, inl, inr, arith, append_assoc}
use Rattle.std.proofs.lemmas.Bool.{cases_Bool, and_parts}
use Rattle.std.proofs.lemmas.List.Folds.{find-append}
use Rattle.std.proofs.lemmas.List.Elements.{All-nil, All-cons, Contains-get_or, Contains-append_left, Contains-append_right}
use Rattle.std.specs.List.{list_any, list_all, find, filter_map, Contains, All}
use Rattle.std.specs.Option.{option_map_or, option_or, is_none}
use Rattle.std.specs.Str.{bytes_eq}
use Rattle.bcj_parser_trees.specs.declared.names.Access.{Access}
use Rattle.bcj_parser_trees.specs.declared.names.Access.TheVariants as access
use Rattle.bcj_parser_trees.specs.declared.names.Mods.{Mods}
use Rattle.bcj_parser_trees.specs.Trees.{PlainMember, field_member, PlainType, PlainUnit}
use Rattle.bcj_symbolic_trees.specs.Names.{object_name}
use Rattle.bcj_decl_rules.specs.World.{Named, Field, Declared, World, boot_types, source_types, declared_type, superclass_in, field_in, is_named, has_type, type_named, world_of, is_private}
use Rattle.bcj_decl_rules.specs.Subtypes.{Sub, direct_supertypes}
use Rattle.bcj_decl_rules.specs.Faults.{StandsIn, IsDeclared, in_head, in_member, unknown_name, class_for_interface, first_unknown, stands_twice, is_field_of, is_restricted, second_field, field_modifier}
use Rattle.bcj_decl_soundness.proofs.Chains.{object_steps}
use Rattle.bcj_decl_soundness.proofs.Climbing.{same_bytes, bytes_same, found_name, stands_found, object_known, each_type_reaches}
use Rattle.bcj_decl_soundness.proofs.Listing.{boot_or_source}
use Rattle.bcj_decl_fields.specs.Hierarchy.{HeadsAreKnown, AllReachObject, InterfacesAreInterfaces, InterfacesExtendNoClass}
use Rattle.bcj_decl_fields.specs.Laws as law
use Rattle.bcj_decl_fields.proofs.Visits.{or_left, or_right, any_left, any_right, NamesAbove, as_superclass, as_interface}
use Rattle.bcj_decl_fields.proofs.Supertypes.{contains_cons, has_found, found_has, step_cases}

-- ---- where a type of the world comes from

-- from a type of the units
record Source (units : List PlainUnit) (t : Declared) : Type 0 where
  file : ℕ
  before : List PlainType
  type : PlainType
  stands : StandsIn units file before type
  is_it : declared_type type ≡ t

boot_found : (units : List PlainUnit) (s : Named) (b : Declared) → type_named boot_types s ≡ Some b → type_named (world_of units) s ≡ Some b
unfolding world_of
boot_found units s b e = find-append (is_named s) boot_types (map declared_type (source_types units)) ∙ ap (λ o. option_or o (find (is_named s) (map declared_type (source_types units)))) e

origin : (units : List PlainUnit) → IsDeclared units → (s : Named) (t : Declared) → type_named (world_of units) s ≡ Some t → (type_named boot_types s ≡ Some t) ⊎ Source units t
origin units fine s t e =
    elim (boot_or_source units s (found_has (world_of units) s t e)) [
      | inl boot ↦
          let b : (u : Declared) × (type_named boot_types s ≡ Some u) = has_found boot_types s boot in
          let both : Some b.0 ≡ Some t = sym (boot_found units s b.0 b.1) ∙ e in
          let same : b.0 ≡ t = cc in
          inl (b.1 ∙ ap (λ u. Some u) same)
      | inr source ↦
          let both : Some (declared_type source.type) ≡ Some t =
          sym (stands_found units fine source.file source.before source.type source.stands) ∙ (ap (type_named (world_of units)) (same_bytes source.type.name s source.called) ∙ e) in
          let same : declared_type source.type ≡ t = cc in
          inr (record { file = source.file; before = source.before; type = source.type; stands = source.stands; is_it = same })
    ]

-- a test that all pass
all_found : (p : Declared → Bool) (w : World) (s : Named) (t : Declared) → list_all p w ≡ true → type_named w s ≡ Some t → p t ≡ true
all_found p [] s t all e = cc
all_found p (u ∷ us) s t all e =
    let parts : (p u ≡ true) × (list_all p us ≡ true) = and_parts (p u) (list_all p us) all in
    elim (cases_Bool (bytes_eq u.name s)) [
      | inl it ↦
          let there : Some u ≡ Some t = ap (λ b. cond b (Some u) (type_named us s)) (sym it) ∙ e in
          let same : u ≡ t = cc in
          ap p (sym same) ∙ parts.0
      | inr other ↦ all_found p us s t parts.1 (ap (λ b. cond b (Some u) (type_named us s)) (sym other) ∙ e)
    ]

found_in : (w : World) (s : Named) (t : Declared) → type_named w s ≡ Some t → Contains w t
found_in [] s t e = cc
found_in (u ∷ us) s t e =
    elim (cases_Bool (bytes_eq u.name s)) [
      | inl it ↦
          let there : Some u ≡ Some t = ap (λ b. cond b (Some u) (type_named us s)) (sym it) ∙ e in
          let same : u ≡ t = cc in
          (0, omega arith, same)
      | inr other ↦ Contains-append_right (u ∷ []) us t (found_in us s t (ap (λ b. cond b (Some u) (type_named us s)) (sym other) ∙ e))
    ]

names_all : (p : Named → Bool) (names : List Named) (name : Named) → list_all p names ≡ true → Contains names name → p name ≡ true
names_all p [] name all h = absurd (omega (arith, h.1))
names_all p (n ∷ ns) name all h =
    let parts : (p n ≡ true) × (list_all p ns ≡ true) = and_parts (p n) (list_all p ns) all in
    elim (contains_cons n ns name h) [ inl it ↦ ap p (sym it) ∙ parts.0 | inr later ↦ names_all p ns name parts.1 later ]

-- ---- heads

boot_heads : (units : List PlainUnit) → list_all (λ t. list_all (has_type (world_of units)) (direct_supertypes t)) boot_types ≡ true
unfolding world_of
boot_heads units = refl

known_name : (w : World) (names : List Named) (name : Named) → first_unknown w names ≡ None → Contains names name → has_type w name ≡ true
known_name w [] name none h = absurd (omega (arith, h.1))
known_name w (n ∷ ns) name none h =
    elim (cases_Bool (has_type w n)) [
      | inl known ↦
          let rest : first_unknown w ns ≡ None = ap (λ b. cond (not b) (Some n) (first_unknown w ns)) (sym known) ∙ none in
          elim (contains_cons n ns name h) [ inl it ↦ ap (has_type w) (sym it) ∙ known | inr later ↦ known_name w ns name rest later ]
      | inr unknown ↦
          let found : Some n ≡ None = ap (λ b. cond (not b) (Some n) (first_unknown w ns)) (sym unknown) ∙ none in
          absurd (cc)
    ]

none_unknown : (units : List PlainUnit) → IsDeclared units → (file : ℕ) (before : List PlainType) (t : PlainType) → StandsIn units file before t → (o : Option Named)
    → first_unknown (world_of units) (t.extends ++ t.implements) ≡ o → o ≡ None
none_unknown units fine file before t stands None e = refl
none_unknown units fine file before t stands (Some name) e = absurd (fine _ _ (in_head stands (unknown_name e)))

written_known : (units : List PlainUnit) → IsDeclared units → (file : ℕ) (before : List PlainType) (t : PlainType) → StandsIn units file before t → (name : Named) → Contains (t.extends ++ t.implements) name
    → has_type (world_of units) name ≡ true
written_known units fine file before t stands name h =
    known_name (world_of units) (t.extends ++ t.implements) name (none_unknown units fine file before t stands (first_unknown (world_of units) (t.extends ++ t.implements)) refl) h

superclass_known : (units : List PlainUnit) (t : PlainType) → ((name : Named) → Contains (t.extends ++ t.implements) name → has_type (world_of units) name ≡ true) → (name : Named) (interface : Bool) (names : List Named)
    → t.extends ≡ names → elim interface as (λ b. Option Named) [ true ↦ None | false ↦ Some (superclass_in names) ] ≡ Some name → has_type (world_of units) name ≡ true
superclass_known units t known name true names ex e = cc
superclass_known units t known name false [] ex e =
    let object : object_name ≡ name = cc in
    ap (has_type (world_of units)) (sym object) ∙ object_known units
superclass_known units t known name false (n ∷ ns) ex e =
    let first : n ≡ name = cc in
    let P : List Named → Type 0 = λ l. Contains (l ++ t.implements) n in
    ap (has_type (world_of units)) (sym first) ∙ known n (subst P (sym ex) (Contains-append_left (n ∷ ns) t.implements n (Contains-get_or (n ∷ ns) 0 n (omega arith))))

interface_written : (t : PlainType) (name : Named) (interface : Bool) → Contains (elim interface as (λ b. List Named) [ true ↦ t.extends | false ↦ t.implements ]) name → Contains (t.extends ++ t.implements) name
interface_written t name true h = Contains-append_left t.extends t.implements name h
interface_written t name false h = Contains-append_right t.extends t.implements name h

source_known : (units : List PlainUnit) (t : PlainType) → ((name : Named) → Contains (t.extends ++ t.implements) name → has_type (world_of units) name ≡ true) → (name : Named) → NamesAbove (declared_type t) name
    → has_type (world_of units) name ≡ true
source_known units t known name (as_superclass e) = superclass_known units t known name t.interface t.extends refl e
source_known units t known name (as_interface h) = known name (interface_written t name t.interface h)

heads_known : (units : List PlainUnit) → IsDeclared units → HeadsAreKnown (world_of units)
heads_known units fine s u step =
    elim (origin units fine s step.type step.is_it) [
      | inl boot ↦ names_all (has_type (world_of units)) (direct_supertypes step.type) u (all_found (λ t. list_all (has_type (world_of units)) (direct_supertypes t)) boot_types s step.type (boot_heads units) boot) step.names_it
      | inr source ↦
          let P : Declared → Type 0 = λ d. Contains (direct_supertypes d) u in
          elim (step_cases (declared_type source.type) u (subst P (sym source.is_it) step.names_it)) [
            | inl names ↦ source_known units source.type (written_known units fine source.file source.before source.type source.stands) u names
            | inr object ↦ ap (has_type (world_of units)) object ∙ object_known units
          ]
    ]

all_reach : (units : List PlainUnit) → IsDeclared units → AllReachObject (world_of units)
all_reach units fine s known =
    let t : (u : Declared) × (type_named (world_of units) s ≡ Some u) = has_found (world_of units) s known in
    let P : Named → Type 0 = λ n. Sub (world_of units) n object_name in
    subst P (found_name (world_of units) s t.0 t.1) (each_type_reaches units fine t.0 (found_in (world_of units) s t.0 t.1))

-- ---- interfaces

abbrev names_interface : World → Named → Bool
names_interface w name = option_map_or (λ u. u.interface) (type_named w name) true

boot_interfaces : (units : List PlainUnit) → list_all (λ t. list_all (names_interface (world_of units)) t.interfaces) boot_types ≡ true
unfolding world_of
boot_interfaces units = refl

interfaces_are : (units : List PlainUnit) → IsDeclared units → InterfacesAreInterfaces (world_of units)
interfaces_are units fine s t e name u inside named =
    elim (origin units fine s t e) [
      | inl boot ↦
          let test : names_interface (world_of units) name ≡ true =
          names_all (names_interface (world_of units)) t.interfaces name (all_found (λ v. list_all (names_interface (world_of units)) v.interfaces) boot_types s t (boot_interfaces units) boot) inside in
          ap (λ o. option_map_or (λ v. v.interface) o true) (sym named) ∙ test
      | inr source ↦
          let P : Declared → Type 0 = λ d. Contains d.interfaces name in
          elim (cases_Bool u.interface)
          [ inl it ↦ it | inr class ↦ absurd (fine _ _ (in_head source.stands (class_for_interface (subst P (sym source.is_it) inside) named class))) ]
    ]

boot_alone : list_all (λ t. not t.interface || is_none t.superclass) boot_types ≡ true
boot_alone = refl

none_is : (o : Option Named) → is_none o ≡ true → o ≡ None
none_is None h = refl
none_is (Some n) h = cc

alone_of : (t : Declared) → (not t.interface || is_none t.superclass) ≡ true → t.interface ≡ true → t.superclass ≡ None
alone_of t h it = none_is t.superclass (ap (λ b. not b || is_none t.superclass) (sym it) ∙ h)

source_alone : (names : List Named) (interface : Bool) → interface ≡ true → elim interface as (λ b. Option Named) [ true ↦ None | false ↦ Some (superclass_in names) ] ≡ None
source_alone names true h = refl
source_alone names false h = cc

extend_no_class : (units : List PlainUnit) → IsDeclared units → InterfacesExtendNoClass (world_of units)
extend_no_class units fine s t e it =
    elim (origin units fine s t e) [
      | inl boot ↦ alone_of t (all_found (λ u. not u.interface || is_none u.superclass) boot_types s t boot_alone boot) it
      | inr source ↦
          ap (λ d. d.superclass) (sym source.is_it) ∙ source_alone source.type.extends source.type.interface (ap (λ d. d.interface) source.is_it ∙ it)
    ]

pub hierarchy : law.DeclaredWorldsAreHierarchies
hierarchy units fine = record {
  known = heads_known units fine;
  reach = all_reach units fine;
  top = object_steps units;
  interfaces = interfaces_are units fine;
  no_class = extend_no_class units fine;
}

-- ---- fields

boot_open : list_all (λ t. list_all (λ f. not f.is_private) t.fields) boot_types ≡ true
boot_open = refl

not_true : (b : Bool) → not b ≡ true → b ≡ false
not_true true h = cc
not_true false h = refl

all_open : (fs : List Field) → list_all (λ f. not f.is_private) fs ≡ true → All (λ f. f.is_private ≡ false) fs
all_open [] h = All-nil (λ f. f.is_private ≡ false)
all_open (f ∷ fs) h =
    let parts : (not f.is_private ≡ true) × (list_all (λ g. not g.is_private) fs ≡ true) = and_parts (not f.is_private) (list_all (λ g. not g.is_private) fs) h in
    All-cons (λ g. g.is_private ≡ false) f fs (not_true f.is_private parts.0) (all_open fs parts.1)

access_restricted : (a : Access) → elim a as (λ b. Bool) [ access.Private ↦ true | _ ↦ false ] ≡ true → elim a as (λ b. Bool) [ access.Private ↦ true | access.Protected ↦ true | _ ↦ false ] ≡ true
access_restricted access.Private h = refl
access_restricted access.Protected h = cc
access_restricted access.Public h = cc
access_restricted access.Open h = cc

restricted_field : (interface : Bool) (mods : Mods) → interface ≡ true → is_private mods ≡ true → (mods.is_abstract || (interface && is_restricted mods)) ≡ true
restricted_field interface mods it hidden = or_right mods.is_abstract (interface && is_restricted mods) (ap (λ b. b && is_restricted mods) it ∙ access_restricted mods.access hidden)

one_on : (members earlier ms : List PlainMember) (m : PlainMember) → members ≡ earlier ++ m ∷ ms → members ≡ (earlier ++ m ∷ []) ++ ms
one_on members earlier ms m e = e ∙ sym (append_assoc earlier (m ∷ []) ms)

abbrev declared_fields : PlainType → List PlainMember → List Field
declared_fields t ms = filter_map (field_in t.interface t.name) ms

members_open : (units : List PlainUnit) → IsDeclared units → (file : ℕ) (before : List PlainType) (t : PlainType) → StandsIn units file before t → t.interface ≡ true → (earlier later : List PlainMember) → t.members ≡ earlier ++ later
    → All (λ f. f.is_private ≡ false) (declared_fields t later)
members_open units fine file before t stands it earlier [] e = All-nil (λ f. f.is_private ≡ false)
members_open units fine file before t stands it earlier (field_member at mods ty name init ∷ ms) e =
    elim (cases_Bool (is_private mods)) [
      | inl hidden ↦ absurd (fine _ _ (in_member earlier ms stands e (field_modifier (restricted_field t.interface mods it hidden))))
      | inr clear ↦
          All-cons (λ f. f.is_private ≡ false) _ (declared_fields t ms) clear
          (members_open units fine file before t stands it (earlier ++ field_member at mods ty name init ∷ []) ms (one_on t.members earlier ms (field_member at mods ty name init) e))
    ]
members_open units fine file before t stands it earlier (m ∷ ms) e = members_open units fine file before t stands it (earlier ++ m ∷ []) ms (one_on t.members earlier ms m e)

pub fields_open : law.DeclaredFieldsAreOpen
fields_open units fine s t e it =
    elim (origin units fine s t e) [
      | inl boot ↦ all_open t.fields (all_found (λ u. list_all (λ f. not f.is_private) u.fields) boot_types s t boot_open boot)
      | inr source ↦
          let P : Declared → Type 0 = λ d. All (λ f. f.is_private ≡ false) d.fields in
          subst P source.is_it (members_open units fine source.file source.before source.type source.stands (ap (λ d. d.interface) source.is_it ∙ it) [] source.type.members refl)
    ]

boot_once : list_all (λ t. not (stands_twice (map (λ f. f.name) t.fields))) boot_types ≡ true
boot_once = refl

later_named : (units : List PlainUnit) → IsDeclared units → (file : ℕ) (before : List PlainType) (t : PlainType) → StandsIn units file before t → (x : Named) (earlier later : List PlainMember) → t.members ≡ earlier ++ later
    → list_any (is_field_of x) earlier ≡ true → list_any (bytes_eq x) (map (λ f. f.name) (declared_fields t later)) ≡ false
later_named units fine file before t stands x earlier [] e h = refl
later_named units fine file before t stands x earlier (field_member at mods ty name init ∷ ms) e h =
    let m : PlainMember = field_member at mods ty name init in
    elim (cases_Bool (bytes_eq x name)) [
      | inl it ↦ absurd (fine _ _ (in_member earlier ms stands e (second_field (ap (λ n. list_any (is_field_of n) earlier) (sym (same_bytes x name it)) ∙ h))))
      | inr other ↦
          ap (λ b. b || list_any (bytes_eq x) (map (λ f. f.name) (declared_fields t ms))) other
          ∙ later_named units fine file before t stands x (earlier ++ m ∷ []) ms (one_on t.members earlier ms m e) (any_left (is_field_of x) earlier (m ∷ []) h)
    ]
later_named units fine file before t stands x earlier (m ∷ ms) e h =
    later_named units fine file before t stands x (earlier ++ m ∷ []) ms (one_on t.members earlier ms m e) (any_left (is_field_of x) earlier (m ∷ []) h)

members_once : (units : List PlainUnit) → IsDeclared units → (file : ℕ) (before : List PlainType) (t : PlainType) → StandsIn units file before t → (earlier later : List PlainMember) → t.members ≡ earlier ++ later
    → stands_twice (map (λ f. f.name) (declared_fields t later)) ≡ false
members_once units fine file before t stands earlier [] e = refl
members_once units fine file before t stands earlier (field_member at mods ty name init ∷ ms) e =
    let m : PlainMember = field_member at mods ty name init in
    let on : t.members ≡ (earlier ++ m ∷ []) ++ ms = one_on t.members earlier ms m e in
    let here_it : list_any (is_field_of name) (earlier ++ m ∷ []) ≡ true = any_right (is_field_of name) earlier (m ∷ []) (or_left (bytes_eq name name) false (bytes_same name)) in
    ap (λ b. b || stands_twice (map (λ f. f.name) (declared_fields t ms))) (later_named units fine file before t stands name (earlier ++ m ∷ []) ms on here_it)
    ∙ members_once units fine file before t stands (earlier ++ m ∷ []) ms on
members_once units fine file before t stands earlier (m ∷ ms) e = members_once units fine file before t stands (earlier ++ m ∷ []) ms (one_on t.members earlier ms m e)

pub fields_once : law.DeclaredFieldsStandOnce
fields_once units fine s t e =
    elim (origin units fine s t e) [
      | inl boot ↦ not_true (stands_twice (map (λ f. f.name) t.fields)) (all_found (λ u. not (stands_twice (map (λ f. f.name) u.fields))) boot_types s t boot_once boot)
      | inr source ↦
          ap (λ d. stands_twice (map (λ f. f.name) d.fields)) (sym source.is_it) ∙ members_once units fine source.file source.before source.type source.stands [] source.type.members refl
    ]

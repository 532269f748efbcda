-- In a declared world the initialiser that stands at a field's number is the one that the field's names mean.
use Rattle.std.proofs.Common.{◌≡◌, ◌+◌, ◌++◌, List, [], ◌∷◌, map, Option, Some, Bool, true, false, not, ◌&&◌, ◌||◌, cond, refl, sym, ◌∙◌, ap, ℕ, zero, suc, length, arith, ◌⊎◌, inl, inr, slice_get, append_assoc, append-nil}
use Rattle.std.proofs.lemmas.Bool.{and_parts, or_cases, or_parts, cases_Bool}
use Rattle.std.proofs.lemmas.List.Folds.{list_any-append, list_all-append}
use Rattle.std.proofs.lemmas.List.Concat.{flat_map-append}
use Rattle.std.proofs.lemmas.List.{length-map}
use Rattle.std.proofs.lemmas.Option.{slice_get-map}
use Rattle.std.specs.List.{find, list_any, list_all, flat_map, filter_map}
use Rattle.std.specs.Option.{option_map, option_map_or}
use Rattle.std.specs.Str.{bytes_eq}
use Rattle.bcj_parser_trees.specs.Trees.{PlainOption, absent, PlainUnit, PlainType, PlainMember, field_member}
use Rattle.bcj_decl_rules.specs.World.{Named, Field, Declared, World, boot_types, source_types, declared_type, field_in, field_with, world_of, has_type, initialiser_in, initialiser_of}
use Rattle.bcj_decl_rules.specs.Faults.{IsDeclared, StandsIn, here, in_member, second_field, stands_twice, is_field_of}
use Rattle.bcj_decl_soundness.proofs.Climbing.{same_bytes, bytes_same}
use Rattle.bcj_decl_soundness.proofs.Listing.{each_name_is_one}
use Rattle.bcj_decl_constants.specs.Needs.{fields_in}
use Rattle.bcj_decl_constants.specs.Initials.{boot_initials, initial_in, initials_of_type}
use Rattle.bcj_decl_constants.specs.Initials as law

-- ---- lists

-- an item of two lists stands in the first, or in the second behind it
abbrev Sides : {A : Type 0} → List A → List A → ℕ → A → Type 0
Sides xs ys m x = (slice_get xs m ≡ Some x) ⊎ ((k : ℕ) × (m ≡ length xs + k) × (slice_get ys k ≡ Some x))

-- by going through the first list
sides : {A : Type 0} (xs ys : List A) (m : ℕ) (x : A) → slice_get (xs ++ ys) m ≡ Some x → Sides xs ys m x
sides [] ys m x e = inr (m, omega arith, e)
sides (z ∷ zs) ys zero x e = inl e
sides (z ∷ zs) ys (suc m) x e =
    elim (sides zs ys m x e) [
      | inl near ↦ inl near
      | inr further ↦
          let at : m ≡ length zs + further.0 = further.1 in
          inr (further.0, omega arith, further.2)
    ]

-- an item of the first of two lists stands where it stood
get_first : {A : Type 0} (xs ys : List A) (i : ℕ) (x : A) → slice_get xs i ≡ Some x → slice_get (xs ++ ys) i ≡ Some x
get_first [] ys i x e = absurd (cc)
get_first (z ∷ zs) ys zero x e = e
get_first (z ∷ zs) ys (suc i) x e = get_first zs ys i x e

-- an item of the second list stands behind the first
get_second : {A : Type 0} (xs ys : List A) (i : ℕ) (x : A) → slice_get ys i ≡ Some x → slice_get (xs ++ ys) (length xs + i) ≡ Some x
get_second [] ys i x e = ap (slice_get ys) (omega arith) ∙ e
get_second (z ∷ zs) ys i x e =
    let up : suc (length zs) + i ≡ suc (length zs + i) = omega arith in
    ap (slice_get (z ∷ (zs ++ ys))) up ∙ get_second zs ys i x e

-- ---- the members of one type

-- the fields of members, and their names
abbrev fields_among : Bool → Named → List PlainMember → List Field
fields_among interface class ms = filter_map (field_in interface class) ms

abbrev names_among : Bool → Named → List PlainMember → List Named
names_among interface class ms = map (λ f. f.name) (fields_among interface class ms)

-- the name of a field of a list is among the names
any_named : (fs : List Field) (j : ℕ) (f : Field) → slice_get fs j ≡ Some f → list_any (bytes_eq f.name) (map (λ g. g.name) fs) ≡ true
any_named [] j f e = absurd (cc)
any_named (g ∷ gs) zero f e =
    let it : g ≡ f = cc in
    ap (λ b. b || list_any (bytes_eq f.name) (map (λ h. h.name) gs)) (ap (λ h. bytes_eq f.name h.name) it ∙ bytes_same f.name)
any_named (g ∷ gs) (suc j) f e =
    elim (bytes_eq f.name g.name) as (λ b. (b || list_any (bytes_eq f.name) (map (λ h. h.name) gs)) ≡ true) [ true ↦ refl | false ↦ any_named gs j f e ]

-- a field behind another of its type has another name
other_name : (name : Named) (fs : List Field) (j : ℕ) (f : Field) → list_any (bytes_eq name) (map (λ g. g.name) fs) ≡ false → slice_get fs j ≡ Some f → bytes_eq name f.name ≡ false
other_name name fs j f none e =
    elim (cases_Bool (bytes_eq name f.name)) [
      | inl it ↦
          let there : list_any (bytes_eq name) (map (λ g. g.name) fs) ≡ true = ap (λ x. list_any (bytes_eq x) (map (λ g. g.name) fs)) (same_bytes name f.name it) ∙ any_named fs j f e in
          absurd (cc)
      | inr other ↦ other
    ]

-- the initialiser of a field of the name, or that of a member behind it
abbrev picked : PlainOption → Named → List PlainMember → Bool → Option PlainOption
picked init name ms b = Some (elim b [ true ↦ init | false ↦ initialiser_in name ms ])

-- the initialiser at a field's place among the fields is that of its name
own_member : (i : Bool) (class : Named) (ms : List PlainMember) → stands_twice (names_among i class ms) ≡ false → (n : ℕ) (f : Field) → slice_get (fields_among i class ms) n ≡ Some f
    → slice_get (filter_map initial_in ms) n ≡ Some (initialiser_in f.name ms)
own_member i class [] once n f e = absurd (cc)
own_member i class (field_member at mods ty name init ∷ ms) once zero f e =
    let it : field_with i class mods ty name ≡ f = cc in
    let named : bytes_eq name f.name ≡ true = ap (λ g. bytes_eq name g.name) (sym it) ∙ bytes_same name in
    ap (picked init f.name ms) (sym named)
own_member i class (field_member at mods ty name init ∷ ms) once (suc n) f e =
    let parts : (list_any (bytes_eq name) (names_among i class ms) ≡ false) × (stands_twice (names_among i class ms) ≡ false) =
    or_parts (list_any (bytes_eq name) (names_among i class ms)) (stands_twice (names_among i class ms)) once in
    own_member i class ms parts.1 n f e ∙ ap (picked init f.name ms) (sym (other_name name (fields_among i class ms) n f parts.0 e))
own_member i class (m ∷ ms) once n f e = own_member i class ms once n f e

-- each field has one place in both lists
as_many : (i : Bool) (class : Named) (ms : List PlainMember) → length (filter_map initial_in ms) ≡ length (fields_among i class ms)
as_many i class [] = refl
as_many i class (field_member at mods ty name init ∷ ms) = ap suc (as_many i class ms)
as_many i class (m ∷ ms) = as_many i class ms

-- ---- the fields of a type have its name

-- each field of a type, and of all types, has the name of its own type as its class
abbrev owns : Declared → Bool
owns t = list_all (λ f. bytes_eq f.class t.name) t.fields

abbrev all_own : World → Bool
all_own w = list_all owns w

-- the boot types by computing
boot_own : all_own boot_types ≡ true
boot_own = refl

-- the fields of a source type, and of all of them
fields_own : (i : Bool) (name : Named) (ms : List PlainMember) → list_all (λ f. bytes_eq f.class name) (fields_among i name ms) ≡ true
fields_own i name [] = refl
fields_own i name (field_member at mods ty x init ∷ ms) = ap (λ b. b && list_all (λ f. bytes_eq f.class name) (fields_among i name ms)) (bytes_same name) ∙ fields_own i name ms
fields_own i name (m ∷ ms) = fields_own i name ms

sources_own : (ts : List PlainType) → all_own (map declared_type ts) ≡ true
sources_own [] = refl
sources_own (t ∷ ts) = ap (λ b. b && all_own (map declared_type ts)) (fields_own t.interface t.name t.members) ∙ sources_own ts

-- the class of one of the fields
class_of : (name : Named) (fs : List Field) (i : ℕ) (f : Field) → list_all (λ g. bytes_eq g.class name) fs ≡ true → slice_get fs i ≡ Some f → f.class ≡ name
class_of name [] i f all e = absurd (cc)
class_of name (g ∷ gs) zero f all e =
    let it : g ≡ f = cc in
    let both : (bytes_eq g.class name ≡ true) × (list_all (λ h. bytes_eq h.class name) gs ≡ true) = and_parts (bytes_eq g.class name) (list_all (λ h. bytes_eq h.class name) gs) all in
    ap (λ h. h.class) (sym it) ∙ same_bytes g.class name both.0
class_of name (g ∷ gs) (suc i) f all e =
    let both : (bytes_eq g.class name ≡ true) × (list_all (λ h. bytes_eq h.class name) gs ≡ true) = and_parts (bytes_eq g.class name) (list_all (λ h. bytes_eq h.class name) gs) all in
    class_of name gs i f both.1 e

-- a field of a list of types has the name of one of them
of_some : (ts : World) (j : ℕ) (f : Field) → all_own ts ≡ true → slice_get (fields_in ts) j ≡ Some f → has_type ts f.class ≡ true
of_some [] j f own e = absurd (cc)
of_some (t ∷ ts) j f own e =
    let both : (owns t ≡ true) × (all_own ts ≡ true) = and_parts (owns t) (all_own ts) own in
    elim (sides t.fields (fields_in ts) j f e) [
      | inl near ↦
          let named : f.class ≡ t.name = class_of t.name t.fields j f both.0 near in
          ap (λ b. b || has_type ts f.class) (ap (λ n. bytes_eq t.name n) named ∙ bytes_same t.name)
      | inr further ↦
          let rest : has_type ts f.class ≡ true = of_some ts further.0 f both.1 further.2 in
          elim (bytes_eq t.name f.class) as (λ b. (b || has_type ts f.class) ≡ true) [ true ↦ refl | false ↦ rest ]
    ]

-- ---- each name is that of one type

-- no type of a list has the name of one that stands before it
abbrev Distinct : World → World → Type 0
Distinct before ts = (front : World) (t : Declared) (behind : World) → ts ≡ front ++ t ∷ behind → has_type (before ++ front) t.name ≡ false

-- a choice with a true side
or_true : (a : Bool) → (a || true) ≡ true
or_true true = refl
or_true false = refl

-- behind one type more
onward : (before : World) (t : Declared) (ts : World) → Distinct before (t ∷ ts) → Distinct (before ++ t ∷ []) ts
onward before t ts apart front u behind e =
    ap (λ l. has_type l u.name) (append_assoc before (t ∷ []) front) ∙ apart (t ∷ front) u behind (ap (λ l. t ∷ l) e)

-- no name stands on both sides
never : (before ts : World) → Distinct before ts → (name : Named) → has_type before name ≡ true → has_type ts name ≡ true → ⊥
never before [] apart name a b = cc
never before (u ∷ us) apart name a b =
    elim (or_cases (bytes_eq u.name name) (has_type us name) b) [
      | inl it ↦
          let none : has_type (before ++ []) u.name ≡ false = apart [] u us refl in
          let same : u.name ≡ name = same_bytes u.name name it in
          let whole : before ++ [] ≡ before = append-nil before in
          let wrong : has_type before name ≡ false = ap (λ l. has_type l name) (sym whole) ∙ (ap (λ n. has_type (before ++ []) n) (sym same) ∙ none) in
          absurd (cc)
      | inr other ↦
          let more : has_type (before ++ u ∷ []) name ≡ true =
          list_any-append (λ t. bytes_eq t.name name) before (u ∷ []) ∙ ap (λ c. c || (bytes_eq u.name name || false)) a in
          never (before ++ u ∷ []) us (onward before u us apart) name more other
    ]

-- a type's name is that of none behind it
not_behind : (before : World) (t : Declared) (ts : World) → Distinct before (t ∷ ts) → (name : Named) → t.name ≡ name → has_type ts name ≡ true → ⊥
not_behind before t ts apart name same there =
    let last : has_type (t ∷ []) name ≡ true = ap (λ b. b || false) (ap (bytes_eq t.name) (sym same) ∙ bytes_same t.name) in
    let more : has_type (before ++ t ∷ []) name ≡ true =
    list_any-append (λ u. bytes_eq u.name name) before (t ∷ []) ∙ (ap (λ c. has_type before name || c) last ∙ or_true (has_type before name)) in
    never (before ++ t ∷ []) ts (onward before t ts apart) name more there

-- the source types stand behind the boot types
sources_apart : (units : List PlainUnit) → IsDeclared units → Distinct boot_types (map declared_type (source_types units))
unfolding world_of
sources_apart units fine front t behind e =
    each_name_is_one units fine (boot_types ++ front) t behind (ap (λ l. boot_types ++ l) e ∙ sym (append_assoc boot_types front (t ∷ behind)))

-- ---- each name is that of one field of a type

-- no two fields of a source type have one name
abbrev differs : PlainType → Bool
differs t = not (stands_twice (names_among t.interface t.name t.members))

-- a test whose denial holds fails
not_twice : (b : Bool) → not b ≡ true → b ≡ false
not_twice true e = absurd (cc)
not_twice false e = refl

-- behind one member more
one_on : (members earlier ms : List PlainMember) (m : PlainMember) → members ≡ earlier ++ m ∷ ms → members ≡ (earlier ++ m ∷ []) ++ ms
one_on members earlier ms m e = e ∙ sym (append_assoc earlier (m ∷ []) ms)

-- a name that stands among members stands among one more, and so does that of the last
still_named : (x : Named) (earlier : List PlainMember) (m : PlainMember) → list_any (is_field_of x) earlier ≡ true → list_any (is_field_of x) (earlier ++ m ∷ []) ≡ true
still_named x earlier m h = list_any-append (is_field_of x) earlier (m ∷ []) ∙ ap (λ b. b || list_any (is_field_of x) (m ∷ [])) h

now_named : (x : Named) (earlier : List PlainMember) (m : PlainMember) → is_field_of x m ≡ true → list_any (is_field_of x) (earlier ++ m ∷ []) ≡ true
now_named x earlier m h =
    list_any-append (is_field_of x) earlier (m ∷ []) ∙ (ap (λ b. list_any (is_field_of x) earlier || (b || false)) h ∙ or_true (list_any (is_field_of x) earlier))

-- no field behind these members has a name of theirs
later_named : (units : List PlainUnit) → IsDeclared units → (file : ℕ) (before : List PlainType) (t : PlainType) → StandsIn units file before t → (x : Named) (earlier later : List PlainMember) → t.members ≡ earlier ++ later
    → list_any (is_field_of x) earlier ≡ true → list_any (bytes_eq x) (names_among t.interface t.name later) ≡ false
later_named units fine file before t stands x earlier [] e h = refl
later_named units fine file before t stands x earlier (field_member at mods ty name init ∷ ms) e h =
    let m : PlainMember = field_member at mods ty name init in
    elim (cases_Bool (bytes_eq x name)) [
      | inl it ↦ absurd (fine _ _ (in_member earlier ms stands e (second_field (ap (λ n. list_any (is_field_of n) earlier) (sym (same_bytes x name it)) ∙ h))))
      | inr other ↦
          ap (λ b. b || list_any (bytes_eq x) (names_among t.interface t.name ms)) other
          ∙ later_named units fine file before t stands x (earlier ++ m ∷ []) ms (one_on t.members earlier ms m e) (still_named x earlier m h)
    ]
later_named units fine file before t stands x earlier (m ∷ ms) e h =
    later_named units fine file before t stands x (earlier ++ m ∷ []) ms (one_on t.members earlier ms m e) (still_named x earlier m h)

-- the names of a type's fields stand once, behind some of its members
members_once : (units : List PlainUnit) → IsDeclared units → (file : ℕ) (before : List PlainType) (t : PlainType) → StandsIn units file before t → (earlier later : List PlainMember) → t.members ≡ earlier ++ later
    → stands_twice (names_among t.interface t.name later) ≡ false
members_once units fine file before t stands earlier [] e = refl
members_once units fine file before t stands earlier (field_member at mods ty name init ∷ ms) e =
    let m : PlainMember = field_member at mods ty name init in
    let on : t.members ≡ (earlier ++ m ∷ []) ++ ms = one_on t.members earlier ms m e in
    ap (λ b. b || stands_twice (names_among t.interface t.name ms)) (later_named units fine file before t stands name (earlier ++ m ∷ []) ms on (now_named name earlier m (bytes_same name)))
    ∙ members_once units fine file before t stands (earlier ++ m ∷ []) ms on
members_once units fine file before t stands earlier (m ∷ ms) e = members_once units fine file before t stands (earlier ++ m ∷ []) ms (one_on t.members earlier ms m e)

-- the types of one unit, behind some of them
unit_differs : (units : List PlainUnit) → IsDeclared units → (earlier later : List PlainUnit) (before behind : List PlainType) → units ≡ earlier ++ (before ++ behind) ∷ later → list_all differs behind ≡ true
unit_differs units fine earlier later before [] e = refl
unit_differs units fine earlier later before (t ∷ ts) e =
    ap (λ b. not b && list_all differs ts) (members_once units fine _ _ t (here earlier later before ts e) [] t.members refl)
    ∙ unit_differs units fine earlier later (before ++ t ∷ []) ts (e ∙ ap (λ u. earlier ++ u ∷ later) (sym (append_assoc before (t ∷ []) ts)))

-- the types of all units, behind some of them
units_differ : (units : List PlainUnit) → IsDeclared units → (earlier later : List PlainUnit) → units ≡ earlier ++ later → list_all differs (source_types later) ≡ true
units_differ units fine earlier [] e = refl
units_differ units fine earlier (u ∷ us) e =
    list_all-append differs u (source_types us)
    ∙ (ap (λ b. b && list_all differs (source_types us)) (unit_differs units fine earlier us [] u e)
    ∙ units_differ units fine (earlier ++ u ∷ []) us (e ∙ sym (append_assoc earlier (u ∷ []) us)))

-- ---- the initialisers

-- what a field is initialised with, of a list of types
abbrev initialiser_among : List PlainType → Field → PlainOption
initialiser_among ts f = option_map_or (λ t. initialiser_in f.name t.members) (find (λ t. bytes_eq t.name f.class) ts) absent

-- the same where the first of them is the field's type or is not
abbrev chosen : PlainType → List PlainType → Field → Bool → Option PlainOption
chosen t ts f b = Some (option_map_or (λ u. initialiser_in f.name u.members) (cond b (Some t) (find (λ u. bytes_eq u.name f.class) ts)) absent)

-- a field of the first type
own_type : (t : PlainType) (ts : List PlainType) (n : ℕ) (f : Field) → differs t ≡ true → slice_get (fields_among t.interface t.name t.members) n ≡ Some f
    → slice_get (flat_map initials_of_type (t ∷ ts)) n ≡ Some (initialiser_among (t ∷ ts) f)
own_type t ts n f once e =
    let named : f.class ≡ t.name = class_of t.name (fields_among t.interface t.name t.members) n f (fields_own t.interface t.name t.members) e in
    let it : bytes_eq t.name f.class ≡ true = ap (bytes_eq t.name) named ∙ bytes_same t.name in
    let alone : stands_twice (names_among t.interface t.name t.members) ≡ false = not_twice (stands_twice (names_among t.interface t.name t.members)) once in
    get_first (initials_of_type t) (flat_map initials_of_type ts) n (initialiser_in f.name t.members) (own_member t.interface t.name t.members alone n f e) ∙ ap (chosen t ts f) (sym it)

-- a field of a type behind the first
own_behind : (before : World) (t : PlainType) (ts : List PlainType) → Distinct before (map declared_type (t ∷ ts)) → (n k : ℕ) (f : Field) → n ≡ length (fields_among t.interface t.name t.members) + k
    → slice_get (fields_in (map declared_type ts)) k ≡ Some f → slice_get (flat_map initials_of_type ts) k ≡ Some (initialiser_among ts f)
    → slice_get (flat_map initials_of_type (t ∷ ts)) n ≡ Some (initialiser_among (t ∷ ts) f)
own_behind before t ts apart n k f at e rest =
    let many : length (initials_of_type t) ≡ length (fields_among t.interface t.name t.members) = as_many t.interface t.name t.members in
    let index : n ≡ length (initials_of_type t) + k = omega arith in
    let there : has_type (map declared_type ts) f.class ≡ true = of_some (map declared_type ts) k f (sources_own ts) e in
    elim (cases_Bool (bytes_eq t.name f.class)) [
      | inl it ↦ absurd (not_behind before (declared_type t) (map declared_type ts) apart f.class (same_bytes t.name f.class it) there)
      | inr other ↦
          ap (slice_get (flat_map initials_of_type (t ∷ ts))) index
          ∙ (get_second (initials_of_type t) (flat_map initials_of_type ts) k (initialiser_among ts f) rest ∙ ap (chosen t ts f) (sym other))
    ]

-- a field of any of the source types
own_types : (before : World) (ts : List PlainType) → Distinct before (map declared_type ts) → list_all differs ts ≡ true → (n : ℕ) (f : Field) → slice_get (fields_in (map declared_type ts)) n ≡ Some f
    → slice_get (flat_map initials_of_type ts) n ≡ Some (initialiser_among ts f)
own_types before [] apart once n f e = absurd (cc)
own_types before (t ∷ ts) apart once n f e =
    let both : (differs t ≡ true) × (list_all differs ts ≡ true) = and_parts (differs t) (list_all differs ts) once in
    elim (sides (fields_among t.interface t.name t.members) (fields_in (map declared_type ts)) n f e) [
      | inl near ↦ own_type t ts n f both.0 near
      | inr further ↦
          own_behind before t ts apart n further.0 f further.1 further.2
          (own_types (before ++ declared_type t ∷ []) ts (onward before (declared_type t) (map declared_type ts) apart) both.1 further.0 f further.2)
    ]

-- no type of a name, no initialiser
none_among : (ts : List PlainType) (f : Field) → has_type (map declared_type ts) f.class ≡ false → initialiser_among ts f ≡ absent
none_among [] f none = refl
none_among (t ∷ ts) f none =
    let parts : (bytes_eq t.name f.class ≡ false) × (has_type (map declared_type ts) f.class ≡ false) = or_parts (bytes_eq t.name f.class) (has_type (map declared_type ts) f.class) none in
    ap (λ b. option_map_or (λ u. initialiser_in f.name u.members) (cond b (Some t) (find (λ u. bytes_eq u.name f.class) ts)) absent) parts.0 ∙ none_among ts f parts.1

-- a boot field has none
own_boot : (ts : List PlainType) → Distinct boot_types (map declared_type ts) → (n : ℕ) (f : Field) → slice_get (fields_in boot_types) n ≡ Some f → slice_get boot_initials n ≡ Some (initialiser_among ts f)
own_boot ts apart n f e =
    let boot : has_type boot_types f.class ≡ true = of_some boot_types n f boot_own e in
    elim (cases_Bool (has_type (map declared_type ts) f.class)) [
      | inl again ↦ absurd (never boot_types (map declared_type ts) apart f.class boot again)
      | inr none ↦ slice_get-map (λ g. absent) (fields_in boot_types) n ∙ ap (option_map (λ g. absent)) e ∙ ap (λ o. Some o) (sym (none_among ts f none))
    ]

-- a source field has that of its name, behind the boot fields
own_source : (ts : List PlainType) → Distinct boot_types (map declared_type ts) → list_all differs ts ≡ true → (n k : ℕ) (f : Field) → n ≡ length (fields_in boot_types) + k
    → slice_get (fields_in (map declared_type ts)) k ≡ Some f → slice_get (boot_initials ++ flat_map initials_of_type ts) n ≡ Some (initialiser_among ts f)
own_source ts apart once n k f at e =
    let many : length boot_initials ≡ length (fields_in boot_types) = length-map (fields_in boot_types) (λ g. absent) in
    let index : n ≡ length boot_initials + k = at ∙ ap (λ l. l + k) (sym many) in
    ap (slice_get (boot_initials ++ flat_map initials_of_type ts)) index
    ∙ get_second boot_initials (flat_map initials_of_type ts) k (initialiser_among ts f) (own_types boot_types ts apart once k f e)

-- each field of a declared world has its own
pub own_initials : law.DeclaredInitialisersAreOwn
unfolding world_of initialiser_of
own_initials units fine n f e =
    let apart : Distinct boot_types (map declared_type (source_types units)) = sources_apart units fine in
    let two : slice_get (fields_in boot_types ++ fields_in (map declared_type (source_types units))) n ≡ Some f =
    ap (λ l. slice_get l n) (sym (flat_map-append (λ t. t.fields) boot_types (map declared_type (source_types units)))) ∙ e in
    elim (sides (fields_in boot_types) (fields_in (map declared_type (source_types units))) n f two) [
      | inl near ↦ get_first boot_initials (flat_map initials_of_type (source_types units)) n (initialiser_among (source_types units) f) (own_boot (source_types units) apart n f near)
      | inr further ↦ own_source (source_types units) apart (units_differ units fine [] units refl) n further.0 f further.1 further.2
    ]

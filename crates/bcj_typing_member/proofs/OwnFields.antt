-- In a declared world a type finds its own field by its name.
use Rattle.std.proofs.Common.{◌≡◌, ◌++◌, ◌<◌, List, [], ◌∷◌, map, filter, Option, Some, None, Bool, true, false, ◌&&◌, ◌||◌, cond, refl, sym, ◌∙◌, ap, ℕ, zero, suc, length, ◌⊎◌, inl, inr, arith, slice_index_or, slice_get, subst}
use Rattle.std.proofs.lemmas.Bool.{cases_Bool}
use Rattle.std.proofs.lemmas.List.{length-map, get_or-map}
use Rattle.std.specs.List.{list_any, find, filter_map, flat_map, cons_option, Contains}
use Rattle.std.specs.Option.{option_and_then}
use Rattle.std.specs.Str.{bytes_eq}
use Rattle.bcj_parser_trees.specs.declared.names.Mods.{Mods}
use Rattle.bcj_parser_trees.specs.declared.names.TypeName.{TypeName}
use Rattle.bcj_parser_trees.specs.declared.unit.Member.{Member}
use Rattle.bcj_parser_trees.specs.declared.unit.TypeDecl.{TypeDecl}
use Rattle.bcj_parser_trees.specs.Plain.{member_of, type_of}
use Rattle.bcj_parser_trees.specs.Trees.{PlainOption, PlainMember, field_member, PlainType, PlainUnit}
use Rattle.bcj_decl_rules.specs.World.{Named, Field, Declared, World, source_types, declared_type, field_in, field_with, type_named, world_of}
use Rattle.bcj_decl_rules.specs.Members.{field_of, fields_at, visits}
use Rattle.bcj_decl_rules.specs.Faults.{here, IsDeclared, stands_twice}
use Rattle.bcj_decl_soundness.proofs.Climbing.{bytes_same, stands_found}
use Rattle.bcj_decl_fields.proofs.Visits.{or_left}
use Rattle.bcj_decl_fields.proofs.Declared.{fields_once}
use Rattle.bcj_typing_scope.specs.Surroundings.{IsOfUnit}

-- ---- lists

-- what a list contains is its first element or stands behind it
contains_at : {A : Type 0} (y : A) (ys : List A) (x : A) (k : ℕ) → k < length (y ∷ ys) → slice_index_or (y ∷ ys) k x ≡ x → (y ≡ x) ⊎ Contains ys x
contains_at y ys x zero h e = inl e
contains_at y ys x (suc k) h e = inr (k, omega arith, e)

contains_cases : {A : Type 0} (y : A) (ys : List A) (x : A) → Contains (y ∷ ys) x → (y ≡ x) ⊎ Contains ys x
contains_cases y ys x h = contains_at y ys x h.0 h.1 h.2

contains_behind : {A : Type 0} (y : A) (ys : List A) (x : A) → Contains ys x → Contains (y ∷ ys) x
contains_behind y ys x h = let lt = h.1 in (suc h.0, omega arith, h.2)

contains_first : {A : Type 0} (x : A) (xs : List A) → Contains (x ∷ xs) x
contains_first x xs = (0, omega arith, refl)

picked_by : {A B : Type 0} (g : A → Option B) (o : Option B) (y : A) (ys : List A) (b : B) → g y ≡ o → Contains (filter_map g ys) b → Contains (filter_map g (y ∷ ys)) b
picked_by {A} {B} g None y ys b e h =
    let P : Option B → Type 0 = λ o. Contains (cons_option o (filter_map g ys)) b in
    subst P (sym e) h
picked_by {A} {B} g (Some c) y ys b e h =
    let P : Option B → Type 0 = λ o. Contains (cons_option o (filter_map g ys)) b in
    subst P (sym e) (contains_behind c (filter_map g ys) b h)

-- what is picked of an element is among all that is picked
picked : {A B : Type 0} (g : A → Option B) (xs : List A) (x : A) (b : B) → g x ≡ Some b → Contains xs x → Contains (filter_map g xs) b
picked g [] x b e h = absurd (omega (arith, h.1))
picked {A} {B} g (y ∷ ys) x b e h =
    elim (contains_cases y ys x h) [
      | inl it ↦
          let P : Option B → Type 0 = λ o. Contains (cons_option o (filter_map g ys)) b in
          subst P (sym (ap g it ∙ e)) (contains_first b (filter_map g ys))
      | inr later ↦ picked_by g (g y) y ys b refl (picked g ys x b e later)
    ]

-- what stands at a number, between what stands before and behind
split_at : {A : Type 0} (xs : List A) (k : ℕ) (x : A) → slice_get xs k ≡ Some x → (earlier : List A) × (later : List A) × (xs ≡ earlier ++ x ∷ later)
split_at [] k x h = cc
split_at (y ∷ ys) zero x h = let same : y ≡ x = cc in ([], ys, ap (λ z. z ∷ ys) same)
split_at {A} (y ∷ ys) (suc k) x h =
    let r : (earlier : List A) × (later : List A) × (ys ≡ earlier ++ x ∷ later) = split_at ys k x h in
    (y ∷ r.0, r.1, ap (λ l. y ∷ l) r.2)

split_in : {A : Type 0} (xs : List A) (x : A) → Contains xs x → (earlier : List A) × (later : List A) × (xs ≡ earlier ++ x ∷ later)
split_in [] x h = absurd (omega (arith, h.1))
split_in {A} (y ∷ ys) x h =
    elim (contains_cases y ys x h) [
      | inl it ↦ ([], ys, ap (λ z. z ∷ ys) it)
      | inr later ↦
          let r : (earlier : List A) × (later : List A) × (ys ≡ earlier ++ x ∷ later) = split_in ys x later in
          (y ∷ r.0, r.1, ap (λ l. y ∷ l) r.2)
    ]

-- ---- fields of one name

name_among : (x : Named) (fs : List Field) (f : Field) → bytes_eq x f.name ≡ true → Contains fs f → list_any (bytes_eq x) (map (λ g. g.name) fs) ≡ true
name_among x [] f e h = absurd (omega (arith, h.1))
name_among x (g ∷ fs) f e h =
    elim (contains_cases g fs f h) [
      | inl it ↦ or_left (bytes_eq x g.name) (list_any (bytes_eq x) (map (λ k. k.name) fs)) (ap (λ k. bytes_eq x k.name) it ∙ e)
      | inr later ↦ or_second (bytes_eq x g.name) (list_any (bytes_eq x) (map (λ k. k.name) fs)) (name_among x fs f e later)
    ]
  where
    or_second : (a b : Bool) → b ≡ true → (a || b) ≡ true
    or_second true b h = refl
    or_second false b h = h

-- where no name stands twice, a field is the first of its name
first_named : (fs : List Field) (f : Field) → stands_twice (map (λ g. g.name) fs) ≡ false → Contains fs f → (rest : List Field) → find (λ g. true) (filter (λ g. bytes_eq g.name f.name && true) fs ++ rest) ≡ Some f
first_named [] f once h rest = absurd (omega (arith, h.1))
first_named (g ∷ fs) f once h rest =
    let p : Field → Bool = λ k. bytes_eq k.name f.name && true in
    let P : Bool → Option Field = λ b. find (λ k. true) (cond b (g ∷ filter p fs) (filter p fs) ++ rest) in
    elim (contains_cases g fs f h) [
      | inl it ↦ ap P (ap (λ k. bytes_eq k.name f.name && true) it ∙ ap (λ b. b && true) (bytes_same f.name)) ∙ ap (λ k. Some k) it
      | inr later ↦
          elim (cases_Bool (bytes_eq g.name f.name)) [
            | inl same ↦
                let twice : stands_twice (map (λ k. k.name) (g ∷ fs)) ≡ true =
                or_left (list_any (bytes_eq g.name) (map (λ k. k.name) fs)) (stands_twice (map (λ k. k.name) fs)) (name_among g.name fs f same later) in
                absurd (cc (twice, once))
            | inr other ↦ ap P (ap (λ b. b && true) other) ∙ first_named fs f (or_none (list_any (bytes_eq g.name) (map (λ k. k.name) fs)) (stands_twice (map (λ k. k.name) fs)) once) later rest
          ]
    ]
  where
    or_none : (a b : Bool) → (a || b) ≡ false → b ≡ false
    or_none true b h = cc
    or_none false b h = h

-- ---- in the world

-- the field of a type that is found by its name
found_in : (w : World) (class : Named) (t : Declared) (f : Field) → type_named w class ≡ Some t → stands_twice (map (λ g. g.name) t.fields) ≡ false → Contains t.fields f → field_of w class f.name ≡ Some f
unfolding field_of
found_in w class t f named once h =
    ap (option_and_then (λ d. find (λ g. true) (flat_map (fields_at f.name) (visits w d)))) named ∙ first_named t.fields f once h _

type_found : (units : List PlainUnit) → IsDeclared units → (own : ℕ) (t : PlainType) → IsOfUnit units own t → type_named (world_of units) t.name ≡ Some (declared_type t)
type_found units fine own t o =
    let u : (earlier : List PlainUnit) × (later : List PlainUnit) × (units ≡ earlier ++ o.unit ∷ later) = split_at units own o.unit o.is_it in
    let s : (before : List PlainType) × (behind : List PlainType) × (o.unit ≡ before ++ t ∷ behind) = split_in o.unit t o.has in
    stands_found units fine (length u.0) (source_types u.0 ++ s.0) t (here u.0 u.1 s.0 s.1 (u.2 ∙ ap (λ l. u.0 ++ l ∷ u.1) s.2))

-- a type of declared units finds the field of its member
pub own_found : (units : List PlainUnit) → IsDeclared units → (own : ℕ) (t : PlainType) → IsOfUnit units own t → (at : ℕ) (mods : Mods) (ty : TypeName) (name : Named) (init : PlainOption)
    → Contains t.members (field_member at mods ty name init) → field_of (world_of units) t.name name ≡ Some (field_with t.interface t.name mods ty name)
own_found units fine own t o at mods ty name init h =
    let named : type_named (world_of units) t.name ≡ Some (declared_type t) = type_found units fine own t o in
    found_in (world_of units) t.name (declared_type t) (field_with t.interface t.name mods ty name) named (fields_once units fine t.name (declared_type t) named)
    (picked (field_in t.interface t.name) t.members (field_member at mods ty name init) (field_with t.interface t.name mods ty name) refl h)

contains_map : {A B : Type 0} (f : A → B) (xs : List A) (x : A) → Contains xs x → Contains (map f xs) (f x)
contains_map f xs x h =
    let long = length-map xs f in
    let lt = h.1 in
    (h.0, omega arith, get_or-map f xs h.0 x (f x) h.1 ∙ ap f h.2)

-- the same by the member itself
pub own_member : (units : List PlainUnit) → IsDeclared units → (own : ℕ) (d : TypeDecl) → IsOfUnit units own (type_of d) → (m : Member) → Contains d.members m → (at : ℕ) (mods : Mods) (ty : TypeName) (name : Named) (init : PlainOption)
    → member_of m ≡ field_member at mods ty name init → field_of (world_of units) d.name name ≡ Some (field_with d.interface d.name mods ty name)
own_member units fine own d o m h at mods ty name init e =
    let P : PlainMember → Type 0 = λ x. Contains (map member_of d.members) x in
    own_found units fine own (type_of d) o at mods ty name init (subst P e (contains_map member_of d.members m h))

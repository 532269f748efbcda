-- In a declared world a field stands once: its type's name is that of one type, and its own that of one field there.
use Rattle.std.proofs.Common.{◌≡◌, ◌+◌, ◌++◌, List, [], ◌∷◌, map, Option, Some, None, Bool, true, false, ◌&&◌, ◌||◌, cond, refl, sym, ◌∙◌, ap, subst, ℕ, zero, suc, length, arith, ◌⊎◌, inl, inr, slice_get, append_assoc, append-nil}
use Rattle.std.proofs.lemmas.Bool.{and_parts, or_cases, or_parts}
use Rattle.std.proofs.lemmas.List.Folds.{list_any-append}
use Rattle.std.specs.List.{list_any, list_all, flat_map, filter_map}
use Rattle.std.specs.Str.{bytes_eq}
use Rattle.bcj_parser_trees.specs.declared.names.Mods.{Mods}
use Rattle.bcj_parser_trees.specs.Trees.{PlainUnit, PlainType, PlainMember, field_member, method_member, constructor_member, static_member}
use Rattle.bcj_decl_rules.specs.World.{Named, Field, Declared, World, boot_types, source_types, declared_type, field_in, world_of, has_type, type_named}
use Rattle.bcj_decl_rules.specs.Faults.{IsDeclared, stands_twice}
use Rattle.bcj_decl_soundness.proofs.Climbing.{same_bytes, bytes_same, found_behind}
use Rattle.bcj_decl_soundness.specs.Laws.{EachNameIsOneType}
use Rattle.bcj_decl_fields.specs.Hierarchy.{FieldsStandOnce}

abbrev pub EachOnce : List Field → Type 0
EachOnce fields = (m n : ℕ) (f : Field) → slice_get fields m ≡ Some f → slice_get fields n ≡ Some f → m ≡ n

-- ---- lists

-- an item of two lists stands in the first, or in the second behind it
abbrev Sides : List Field → List Field → ℕ → Field → Type 0
Sides xs ys m f = (slice_get xs m ≡ Some f) ⊎ ((k : ℕ) × (m ≡ length xs + k) × (slice_get ys k ≡ Some f))

sides : (xs ys : List Field) (m : ℕ) (f : Field) → slice_get (xs ++ ys) m ≡ Some f → Sides xs ys m f
sides [] ys m f e = inr (m, omega arith, e)
sides (x ∷ xs) ys zero f e = inl e
sides (x ∷ xs) ys (suc m) f e =
    elim (sides xs ys m f e) [
      | inl here_it ↦ inl here_it
      | inr further ↦
          let at : m ≡ length xs + further.0 = further.1 in
          inr (further.0, omega arith, further.2)
    ]

abbrev Apart : List Field → List Field → Type 0
Apart xs ys = (f : Field) (i j : ℕ) → slice_get xs i ≡ Some f → slice_get ys j ≡ Some f → ⊥

once_apart : (xs ys : List Field) → EachOnce xs → EachOnce ys → Apart xs ys → EachOnce (xs ++ ys)
once_apart xs ys front back apart m n f em en =
    elim (sides xs ys m f em) [
      | inl a ↦ elim (sides xs ys n f en) [ inl b ↦ front m n f a b | inr b ↦ absurd (apart f m b.0 a b.2) ]
      | inr a ↦
          elim (sides xs ys n f en) [
            | inl b ↦ absurd (apart f n a.0 b a.2)
            | inr b ↦
                let same : a.0 ≡ b.0 = back a.0 b.0 f a.2 b.2 in
                let left : m ≡ length xs + a.0 = a.1 in
                let right : n ≡ length xs + b.0 = b.1 in
                omega arith
          ]
    ]

-- the name of a field of a list is among the names
any_named : (fs : List Field) (j : ℕ) (f : Field) → slice_get fs j ≡ Some f → list_any (bytes_eq f.name) (map (λ g. g.name) fs) ≡ true
any_named [] j f e = cc
any_named (g ∷ gs) zero f e =
    let it : g ≡ f = cc in
    ap (λ b. b || list_any (bytes_eq f.name) (map (λ h. h.name) gs)) (ap (λ h. bytes_eq f.name h.name) it ∙ bytes_same f.name)
any_named (g ∷ gs) (suc j) f e =
    elim (bytes_eq f.name g.name) as (λ b. (b || list_any (bytes_eq f.name) (map (λ h. h.name) gs)) ≡ true) [ true ↦ refl | false ↦ any_named gs j f e ]

-- fields of different names stand once
names_once : (fs : List Field) → stands_twice (map (λ f. f.name) fs) ≡ false → EachOnce fs
names_once [] once m n f em en = cc
names_once (g ∷ gs) once zero zero f em en = refl
names_once (g ∷ gs) once zero (suc n) f em en =
    let it : g ≡ f = cc in
    let again : list_any (bytes_eq g.name) (map (λ h. h.name) gs) ≡ true = ap (λ h. list_any (bytes_eq h.name) (map (λ x. x.name) gs)) it ∙ any_named gs n f en in
    let twice : stands_twice (map (λ h. h.name) (g ∷ gs)) ≡ true = ap (λ b. b || stands_twice (map (λ h. h.name) gs)) again in
    absurd (cc)
names_once (g ∷ gs) once (suc m) zero f em en =
    let it : g ≡ f = cc in
    let again : list_any (bytes_eq g.name) (map (λ h. h.name) gs) ≡ true = ap (λ h. list_any (bytes_eq h.name) (map (λ x. x.name) gs)) it ∙ any_named gs m f em in
    let twice : stands_twice (map (λ h. h.name) (g ∷ gs)) ≡ true = ap (λ b. b || stands_twice (map (λ h. h.name) gs)) again in
    absurd (cc)
names_once (g ∷ gs) once (suc m) (suc n) f em en =
    let parts : (list_any (bytes_eq g.name) (map (λ h. h.name) gs) ≡ false) × (stands_twice (map (λ h. h.name) gs) ≡ false) =
    or_parts (list_any (bytes_eq g.name) (map (λ h. h.name) gs)) (stands_twice (map (λ h. h.name) gs)) once in
    ap suc (names_once gs parts.1 m n f em en)

-- ---- the fields of a type have its name

abbrev owns : Declared → Bool
owns t = list_all (λ f. bytes_eq f.class t.name) t.fields

abbrev all_own : World → Bool
all_own w = list_all owns w

boot_own : all_own boot_types ≡ true
boot_own = refl

fields_own : (i : Bool) (name : Named) (ms : List PlainMember) → list_all (λ f. bytes_eq f.class name) (filter_map (field_in i name) ms) ≡ true
fields_own i name [] = refl
fields_own i name (field_member at mods ty x init ∷ ms) = ap (λ b. b && list_all (λ f. bytes_eq f.class name) (filter_map (field_in i name) ms)) (bytes_same name) ∙ fields_own i name ms
fields_own i name (method_member at mods result x params throws body ∷ ms) = fields_own i name ms
fields_own i name (constructor_member at mods x params throws first body ∷ ms) = fields_own i name ms
fields_own i name (static_member at body ∷ ms) = fields_own i name ms

sources_own : (ts : List PlainType) → all_own (map declared_type ts) ≡ true
sources_own [] = refl
sources_own (t ∷ ts) = ap (λ b. b && all_own (map declared_type ts)) (fields_own t.interface t.name t.members) ∙ sources_own ts

own_append : (us ws : World) → all_own us ≡ true → all_own ws ≡ true → all_own (us ++ ws) ≡ true
own_append [] ws a b = b
own_append (u ∷ us) ws a b =
    let both : (owns u ≡ true) × (all_own us ≡ true) = and_parts (owns u) (all_own us) a in
    ap (λ c. c && all_own (us ++ ws)) both.0 ∙ own_append us ws both.1 b

world_owns : (units : List PlainUnit) → all_own (world_of units) ≡ true
unfolding world_of
world_owns units = own_append boot_types (map declared_type (source_types units)) boot_own (sources_own (source_types units))

class_of : (name : Named) (fs : List Field) (i : ℕ) (f : Field) → list_all (λ g. bytes_eq g.class name) fs ≡ true → slice_get fs i ≡ Some f → f.class ≡ name
class_of name [] i f all e = cc
class_of name (g ∷ gs) zero f all e =
    let it : g ≡ f = cc in
    let both : (bytes_eq g.class name ≡ true) × (list_all (λ h. bytes_eq h.class name) gs ≡ true) = and_parts (bytes_eq g.class name) (list_all (λ h. bytes_eq h.class name) gs) all in
    ap (λ h. h.class) (sym it) ∙ same_bytes g.class name both.0
class_of name (g ∷ gs) (suc i) f all e =
    let both : (bytes_eq g.class name ≡ true) × (list_all (λ h. bytes_eq h.class name) gs ≡ true) = and_parts (bytes_eq g.class name) (list_all (λ h. bytes_eq h.class name) gs) all in
    class_of name gs i f both.1 e

-- ---- the world

abbrev pub fields_of_world : World → List Field
fields_of_world w = flat_map (λ t. t.fields) w

-- a field of a list of types has the name of one of them
of_some : (ts : World) (j : ℕ) (f : Field) → all_own ts ≡ true → slice_get (fields_of_world ts) j ≡ Some f → has_type ts f.class ≡ true
of_some [] j f own e = cc
of_some (t ∷ ts) j f own e =
    let both : (owns t ≡ true) × (all_own ts ≡ true) = and_parts (owns t) (all_own ts) own in
    elim (sides t.fields (fields_of_world ts) j f e) [
      | inl here_it ↦
          let named : f.class ≡ t.name = class_of t.name t.fields j f both.0 here_it in
          ap (λ b. b || has_type ts f.class) (ap (λ n. bytes_eq t.name n) named ∙ bytes_same t.name)
      | inr further ↦
          let rest : has_type ts f.class ≡ true = of_some ts further.0 f both.1 further.2 in
          elim (bytes_eq t.name f.class) as (λ b. (b || has_type ts f.class) ≡ true) [ true ↦ refl | false ↦ rest ]
    ]

-- no type of a list has the name of one that stands before it
abbrev Distinct : World → World → Type 0
Distinct before ts = (front : World) (t : Declared) (behind : World) → ts ≡ front ++ t ∷ behind → has_type (before ++ front) t.name ≡ false

or_true : (a : Bool) → (a || true) ≡ true
or_true true = refl
or_true false = refl

-- behind one type more
onward : (before : World) (t : Declared) (ts : World) → Distinct before (t ∷ ts) → Distinct (before ++ t ∷ []) ts
onward before t ts apart front u behind e =
    ap (λ l. has_type l u.name) (append_assoc before (t ∷ []) front) ∙ apart (t ∷ front) u behind (ap (λ l. t ∷ l) e)

never : (before ts : World) → Distinct before ts → (name : Named) → has_type before name ≡ true → has_type ts name ≡ true → ⊥
never before [] apart name a b = cc
never before (u ∷ us) apart name a b =
    elim (or_cases (bytes_eq u.name name) (has_type us name) b) [
      | inl it ↦
          let none : has_type (before ++ []) u.name ≡ false = apart [] u us refl in
          let same : u.name ≡ name = same_bytes u.name name it in
          let whole : before ++ [] ≡ before = append-nil before in
          let wrong : has_type before name ≡ false = ap (λ l. has_type l name) (sym whole) ∙ (ap (λ n. has_type (before ++ []) n) (sym same) ∙ none) in
          absurd (cc)
      | inr other ↦
          let more : has_type (before ++ u ∷ []) name ≡ true =
          list_any-append (λ t. bytes_eq t.name name) before (u ∷ []) ∙ ap (λ c. c || (bytes_eq u.name name || false)) a in
          never (before ++ u ∷ []) us (onward before u us apart) name more other
    ]

not_behind : (before : World) (t : Declared) (ts : World) → Distinct before (t ∷ ts) → has_type ts t.name ≡ true → ⊥
not_behind before t ts apart there =
    let last : has_type (t ∷ []) t.name ≡ true = ap (λ b. b || false) (bytes_same t.name) in
    let more : has_type (before ++ t ∷ []) t.name ≡ true =
    list_any-append (λ u. bytes_eq u.name t.name) before (t ∷ []) ∙ (ap (λ c. has_type before t.name || c) last ∙ or_true (has_type before t.name)) in
    never (before ++ t ∷ []) ts (onward before t ts apart) t.name more there

fields_once : (w before ts : World) → w ≡ before ++ ts → Distinct before ts → FieldsStandOnce w → all_own ts ≡ true → EachOnce (fields_of_world ts)
fields_once w before [] e apart once own = λ m n f em en. cc
fields_once w before (t ∷ ts) e apart once own =
    let both : (owns t ≡ true) × (all_own ts ≡ true) = and_parts (owns t) (all_own ts) own in
    let none : has_type before t.name ≡ false = ap (λ l. has_type l t.name) (sym (append-nil before)) ∙ apart [] t ts refl in
    let named : type_named w t.name ≡ Some t = ap (λ l. type_named l t.name) e ∙ found_behind t.name before t ts none (bytes_same t.name) in
    let further : w ≡ (before ++ t ∷ []) ++ ts = e ∙ sym (append_assoc before (t ∷ []) ts) in
    let P : Named → Type 0 = λ n. has_type ts n ≡ true in
    once_apart t.fields (fields_of_world ts) (names_once t.fields (once t.name t named)) (fields_once w (before ++ t ∷ []) ts further (onward before t ts apart) once both.1)
    (λ f i j here_it there. not_behind before t ts apart (subst P (class_of t.name t.fields i f both.0 here_it) (of_some ts j f both.1 there)))

-- each field of a declared world
pub each_once : (units : List PlainUnit) → EachNameIsOneType → FieldsStandOnce (world_of units) → IsDeclared units → EachOnce (fields_of_world (world_of units))
each_once units one once fine =
    fields_once (world_of units) [] (world_of units) refl (λ front t behind e. one units fine front t behind e) once (world_owns units)

-- From each type of a declared world a chain of steps leads to Object.
use Rattle.std.proofs.Common.{rules, ◌≡◌, ◌<◌, ◌≤◌, ◌++◌, List, [], ◌∷◌, map, Option, Some, None, Bool, true, false, not, cond, ◌||◌, refl, sym, ◌∙◌, ap, subst, ℕ, zero, suc, length, inl, inr, arith, slice_index_or, append_assoc}
use Rattle.std.proofs.lemmas.Bool.{or_cases, or_parts, cases_Bool, and_parts}
use Rattle.std.proofs.lemmas.Slice.Eq.{bytes_eq-Decides}
use Rattle.std.proofs.lemmas.List.Folds.{list_any_at}
use Rattle.std.proofs.lemmas.List.Concat.{flat_map-append}
use Rattle.std.specs.List.{list_any, list_all, Contains}
use Rattle.std.specs.Option.{option_map_or, option_to_list}
use Rattle.std.specs.Str.{bytes_eq}
use Rattle.bcj_parser_trees.specs.Trees.{PlainType, PlainUnit}
use Rattle.bcj_symbolic_trees.specs.Names.{object_name}
use Rattle.bcj_decl_rules.specs.World.{Named, Declared, World, boot_types, source_types, declared_type, is_named, has_type, type_named, world_of, superclass_in}
use Rattle.bcj_decl_rules.specs.Subtypes.{Sub, same, through, StepsTo, ProperSub, direct_supertypes, or_object}
use Rattle.bcj_decl_rules.specs.Faults.{StandsIn, here, IsDeclared, in_head, unknown_name, own_supertype, first_unknown}
use Rattle.bcj_decl_soundness.proofs.Chains.{joined}
use Rattle.bcj_decl_soundness.proofs.Listing.{boot_or_source, new_name, earlier_types, map-append}
use Rattle.bcj_decl_soundness.specs.Laws as law

pub same_bytes : (a b : Named) → bytes_eq a b ≡ true → a ≡ b
same_bytes a b h = search (rules, bytes_eq-Decides a b)

-- ---- boot types

-- superclass by superclass
abbrev pub climbs : ℕ → World → Option Declared → Bool
climbs zero w t = false
climbs (suc n) w None = false
climbs (suc n) w (Some t) = bytes_eq t.name object_name || climbs n w (option_map_or (type_named w) t.superclass None)

abbrev pub class_depth : ℕ
class_depth = 9

pub boot_climbs : (units : List PlainUnit) → list_all (λ t. climbs class_depth (world_of units) (type_named (world_of units) t.name)) boot_types ≡ true
unfolding world_of
boot_climbs units = refl

pub bytes_same : (a : Named) → bytes_eq a a ≡ true
bytes_same a = (bytes_eq-Decides a a).1 refl

abbrev pub type_named_in : Named → World → Option Declared
type_named_in name w = type_named w name

-- behind types of other names
pub found_behind : (name : Named) (before : World) (t : Declared) (behind : World) → has_type before name ≡ false → bytes_eq t.name name ≡ true → type_named (before ++ t ∷ behind) name ≡ Some t
found_behind name [] t behind none it = ap (λ b. cond b (Some t) (type_named behind name)) it
found_behind name (u ∷ us) t behind none it =
    let parts : (bytes_eq u.name name ≡ false) × (has_type us name ≡ false) = or_parts (bytes_eq u.name name) (has_type us name) none in
    ap (λ b. cond b (Some u) (type_named (us ++ t ∷ behind) name)) parts.0 ∙ found_behind name us t behind parts.1 it

-- what is found by a name has it
pub found_name : (w : World) (name : Named) (t : Declared) → type_named w name ≡ Some t → t.name ≡ name
found_name [] name t e = cc
found_name (u ∷ us) name t e =
    elim (cases_Bool (bytes_eq u.name name)) [
      | inl it ↦
          let here_it : Some u ≡ Some t = ap (λ b. cond b (Some u) (type_named us name)) (sym it) ∙ e in
          let named : u ≡ t = cc in
          sym (ap (λ v. v.name) named) ∙ same_bytes u.name name it
      | inr other ↦ found_name us name t (ap (λ b. cond b (Some u) (type_named us name)) (sym other) ∙ e)
    ]

pub found_again : (w : World) (name : Named) (t : Declared) → type_named w name ≡ Some t → type_named w t.name ≡ Some t
found_again w name t e = ap (type_named w) (found_name w name t e) ∙ e

pub first_supertype : (t : Declared) (s : Named) (rest : List Named) → direct_supertypes t ≡ s ∷ rest → Contains (direct_supertypes t) s
first_supertype t s rest e = (0, omega (arith, ap length e), ap (λ l. slice_index_or l 0 s) e)

abbrev pub Climb : World → ℕ → Type 0
Climb w n = (v : Declared) → type_named w v.name ≡ Some v → climbs n w (Some v) ≡ true → Sub w v.name object_name

climb_to : (w : World) (n : ℕ) → Climb w n → (t : Declared) (s : Named) → t.superclass ≡ Some s → type_named w t.name ≡ Some t → (u : Option Declared) → type_named w s ≡ u → climbs n w u ≡ true
    → Sub w t.name object_name
climb_to w zero again t s e it None named h = cc
climb_to w (suc n) again t s e it None named h = cc
climb_to w n again t s e it (Some v) named h =
    let P : Named → Type 0 = λ m. Sub w m object_name in
    let above : Sub w s object_name = subst P (found_name w s v named) (again v (found_again w s v named) h) in
    through (record { type = t; is_it = it; names_it = first_supertype t s (or_object t.interface t.interfaces) (ap (λ o. option_to_list o ++ or_object t.interface t.interfaces) e) }) above

climb_from : (w : World) (n : ℕ) → Climb w n → (t : Declared) (o : Option Named) → t.superclass ≡ o → type_named w t.name ≡ Some t → climbs n w (option_map_or (type_named w) o None) ≡ true
    → Sub w t.name object_name
climb_from w zero again t None e it h = cc
climb_from w (suc n) again t None e it h = cc
climb_from w n again t (Some s) e it h = climb_to w n again t s e it (type_named w s) refl h

climb : (w : World) (n : ℕ) → Climb w n
climb w zero t it h = cc
climb w (suc n) t it h =
    let P : Named → Type 0 = λ m. Sub w m object_name in
    elim (or_cases (bytes_eq t.name object_name) (climbs n w (option_map_or (type_named w) t.superclass None)) h) [
      | inl top ↦ subst P (sym (same_bytes t.name object_name top)) same
      | inr up ↦ climb_from w n (climb w n) t t.superclass refl it up
    ]

-- a boot type that is found by its name
climbs_named : (w : World) (n : ℕ) (name : Named) (o : Option Declared) → type_named w name ≡ o → climbs n w o ≡ true → Sub w name object_name
climbs_named w zero name None e h = cc
climbs_named w (suc n) name None e h = cc
climbs_named w n name (Some t) e h =
    let P : Named → Type 0 = λ m. Sub w m object_name in
    subst P (found_name w name t e) (climb w n t (found_again w name t e) h)

boot_member : (w : World) (ts : List Declared) (name : Named) → list_all (λ t. climbs class_depth w (type_named w t.name)) ts ≡ true → has_type ts name ≡ true → Sub w name object_name
boot_member w [] name all h = cc
boot_member w (t ∷ ts) name all h =
    let both : (climbs class_depth w (type_named w t.name) ≡ true) × (list_all (λ u. climbs class_depth w (type_named w u.name)) ts ≡ true) = and_parts _ _ all in
    let P : Named → Type 0 = λ m. Sub w m object_name in
    elim (or_cases (bytes_eq t.name name) (has_type ts name) h) [
      | inl it ↦ subst P (same_bytes t.name name it) (climbs_named w class_depth t.name (type_named w t.name) refl both.0)
      | inr other ↦ boot_member w ts name both.1 other
    ]

pub boot_reaches : (units : List PlainUnit) (name : Named) → has_type boot_types name ≡ true → Sub (world_of units) name object_name
boot_reaches units name h = boot_member (world_of units) boot_types name (boot_climbs units) h

-- ---- source types

-- the list of types, taken apart where a type stands
pub split_types : (earlier later : List PlainUnit) (before behind : List PlainType) (t : PlainType)
    → source_types (earlier ++ (before ++ t ∷ behind) ∷ later) ≡ (source_types earlier ++ before) ++ t ∷ (behind ++ source_types later)
split_types earlier later before behind t =
    flat_map-append (λ u. u) earlier ((before ++ t ∷ behind) ∷ later)
    ∙ (ap (λ l. source_types earlier ++ l) (append_assoc before (t ∷ behind) (source_types later)) ∙ sym (append_assoc (source_types earlier) before (t ∷ (behind ++ source_types later))))

-- the names of a type's head are known, where nothing is refused
all_known : (w : World) (names : List Named) (name : Named) → first_unknown w names ≡ None → list_any (bytes_eq name) names ≡ true → has_type w name ≡ true
all_known w [] name none h = cc
all_known w (n ∷ ns) name none h =
    elim (cases_Bool (has_type w n)) [
      | inl known ↦
          let P : Named → Type 0 = λ m. has_type w m ≡ true in
          let rest : first_unknown w ns ≡ None = ap (λ b. cond (not b) (Some n) (first_unknown w ns)) (sym known) ∙ none in
          elim (or_cases (bytes_eq name n) (list_any (bytes_eq name) ns) h)
          [ inl it ↦ subst P (sym (same_bytes name n it)) known | inr other ↦ all_known w ns name rest other ]
      | inr unknown ↦
          let found : Some n ≡ first_unknown w (n ∷ ns) = ap (λ b. cond (not b) (Some n) (first_unknown w ns)) (sym unknown) in
          let wrong : Some n ≡ None = found ∙ none in
          absurd (cc)
    ]

none_unknown : (units : List PlainUnit) → IsDeclared units → (file : ℕ) (before : List PlainType) (t : PlainType) → StandsIn units file before t → (o : Option Named)
    → first_unknown (world_of units) (t.extends ++ t.implements) ≡ o → first_unknown (world_of units) (t.extends ++ t.implements) ≡ None
none_unknown units fine file before t stands None e = e
none_unknown units fine file before t stands (Some name) e = absurd (fine _ _ (in_head stands (unknown_name e)))

-- a type that stands in the units is found by its name
pub stands_found : (units : List PlainUnit) → IsDeclared units → (file : ℕ) (before : List PlainType) (t : PlainType) → StandsIn units file before t → type_named (world_of units) t.name ≡ Some (declared_type t)
unfolding world_of
stands_found units fine file before t (here earlier later front behind e) =
    let new : has_type (earlier_types (source_types earlier ++ front)) t.name ≡ false = new_name units fine _ _ t (here earlier later front behind e) in
    let types : source_types units ≡ (source_types earlier ++ front) ++ t ∷ (behind ++ source_types later) = ap source_types e ∙ split_types earlier later front behind t in
    let rest : List Declared = map declared_type (behind ++ source_types later) in
    let whole : boot_types ++ map declared_type (source_types units) ≡ earlier_types (source_types earlier ++ front) ++ declared_type t ∷ rest =
    ap (λ l. boot_types ++ map declared_type l) types
    ∙ (ap (λ l. boot_types ++ l) (map-append declared_type (source_types earlier ++ front) (t ∷ (behind ++ source_types later)))
    ∙ sym (append_assoc boot_types (map declared_type (source_types earlier ++ front)) (declared_type t ∷ rest))) in
    ap (type_named_in t.name) whole ∙ found_behind t.name (earlier_types (source_types earlier ++ front)) (declared_type t) rest new (bytes_same t.name)

-- a step to a known type
record Onward (w : World) (s : Named) : Type 0 where
  next : Named
  step : StepsTo w s next
  known : has_type w next ≡ true

-- the supertypes of a source type, by whether it is an interface and by what it extends
abbrev supertypes_by : PlainType → Bool → List Named → List Named
supertypes_by t i xs = option_to_list (elim i [ true ↦ None | false ↦ Some (superclass_in xs) ]) ++ or_object i (elim i [ true ↦ xs | false ↦ t.implements ])

pub object_known : (units : List PlainUnit) → has_type (world_of units) object_name ≡ true
unfolding world_of
object_known units = refl

onward : (w : World) (t : PlainType) (n : Named) (rest : List Named) → type_named w t.name ≡ Some (declared_type t) → direct_supertypes (declared_type t) ≡ n ∷ rest → has_type w n ≡ true → Onward w t.name
onward w t n rest it e known = record { next = n; step = record { type = declared_type t; is_it = it; names_it = first_supertype (declared_type t) n rest e }; known = known }

-- the first name that a type extends is known
first_known : (units : List PlainUnit) (t : PlainType) (n : Named) (ns : List Named) → t.extends ≡ n ∷ ns → first_unknown (world_of units) (t.extends ++ t.implements) ≡ None → has_type (world_of units) n ≡ true
first_known units t n ns ex none =
    all_known (world_of units) (n ∷ (ns ++ t.implements)) n (ap (λ xs. first_unknown (world_of units) (xs ++ t.implements)) (sym ex) ∙ none) (ap (λ b. b || list_any (bytes_eq n) (ns ++ t.implements)) (bytes_same n))

onward_by : (units : List PlainUnit) (t : PlainType) (i : Bool) (xs : List Named) → t.interface ≡ i → t.extends ≡ xs → type_named (world_of units) t.name ≡ Some (declared_type t)
    → first_unknown (world_of units) (t.extends ++ t.implements) ≡ None → Onward (world_of units) t.name
onward_by units t true [] ei ex it none =
    onward (world_of units) t object_name [] it (ap (λ i. supertypes_by t i t.extends) ei ∙ ap (λ xs. supertypes_by t true xs) ex) (object_known units)
onward_by units t false [] ei ex it none =
    onward (world_of units) t object_name t.implements it (ap (λ i. supertypes_by t i t.extends) ei ∙ ap (λ xs. supertypes_by t false xs) ex) (object_known units)
onward_by units t true (n ∷ ns) ei ex it none =
    onward (world_of units) t n ns it (ap (λ i. supertypes_by t i t.extends) ei ∙ ap (λ xs. supertypes_by t true xs) ex) (first_known units t n ns ex none)
onward_by units t false (n ∷ ns) ei ex it none =
    onward (world_of units) t n t.implements it (ap (λ i. supertypes_by t i t.extends) ei ∙ ap (λ xs. supertypes_by t false xs) ex) (first_known units t n ns ex none)

-- ---- types that are left to be passed

left : List Named → List PlainType → ℕ
left seen [] = 0
left seen (u ∷ us) = cond (list_any (bytes_eq u.name) seen) (left seen us) (suc (left seen us))

by_tests : (a b : Bool) (m n : ℕ) → m ≤ n → cond (a || b) m (suc m) ≤ cond b n (suc n)
by_tests true true m n h = h
by_tests true false m n h = omega arith
by_tests false true m n h = h
by_tests false false m n h = omega arith

first_passed : (a b : Bool) (m n : ℕ) → a ≡ true → b ≡ false → m ≤ n → cond (a || b) m (suc m) < cond b n (suc n)
first_passed true true m n ea eb h = cc
first_passed true false m n ea eb h = omega arith
first_passed false true m n ea eb h = cc
first_passed false false m n ea eb h = cc

later_passed : (a b : Bool) (m n : ℕ) → m < n → cond (a || b) m (suc m) < cond b n (suc n)
later_passed true true m n h = h
later_passed true false m n h = omega arith
later_passed false true m n h = h
later_passed false false m n h = omega arith

left_less : (name : Named) (seen : List Named) (us : List PlainType) → left (name ∷ seen) us ≤ left seen us
unfolding left
left_less name seen [] = omega arith
left_less name seen (u ∷ us) =
    let rest : left (name ∷ seen) us ≤ left seen us = left_less name seen us in
    by_tests (bytes_eq u.name name) (list_any (bytes_eq u.name) seen) (left (name ∷ seen) us) (left seen us) rest

left_falls : (name : Named) (seen : List Named) (us : List PlainType) → list_any (bytes_eq name) seen ≡ false → list_any (λ u. bytes_eq u.name name) us ≡ true → left (name ∷ seen) us < left seen us
unfolding left
left_falls name seen [] new h = cc
left_falls name seen (u ∷ us) new h =
    elim (or_cases (bytes_eq u.name name) (list_any (λ v. bytes_eq v.name name) us) h) [
      | inl it ↦
          let fresh : list_any (bytes_eq u.name) seen ≡ false = ap (λ n. list_any (bytes_eq n) seen) (same_bytes u.name name it) ∙ new in
          first_passed (bytes_eq u.name name) (list_any (bytes_eq u.name) seen) (left (name ∷ seen) us) (left seen us) it fresh (left_less name seen us)
      | inr other ↦ later_passed (bytes_eq u.name name) (list_any (bytes_eq u.name) seen) (left (name ∷ seen) us) (left seen us) (left_falls name seen us new other)
    ]

-- ---- the chain

named_among : (name : Named) (front behind : List PlainType) (t : PlainType) → bytes_eq t.name name ≡ true → list_any (λ u. bytes_eq u.name name) (front ++ t ∷ behind) ≡ true
named_among name [] behind t it = ap (λ b. b || list_any (λ u. bytes_eq u.name name) behind) it
named_among name (u ∷ us) behind t it =
    elim (bytes_eq u.name name) as (λ b. (b || list_any (λ v. bytes_eq v.name name) (us ++ t ∷ behind)) ≡ true) [ true ↦ refl | false ↦ named_among name us behind t it ]

stands_among : (units : List PlainUnit) (file : ℕ) (before : List PlainType) (t : PlainType) → StandsIn units file before t → list_any (λ u. bytes_eq u.name t.name) (source_types units) ≡ true
stands_among units file before t (here earlier later front behind e) =
    ap (λ us. list_any (λ u. bytes_eq u.name t.name) (source_types us)) e
    ∙ (ap (list_any (λ u. bytes_eq u.name t.name)) (split_types earlier later front behind t) ∙ named_among t.name (source_types earlier ++ front) (behind ++ source_types later) t (bytes_same t.name))

-- each name that was passed steps on to this one
abbrev Passed : World → List Named → Named → Type 0
Passed w seen t = (s : Named) → list_any (bytes_eq s) seen ≡ true → ProperSub w s t

passed_on : (w : World) (seen : List Named) (t n : Named) → Passed w seen t → StepsTo w t n → Passed w (t ∷ seen) n
passed_on w seen t n passed step s h =
    elim (or_cases (bytes_eq s t) (list_any (bytes_eq s) seen) h) [
      | inl it ↦
          let P : Named → Type 0 = λ m. ProperSub w m n in
          subst P (sym (same_bytes s t it)) (record { between = n; first = step; rest = same })
      | inr other ↦
          let before : ProperSub w s t = passed s other in
          record { between = before.between; first = before.first; rest = joined w before.between t n before.rest (through step same) }
    ]

abbrev Reach : List PlainUnit → ℕ → Type 0
Reach units fuel =
    (seen : List Named) (file : ℕ) (before : List PlainType) (t : PlainType) → StandsIn units file before t → Passed (world_of units) seen t.name → left seen (source_types units) ≤ fuel
    → Sub (world_of units) t.name object_name

-- where the next type is a boot type the rest is known, and where it is a source type one name less is left
beyond : (units : List PlainUnit) (fuel : ℕ) → Reach units fuel → (seen : List Named) (t : PlainType) → Passed (world_of units) seen t.name → left (t.name ∷ seen) (source_types units) ≤ fuel
    → Onward (world_of units) t.name → Sub (world_of units) t.name object_name
beyond units fuel again seen t passed few on =
    elim (boot_or_source units on.next on.known) [
      | inl boot ↦ through on.step (boot_reaches units on.next boot)
      | inr source ↦
          let name : on.next ≡ source.type.name = sym (same_bytes source.type.name on.next source.called) in
          let P : Named → Type 0 = λ m. Sub (world_of units) m object_name in
          let Q : Named → Type 0 = λ m. Passed (world_of units) (t.name ∷ seen) m in
          through on.step
          (subst P (sym name) (again (t.name ∷ seen) source.file source.before source.type source.stands (subst Q name (passed_on (world_of units) seen t.name on.next passed on.step)) few))
    ]

new_falls : (units : List PlainUnit) → IsDeclared units → (seen : List Named) (file : ℕ) (before : List PlainType) (t : PlainType) → StandsIn units file before t → Passed (world_of units) seen t.name
    → left (t.name ∷ seen) (source_types units) < left seen (source_types units)
new_falls units fine seen file before t stands passed =
    elim (cases_Bool (list_any (bytes_eq t.name) seen)) [
      | inl circle ↦ absurd (fine _ _ (in_head stands (own_supertype (passed t.name circle))))
      | inr new ↦ left_falls t.name seen (source_types units) new (stands_among units file before t stands)
    ]

reach : (units : List PlainUnit) → IsDeclared units → (fuel : ℕ) → Reach units fuel
reach units fine zero seen file before t stands passed few =
    let falls : left (t.name ∷ seen) (source_types units) < left seen (source_types units) = new_falls units fine seen file before t stands passed in
    absurd (omega arith)
reach units fine (suc fuel) seen file before t stands passed few =
    let falls : left (t.name ∷ seen) (source_types units) < left seen (source_types units) = new_falls units fine seen file before t stands passed in
    beyond units fuel (reach units fine fuel) seen t passed (omega arith)
    (onward_by units t t.interface t.extends refl refl (stands_found units fine file before t stands) (none_unknown units fine file before t stands _ refl))

pub each_type_reaches : law.EachTypeReachesObject
each_type_reaches units fine t here_it =
    let known : has_type (world_of units) t.name ≡ true =
    list_any_at (is_named t.name) (world_of units) here_it.0 t here_it.1 (ap (λ u. bytes_eq u.name t.name) here_it.2 ∙ bytes_same t.name) in
    elim (boot_or_source units t.name known) [
      | inl boot ↦ boot_reaches units t.name boot
      | inr source ↦
          let P : Named → Type 0 = λ m. Sub (world_of units) m object_name in
          let none : Passed (world_of units) [] source.type.name = λ s h. cc in
          subst P (same_bytes source.type.name t.name source.called) (reach units fine (left [] (source_types units)) [] source.file source.before source.type source.stands none (omega arith))
    ]

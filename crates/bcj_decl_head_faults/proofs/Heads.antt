-- The faults of a head, by what is tested in turn.
use Rattle.std.proofs.Common.{◌≡◌, ◌≤◌, ◌++◌, ℕ, List, [], Bool, true, false, not, ◌||◌, ◌&&◌, refl, sym, ap, subst, ◌∙◌, Option, None, Some, inl, inr, arith, slice_get}
use Rattle.std.proofs.lemmas.Bool.{or_cases, or_parts, and_parts, not-true}
use Rattle.std.proofs.lemmas.List.Folds.{list_any_at, Any-from_list_any}
use Rattle.std.proofs.lemmas.Slice.Eq.{bytes_eq-Decides}
use Rattle.std.specs.List.{Contains, list_any}
use Rattle.std.specs.Option.{option_map_or}
use Rattle.bcj_parser_trees.specs.Trees.{PlainType}
use Rattle.bcj_symbolic_trees.specs.Same.{same_types}
use Rattle.bcj_symbolic_trees.proofs.SameLemmas.{same_types-Decides}
use Rattle.bcj_decl_rules.specs.World.{Named, Method, Declared, World, declared_type, has_type, type_named, interfaces_of}
use Rattle.bcj_decl_rules.specs.Subtypes.{ProperSub}
use Rattle.bcj_decl_rules.specs.Members.{same_signature, is_constructor, Passes}
use Rattle.bcj_decl_rules.specs.Faults.{Refusal, duplicate, unknown, bad_hierarchy, bad_member, rank, HeadFault, second_of_name, unknown_name, extends_interface, class_for_interface, named_twice, own_supertype, lacks_method, first_unknown, stands_twice, same_truth, lacks_body}
use Rattle.bcj_decl_listing.specs.Places.{steps_from, steps_of_world}
use Rattle.bcj_decl_graph.specs.Reached.{Reached, start, onward}
use Rattle.bcj_decl_graph.specs.Laws as law
use Rattle.bcj_decl_head_faults.specs.Kinds.{is_of_kind, names_wrong_kind}
use Rattle.bcj_decl_head_faults.specs.Lacks.{Lacks, SomeOf, closed_by, may_lack}
use Rattle.bcj_decl_head_faults.specs.Refusals.{StandsBehind, IsFirstRefusal, LacksAbove, IsRefusedAbove}
use Rattle.bcj_decl_head_faults.proofs.Some.{holding, some_contained}
use Rattle.bcj_decl_head_faults.proofs.Standing.{earlier_types, is_named_there, is_placed_there}

-- ---- names of the wrong kind

same_true : (b : Bool) → same_truth b true ≡ true → b ≡ true
same_true true h = refl
same_true false h = h

same_false : (b : Bool) → same_truth b false ≡ true → b ≡ false
same_false true h = cc
same_false false h = refl

-- the type of a name that is of a kind
record OfKind (w : World) (interface : Bool) (name : Named) : Type 0 where
  type : Declared
  named : type_named w name ≡ Some type
  kind : same_truth type.interface interface ≡ true

of_kind_by : (w : World) (interface : Bool) (name : Named) (o : Option Declared) → type_named w name ≡ o → option_map_or (λ t. same_truth t.interface interface) o false ≡ true → OfKind w interface name
of_kind_by w interface name None e h = cc
of_kind_by w interface name (Some t) e h = record { type = t; named = e; kind = h }

of_kind : (w : World) (interface : Bool) (name : Named) → is_of_kind w interface name ≡ true → OfKind w interface name
of_kind w interface name h = of_kind_by w interface name (type_named w name) refl h

kind_of : (w : World) (interface : Bool) (name : Named) (t : Declared) → type_named w name ≡ Some t → same_truth t.interface interface ≡ true → is_of_kind w interface name ≡ true
kind_of w interface name t e h = ap (λ o. option_map_or (λ u. same_truth u.interface interface) o false) e ∙ h

any_of_kind : (w : World) (interface : Bool) (names : List Named) (name : Named) (t : Declared) → Contains names name → type_named w name ≡ Some t → same_truth t.interface interface ≡ true
    → list_any (is_of_kind w interface) names ≡ true
any_of_kind w interface names name t inside e h =
    list_any_at (is_of_kind w interface) names inside.0 name inside.1 (ap (is_of_kind w interface) inside.2 ∙ kind_of w interface name t e h)

wrong_extends : (w : World) (before : List PlainType) (t : PlainType) → t.interface ≡ false → list_any (is_of_kind w true) t.extends ≡ true → HeadFault w before t bad_hierarchy
wrong_extends w before t class h =
    let any = Any-from_list_any (is_of_kind w true) t.extends h in
    let found : OfKind w true any.1 = of_kind w true any.1 any.4 in
    extends_interface class (any.0, any.2, any.3) found.named (same_true found.type.interface found.kind)

wrong_interface : (w : World) (before : List PlainType) (t : PlainType) → list_any (is_of_kind w false) (interfaces_of t) ≡ true → HeadFault w before t bad_hierarchy
wrong_interface w before t h =
    let any = Any-from_list_any (is_of_kind w false) (interfaces_of t) h in
    let found : OfKind w false any.1 = of_kind w false any.1 any.4 in
    class_for_interface (any.0, any.2, any.3) found.named (same_false found.type.interface found.kind)

pub wrong_names : (w : World) (before : List PlainType) (t : PlainType) → (names_wrong_kind w t || stands_twice (interfaces_of t)) ≡ true → HeadFault w before t bad_hierarchy
wrong_names w before t h =
    elim (or_cases (names_wrong_kind w t) (stands_twice (interfaces_of t)) h) [
      | inl kinds ↦
          elim (or_cases (not t.interface && list_any (is_of_kind w true) t.extends) (list_any (is_of_kind w false) (interfaces_of t)) kinds) [
            | inl both ↦ let parts : (not t.interface ≡ true) × (list_any (is_of_kind w true) t.extends ≡ true) = and_parts _ _ both in wrong_extends w before t (not-true t.interface parts.0) parts.1
            | inr other ↦ wrong_interface w before t other
          ]
      | inr twice ↦ named_twice twice
    ]

-- ---- faults by rank

least_one : (s : Refusal) → 1 ≤ rank s
least_one (duplicate name) = omega arith
least_one (unknown name) = omega arith
least_one bad_hierarchy = omega arith
least_one bad_member = omega arith

pub first_duplicate : (w : World) (before : List PlainType) (t : PlainType) → has_type (earlier_types before) t.name ≡ true → IsFirstRefusal (HeadFault w before t) (Some (duplicate t.name))
first_duplicate w before t h =
    let least : (s : Refusal) → HeadFault w before t s → 1 ≤ rank s = λ s f. least_one s in
    (second_of_name h, least)

-- no name before, and none unknown
pub record Named_well (w : World) (before : List PlainType) (t : PlainType) : Type 0 where
  pub new : has_type (earlier_types before) t.name ≡ false
  pub known : first_unknown w (t.extends ++ t.implements) ≡ None

least_unknown : (w : World) (before : List PlainType) (t : PlainType) → has_type (earlier_types before) t.name ≡ false → (s : Refusal) → HeadFault w before t s → 2 ≤ rank s
least_unknown w before t new s (second_of_name e) = let no : false ≡ true = sym new ∙ e in cc
least_unknown w before t new s (unknown_name e) = omega arith
least_unknown w before t new s (extends_interface a b c d) = omega arith
least_unknown w before t new s (class_for_interface a b c) = omega arith
least_unknown w before t new s (named_twice e) = omega arith
least_unknown w before t new s (own_supertype p) = omega arith
least_unknown w before t new s (lacks_method a b p l) = omega arith

pub first_unknown_name : (w : World) (before : List PlainType) (t : PlainType) (name : Named) → has_type (earlier_types before) t.name ≡ false → first_unknown w (t.extends ++ t.implements) ≡ Some name
    → IsFirstRefusal (HeadFault w before t) (Some (unknown name))
first_unknown_name w before t name new e = (unknown_name e, least_unknown w before t new)

least_hierarchy : (w : World) (before : List PlainType) (t : PlainType) → Named_well w before t → (s : Refusal) → HeadFault w before t s → 3 ≤ rank s
least_hierarchy w before t well s (second_of_name e) = let no : false ≡ true = sym well.new ∙ e in cc
least_hierarchy w before t well s (unknown_name {name = n} e) = let no : None ≡ Some n = sym well.known ∙ e in cc
least_hierarchy w before t well s (extends_interface a b c d) = omega arith
least_hierarchy w before t well s (class_for_interface a b c) = omega arith
least_hierarchy w before t well s (named_twice e) = omega arith
least_hierarchy w before t well s (own_supertype p) = omega arith
least_hierarchy w before t well s (lacks_method a b p l) = omega arith

pub first_hierarchy : (w : World) (before : List PlainType) (t : PlainType) → Named_well w before t → HeadFault w before t bad_hierarchy → IsFirstRefusal (HeadFault w before t) (Some bad_hierarchy)
first_hierarchy w before t well fault = (fault, least_hierarchy w before t well)

-- and a hierarchy without fault
pub record Ordered_well (w : World) (before : List PlainType) (t : PlainType) : Type 0 where
  pub well : Named_well w before t
  pub kinds : (names_wrong_kind w t || stands_twice (interfaces_of t)) ≡ false
  pub no_circle : ProperSub w t.name t.name → ⊥

not_both : (b : Bool) → b ≡ false → b ≡ true → ⊥
not_both b f h = let no : false ≡ true = sym f ∙ h in cc

no_extends : (w : World) (before : List PlainType) (t : PlainType) (o : Ordered_well w before t) (name : Named) (d : Declared) → t.interface ≡ false → Contains t.extends name → type_named w name ≡ Some d → d.interface ≡ true → ⊥
no_extends w before t o name d class inside e kind =
    let parts : (names_wrong_kind w t ≡ false) × (stands_twice (interfaces_of t) ≡ false) = or_parts _ _ o.kinds in
    let both : ((not t.interface && list_any (is_of_kind w true) t.extends) ≡ false) × (list_any (is_of_kind w false) (interfaces_of t) ≡ false) = or_parts _ _ parts.0 in
    let any : list_any (is_of_kind w true) t.extends ≡ true = any_of_kind w true t.extends name d inside e (ap (λ b. same_truth b true) kind) in
    not_both (not t.interface && list_any (is_of_kind w true) t.extends) both.0 (ap (λ b. not b && list_any (is_of_kind w true) t.extends) class ∙ any)

no_interface : (w : World) (before : List PlainType) (t : PlainType) (o : Ordered_well w before t) (name : Named) (d : Declared) → Contains (interfaces_of t) name → type_named w name ≡ Some d → d.interface ≡ false → ⊥
no_interface w before t o name d inside e kind =
    let parts : (names_wrong_kind w t ≡ false) × (stands_twice (interfaces_of t) ≡ false) = or_parts _ _ o.kinds in
    let both : ((not t.interface && list_any (is_of_kind w true) t.extends) ≡ false) × (list_any (is_of_kind w false) (interfaces_of t) ≡ false) = or_parts _ _ parts.0 in
    not_both (list_any (is_of_kind w false) (interfaces_of t)) both.1 (any_of_kind w false (interfaces_of t) name d inside e (ap (λ b. same_truth b false) kind))

no_twice : (w : World) (before : List PlainType) (t : PlainType) (o : Ordered_well w before t) → stands_twice (interfaces_of t) ≡ true → ⊥
no_twice w before t o h =
    let parts : (names_wrong_kind w t ≡ false) × (stands_twice (interfaces_of t) ≡ false) = or_parts _ _ o.kinds in not_both (stands_twice (interfaces_of t)) parts.1 h

least_member : (w : World) (before : List PlainType) (t : PlainType) → Ordered_well w before t → (s : Refusal) → HeadFault w before t s → 4 ≤ rank s
least_member w before t o s (second_of_name e) = absurd (not_both _ o.well.new e)
least_member w before t o s (unknown_name {name = n} e) = let no : None ≡ Some n = sym o.well.known ∙ e in cc
least_member w before t o s (extends_interface {name = n} {d = d} a b c k) = absurd (no_extends w before t o n d a b c k)
least_member w before t o s (class_for_interface {name = n} {d = d} a b c) = absurd (no_interface w before t o n d a b c)
least_member w before t o s (named_twice e) = absurd (no_twice w before t o e)
least_member w before t o s (own_supertype p) = absurd (o.no_circle p)
least_member w before t o s (lacks_method a b p l) = omega arith

pub first_member : (w : World) (before : List PlainType) (t : PlainType) → Ordered_well w before t → HeadFault w before t bad_member → IsFirstRefusal (HeadFault w before t) (Some bad_member)
first_member w before t o fault = (fault, least_member w before t o)

-- nothing is left
pub none_refused : (w : World) (before : List PlainType) (t : PlainType) → Ordered_well w before t
    → ((m : Method) → t.interface ≡ false → t.is_abstract ≡ false → Passes w (declared_type t) m → lacks_body w (declared_type t) m ≡ true → ⊥) → (s : Refusal) → HeadFault w before t s → ⊥
none_refused w before t o whole s (second_of_name e) = not_both _ o.well.new e
none_refused w before t o whole s (unknown_name {name = n} e) = let no : None ≡ Some n = sym o.well.known ∙ e in cc
none_refused w before t o whole s (extends_interface {name = n} {d = d} a b c k) = no_extends w before t o n d a b c k
none_refused w before t o whole s (class_for_interface {name = n} {d = d} a b c) = no_interface w before t o n d a b c
none_refused w before t o whole s (named_twice e) = no_twice w before t o e
none_refused w before t o whole s (own_supertype p) = o.no_circle p
none_refused w before t o whole s (lacks_method {m = m} a b p l) = whole m a b p l

-- ---- what the search above says

-- fewer closed places, more is reached
open_reached : (steps : List (List ℕ)) (closed : ℕ → Bool) (from : List ℕ) (k : ℕ) → Reached steps closed from k → Reached steps (λ j. false) from k
open_reached steps closed from k (start h) = start h
open_reached steps closed from k (onward {j = j} r free s) = onward (open_reached steps closed from j r) refl s

same_itself : (m : Method) → same_signature m m ≡ true
same_itself m = ap (λ b. b && same_types m.params m.params) ((bytes_eq-Decides m.name m.name).1 refl) ∙ (same_types-Decides m.params m.params).1 refl

circle_found : law.EachCircleIsReached → (w : World) (place : ℕ) (before : List PlainType) (t : PlainType) → StandsBehind w place before t → has_type (earlier_types before) t.name ≡ false
    → Reached (steps_of_world w) (λ k. false) (steps_from w (declared_type t)) place → ProperSub w t.name t.name
circle_found circles w place before t s new r = (circles w t.name (declared_type t) (is_named_there w place before t s new)).1 (place, is_placed_there w place before t s new, r)

found_circle : law.EachCircleIsReached → (w : World) (place : ℕ) (before : List PlainType) (t : PlainType) → StandsBehind w place before t → has_type (earlier_types before) t.name ≡ false
    → ProperSub w t.name t.name → Reached (steps_of_world w) (λ k. false) (steps_from w (declared_type t)) place
found_circle circles w place before t s new p =
    let P : ℕ → Type 0 = λ k. Reached (steps_of_world w) (λ j. false) (steps_from w (declared_type t)) k in
    let back = (circles w t.name (declared_type t) (is_named_there w place before t s new)).0 p in
    let both : Some back.0 ≡ Some place = sym back.1 ∙ is_placed_there w place before t s new in
    let same : back.0 ≡ place = cc in
    subst P same back.2

-- the type at a place with a method that the class lacks
record Lacked (w : World) (t : Declared) (k : ℕ) : Type 0 where
  type : Declared
  stands : slice_get w k ≡ Some type
  method : Method
  among : Contains type.methods method
  lacks : Lacks w (steps_of_world w) t (steps_from w t) k method

lacked_by : (w : World) (t : Declared) (k : ℕ) (o : Option Declared) → slice_get w k ≡ o → SomeOf (Lacks w (steps_of_world w) t (steps_from w t) k) (option_map_or (λ u. u.methods) o []) → Lacked w t k
lacked_by w t k None e h = absurd h
lacked_by w t k (Some u) e h =
    let it = holding (Lacks w (steps_of_world w) t (steps_from w t) k) u.methods h in
    record { type = u; stands = e; method = it.item; among = it.among; lacks = it.has_it }

lacked_passes : law.EachPassingMethodIsReached → (w : World) (t : Declared) (k : ℕ) (l : Lacked w t k) → Passes w t l.method × (lacks_body w t l.method ≡ true)
lacked_passes passing w t k l =
    let outer : (not l.method.is_private ≡ true) × ((not (is_constructor l.method) && lacks_body w t l.method) ≡ true) = and_parts _ _ l.lacks.lacking in
    let inner : (not (is_constructor l.method) ≡ true) × (lacks_body w t l.method ≡ true) = and_parts _ _ outer.1 in (
      (passing w t l.method l.method (same_itself l.method)).1 (k, l.type, l.stands, l.among, not-true l.method.is_private outer.0, not-true (is_constructor l.method) inner.0, l.lacks.passes),
      inner.1,
    )

-- and one that passes and has no body is found
lacks_found : law.EachPassingMethodIsReached → (w : World) (t : Declared) (m : Method) → Passes w t m → lacks_body w t m ≡ true → LacksAbove w (steps_of_world w) t (steps_from w t)
lacks_found passing w t m p h =
    let back = (passing w t m m (same_itself m)).0 p in
    let k : ℕ = back.0 in
    let may : may_lack w t m ≡ true = ap (λ b. not b && (not (is_constructor m) && lacks_body w t m)) back.4 ∙ (ap (λ b. not b && lacks_body w t m) back.5 ∙ h) in
    let P : Method → Type 0 = Lacks w (steps_of_world w) t (steps_from w t) k in
    let Q : Option Declared → Type 0 = λ o. SomeOf P (option_map_or (λ u. u.methods) o []) in
    let there : SomeOf P back.1.methods = some_contained P back.1.methods m back.3 (record { lacking = may; passes = back.6 }) in
    record { place = k; above = open_reached (steps_of_world w) (closed_by w m) (steps_from w t) k back.6; lacks = subst Q (sym back.2) there }

pub refused_above : law.EachCircleIsReached → law.EachPassingMethodIsReached → (w : World) (place : ℕ) (before : List PlainType) (t : PlainType) → StandsBehind w place before t → Named_well w before t
    → (names_wrong_kind w t || stands_twice (interfaces_of t)) ≡ false → (o : Option Refusal)
    → IsRefusedAbove w (steps_of_world w) (declared_type t) (steps_from w (declared_type t)) place o → IsFirstRefusal (HeadFault w before t) o
refused_above circles passing w place before t s well kinds None h =
    let ordered : Ordered_well w before t = record { well = well; kinds = kinds; no_circle = λ p. h.0 (found_circle circles w place before t s well.new p) } in
    none_refused w before t ordered (λ m class concrete p l. h.1 class concrete (lacks_found passing w (declared_type t) m p l))
refused_above circles passing w place before t s well kinds (Some bad_hierarchy) h = first_hierarchy w before t well (own_supertype (circle_found circles w place before t s well.new h))
refused_above circles passing w place before t s well kinds (Some bad_member) h =
    let ordered : Ordered_well w before t = record { well = well; kinds = kinds; no_circle = λ p. h.0 (found_circle circles w place before t s well.new p) } in
    let l : Lacked w (declared_type t) h.3.place = lacked_by w (declared_type t) h.3.place (slice_get w h.3.place) refl h.3.lacks in
    let both : Passes w (declared_type t) l.method × (lacks_body w (declared_type t) l.method ≡ true) = lacked_passes passing w (declared_type t) h.3.place l in
    first_member w before t ordered (lacks_method h.1 h.2 both.0 both.1)
refused_above circles passing w place before t s well kinds (Some (duplicate name)) h = absurd h
refused_above circles passing w place before t s well kinds (Some (unknown name)) h = absurd h

-- The faults of a member are those that the tests find.
use Rattle.std.proofs.Common.{◌≡◌, ◌≤◌, Bool, true, false, not, ◌&&◌, ◌||◌, ◌⊎◌, inl, inr, ℕ, List, Option, None, Some, refl, sym, subst, lit≤}
use Rattle.std.proofs.lemmas.Bool.{not-true, and_parts, and_from, or_left, or_right, not_from_false}
use Rattle.std.specs.List.{list_any}
use Rattle.std.specs.Str.{bytes_eq}
use Rattle.bcj_parser_trees.specs.declared.names.Mods.{Mods}
use Rattle.bcj_parser_trees.specs.declared.names.Param.{Param}
use Rattle.bcj_parser_trees.specs.declared.names.TypeName.{TypeName}
use Rattle.bcj_parser_trees.specs.Trees.{PlainOption, absent, present, PlainBody, PlainFirst, PlainStmts, PlainMember, field_member, method_member, constructor_member, static_member, PlainType}
use Rattle.bcj_decl_rules.specs.World.{Named, Method, World, declared_type, method_with, is_private}
use Rattle.bcj_decl_rules.specs.Faults.{Refusal, duplicate, unknown, bad_hierarchy, bad_member, rank, names_in, first_unknown, stands_twice, is_abstract, is_static, same_truth, has_same_result, has_body, is_restricted, param_names, is_field_of, is_method_of, is_constructor_of, MethodFault, second_method, parameter_twice, another_result, static_and_not, private_beside_inherited, abstract_in_class, body_of_abstract, body_missing, static_abstract, private_abstract, interface_modifier, MemberFault, unknown_name, second_field, field_modifier, interface_field, in_method, second_constructor, constructor_modifier, constructor_name, constructor_parameter}
use Rattle.bcj_decl_member_faults.specs.Decisions.{Clash, has_wrong_modifier, has_wrong_body, has_method_fault, is_absent, has_field_fault, has_constructor_fault, IsBad}

-- ---- tests

-- both are true
same_true : (a b : Bool) → a ≡ true → b ≡ true → same_truth a b ≡ true
same_true true b p h = h
same_true false b p h = cc

-- neither is true
same_false : (a b : Bool) → a ≡ false → b ≡ false → same_truth a b ≡ true
same_false true b p h = cc
same_false false b p h = not_from_false b h

-- which of the two
same_cases : (a b : Bool) → same_truth a b ≡ true → ((a ≡ true) × (b ≡ true)) ⊎ ((a ≡ false) × (b ≡ false))
same_cases true b h = inl (refl, h)
same_cases false b h = inr (refl, not-true b h)

-- a test of several parts holds where one of them does
ruleset by_parts = (or_left, or_right, and_from, not_from_false, same_true, same_false)

-- ---- methods

-- what a fault of a method is found by
abbrev IsFound : World → PlainType → List PlainMember → Mods → List Param → PlainBody → Method → Type 0
IsFound w t before mods params body d = (has_method_fault t before mods params body d ≡ true) ⊎ Clash w (declared_type t) d

-- each fault of a method is found
method_fault_is_found : {w : World} {t : PlainType} {before : List PlainMember} (mods : Mods) (params : List Param) (body : PlainBody) (d : Method)
    → MethodFault w t before mods params body d → IsFound w t before mods params body d
method_fault_is_found mods params body d (second_method h) = inl (or_left _ _ h)
method_fault_is_found mods params body d (parameter_twice h) = inl (search by_parts)
method_fault_is_found mods params body d (another_result n passes same h) = inr (record { other = n; passes = passes; same = same; at_odds = search by_parts })
method_fault_is_found mods params body d (static_and_not n passes same h) = inr (record { other = n; passes = passes; same = same; at_odds = search by_parts })
method_fault_is_found mods params body d (private_beside_inherited n hidden passes same) = inr (record { other = n; passes = passes; same = same; at_odds = search by_parts })
method_fault_is_found mods params body d (abstract_in_class class concrete h) = inl (search by_parts)
method_fault_is_found mods params body d (body_of_abstract abstract_method h) = inl (search by_parts)
method_fault_is_found mods params body d (body_missing with_code h) = inl (search by_parts)
method_fault_is_found mods params body d (static_abstract h) = inl (search by_parts)
method_fault_is_found mods params body d (private_abstract h) = inl (search by_parts)
method_fault_is_found mods params body d (interface_modifier interface h) = inl (search by_parts)

-- one of four
four_cases : (a b c d : Bool) (P : Type 0) → (a ≡ true → P) → (b ≡ true → P) → (c ≡ true → P) → (d ≡ true → P) → (a || (b || (c || d))) ≡ true → P
four_cases true b c d P f g h i e = f refl
four_cases false true c d P f g h i e = g refl
four_cases false false true d P f g h i e = h refl
four_cases false false false d P f g h i e = i e

-- three are four, the last of which fails
three_of_four : (a b c : Bool) → (a || (b || c)) ≡ true → (a || (b || (c || false))) ≡ true
three_of_four true b c e = refl
three_of_four false true c e = refl
three_of_four false false true e = refl
three_of_four false false false e = e

-- one of three
three_cases : (a b c : Bool) (P : Type 0) → (a ≡ true → P) → (b ≡ true → P) → (c ≡ true → P) → (a || (b || c)) ≡ true → P
three_cases a b c P f g h e = four_cases a b c false P f g h (λ n. cc) (three_of_four a b c e)

-- a wrong modifier is a fault
modifier_is_fault : {w : World} {t : PlainType} {before : List PlainMember} (mods : Mods) (params : List Param) (body : PlainBody) (d : Method)
    → has_wrong_modifier t.interface t.is_abstract mods ≡ true → MethodFault w t before mods params body d
modifier_is_fault {w} {t} {before} mods params body d =
    four_cases (not t.interface && (not t.is_abstract && mods.is_abstract)) (mods.is_static && mods.is_abstract) (is_private mods && mods.is_abstract) (t.interface && (mods.is_static || is_restricted mods))
    (MethodFault w t before mods params body d)
    (λ h.
    let first : (not t.interface ≡ true) × ((not t.is_abstract && mods.is_abstract) ≡ true) = and_parts (not t.interface) (not t.is_abstract && mods.is_abstract) h in
    let second : (not t.is_abstract ≡ true) × (mods.is_abstract ≡ true) = and_parts (not t.is_abstract) mods.is_abstract first.1 in
    abstract_in_class (not-true t.interface first.0) (not-true t.is_abstract second.0) second.1)
    (λ h. static_abstract h)
    (λ h. private_abstract h)
    (λ h.
    let parts : (t.interface ≡ true) × ((mods.is_static || is_restricted mods) ≡ true) = and_parts t.interface (mods.is_static || is_restricted mods) h in
    interface_modifier parts.0 parts.1)

-- a wrong body is a fault
body_is_fault : {w : World} {t : PlainType} {before : List PlainMember} (mods : Mods) (params : List Param) (body : PlainBody) (d : Method)
    → has_wrong_body (is_abstract d) body ≡ true → MethodFault w t before mods params body d
body_is_fault mods params body d h =
    elim (same_cases (is_abstract d) (has_body body) h) [ inl both ↦ body_of_abstract both.0 both.1 | inr neither ↦ body_missing neither.0 neither.1 ]

-- what the tests find is a fault
test_is_fault : {w : World} {t : PlainType} {before : List PlainMember} (mods : Mods) (params : List Param) (body : PlainBody) (d : Method)
    → has_method_fault t before mods params body d ≡ true → MethodFault w t before mods params body d
test_is_fault {w} {t} {before} mods params body d =
    four_cases (list_any (is_method_of d.name params) before) (stands_twice (param_names params)) (has_wrong_body (is_abstract d) body) (has_wrong_modifier t.interface t.is_abstract mods)
    (MethodFault w t before mods params body d) (λ h. second_method h) (λ h. parameter_twice h) (λ h. body_is_fault mods params body d h) (λ h. modifier_is_fault mods params body d h)

-- and what clashes
clash_is_fault : {w : World} {t : PlainType} {before : List PlainMember} (mods : Mods) (params : List Param) (body : PlainBody) (d : Method)
    → Clash w (declared_type t) d → MethodFault w t before mods params body d
clash_is_fault {w} {t} {before} mods params body d clash =
    three_cases (not (has_same_result d clash.other)) (not (same_truth (is_static d) (is_static clash.other))) d.is_private (MethodFault w t before mods params body d)
    (λ h. another_result clash.other clash.passes clash.same (not-true (has_same_result d clash.other) h))
    (λ h. static_and_not clash.other clash.passes clash.same (not-true (same_truth (is_static d) (is_static clash.other)) h))
    (λ h. private_beside_inherited clash.other h clash.passes clash.same)
    clash.at_odds

-- what is found is a fault
found_is_fault : {w : World} {t : PlainType} {before : List PlainMember} (mods : Mods) (params : List Param) (body : PlainBody) (d : Method)
    → IsFound w t before mods params body d → MethodFault w t before mods params body d
found_is_fault mods params body d (inl h) = test_is_fault mods params body d h
found_is_fault mods params body d (inr clash) = clash_is_fault mods params body d clash

-- ---- members

-- what is found is one
some_is : {A : Type 0} (x y : A) → Some x ≡ Some y → x ≡ y
some_is x y e = cc

-- another fault than an unknown name is found
abbrev IsBadBy : World → PlainType → List PlainMember → PlainMember → Refusal → Type 0
IsBadBy w t before m (unknown name) = first_unknown w (names_in m) ≡ Some name
IsBadBy w t before m bad_member = IsBad w t before m
IsBadBy w t before m _ = ⊥

-- no initialiser is there
is_absent_absent : is_absent absent ≡ true
is_absent_absent = refl

-- nothing is no name
none_some : (o : Option Named) (name : Named) → o ≡ None → o ≡ Some name → ⊥
none_some o name p q = cc

-- each fault of a member is found
fault_is_found : {w : World} {t : PlainType} {before : List PlainMember} (m : PlainMember) (r : Refusal) → MemberFault w t before m r → IsBadBy w t before m r
fault_is_found m r (unknown_name h) = h
fault_is_found m r (second_field h) = search by_parts
fault_is_found m r (field_modifier h) = search by_parts
fault_is_found m r (interface_field h) = search (or_left, or_right, and_from, is_absent_absent)
fault_is_found {w} {t} {before} m r (in_method {mods} {result} {name} {params} {body} {d} is fault) =
    let same : d ≡ method_with t.interface t.name mods result name params = sym (some_is _ _ is) in
    let P : Method → Type 0 = λ n. IsFound w t before mods params body n in
    subst P same (method_fault_is_found mods params body d fault)
fault_is_found m r (second_constructor h) = search by_parts
fault_is_found m r (constructor_modifier h) = search by_parts
fault_is_found m r (constructor_name h) = search by_parts
fault_is_found m r (constructor_parameter h) = search by_parts

-- an initialiser that isn't there
absent_is : (init : PlainOption) → is_absent init ≡ true → init ≡ absent
absent_is absent h = refl
absent_is (present e) h = cc

-- what is found of a field is a fault
field_is_fault : {w : World} {t : PlainType} {before : List PlainMember} (at : ℕ) (mods : Mods) (ty : TypeName) (name : Named) (init : PlainOption)
    → has_field_fault t before mods name init ≡ true → MemberFault w t before (field_member at mods ty name init) bad_member
field_is_fault {w} {t} {before} at mods ty name init =
    let P : PlainOption → Type 0 = λ o. MemberFault w t before (field_member at mods ty name o) bad_member in
    three_cases (list_any (is_field_of name) before) (mods.is_abstract || (t.interface && is_restricted mods)) (t.interface && is_absent init) (P init)
    (λ h. second_field h)
    (λ h. field_modifier h)
    (λ h.
    let parts : (t.interface ≡ true) × (is_absent init ≡ true) = and_parts t.interface (is_absent init) h in
    subst P (sym (absent_is init parts.1)) (interface_field parts.0))

-- what is found of a constructor is a fault
constructor_is_fault : {w : World} {t : PlainType} {before : List PlainMember} (at : ℕ) (mods : Mods) (name : Named) (params : List Param) (throws : List Named) (first : PlainFirst) (body : PlainStmts)
    → has_constructor_fault t before mods name params ≡ true → MemberFault w t before (constructor_member at mods name params throws first body) bad_member
constructor_is_fault {w} {t} {before} at mods name params throws first body =
    four_cases (list_any (is_constructor_of params) before) (mods.is_static || mods.is_abstract) (not (bytes_eq name t.name)) (stands_twice (param_names params))
    (MemberFault w t before (constructor_member at mods name params throws first body) bad_member) (λ h. second_constructor h) (λ h. constructor_modifier h)
    (λ h. constructor_name (not-true (bytes_eq name t.name) h)) (λ h. constructor_parameter h)

-- a bad member is at fault
bad_is_fault : {w : World} {t : PlainType} {before : List PlainMember} (m : PlainMember) → IsBad w t before m → MemberFault w t before m bad_member
bad_is_fault (field_member at mods ty name init) h = field_is_fault at mods ty name init h
bad_is_fault (method_member at mods result name params throws body) h = in_method refl (found_is_fault mods params body _ h)
bad_is_fault (constructor_member at mods name params throws first body) h = constructor_is_fault at mods name params throws first body h
bad_is_fault (static_member at body) h = absurd h

-- ---- which refusal comes first

-- no refusal of a member comes before that of an unknown name
is_above : (w : World) (t : PlainType) (before : List PlainMember) (m : PlainMember) (r : Refusal) → IsBadBy w t before m r → 2 ≤ rank r
is_above w t before m (unknown name) h = lit≤ tt
is_above w t before m bad_member h = lit≤ tt
is_above w t before m (duplicate name) h = absurd h
is_above w t before m bad_hierarchy h = absurd h

-- an unknown name is refused, and nothing comes before it
pub unknown_comes_first : (w : World) (t : PlainType) (before : List PlainMember) (m : PlainMember) (name : Named) → first_unknown w (names_in m) ≡ Some name
    → MemberFault w t before m (unknown name) × ((s : Refusal) → MemberFault w t before m s → 2 ≤ rank s)
unknown_comes_first w t before m name h = (unknown_name h, λ s fault. is_above w t before m s (fault_is_found m s fault))

-- where each name is known, a member is at fault as a bad one
all_known : (w : World) (t : PlainType) (before : List PlainMember) (m : PlainMember) (r : Refusal) → first_unknown w (names_in m) ≡ None → IsBadBy w t before m r → (r ≡ bad_member) × IsBad w t before m
all_known w t before m (unknown name) none h = absurd (none_some _ _ none h)
all_known w t before m bad_member none h = (refl, h)
all_known w t before m (duplicate name) none h = absurd h
all_known w t before m bad_hierarchy none h = absurd h

-- where each name is known, a bad member is refused as such
pub bad_comes_first : (w : World) (t : PlainType) (before : List PlainMember) (m : PlainMember) → first_unknown w (names_in m) ≡ None → IsBad w t before m
    → MemberFault w t before m bad_member × ((s : Refusal) → MemberFault w t before m s → 4 ≤ rank s)
bad_comes_first w t before m none bad =
    let P : Refusal → Type 0 = λ r. 4 ≤ rank r in
    (bad_is_fault m bad, λ s fault. subst P (sym (all_known w t before m s none (fault_is_found m s fault)).0) (lit≤ tt))

-- where nothing is found, nothing is at fault
pub none_is_at_fault : (w : World) (t : PlainType) (before : List PlainMember) (m : PlainMember) → first_unknown w (names_in m) ≡ None → (IsBad w t before m → ⊥) → (s : Refusal) → MemberFault w t before m s → ⊥
none_is_at_fault w t before m none fine s fault = fine (all_known w t before m s none (fault_is_found m s fault)).1

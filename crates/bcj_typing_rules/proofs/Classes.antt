-- The function of types is sound: its class is what the type becomes, and its fault is one of the relation.
use Rattle.std.proofs.Common.{◌≡◌, inl, inr, ℕ, Bool, true, false, List, [], ◌∷◌, ◌++◌, filter, Option, Some, None, refl, sym, ◌∙◌, ap, subst, not, if◌then◌else◌}
use Rattle.std.specs.List.{AllZip, filter_map}
use Rattle.bcj_parser_trees.specs.declared.names.TypeName.{TypeName}
use Rattle.bcj_parser_trees.specs.declared.names.Mods.{Mods}
use Rattle.bcj_parser_trees.specs.Trees as source
use Rattle.bcj_symbolic_trees.specs.Types.{PlainTy}
use Rattle.bcj_decl_rules.specs.declared.value.Value.{Value}
use Rattle.bcj_decl_rules.specs.World.{Named, Field, field_in, field_with}
use Rattle.bcj_typing_rules.specs.declared.kind.Kind.{Kind}
use Rattle.bcj_typing_rules.specs.Premises.{Need}
use Rattle.bcj_typing_rules.specs.Context.{Context, superclass_at, FieldWorth, constant_variable, no_constant_variable}
use Rattle.bcj_typing_rules.specs.Members as rule
use Rattle.bcj_typing_rules.specs.Members.{Added, nothing_added, Part, Made, FieldBecomes, HasInitialiser, StaticPart, StaticParts, InstancePart, InstanceParts, Starts, HasStart, ConstructorBecomes, ConstructorsBecome, MethodBecomes, BecomesClass, initialiser_context, constructor_context, is_constructor_member, is_method_member, constructor_members, unless_constant}
use Rattle.bcj_typing_rules.specs.Faults as at_fault
use Rattle.bcj_typing_rules.specs.Faults.{MemberFault, MemberHolds, MembersHold, TypeFault}
use Rattle.bcj_typing_rules.specs.Laws as law
use Rattle.bcj_typing_rules.specs.Laws.{IsWhole}
use Rattle.bcj_typing_rules.specs.function.Expressions.{Answers, AreRight, result}
use Rattle.bcj_typing_rules.specs.function.Members as function
use Rattle.bcj_typing_rules.specs.function.Members.{TypedMember, types_behind, types_through, static_of, static_added, instance_of, instance_added, field_made, method_made, constructor_of, initialiser_made, constructors_made, class_of}
use Rattle.bcj_typing_rules.proofs.Soundness.{Meets}
use Rattle.bcj_typing_rules.proofs.Statements.{go_on}
use Rattle.bcj_typing_rules.proofs.TypedMembers.{Worth, Typed, with_initialiser, without_initialiser, static_block, a_method, a_constructor, AllTyped, none_typed, more_typed, MembersFault, in_this, in_later, FirstLacks, HasSuperclass, MayAllStand, members_say, unwritten_says}

-- the value of a field is asked of the units alone
worth_moves : (units : List source.PlainUnit) (n m : Named) (b d : Bool) (f : Field) (v : Option Value) → FieldWorth (initialiser_context units n b) f v → FieldWorth (initialiser_context units m d) f v
worth_moves units n m b d f v (constant_variable k) = constant_variable k
worth_moves units n m b d f v (no_constant_variable k) = no_constant_variable k

-- what stands beside nothing is nothing
none_beside : {A B : Type 0} (R : A → B → Type 0) (ys : List B) → AllZip R [] ys → ys ≡ []
none_beside R [] h = refl
none_beside R (y ∷ ys) h = absurd h

-- a member of a list is at fault, those before it being without
pub record FaultyMember (units : List source.PlainUnit) (t : source.PlainType) (types : List PlainTy) (ms : List source.PlainMember) (at : ℕ) (k : Kind) : Type 0 where
  pub before : List source.PlainMember
  pub member : source.PlainMember
  pub behind : List source.PlainMember
  pub types_there : List PlainTy
  pub is : ms ≡ before ++ member ∷ behind
  pub hold : MembersHold units t types before types_there
  pub fault : MemberFault units t types_there member at k

-- the first call of the constructor that isn't written
pub data DefaultBecomes (units : List source.PlainUnit) (t : source.PlainType) : Option Added → Type 0 where
  of_interface : t.interface ≡ true → DefaultBecomes units t None
  each_written : {m : source.PlainMember} {ms : List source.PlainMember} → t.interface ≡ false → constructor_members t ≡ m ∷ ms → DefaultBecomes units t None
  unwritten : {x : Added} → t.interface ≡ false → constructor_members t ≡ [] → HasStart (constructor_context units t.name []) source.no_first x true → DefaultBecomes units t (Some x)

pub record DefaultLacks (units : List source.PlainUnit) (t : source.PlainType) (at : ℕ) (k : Kind) : Type 0 where
  pub of_class : t.interface ≡ false
  pub none_written : constructor_members t ≡ []
  pub first : FirstLacks (constructor_context units t.name []) source.no_first t.at at k

pub has_superclass : (units : List source.PlainUnit) (t : source.PlainType) → IsWhole units t → t.interface ≡ false → HasSuperclass units t
has_superclass units t (law.a_class {superclass = s} i h) j = (s, h)
has_superclass units t (law.an_interface i h) j = let clash : true ≡ false = sym i ∙ j in cc

pub may_all_stand : (units : List source.PlainUnit) (t : source.PlainType) → IsWhole units t → MayAllStand units t t.members
may_all_stand units t (law.a_class {superclass = s} i h) = inl (s, h)
may_all_stand units t (law.an_interface i h) = inr h

pub no_constructors : (units : List source.PlainUnit) (t : source.PlainType) → IsWhole units t → t.interface ≡ true → constructor_members t ≡ []
no_constructors units t (law.a_class i h) j = let clash : true ≡ false = sym j ∙ i in cc
no_constructors units t (law.an_interface i h) j = h

starts_above : (c : Context) (needs : List Need) (x : Added) (s : Bool) → Starts c source.no_first needs x s → Starts c source.no_first needs x true
starts_above c needs x s (rule.unwritten h k) = rule.unwritten h k

module _ (units : List source.PlainUnit) where
  -- ---- what members add

  field_part : (t : source.PlainType) (types : List PlainTy) (place : ℕ) (mods : Mods) (ty : TypeName) (name : Named) (e : source.PlainExpr) (v : Option Value) (x : Added) (b : Bool)
      → (field_with t.interface t.name mods ty name).is_static ≡ b → HasInitialiser units (field_with t.interface t.name mods ty name) e x → Worth units (field_with t.interface t.name mods ty name) v
      → StaticPart units t types (source.field_member place mods ty name (source.present e))
      (record { types = types; trees = (if b then unless_constant v x else nothing_added).trees; steps = (if b then unless_constant v x else nothing_added).steps })
  field_part t types place mods ty name e v x true s h w = rule.static_field refl s h (worth_moves units _ _ _ _ _ v w)
  field_part t types place mods ty name e v x false s h w = rule.no_static_part s

  static_part : (t : source.PlainType) (types : List PlainTy) (m : source.PlainMember) (x : TypedMember) → Typed units t types m x
      → StaticPart units t types m (record { types = types_behind types x; trees = (static_of x).trees; steps = (static_of x).steps })
  static_part t types m x (with_initialiser {at = at} {mods = mods} {ty = ty} {name = name} {e = e} {v = v} {x = i} h w) = field_part t types at mods ty name e v i _ refl h w
  static_part t types m x (without_initialiser w) = rule.no_static_part refl
  static_part t types m x (static_block r) = rule.static_block r
  static_part t types m x (a_method h) = rule.no_static_part refl
  static_part t types m x (a_constructor h r) = rule.no_static_part refl

  static_parts : (t : source.PlainType) (types : List PlainTy) (ms : List source.PlainMember) (xs : List TypedMember) → AllTyped units t types ms xs
      → StaticParts units t types ms (record { types = types_through types xs; trees = (static_added xs).trees; steps = (static_added xs).steps })
  static_parts t types ms xs none_typed = rule.no_static_parts
  static_parts t types (m ∷ ms) (x ∷ xs) (more_typed h r) = rule.more_static_parts (static_part t types m x h) (static_parts t (types_behind types x) ms xs r)

  field_instance : (t : source.PlainType) (place : ℕ) (mods : Mods) (ty : TypeName) (name : Named) (e : source.PlainExpr) (x : Added) (b : Bool)
      → (field_with t.interface t.name mods ty name).is_static ≡ b → HasInitialiser units (field_with t.interface t.name mods ty name) e x
      → InstancePart units t (source.field_member place mods ty name (source.present e)) (if b then nothing_added else x)
  field_instance t place mods ty name e x true s h = rule.no_instance_part (ap not s)
  field_instance t place mods ty name e x false s h = rule.instance_field refl s h

  instance_part : (t : source.PlainType) (types : List PlainTy) (m : source.PlainMember) (x : TypedMember) → Typed units t types m x → InstancePart units t m (instance_of x)
  instance_part t types m x (with_initialiser {at = at} {mods = mods} {ty = ty} {name = name} {e = e} {x = i} h w) = field_instance t at mods ty name e i _ refl h
  instance_part t types m x (without_initialiser w) = rule.no_instance_part refl
  instance_part t types m x (static_block r) = rule.no_instance_part refl
  instance_part t types m x (a_method h) = rule.no_instance_part refl
  instance_part t types m x (a_constructor h r) = rule.no_instance_part refl

  instance_parts : (t : source.PlainType) (types : List PlainTy) (ms : List source.PlainMember) (xs : List TypedMember) → AllTyped units t types ms xs → InstanceParts units t ms (instance_added xs)
  instance_parts t types ms xs none_typed = rule.no_instance_parts
  instance_parts t types (m ∷ ms) (x ∷ xs) (more_typed h r) = rule.more_instance_parts (instance_part t types m x h) (instance_parts t (types_behind types x) ms xs r)

  -- ---- fields, methods and constructors

  one_more_field : (t : source.PlainType) (types : List PlainTy) (m : source.PlainMember) (ms : List source.PlainMember) (x : TypedMember) (xs : List TypedMember) → Typed units t types m x
      → AllZip (FieldBecomes units) (filter_map (field_in t.interface t.name) ms) (filter_map field_made xs)
      → AllZip (FieldBecomes units) (filter_map (field_in t.interface t.name) (m ∷ ms)) (filter_map field_made (x ∷ xs))
  one_more_field t types m ms x xs (with_initialiser h w) r = (rule.field_becomes w, r)
  one_more_field t types m ms x xs (without_initialiser w) r = (rule.field_becomes w, r)
  one_more_field t types m ms x xs (static_block h) r = r
  one_more_field t types m ms x xs (a_method h) r = r
  one_more_field t types m ms x xs (a_constructor h b) r = r

  fields_become : (t : source.PlainType) (types : List PlainTy) (ms : List source.PlainMember) (xs : List TypedMember) → AllTyped units t types ms xs
      → AllZip (FieldBecomes units) (filter_map (field_in t.interface t.name) ms) (filter_map field_made xs)
  fields_become t types ms xs none_typed = tt
  fields_become t types (m ∷ ms) (x ∷ xs) (more_typed h r) = one_more_field t types m ms x xs h (fields_become t (types_behind types x) ms xs r)

  one_more_method : (t : source.PlainType) (types : List PlainTy) (m : source.PlainMember) (ms : List source.PlainMember) (x : TypedMember) (xs : List TypedMember) → Typed units t types m x
      → AllZip (MethodBecomes units t) (filter is_method_member ms) (filter_map method_made xs) → AllZip (MethodBecomes units t) (filter is_method_member (m ∷ ms)) (filter_map method_made (x ∷ xs))
  one_more_method t types m ms x xs (with_initialiser h w) r = r
  one_more_method t types m ms x xs (without_initialiser w) r = r
  one_more_method t types m ms x xs (static_block h) r = r
  one_more_method t types m ms x xs (a_method h) r = (h, r)
  one_more_method t types m ms x xs (a_constructor h b) r = r

  methods_become : (t : source.PlainType) (types : List PlainTy) (ms : List source.PlainMember) (xs : List TypedMember) → AllTyped units t types ms xs
      → AllZip (MethodBecomes units t) (filter is_method_member ms) (filter_map method_made xs)
  methods_become t types ms xs none_typed = tt
  methods_become t types (m ∷ ms) (x ∷ xs) (more_typed h r) = one_more_method t types m ms x xs h (methods_become t (types_behind types x) ms xs r)

  one_more_constructor : (t : source.PlainType) (i : Added) (types : List PlainTy) (m : source.PlainMember) (ms : List source.PlainMember) (x : TypedMember) (xs : List TypedMember) → Typed units t types m x
      → AllZip (ConstructorBecomes units t i) (filter is_constructor_member ms) (filter_map (constructor_of t.name i) xs)
      → AllZip (ConstructorBecomes units t i) (filter is_constructor_member (m ∷ ms)) (filter_map (constructor_of t.name i) (x ∷ xs))
  one_more_constructor t i types m ms x xs (with_initialiser h w) r = r
  one_more_constructor t i types m ms x xs (without_initialiser w) r = r
  one_more_constructor t i types m ms x xs (static_block h) r = r
  one_more_constructor t i types m ms x xs (a_method h) r = r
  one_more_constructor t i types m ms x xs (a_constructor h b) r = (rule.constructor_becomes h b, r)

  constructors_become : (t : source.PlainType) (i : Added) (types : List PlainTy) (ms : List source.PlainMember) (xs : List TypedMember) → AllTyped units t types ms xs
      → AllZip (ConstructorBecomes units t i) (filter is_constructor_member ms) (filter_map (constructor_of t.name i) xs)
  constructors_become t i types ms xs none_typed = tt
  constructors_become t i types (m ∷ ms) (x ∷ xs) (more_typed h r) = one_more_constructor t i types m ms x xs h (constructors_become t i (types_behind types x) ms xs r)

  -- no constructor is written
  none_made : (t : source.PlainType) (i : Added) (xs : List TypedMember) → AllTyped units t [] t.members xs → constructor_members t ≡ [] → filter_map (constructor_of t.name i) xs ≡ []
  none_made t i xs h n =
      none_beside (ConstructorBecomes units t i) (filter_map (constructor_of t.name i) xs)
      (subst (λ l. AllZip (ConstructorBecomes units t i) l (filter_map (constructor_of t.name i) xs)) n (constructors_become t i [] t.members xs h))

  all_constructors : (t : source.PlainType) (i : Added) (xs : List TypedMember) (d : Option Added) → IsWhole units t → AllTyped units t [] t.members xs → DefaultBecomes units t d
      → ConstructorsBecome units t i (constructors_made t.name i d xs)
  all_constructors t i xs d w h (of_interface j) = subst (λ l. ConstructorsBecome units t i l) (sym (none_made t i xs h (no_constructors units t w j))) (rule.of_interface j)
  all_constructors t i xs d w h (each_written j n) =
      rule.each_written j n (subst (λ l. AllZip (ConstructorBecomes units t i) l (filter_map (constructor_of t.name i) xs)) n (constructors_become t i [] t.members xs h))
  all_constructors t i xs d w h (unwritten {x = x} j n s) =
      subst (λ l. ConstructorsBecome units t i (rule.constructor_made t.name [] false (rule.first_types t.name false []) x i (rule.no_effects (rule.first_types t.name false [])) ∷ l))
      (sym (none_made t i xs h n)) (rule.by_default j n s)

  class_becomes : (t : source.PlainType) (xs : List TypedMember) (d : Option Added) → IsWhole units t → AllTyped units t [] t.members xs → DefaultBecomes units t d → BecomesClass units t (class_of t xs d)
  class_becomes t xs d w h s =
      rule.becomes_class (constructors_made t.name (instance_added xs) d xs) (filter_map method_made xs) (fields_become t [] t.members xs h) (static_parts t [] t.members xs h)
      (instance_parts t [] t.members xs h) (all_constructors t (instance_added xs) xs d w h s) (methods_become t [] t.members xs h)

  -- ---- members without fault

  member_holds : (t : source.PlainType) (types : List PlainTy) (m : source.PlainMember) (x : TypedMember) → Typed units t types m x → MemberHolds units t types m (types_behind types x)
  member_holds t types m x (with_initialiser h w) = at_fault.field_holds refl h
  member_holds t types m x (without_initialiser w) = at_fault.bare_field_holds
  member_holds t types m x (static_block r) = at_fault.static_holds r
  member_holds t types m x (a_method {made = made} h) = at_fault.method_holds made h
  member_holds t types m x (a_constructor h r) = at_fault.constructor_holds _ (rule.constructor_becomes h r)

  all_hold : (t : source.PlainType) (types : List PlainTy) (ms : List source.PlainMember) (xs : List TypedMember) → AllTyped units t types ms xs → MembersHold units t types ms (types_through types xs)
  all_hold t types ms xs none_typed = at_fault.none_hold
  all_hold t types (m ∷ ms) (x ∷ xs) (more_typed h r) = at_fault.more_hold (member_holds t types m x h) (all_hold t (types_behind types x) ms xs r)

  faulty_member : (t : source.PlainType) (types : List PlainTy) (ms : List source.PlainMember) (at : ℕ) (k : Kind) → MembersFault units t types ms at k → FaultyMember units t types ms at k
  faulty_member t types [] at k x = elim x [ ]
  faulty_member t types (m ∷ ms) at k (in_this x) = record { before = []; member = m; behind = ms; types_there = types; is = refl; hold = at_fault.none_hold; fault = x }
  faulty_member t types (m ∷ ms) at k (in_later {x = x} h y) =
      let r : FaultyMember units t (types_behind types x) ms at k = faulty_member t (types_behind types x) ms at k y in
      record {
        before = m ∷ r.before;
        member = r.member;
        behind = r.behind;
        types_there = r.types_there;
        is = ap (λ l. m ∷ l) r.is;
        hold = at_fault.more_hold (member_holds t types m x h) r.hold;
        fault = r.fault;
      }

  member_fault : (t : source.PlainType) (at : ℕ) (k : Kind) → FaultyMember units t [] t.members at k → TypeFault units t at k
  member_fault t at k r = at_fault.in_member r.before r.behind r.member r.types_there r.is r.hold r.fault

  default_fault : (t : source.PlainType) (xs : List TypedMember) (at : ℕ) (k : Kind) → AllTyped units t [] t.members xs → DefaultLacks units t at k → TypeFault units t at k
  default_fault t xs at k h x =
      subst (λ p. TypeFault units t p k) x.first.there
      (at_fault.type_itself (types_through [] xs) x.first.needs x.first.added x.of_class x.none_written (all_hold t [] t.members xs h) (starts_above _ _ _ _ x.first.starts) x.first.lacks)

module _ (units : List source.PlainUnit) (a : Answers) (right : AreRight units a) where
  start_says : (t : source.PlainType) (l : List source.PlainMember) → HasSuperclass units t → t.interface ≡ false → constructor_members t ≡ l
      → Meets (DefaultBecomes units t) (DefaultLacks units t) (function.start_unless a units t l)
  start_says t [] s i n =
      let c : Context = constructor_context units t.name [] in
      go_on (λ y. HasStart c source.no_first y true) (FirstLacks c source.no_first t.at) (DefaultBecomes units t) (DefaultLacks units t) (function.type_first a units c t.at [] (superclass_at c)) _
      (unwritten_says units a right t.name [] t.at (superclass_at c) refl s) (λ at k x. record { of_class = i; none_written = n; first = x }) (λ y h. unwritten i n h)
  start_says t (m ∷ ms) s i n = each_written i n

  default_says : (t : source.PlainType) (b : Bool) → IsWhole units t → t.interface ≡ b
      → Meets (DefaultBecomes units t) (DefaultLacks units t) (if b then result None else function.start_unless a units t (constructor_members t))
  default_says t true w i = of_interface i
  default_says t false w i = start_says t (constructor_members t) (has_superclass units t w i) i refl

  pub type_says : (t : source.PlainType) → IsWhole units t → Meets (BecomesClass units t) (TypeFault units t) (function.type_class a units t)
  type_says t w =
      go_on (AllTyped units t [] t.members) (MembersFault units t [] t.members) (BecomesClass units t) (TypeFault units t) (function.type_members a units t [] t.members) _
      (members_say units a right t [] t.members (may_all_stand units t w)) (λ at k x. member_fault units t at k (faulty_member units t [] t.members at k x))
      (λ xs h.
      go_on (DefaultBecomes units t) (DefaultLacks units t) (BecomesClass units t) (TypeFault units t) (function.default_start a units t) _ (default_says t t.interface w refl)
      (λ at k x. default_fault units t xs at k h x) (λ d x. class_becomes units t xs d w h x))

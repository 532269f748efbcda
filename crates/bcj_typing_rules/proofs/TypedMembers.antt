-- The function of members is sound: what it makes of them is what they become, and its fault is one of the relation.
use Rattle.std.proofs.Common.{◌≡◌, ◌⊎◌, inl, inr, ℕ, Bool, true, false, List, [], ◌∷◌, filter, Option, Some, None, refl, subst}
use Rattle.bcj_parser_trees.specs.declared.names.TypeName.{TypeName}
use Rattle.bcj_parser_trees.specs.declared.names.Mods.{Mods}
use Rattle.bcj_parser_trees.specs.declared.names.Param.{Param}
use Rattle.bcj_parser_trees.specs.Trees as source
use Rattle.bcj_symbolic_trees.specs.Types.{PlainTy}
use Rattle.bcj_decl_rules.specs.declared.value.Value.{Value}
use Rattle.bcj_decl_rules.specs.World.{Named, Field, Method, field_with, method_with, param_types, is_private}
use Rattle.bcj_decl_rules.specs.Faults.{is_static}
use Rattle.bcj_typing_rules.specs.declared.kind.Kind.{Kind}
use Rattle.bcj_typing_rules.specs.Premises.{Need, earliest_missing}
use Rattle.bcj_typing_rules.specs.Context.{Context, superclass_at, FieldWorth}
use Rattle.bcj_typing_rules.specs.Expressions.{Typing, Types, TypesAll}
use Rattle.bcj_typing_rules.specs.Statements.{Effects, RunAll}
use Rattle.bcj_typing_rules.specs.Members as rule
use Rattle.bcj_typing_rules.specs.Members.{Added, Made, Initialises, HasInitialiser, Starts, HasStart, MethodBecomes, initialiser_context, method_context, constructor_context, before_this, first_types, called_class, call_added, is_constructor_member}
use Rattle.bcj_typing_rules.specs.Faults as at_fault
use Rattle.bcj_typing_rules.specs.Faults.{a_value, values, ExprFault, PartsFault, StmtsFault, MemberFault}
use Rattle.bcj_typing_rules.specs.function.Expressions.{settled, Answers, AreRight, type_expr, type_exprs}
use Rattle.bcj_typing_rules.specs.function.Statements.{run_all}
use Rattle.bcj_typing_rules.specs.function.Members as function
use Rattle.bcj_typing_rules.specs.function.Members.{TypedMember, typed_field, typed_block, typed_method, typed_constructor, types_behind}
use Rattle.bcj_typing_rules.proofs.Deciding.{fits_decides, field_pick}
use Rattle.bcj_typing_rules.proofs.Soundness.{Meets, says_expr, says_exprs}
use Rattle.bcj_typing_rules.proofs.Statements.{go_on, says_stmts}

-- ---- what a member is typed as

-- the value of a field, wherever it is asked for in the units
abbrev pub Worth : List source.PlainUnit → Field → Option Value → Type 0
Worth units f v = FieldWorth (initialiser_context units f.class f.is_static) f v

pub data Typed (units : List source.PlainUnit) (t : source.PlainType) (types : List PlainTy) : source.PlainMember → TypedMember → Type 0 where
  with_initialiser : {at : ℕ} {mods : Mods} {ty : TypeName} {name : Named} {e : source.PlainExpr} {v : Option Value} {x : Added}
      → HasInitialiser units (field_with t.interface t.name mods ty name) e x → Worth units (field_with t.interface t.name mods ty name) v
      → Typed units t types (source.field_member at mods ty name (source.present e)) (typed_field (field_with t.interface t.name mods ty name) v (Some x))
  without_initialiser : {at : ℕ} {mods : Mods} {ty : TypeName} {name : Named} {v : Option Value} → Worth units (field_with t.interface t.name mods ty name) v
      → Typed units t types (source.field_member at mods ty name source.absent) (typed_field (field_with t.interface t.name mods ty name) v None)
  static_block : {at : ℕ} {body : source.PlainStmts} {b : Effects} → RunAll (initialiser_context units t.name true) types body b
      → Typed units t types (source.static_member at body) (typed_block b)
  a_method : {at : ℕ} {mods : Mods} {ret : TypeName} {name : Named} {params : List Param} {throws : List Named} {body : source.PlainBody} {made : Made}
      → MethodBecomes units t (source.method_member at mods ret name params throws body) made → Typed units t types (source.method_member at mods ret name params throws body) (typed_method made)
  a_constructor : {at : ℕ} {mods : Mods} {name : Named} {params : List Param} {throws : List Named} {first : source.PlainFirst} {body : source.PlainStmts} {x : Added} {to_super : Bool} {b : Effects}
      → HasStart (constructor_context units t.name params) first x to_super → RunAll (constructor_context units t.name params) (first_types t.name false (param_types params)) body b
      → Typed units t types (source.constructor_member at mods name params throws first body) (typed_constructor (is_private mods) (param_types params) x to_super b)

pub data AllTyped (units : List source.PlainUnit) (t : source.PlainType) : List PlainTy → List source.PlainMember → List TypedMember → Type 0 where
  none_typed : {types : List PlainTy} → AllTyped units t types [] []
  more_typed : {types : List PlainTy} {m : source.PlainMember} {ms : List source.PlainMember} {x : TypedMember} {xs : List TypedMember} → Typed units t types m x
      → AllTyped units t (types_behind types x) ms xs → AllTyped units t types (m ∷ ms) (x ∷ xs)

-- the first fault of several members
pub data MembersFault (units : List source.PlainUnit) (t : source.PlainType) : List PlainTy → List source.PlainMember → ℕ → Kind → Type 0 where
  in_this : {types : List PlainTy} {m : source.PlainMember} {ms : List source.PlainMember} {at : ℕ} {k : Kind} → MemberFault units t types m at k → MembersFault units t types (m ∷ ms) at k
  in_later : {types : List PlainTy} {m : source.PlainMember} {ms : List source.PlainMember} {x : TypedMember} {at : ℕ} {k : Kind} → Typed units t types m x
      → MembersFault units t (types_behind types x) ms at k → MembersFault units t types (m ∷ ms) at k

-- what a field lacks that takes its initialiser, at its first byte
pub record FieldLacks (units : List source.PlainUnit) (f : Field) (e : source.PlainExpr) (place at : ℕ) (k : Kind) : Type 0 where
  pub needs : List Need
  pub added : Added
  pub initialises : Initialises units f e needs added
  pub lacks : earliest_missing needs ≡ Some k
  pub there : place ≡ at

-- what a first call lacks
pub record FirstLacks (c : Context) (first : source.PlainFirst) (place at : ℕ) (k : Kind) : Type 0 where
  pub needs : List Need
  pub added : Added
  pub to_super : Bool
  pub starts : Starts c first needs added to_super
  pub lacks : earliest_missing needs ≡ Some k
  pub there : place ≡ at

-- ---- where a constructor may stand

-- the class of the type has a superclass, which its constructors call
abbrev pub HasSuperclass : List source.PlainUnit → source.PlainType → Type 0
HasSuperclass units t = (s : Named) × (superclass_at (constructor_context units t.name []) ≡ Some s)

abbrev pub MayStand : List source.PlainUnit → source.PlainType → source.PlainMember → Type 0
MayStand units t m = HasSuperclass units t ⊎ (is_constructor_member m ≡ false)

abbrev pub MayAllStand : List source.PlainUnit → source.PlainType → List source.PlainMember → Type 0
MayAllStand units t ms = HasSuperclass units t ⊎ (filter is_constructor_member ms ≡ [])

no_first_one : (m : source.PlainMember) (ms : List source.PlainMember) → filter is_constructor_member (m ∷ ms) ≡ [] → is_constructor_member m ≡ false
no_first_one (source.field_member at mods ty name init) ms h = refl
no_first_one (source.method_member at mods ret name params throws body) ms h = refl
no_first_one (source.static_member at body) ms h = refl
no_first_one (source.constructor_member at mods name params throws first body) ms h = cc

no_later_one : (m : source.PlainMember) (ms : List source.PlainMember) → filter is_constructor_member (m ∷ ms) ≡ [] → filter is_constructor_member ms ≡ []
no_later_one (source.field_member at mods ty name init) ms h = h
no_later_one (source.method_member at mods ret name params throws body) ms h = h
no_later_one (source.static_member at body) ms h = h
no_later_one (source.constructor_member at mods name params throws first body) ms h = cc

pub first_stands : (units : List source.PlainUnit) (t : source.PlainType) (m : source.PlainMember) (ms : List source.PlainMember) → MayAllStand units t (m ∷ ms) → MayStand units t m
first_stands units t m ms (inl s) = inl s
first_stands units t m ms (inr h) = inr (no_first_one m ms h)

pub later_stand : (units : List source.PlainUnit) (t : source.PlainType) (m : source.PlainMember) (ms : List source.PlainMember) → MayAllStand units t (m ∷ ms) → MayAllStand units t ms
later_stand units t m ms (inl s) = inl s
later_stand units t m ms (inr h) = inr (no_later_one m ms h)

module _ (units : List source.PlainUnit) (a : Answers) (right : AreRight units a) where
  -- ---- fields

  pub worth_found : (f : Field) → Worth units f (a.constant f)
  worth_found f = field_pick (initialiser_context units f.class f.is_static) a right f (a.constant f) refl

  abbrev LacksAt : Field → source.PlainExpr → ℕ → ℕ → Kind → Type 0
  LacksAt f e place at k = ExprFault (initialiser_context units f.class f.is_static) (a_value e) at k ⊎ FieldLacks units f e place at k

  initialiser_settles : (place : ℕ) (f : Field) (e : source.PlainExpr) (needs : List Need) (x : Added) (o : Option Kind) → Initialises units f e needs x → earliest_missing needs ≡ o
      → Meets (HasInitialiser units f e) (LacksAt f e place) (settled place o x)
  initialiser_settles place f e needs x None n h = rule.has_initialiser n h
  initialiser_settles place f e needs x (Some k) n h = inr (record { needs = needs; added = x; initialises = n; lacks = h; there = refl })

  initialiser_says : (place : ℕ) (f : Field) (e : source.PlainExpr) → Meets (HasInitialiser units f e) (LacksAt f e place) (function.type_initialiser a units place f e)
  initialiser_says place f e =
      let c : Context = initialiser_context units f.class f.is_static in
      go_on (Types c e) (ExprFault c (a_value e)) (HasInitialiser units f e) (LacksAt f e place) (type_expr a c e) _ (says_expr c a right e) (λ at k x. inl x)
      (λ v x. initialiser_settles place f e _ _ _ (rule.initialises x (fits_decides c a right v.type f.ty)) refl)

  field_fault : (t : source.PlainType) (types : List PlainTy) (place : ℕ) (mods : Mods) (ty : TypeName) (name : Named) (e : source.PlainExpr) (at : ℕ) (k : Kind)
      → LacksAt (field_with t.interface t.name mods ty name) e place at k → MemberFault units t types (source.field_member place mods ty name (source.present e)) at k
  field_fault t types place mods ty name e at k (inl x) = at_fault.in_field refl x
  field_fault t types place mods ty name e at k (inr x) =
      let at_place : MemberFault units t types (source.field_member place mods ty name (source.present e)) place k = at_fault.field_itself refl x.initialises x.lacks in
      subst (λ p. MemberFault units t types (source.field_member place mods ty name (source.present e)) p k) x.there at_place

  field_says : (t : source.PlainType) (types : List PlainTy) (place : ℕ) (mods : Mods) (ty : TypeName) (name : Named) (init : source.PlainOption)
      → Meets (Typed units t types (source.field_member place mods ty name init)) (MemberFault units t types (source.field_member place mods ty name init))
      (function.type_field a units place (field_with t.interface t.name mods ty name) init)
  field_says t types place mods ty name source.absent = without_initialiser (worth_found (field_with t.interface t.name mods ty name))
  field_says t types place mods ty name (source.present e) =
      let f : Field = field_with t.interface t.name mods ty name in
      let m : source.PlainMember = source.field_member place mods ty name (source.present e) in
      go_on (HasInitialiser units f e) (LacksAt f e place) (Typed units t types m) (MemberFault units t types m) (function.type_initialiser a units place f e) _ (initialiser_says place f e)
      (λ at k x. field_fault t types place mods ty name e at k x) (λ i x. with_initialiser x (worth_found f))

  -- ---- methods and blocks

  method_says : (t : source.PlainType) (types : List PlainTy) (place : ℕ) (mods : Mods) (ret : TypeName) (name : Named) (params : List Param) (throws : List Named) (body : source.PlainBody)
      → Meets (Typed units t types (source.method_member place mods ret name params throws body)) (MemberFault units t types (source.method_member place mods ret name params throws body))
      (function.type_method a units (method_with t.interface t.name mods ret name params) params body)
  method_says t types place mods ret name params throws source.no_body = a_method (rule.without_body refl)
  method_says t types place mods ret name params throws (source.with_body body) =
      let f : Method = method_with t.interface t.name mods ret name params in
      let c : Context = method_context units f params in
      let locals : List PlainTy = first_types t.name (is_static f) (param_types params) in
      let m : source.PlainMember = source.method_member place mods ret name params throws (source.with_body body) in
      go_on (RunAll c locals body) (StmtsFault c locals body) (Typed units t types m) (MemberFault units t types m) (run_all a c locals body) _ (says_stmts c a right locals body)
      (λ at k x. at_fault.in_method refl x) (λ b x. a_method (rule.with_a_body refl x))

  block_says : (t : source.PlainType) (types : List PlainTy) (place : ℕ) (body : source.PlainStmts)
      → Meets (Typed units t types (source.static_member place body)) (MemberFault units t types (source.static_member place body)) (function.type_member a units t types (source.static_member place body))
  block_says t types place body =
      let c : Context = initialiser_context units t.name true in
      let m : source.PlainMember = source.static_member place body in
      go_on (RunAll c types body) (StmtsFault c types body) (Typed units t types m) (MemberFault units t types m) (run_all a c types body) _ (says_stmts c a right types body)
      (λ at k x. at_fault.in_static x) (λ b x. static_block x)

  -- ---- constructors

  start_settles : (c : Context) (first : source.PlainFirst) (place : ℕ) (needs : List Need) (x : Added) (s : Bool) (o : Option Kind) → Starts c first needs x s → earliest_missing needs ≡ o
      → Meets (λ y. HasStart c first y s) (FirstLacks c first place) (settled place o x)
  start_settles c first place needs x s None n h = rule.has_start n h
  start_settles c first place needs x s (Some k) n h = record { needs = needs; added = x; to_super = s; starts = n; lacks = h; there = refl }

  written_says : (class : Named) (params : List Param) (place : ℕ) (to_super : Bool) (args : source.PlainExprs) (ts : List Typing) (o : Option Named)
      → TypesAll (before_this (constructor_context units class params)) args ts → called_class (constructor_context units class params) to_super ≡ o → ((s : Named) × (o ≡ Some s))
      → Meets (λ y. HasStart (constructor_context units class params) (source.first_call place to_super args) y to_super)
      (FirstLacks (constructor_context units class params) (source.first_call place to_super args) place) (function.type_first a units (constructor_context units class params) place ts o)
  written_says class params place to_super args ts None xs h s = let clash : None ≡ Some s.0 = s.1 in cc
  written_says class params place to_super args ts (Some called) xs h s =
      start_settles (constructor_context units class params) (source.first_call place to_super args) place _ _ to_super _ (rule.written xs h (right.choose _ _ _ _)) refl

  pub unwritten_says : (class : Named) (params : List Param) (place : ℕ) (o : Option Named) → superclass_at (constructor_context units class params) ≡ o → ((s : Named) × (o ≡ Some s))
      → Meets (λ y. HasStart (constructor_context units class params) source.no_first y true) (FirstLacks (constructor_context units class params) source.no_first place)
      (function.type_first a units (constructor_context units class params) place [] o)
  unwritten_says class params place None h s = let clash : None ≡ Some s.0 = s.1 in cc
  unwritten_says class params place (Some called) h s =
      start_settles (constructor_context units class params) source.no_first place _ _ true _ (rule.unwritten h (right.choose _ _ _ _)) refl

  called_there : (t : source.PlainType) (params : List Param) (to_super : Bool) → HasSuperclass units t → (s : Named) × (called_class (constructor_context units t.name params) to_super ≡ Some s)
  called_there t params true h = h
  called_there t params false h = (t.name, refl)

  first_fault : (t : source.PlainType) (types : List PlainTy) (place : ℕ) (mods : Mods) (name : Named) (params : List Param) (throws : List Named) (first_at : ℕ) (to_super : Bool)
      (args : source.PlainExprs) (body : source.PlainStmts) (at : ℕ) (k : Kind) → FirstLacks (constructor_context units t.name params) (source.first_call first_at to_super args) first_at at k
      → MemberFault units t types (source.constructor_member place mods name params throws (source.first_call first_at to_super args) body) at k
  first_fault t types place mods name params throws first_at to_super args body at k x =
      subst (λ p. MemberFault units t types (source.constructor_member place mods name params throws (source.first_call first_at to_super args) body) p k) x.there
      (at_fault.in_first_call x.starts x.lacks)

  whole_fault : (t : source.PlainType) (types : List PlainTy) (place : ℕ) (mods : Mods) (name : Named) (params : List Param) (throws : List Named) (body : source.PlainStmts) (b : Effects) (at : ℕ) (k : Kind)
      → RunAll (constructor_context units t.name params) (first_types t.name false (param_types params)) body b → FirstLacks (constructor_context units t.name params) source.no_first place at k
      → MemberFault units t types (source.constructor_member place mods name params throws source.no_first body) at k
  whole_fault t types place mods name params throws body b at k h x =
      subst (λ p. MemberFault units t types (source.constructor_member place mods name params throws source.no_first body) p k) x.there (at_fault.constructor_itself h x.starts x.lacks)

  constructor_says : (t : source.PlainType) (types : List PlainTy) (place : ℕ) (mods : Mods) (name : Named) (params : List Param) (throws : List Named) (first : source.PlainFirst) (body : source.PlainStmts)
      → HasSuperclass units t
      → Meets (Typed units t types (source.constructor_member place mods name params throws first body)) (MemberFault units t types (source.constructor_member place mods name params throws first body))
      (function.type_constructor a units (constructor_context units t.name params) (param_types params) (is_private mods) place first body)
  constructor_says t types place mods name params throws source.no_first body s =
      let c : Context = constructor_context units t.name params in
      let locals : List PlainTy = first_types t.name false (param_types params) in
      let m : source.PlainMember = source.constructor_member place mods name params throws source.no_first body in
      go_on (RunAll c locals body) (StmtsFault c locals body) (Typed units t types m) (MemberFault units t types m) (run_all a c locals body) _ (says_stmts c a right locals body)
      (λ at k x. at_fault.in_all_statements x)
      (λ b x.
      go_on (λ y. HasStart c source.no_first y true) (FirstLacks c source.no_first place) (Typed units t types m) (MemberFault units t types m)
      (function.type_first a units c place [] (superclass_at c)) _ (unwritten_says t.name params place (superclass_at c) refl s)
      (λ at k y. whole_fault t types place mods name params throws body b at k x y) (λ y h. a_constructor h x))
  constructor_says t types place mods name params throws (source.first_call first_at to_super args) body s =
      let c : Context = constructor_context units t.name params in
      let locals : List PlainTy = first_types t.name false (param_types params) in
      let first : source.PlainFirst = source.first_call first_at to_super args in
      let m : source.PlainMember = source.constructor_member place mods name params throws first body in
      go_on (TypesAll (before_this c) args) (PartsFault (before_this c) (values args)) (Typed units t types m) (MemberFault units t types m) (type_exprs a (before_this c) args) _
      (says_exprs (before_this c) a right args) (λ at k x. at_fault.in_arguments x)
      (λ ts xs.
      go_on (λ y. HasStart c first y to_super) (FirstLacks c first first_at) (Typed units t types m) (MemberFault units t types m)
      (function.type_first a units c first_at ts (called_class c to_super)) _
      (written_says t.name params first_at to_super args ts (called_class c to_super) xs refl (called_there t params to_super s))
      (λ at k y. first_fault t types place mods name params throws first_at to_super args body at k y)
      (λ y h.
      go_on (RunAll c locals body) (StmtsFault c locals body) (Typed units t types m) (MemberFault units t types m) (run_all a c locals body) _ (says_stmts c a right locals body)
      (λ at k x. at_fault.in_statements h x) (λ b x. a_constructor h x)))

  -- ---- members

  standing_constructor_says : (t : source.PlainType) (types : List PlainTy) (place : ℕ) (mods : Mods) (name : Named) (params : List Param) (throws : List Named) (first : source.PlainFirst)
      (body : source.PlainStmts) → MayStand units t (source.constructor_member place mods name params throws first body)
      → Meets (Typed units t types (source.constructor_member place mods name params throws first body)) (MemberFault units t types (source.constructor_member place mods name params throws first body))
      (function.type_constructor a units (constructor_context units t.name params) (param_types params) (is_private mods) place first body)
  standing_constructor_says t types place mods name params throws first body (inl s) = constructor_says t types place mods name params throws first body s
  standing_constructor_says t types place mods name params throws first body (inr h) = let clash : true ≡ false = h in cc

  pub member_says : (t : source.PlainType) (types : List PlainTy) (m : source.PlainMember) → MayStand units t m → Meets (Typed units t types m) (MemberFault units t types m) (function.type_member a units t types m)
  member_says t types (source.field_member place mods ty name init) s = field_says t types place mods ty name init
  member_says t types (source.method_member place mods ret name params throws body) s = method_says t types place mods ret name params throws body
  member_says t types (source.static_member place body) s = block_says t types place body
  member_says t types (source.constructor_member place mods name params throws first body) s = standing_constructor_says t types place mods name params throws first body s

  pub members_say : (t : source.PlainType) (types : List PlainTy) (ms : List source.PlainMember) → MayAllStand units t ms
      → Meets (AllTyped units t types ms) (MembersFault units t types ms) (function.type_members a units t types ms)
  members_say t types [] s = none_typed
  members_say t types (m ∷ ms) s =
      go_on (Typed units t types m) (MemberFault units t types m) (AllTyped units t types (m ∷ ms)) (MembersFault units t types (m ∷ ms)) (function.type_member a units t types m) _
      (member_says t types m (first_stands units t m ms s)) (λ at k x. in_this x)
      (λ x h.
      go_on (AllTyped units t (types_behind types x) ms) (MembersFault units t (types_behind types x) ms) (AllTyped units t types (m ∷ ms)) (MembersFault units t types (m ∷ ms))
      (function.type_members a units t (types_behind types x) ms) _ (members_say t (types_behind types x) ms (later_stand units t m ms s)) (λ at k y. in_later h y) (λ xs y. more_typed h y))

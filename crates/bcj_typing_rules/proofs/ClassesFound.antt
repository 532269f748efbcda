-- The function of types finds each class, and each fault of a type is the one that is found.
use Rattle.std.proofs.Common.{◌≡◌, ℕ, Bool, true, false, List, [], ◌∷◌, ◌++◌, filter, Option, Some, None, refl, sym, ◌∙◌, ap, subst, not, if◌then◌else◌}
use Rattle.std.specs.List.{AllZip}
use Rattle.bcj_parser_trees.specs.declared.names.Param.{Param}
use Rattle.bcj_parser_trees.specs.Trees as source
use Rattle.bcj_symbolic_trees.specs.Trees as tree
use Rattle.bcj_symbolic_trees.specs.Types.{PlainTy}
use Rattle.bcj_symbolic_trees.specs.Units.{PlainClass}
use Rattle.bcj_symbolic_trees.specs.Names.{constructor_name}
use Rattle.bcj_decl_rules.specs.World.{Named, Field, Method, world_of, field_with, method_with, param_types}
use Rattle.bcj_decl_rules.specs.Methods.{Choice, MostSpecific}
use Rattle.bcj_decl_rules.specs.Faults.{is_static}
use Rattle.bcj_typing_rules.specs.declared.kind.Kind.{Kind}
use Rattle.bcj_typing_rules.specs.declared.kind.Kind.TheVariants as kind
use Rattle.bcj_typing_rules.specs.Premises.{Need, need, earliest_missing}
use Rattle.bcj_typing_rules.specs.Context.{Context, superclass_at}
use Rattle.bcj_typing_rules.specs.Casting.{uses}
use Rattle.bcj_typing_rules.specs.Expressions.{Typing, types_in, choice_needs}
use Rattle.bcj_typing_rules.specs.Statements.{RunAll}
use Rattle.bcj_typing_rules.specs.Members as rule
use Rattle.bcj_typing_rules.specs.Members.{Added, nothing_added, Part, Made, Initialises, HasInitialiser, StaticPart, StaticParts, InstancePart, InstanceParts, Starts, HasStart, ConstructorBecomes, ConstructorsBecome, MethodBecomes, BecomesClass, initialiser_context, method_context, constructor_context, before_this, first_types, called_class, call_added, set_own, is_constructor_member, is_method_member, constructor_members}
use Rattle.bcj_typing_rules.specs.Faults as at_fault
use Rattle.bcj_typing_rules.specs.Faults.{a_value, ExprFault, StmtsFault, MemberFault, MemberHolds, MembersHold, TypeFault}
use Rattle.bcj_typing_rules.specs.Laws.{IsWhole}
use Rattle.bcj_typing_rules.specs.function.Expressions.{result, fault, settled, Answers, AreRight, AreOnly, fits, type_expr, type_exprs}
use Rattle.bcj_typing_rules.specs.function.Statements.{run_all}
use Rattle.bcj_typing_rules.specs.function.Members as function
use Rattle.bcj_typing_rules.specs.function.Members.{TypedMember, typed_field, typed_block, typed_method, typed_constructor, types_behind, class_of}
use Rattle.bcj_typing_rules.proofs.Deciding.{fits_decides}
use Rattle.bcj_typing_rules.proofs.Soundness.{Meets}
use Rattle.bcj_typing_rules.proofs.Completeness.{found, same_truth, expr_found, args_found}
use Rattle.bcj_typing_rules.proofs.Effects.{all_found}
use Rattle.bcj_typing_rules.proofs.Members.{one_class}
use Rattle.bcj_typing_rules.proofs.ExprFaults.{fails_on, expr_fails, parts_fail}
use Rattle.bcj_typing_rules.proofs.StmtFaults.{all_fail}
use Rattle.bcj_typing_rules.proofs.Classes.{no_constructors, type_says}

-- ---- what stands beside those that pass

head_beside : {A B : Type 0} (R : A → B → Type 0) (m : A) (ms : List A) (ys : List B) (b : Bool) → AllZip R (if b then m ∷ ms else ms) ys → b ≡ true → (y : B) × R m y
head_beside R m ms [] true z h = absurd z
head_beside R m ms (y ∷ ys) true z h = (y, z.0)
head_beside R m ms ys false z h = cc

rest_beside : {A B : Type 0} (R : A → B → Type 0) (m : A) (ms : List A) (ys : List B) (b : Bool) → AllZip R (if b then m ∷ ms else ms) ys → (zs : List B) × AllZip R ms zs
rest_beside R m ms [] true z = absurd z
rest_beside R m ms (y ∷ ys) true z = (ys, z.1)
rest_beside R m ms ys false z = (ys, z)

-- ---- members without fault

-- a field has its initialiser in one of the two places
no_initialiser : (f : Field) → f.is_static ≡ false → not f.is_static ≡ false → ⊥
no_initialiser f h k = let clash : true ≡ false = ap not (sym h) ∙ k in cc

module _ (units : List source.PlainUnit) (t : source.PlainType) (i : Added) where
  constructor_stands : (types : List PlainTy) (m : source.PlainMember) (y : Made) → ConstructorBecomes units t i m y → MemberHolds units t types m types
  constructor_stands types m y (rule.constructor_becomes h r) = at_fault.constructor_holds _ (rule.constructor_becomes h r)

  stands : (types : List PlainTy) (m : source.PlainMember) (p : Part) (x : Added) → StaticPart units t types m p → InstancePart units t m x
      → (is_method_member m ≡ true → (y : Made) × MethodBecomes units t m y) → (is_constructor_member m ≡ true → (y : Made) × ConstructorBecomes units t i m y)
      → MemberHolds units t types m p.types
  stands types (source.field_member at mods ty name (source.present e)) p x (rule.static_field h s k w) n f g = at_fault.field_holds h k
  stands types (source.field_member at mods ty name (source.present e)) p x (rule.no_static_part h) (rule.instance_field j s k) f g = at_fault.field_holds j k
  stands types (source.field_member at mods ty name (source.present e)) p x (rule.no_static_part h) (rule.no_instance_part j) f g =
      absurd (no_initialiser (field_with t.interface t.name mods ty name) h j)
  stands types (source.field_member at mods ty name source.absent) p x (rule.no_static_part h) n f g = at_fault.bare_field_holds
  stands types (source.static_member at body) p x (rule.static_block h) n f g = at_fault.static_holds h
  stands types (source.static_member at body) p x (rule.no_static_part h) n f g = let clash : true ≡ false = h in cc
  stands types (source.method_member at mods ret name params throws body) p x (rule.no_static_part h) n f g =
      let made : (y : Made) × MethodBecomes units t (source.method_member at mods ret name params throws body) y = f refl in
      at_fault.method_holds made.0 made.1
  stands types (source.constructor_member at mods name params throws first body) p x (rule.no_static_part h) n f g =
      let made : (y : Made) × ConstructorBecomes units t i (source.constructor_member at mods name params throws first body) y = g refl in
      constructor_stands types (source.constructor_member at mods name params throws first body) made.0 made.1

  -- what becomes of the members says that each is without fault
  all_stand : (types : List PlainTy) (ms : List source.PlainMember) (p : Part) (x : Added) (ys zs : List Made) → StaticParts units t types ms p → InstanceParts units t ms x
      → AllZip (MethodBecomes units t) (filter is_method_member ms) ys → AllZip (ConstructorBecomes units t i) (filter is_constructor_member ms) zs → MembersHold units t types ms p.types
  all_stand types ms p x ys zs rule.no_static_parts n f g = at_fault.none_hold
  all_stand types (m ∷ ms) p x ys zs (rule.more_static_parts {p = q} {r = r} h hs) (rule.more_instance_parts {a = y} {r = z} k ks) f g =
      let methods : (l : List Made) × AllZip (MethodBecomes units t) (filter is_method_member ms) l =
      rest_beside (MethodBecomes units t) m (filter is_method_member ms) ys (is_method_member m) f
      in
      let constructors : (l : List Made) × AllZip (ConstructorBecomes units t i) (filter is_constructor_member ms) l =
      rest_beside (ConstructorBecomes units t i) m (filter is_constructor_member ms) zs (is_constructor_member m) g
      in
      at_fault.more_hold
      (stands types m q y h k (head_beside (MethodBecomes units t) m (filter is_method_member ms) ys (is_method_member m) f)
      (head_beside (ConstructorBecomes units t i) m (filter is_constructor_member ms) zs (is_constructor_member m) g))
      (all_stand q.types ms r z methods.0 constructors.0 hs ks methods.1 constructors.1)

  -- each constructor that is written becomes one
  each_becomes : (ys : List Made) → IsWhole units t → ConstructorsBecome units t i ys → (zs : List Made) × AllZip (ConstructorBecomes units t i) (constructor_members t) zs
  each_becomes ys w (rule.of_interface j) = ([], subst (λ l. AllZip (ConstructorBecomes units t i) l []) (sym (no_constructors units t w j)) tt)
  each_becomes ys w (rule.by_default j n s) = ([], subst (λ l. AllZip (ConstructorBecomes units t i) l []) (sym n) tt)
  each_becomes ys w (rule.each_written j n z) = (ys, subst (λ l. AllZip (ConstructorBecomes units t i) l ys) (sym n) z)

-- a field or a method that is declared in two ways
same_field : (f g : Field) → Some f ≡ Some g → g ≡ f
same_field f g h = cc

same_method : (f g : Method) → Some f ≡ Some g → g ≡ f
same_method f g h = cc

-- the members that are found, from the types of the locals of the class initialiser on
pub record MemberFound (units : List source.PlainUnit) (a : Answers) (t : source.PlainType) (types : List PlainTy) (m : source.PlainMember) (later : List PlainTy) : Type 0 where
  pub typed : TypedMember
  pub is_found : function.type_member a units t types m ≡ result typed
  pub is_behind : types_behind types typed ≡ later

module _ (units : List source.PlainUnit) (a : Answers) (right : AreRight units a) (only : AreOnly units a) where
  -- ---- initialisers

  initialises_found : (place : ℕ) (f : Field) (e : source.PlainExpr) (needs : List Need) (x : Added) → Initialises units f e needs x
      → function.type_initialiser a units place f e ≡ settled place (earliest_missing needs) x
  initialises_found place f e needs x (rule.initialises {t = v} {fits = b} h d) =
      let c : Context = initialiser_context units f.class f.is_static in
      found (type_expr a c e) _ v (expr_found c a right only e v h)
      ∙ ap
      (λ o.
      settled place (earliest_missing (need kind.Assign o ∷ []))
      (record { trees = tree.evaluate (set_own f v.tree) ∷ []; steps = v.steps ++ uses v.type f.ty }))
      (same_truth (fits a v.type f.ty) b (fits_decides c a right v.type f.ty) d)

  initialiser_found : (place : ℕ) (f : Field) (e : source.PlainExpr) (x : Added) → HasInitialiser units f e x → function.type_initialiser a units place f e ≡ result x
  initialiser_found place f e x (rule.has_initialiser {needs = needs} n h) = initialises_found place f e needs x n ∙ ap (λ o. settled place o x) h

  -- ---- first calls

  first_chosen : (c : Context) (place : ℕ) (ts : List Typing) (class : Named) (m : Choice) (o : Option Named) → o ≡ Some class
      → MostSpecific (world_of units) c.class class constructor_name (types_in ts) m
      → function.type_first a units c place ts o ≡ settled place (earliest_missing (choice_needs (λ n. []) m)) (call_added c class ts m)
  first_chosen c place ts class m o h k =
      ap (function.type_first a units c place ts) h
      ∙ ap (λ n. settled place (earliest_missing (choice_needs (λ l. []) n)) (call_added c class ts n)) (only.choose _ _ _ _ m k)

  pub unwritten_found : (class : Named) (params : List Param) (place : ℕ) (needs : List Need) (x : Added) (s : Bool) → Starts (constructor_context units class params) source.no_first needs x s
      → function.type_first a units (constructor_context units class params) place [] (superclass_at (constructor_context units class params)) ≡ settled place (earliest_missing needs) x
  unwritten_found class params place needs x s (rule.unwritten {class = called} {m = m} h k) = first_chosen (constructor_context units class params) place [] called m _ h k

  written_found : (class : Named) (params : List Param) (place : ℕ) (to_super : Bool) (args : source.PlainExprs) (needs : List Need) (x : Added) (s : Bool)
      → Starts (constructor_context units class params) (source.first_call place to_super args) needs x s
      → (ts : List Typing) × (type_exprs a (before_this (constructor_context units class params)) args ≡ result ts)
      × (function.type_first a units (constructor_context units class params) place ts (called_class (constructor_context units class params) to_super) ≡ settled place (earliest_missing needs) x)
  written_found class params place to_super args needs x s (rule.written {class = called} {ts = ts} {m = m} xs h k) =
      let c : Context = constructor_context units class params in
      (ts, args_found (before_this c) a right only args ts xs, first_chosen c place ts called m _ h k)

  unwritten_start : (class : Named) (params : List Param) (place : ℕ) (x : Added) (s : Bool) → HasStart (constructor_context units class params) source.no_first x s
      → function.type_first a units (constructor_context units class params) place [] (superclass_at (constructor_context units class params)) ≡ result x
  unwritten_start class params place x s (rule.has_start {needs = needs} n h) = unwritten_found class params place needs x s n ∙ ap (λ o. settled place o x) h

  written_start : (class : Named) (params : List Param) (place : ℕ) (to_super : Bool) (args : source.PlainExprs) (x : Added) (s : Bool)
      → HasStart (constructor_context units class params) (source.first_call place to_super args) x s
      → (ts : List Typing) × (type_exprs a (before_this (constructor_context units class params)) args ≡ result ts)
      × (function.type_first a units (constructor_context units class params) place ts (called_class (constructor_context units class params) to_super) ≡ result x)
  written_start class params place to_super args x s (rule.has_start {needs = needs} n h) =
      let w :
      (ts : List Typing) × (type_exprs a (before_this (constructor_context units class params)) args ≡ result ts)
      × (function.type_first a units (constructor_context units class params) place ts (called_class (constructor_context units class params) to_super) ≡ settled place (earliest_missing needs) x)
      = written_found class params place to_super args needs x s n
      in
      (w.0, w.1, w.2 ∙ ap (λ o. settled place o x) h)

  -- ---- members

  constructor_found : (t : source.PlainType) (types : List PlainTy) (m : source.PlainMember) (i : Added) (made : Made) → ConstructorBecomes units t i m made → MemberFound units a t types m types
  constructor_found t types (source.field_member place mods ty name init) i made h = elim h [ ]
  constructor_found t types (source.method_member place mods ret name params throws body) i made h = elim h [ ]
  constructor_found t types (source.static_member place body) i made h = elim h [ ]
  constructor_found t types (source.constructor_member place mods name params throws source.no_first body) i made (rule.constructor_becomes {a = x} {to_super = s} {b = b} h r) =
      let c : Context = constructor_context units t.name params in
      let locals : List PlainTy = first_types t.name false (param_types params) in
      record {
        typed = _;
        is_found = found (run_all a c locals body) _ b (all_found c a right only locals body b r) ∙ found (function.type_first a units c place [] (superclass_at c)) _ x (unwritten_start t.name params place x s h);
        is_behind = refl;
      }
  constructor_found t types (source.constructor_member place mods name params throws (source.first_call at to_super args) body) i made (rule.constructor_becomes {a = x} {to_super = s} {b = b} h r) =
      let c : Context = constructor_context units t.name params in
      let locals : List PlainTy = first_types t.name false (param_types params) in
      let w : (ts : List Typing) × (type_exprs a (before_this c) args ≡ result ts) × (function.type_first a units c at ts (called_class c to_super) ≡ result x) = written_start t.name params at to_super args x s h in
      record {
        typed = _;
        is_found =
            found (type_exprs a (before_this c) args) _ w.0 w.1
            ∙ (found (function.type_first a units c at w.0 (called_class c to_super)) _ x w.2 ∙ found (run_all a c locals body) _ b (all_found c a right only locals body b r));
        is_behind = refl;
      }

  method_found : (t : source.PlainType) (types : List PlainTy) (m : source.PlainMember) (made : Made) → MethodBecomes units t m made → MemberFound units a t types m types
  method_found t types (source.field_member place mods ty name init) made h = elim h [ ]
  method_found t types (source.constructor_member place mods name params throws first body) made h = elim h [ ]
  method_found t types (source.static_member place body) made h = elim h [ ]
  method_found t types (source.method_member place mods ret name params throws body) made (rule.without_body h) = record { typed = _; is_found = refl; is_behind = refl }
  method_found t types (source.method_member place mods ret name params throws (source.with_body body)) made (rule.with_a_body {m = g} {b = b} h r) =
      let f : Method = method_with t.interface t.name mods ret name params in
      let c : Context = method_context units f params in
      let locals : List PlainTy = first_types t.name (is_static f) (param_types params) in
      let moved : RunAll c locals body b = subst (λ v. RunAll (method_context units v params) (first_types t.name (is_static v) (param_types params)) body b) (same_method f g h) r in
      record { typed = _; is_found = found (run_all a c locals body) _ b (all_found c a right only locals body b moved); is_behind = refl }

  member_found : (t : source.PlainType) (types later : List PlainTy) (m : source.PlainMember) → MemberHolds units t types m later → MemberFound units a t types m later
  member_found t types later (source.field_member place mods ty name (source.present e)) (at_fault.field_holds {f = g} {a = x} h i) =
      let f : Field = field_with t.interface t.name mods ty name in
      let moved : HasInitialiser units f e x = subst (λ v. HasInitialiser units v e x) (same_field f g h) i in
      record { typed = _; is_found = found (function.type_initialiser a units place f e) _ x (initialiser_found place f e x moved); is_behind = refl }
  member_found t types later m at_fault.bare_field_holds = record { typed = _; is_found = refl; is_behind = refl }
  member_found t types later (source.static_member place body) (at_fault.static_holds {b = b} r) =
      let c : Context = initialiser_context units t.name true in
      record { typed = _; is_found = found (run_all a c types body) _ b (all_found c a right only types body b r); is_behind = refl }
  member_found t types later m (at_fault.method_holds made h) = method_found t types m made h
  member_found t types later m (at_fault.constructor_holds made h) = constructor_found t types m nothing_added made h

  pub members_found : (t : source.PlainType) (types later : List PlainTy) (ms : List source.PlainMember) → MembersHold units t types ms later
      → (xs : List TypedMember) × (function.type_members a units t types ms ≡ result xs)
  members_found t types later ms at_fault.none_hold = ([], refl)
  members_found t types later (m ∷ ms) (at_fault.more_hold {between = between} h hs) =
      let x : MemberFound units a t types m between = member_found t types between m h in
      let xs : (xs : List TypedMember) × (function.type_members a units t between ms ≡ result xs) = members_found t between later ms hs in (
        x.typed ∷ xs.0,
        found (function.type_member a units t types m) _ x.typed x.is_found
            ∙ found (function.type_members a units t (types_behind types x.typed) ms) _ xs.0 (ap (λ l. function.type_members a units t l ms) x.is_behind ∙ xs.1),
      )

  -- ---- types

  default_found : (t : source.PlainType) (i : Added) (ys : List Made) → ConstructorsBecome units t i ys → (d : Option Added) × (function.default_start a units t ≡ result d)
  default_found t i ys (rule.of_interface j) = (None, ap (λ b. if b then result None else function.start_unless a units t (constructor_members t)) j)
  default_found t i ys (rule.by_default {a = x} j n s) =
      let c : Context = constructor_context units t.name [] in (
        Some x,
        ap (λ b. if b then result None else function.start_unless a units t (constructor_members t)) j
            ∙ (ap (function.start_unless a units t) n ∙ found (function.type_first a units c t.at [] (superclass_at c)) _ x (unwritten_start t.name [] t.at x true s)),
      )
  default_found t i ys (rule.each_written j n z) =
      (None, ap (λ b. if b then result None else function.start_unless a units t (constructor_members t)) j ∙ ap (function.start_unless a units t) n)

  same_class : (t : source.PlainType) (x y : PlainClass) → IsWhole units t → BecomesClass units t x → function.type_class a units t ≡ result y → function.type_class a units t ≡ result x
  same_class t x y w h e =
      let also : BecomesClass units t y = subst (Meets (BecomesClass units t) (TypeFault units t)) e (type_says units a right t w) in
      e ∙ ap result (one_class units a right only t y x also h)

  pub class_found : (t : source.PlainType) → IsWhole units t → (x : PlainClass) → BecomesClass units t x → function.type_class a units t ≡ result x
  class_found t w x (rule.becomes_class {s = s} {i = i} constructors methods f p q k n) =
      let written : (zs : List Made) × AllZip (ConstructorBecomes units t i) (constructor_members t) zs = each_becomes units t i constructors w k in
      let xs : (xs : List TypedMember) × (function.type_members a units t [] t.members ≡ result xs) =
      members_found t [] s.types t.members (all_stand units t i [] t.members s i methods written.0 p q n written.1)
      in
      let d : (d : Option Added) × (function.default_start a units t ≡ result d) = default_found t i constructors k in
      same_class t x (class_of t xs.0 d.0) w (rule.becomes_class constructors methods f p q k n)
      (found (function.type_members a units t [] t.members) _ xs.0 xs.1 ∙ found (function.default_start a units t) _ d.0 d.1)

  -- ---- faults

  member_fails : (t : source.PlainType) (types : List PlainTy) (m : source.PlainMember) (at : ℕ) (k : Kind) → MemberFault units t types m at k → function.type_member a units t types m ≡ fault at k
  member_fails t types (source.field_member place mods ty name source.absent) at k h = elim h [ ]
  member_fails t types (source.method_member place mods ret name params throws source.no_body) at k h = elim h [ ]
  member_fails t types (source.field_member place mods ty name (source.present e)) at k (at_fault.in_field {f = g} h x) =
      let f : Field = field_with t.interface t.name mods ty name in
      let c : Context = initialiser_context units t.name f.is_static in
      let moved : ExprFault c (a_value e) at k = subst (λ v. ExprFault (initialiser_context units t.name v.is_static) (a_value e) at k) (same_field f g h) x in
      fails_on (function.type_initialiser a units place f e) _ at k (fails_on (type_expr a c e) _ at k (expr_fails c a right only e at k moved))
  member_fails t types (source.field_member place mods ty name (source.present e)) at k (at_fault.field_itself {f = g} {needs = needs} {a = x} h n l) =
      let f : Field = field_with t.interface t.name mods ty name in
      let moved : Initialises units f e needs x = subst (λ v. Initialises units v e needs x) (same_field f g h) n in
      fails_on (function.type_initialiser a units place f e) _ at k (initialises_found place f e needs x moved ∙ ap (λ o. settled place o x) l)
  member_fails t types (source.static_member place body) at k (at_fault.in_static x) =
      let c : Context = initialiser_context units t.name true in
      fails_on (run_all a c types body) _ at k (all_fail c a right only types body at k x)
  member_fails t types (source.method_member place mods ret name params throws (source.with_body body)) at k (at_fault.in_method {m = g} h x) =
      let f : Method = method_with t.interface t.name mods ret name params in
      let c : Context = method_context units f params in
      let locals : List PlainTy = first_types t.name (is_static f) (param_types params) in
      let moved : StmtsFault c locals body at k = subst (λ v. StmtsFault (method_context units v params) (first_types t.name (is_static v) (param_types params)) body at k) (same_method f g h) x in
      fails_on (run_all a c locals body) _ at k (all_fail c a right only locals body at k moved)
  member_fails t types (source.constructor_member place mods name params throws (source.first_call first_at to_super args) body) at k (at_fault.in_arguments x) =
      let d : Context = before_this (constructor_context units t.name params) in
      fails_on (type_exprs a d args) _ at k (parts_fail d a right only args at k x)
  member_fails t types (source.constructor_member place mods name params throws (source.first_call first_at to_super args) body) at k (at_fault.in_first_call {needs = needs} {a = x} {s = s} n l) =
      let c : Context = constructor_context units t.name params in
      let w : (ts : List Typing) × (type_exprs a (before_this c) args ≡ result ts) × (function.type_first a units c first_at ts (called_class c to_super) ≡ settled first_at (earliest_missing needs) x)
      = written_found t.name params first_at to_super args needs x s n
      in
      found (type_exprs a (before_this c) args) _ w.0 w.1
      ∙ fails_on (function.type_first a units c first_at w.0 (called_class c to_super)) _ at k (w.2 ∙ ap (λ o. settled first_at o x) l)
  member_fails t types (source.constructor_member place mods name params throws (source.first_call first_at to_super args) body) at k (at_fault.in_statements {a = x} {s = s} h y) =
      let c : Context = constructor_context units t.name params in
      let locals : List PlainTy = first_types t.name false (param_types params) in
      let w : (ts : List Typing) × (type_exprs a (before_this c) args ≡ result ts) × (function.type_first a units c first_at ts (called_class c to_super) ≡ result x)
      = written_start t.name params first_at to_super args x s h
      in
      found (type_exprs a (before_this c) args) _ w.0 w.1
      ∙ (found (function.type_first a units c first_at w.0 (called_class c to_super)) _ x w.2 ∙ fails_on (run_all a c locals body) _ at k (all_fail c a right only locals body at k y))
  member_fails t types (source.constructor_member place mods name params throws source.no_first body) at k (at_fault.in_all_statements x) =
      let c : Context = constructor_context units t.name params in
      let locals : List PlainTy = first_types t.name false (param_types params) in
      fails_on (run_all a c locals body) _ at k (all_fail c a right only locals body at k x)
  member_fails t types (source.constructor_member place mods name params throws source.no_first body) at k (at_fault.constructor_itself {b = b} {needs = needs} {a = x} {s = s} r n l) =
      let c : Context = constructor_context units t.name params in
      let locals : List PlainTy = first_types t.name false (param_types params) in
      found (run_all a c locals body) _ b (all_found c a right only locals body b r)
      ∙ fails_on (function.type_first a units c place [] (superclass_at c)) _ at k (unwritten_found t.name params place needs x s n ∙ ap (λ o. settled place o x) l)

  members_fail : (t : source.PlainType) (types later : List PlainTy) (before : List source.PlainMember) (m : source.PlainMember) (behind : List source.PlainMember) (at : ℕ) (k : Kind)
      → MembersHold units t types before later → MemberFault units t later m at k → function.type_members a units t types (before ++ m ∷ behind) ≡ fault at k
  members_fail t types later before m behind at k at_fault.none_hold x = fails_on (function.type_member a units t types m) _ at k (member_fails t types m at k x)
  members_fail t types later (n ∷ before) m behind at k (at_fault.more_hold {between = between} h hs) x =
      let y : MemberFound units a t types n between = member_found t types between n h in
      found (function.type_member a units t types n) _ y.typed y.is_found
      ∙ fails_on (function.type_members a units t (types_behind types y.typed) (before ++ m ∷ behind)) _ at k
      (ap (λ l. function.type_members a units t l (before ++ m ∷ behind)) y.is_behind ∙ members_fail t between later before m behind at k hs x)

  pub type_fails : (t : source.PlainType) (at : ℕ) (k : Kind) → TypeFault units t at k → function.type_class a units t ≡ fault at k
  type_fails t at k (at_fault.in_member before behind m types e h x) =
      fails_on (function.type_members a units t [] t.members) _ at k (ap (function.type_members a units t []) e ∙ members_fail t [] types before m behind at k h x)
  type_fails t at k (at_fault.type_itself types needs x j n h s l) =
      let c : Context = constructor_context units t.name [] in
      let xs : (xs : List TypedMember) × (function.type_members a units t [] t.members ≡ result xs) = members_found t [] types t.members h in
      found (function.type_members a units t [] t.members) _ xs.0 xs.1
      ∙ fails_on (function.default_start a units t) _ at k
      (ap (λ b. if b then result None else function.start_unless a units t (constructor_members t)) j
      ∙ (ap (function.start_unless a units t) n
      ∙ fails_on (function.type_first a units c t.at [] (superclass_at c)) _ at k (unwritten_found t.name [] t.at needs x true s ∙ ap (λ o. settled t.at o x) l)))

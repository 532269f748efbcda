-- The initialisers of objects alone are typed as they are among the members.
use Rattle.std.proofs.Common.{◌≡◌, ℕ, Bool, true, false, List, [], ◌∷◌, Some, None, refl, sym, ◌∙◌, ap, if◌then◌else◌}
use Rattle.bcj_parser_trees.specs.declared.names.Param.{Param}
use Rattle.bcj_parser_trees.specs.Trees as source
use Rattle.bcj_symbolic_trees.specs.Trees as tree
use Rattle.bcj_symbolic_trees.specs.Types.{PlainTy}
use Rattle.bcj_decl_rules.specs.World.{Field, Method, field_with, method_with, param_types, is_private}
use Rattle.bcj_decl_rules.specs.Faults.{is_static}
use Rattle.bcj_typing_rules.specs.Context.{Context, superclass_at}
use Rattle.bcj_typing_rules.specs.Expressions.{Typing}
use Rattle.bcj_typing_rules.specs.Statements.{Effects}
use Rattle.bcj_typing_rules.specs.Members.{Added, nothing_added, initialiser_context, method_context, constructor_context, before_this, first_types, called_class, method_record}
use Rattle.bcj_typing_rules.specs.function.Expressions.{Outcome, result, fault, and_then, Answers, type_exprs}
use Rattle.bcj_typing_rules.specs.function.Statements.{run_all}
use Rattle.bcj_typing_rules.specs.function.Members as function
use Rattle.bcj_typing_rules.specs.function.Members.{TypedMember, typed_field, typed_block, typed_method, typed_constructor, types_behind, both_added, instance_of, instance_added}
use Rattle.bcj_typing_rules.proofs.Completeness.{found}

-- what has a result behind a first step has one there
pub record Went {A B : Type 0} (o : Outcome A) (f : A → Outcome B) (y : B) : Type 0 where
  pub value : A
  pub first : o ≡ result value
  pub rest : f value ≡ result y

went : {A B : Type 0} (o : Outcome A) (f : A → Outcome B) (y : B) → and_then o f ≡ result y → Went o f y
went (result x) f y h = record { value = x; first = refl; rest = h }
went (fault at k) f y h = cc

-- the same where nothing stands behind but a form of the result
through : {A B : Type 0} (o : Outcome A) (f : A → B) (y : B) → and_then o (λ x. result (f x)) ≡ result y → (x : A) × (o ≡ result x) × (f x ≡ y)
through (result x) f y h = (x, refl, cc)
through (fault at k) f y h = cc

-- a member that adds nothing where an object is made
adds_nothing : (x y : TypedMember) → instance_of x ≡ nothing_added → x ≡ y → result nothing_added ≡ result (instance_of y)
adds_nothing x y h e = ap result (sym h ∙ ap instance_of e)

unless_static : (b : Bool) (o : Outcome Added) (i : Added) → o ≡ result i → (if b then result nothing_added else o) ≡ result (if b then nothing_added else i)
unless_static true o i h = refl
unless_static false o i h = h

module _ (a : Answers) (units : List source.PlainUnit) where
  method_same : (m : Method) (params : List Param) (body : source.PlainBody) (x : TypedMember) → function.type_method a units m params body ≡ result x → result nothing_added ≡ result (instance_of x)
  method_same m params source.no_body x h =
      let y : TypedMember =
      typed_method (record { method = method_record m (first_types m.class (is_static m) (param_types params)) tree.no_stmts; steps = [] })
      in
      let same : y ≡ x = cc in
      adds_nothing y x refl same
  method_same m params (source.with_body body) x h =
      let f : Effects → TypedMember = λ b. typed_method (record { method = method_record m b.types (tree.stmts_from b.trees); steps = b.steps }) in
      let o : Outcome Effects = run_all a (method_context units m params) (first_types m.class (is_static m) (param_types params)) body in
      let w : (b : Effects) × (o ≡ result b) × (f b ≡ x) = through o f x h in
      adds_nothing (f w.0) x refl w.2

  constructor_same : (c : Context) (params : List PlainTy) (hidden : Bool) (place : ℕ) (first : source.PlainFirst) (body : source.PlainStmts) (x : TypedMember)
      → function.type_constructor a units c params hidden place first body ≡ result x → result nothing_added ≡ result (instance_of x)
  constructor_same c params hidden place source.no_first body x h =
      let o : Outcome Effects = run_all a c (first_types c.class false params) body in
      let p : Outcome Added = function.type_first a units c place [] (superclass_at c) in
      let w : Went o (λ b. and_then p (λ i. result (typed_constructor hidden params i true b))) x = went o _ x h in
      let v : (i : Added) × (p ≡ result i) × (typed_constructor hidden params i true w.value ≡ x) = through p (λ i. typed_constructor hidden params i true w.value) x w.rest in
      adds_nothing (typed_constructor hidden params v.0 true w.value) x refl v.2
  constructor_same c params hidden place (source.first_call at to_super args) body x h =
      let q : Outcome (List Typing) = type_exprs a (before_this c) args in
      let o : Outcome Effects = run_all a c (first_types c.class false params) body in
      let u : Went q (λ ts. and_then (function.type_first a units c at ts (called_class c to_super)) (λ i. and_then o (λ b. result (typed_constructor hidden params i to_super b)))) x = went q _ x h in
      let p : Outcome Added = function.type_first a units c at u.value (called_class c to_super) in
      let w : Went p (λ i. and_then o (λ b. result (typed_constructor hidden params i to_super b))) x = went p _ x u.rest in
      let v : (b : Effects) × (o ≡ result b) × (typed_constructor hidden params w.value to_super b ≡ x) = through o (λ b. typed_constructor hidden params w.value to_super b) x w.rest in
      adds_nothing (typed_constructor hidden params w.value to_super v.0) x refl v.2

  member_same : (t : source.PlainType) (types : List PlainTy) (m : source.PlainMember) (x : TypedMember) → function.type_member a units t types m ≡ result x
      → function.type_instance a units t m ≡ result (instance_of x)
  member_same t types (source.field_member place mods ty name source.absent) x h =
      let f : Field = field_with t.interface t.name mods ty name in
      let same : typed_field f (a.constant f) None ≡ x = cc in
      adds_nothing (typed_field f (a.constant f) None) x refl same
  member_same t types (source.field_member place mods ty name (source.present e)) x h =
      let f : Field = field_with t.interface t.name mods ty name in
      let o : Outcome Added = function.type_initialiser a units place f e in
      let w : (i : Added) × (o ≡ result i) × (typed_field f (a.constant f) (Some i) ≡ x) = through o (λ i. typed_field f (a.constant f) (Some i)) x h in
      unless_static f.is_static o w.0 w.1 ∙ ap (λ y. result (instance_of y)) w.2
  member_same t types (source.static_member place body) x h =
      let o : Outcome Effects = run_all a (initialiser_context units t.name true) types body in
      let w : (b : Effects) × (o ≡ result b) × (typed_block b ≡ x) = through o typed_block x h in
      adds_nothing (typed_block w.0) x refl w.2
  member_same t types (source.method_member place mods ret name params throws body) x h = method_same (method_with t.interface t.name mods ret name params) params body x h
  member_same t types (source.constructor_member place mods name params throws first body) x h =
      constructor_same (constructor_context units t.name params) (param_types params) (is_private mods) place first body x h

  pub initialisers_same : (t : source.PlainType) (types : List PlainTy) (ms : List source.PlainMember) (xs : List TypedMember) → function.type_members a units t types ms ≡ result xs
      → function.type_initialisers a units t ms ≡ result (instance_added xs)
  initialisers_same t types [] xs h = let same : [] ≡ xs = cc in ap (λ l. result (instance_added l)) same
  initialisers_same t types (m ∷ ms) xs h =
      let o : Outcome TypedMember = function.type_member a units t types m in
      let w : Went o (λ x. and_then (function.type_members a units t (types_behind types x) ms) (λ l. result (x ∷ l))) xs = went o _ xs h in
      let p : Outcome (List TypedMember) = function.type_members a units t (types_behind types w.value) ms in
      let v : (l : List TypedMember) × (p ≡ result l) × (w.value ∷ l ≡ xs) = through p (λ l. w.value ∷ l) xs w.rest in
      found (function.type_instance a units t m) _ (instance_of w.value) (member_same t types m w.value w.first)
      ∙ (found (function.type_initialisers a units t ms) _ (instance_added v.0) (initialisers_same t (types_behind types w.value) ms v.0 v.1)
      ∙ ap (λ l. result (instance_added l)) v.2)

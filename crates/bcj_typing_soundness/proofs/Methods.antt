-- Methods are well typed.
use Rattle.std.proofs.Common.{◌≡◌, refl, sym, ap, subst, ◌∙◌, inl, inr, ℕ, Bool, true, false, not, ◌||◌, List, [], ◌∷◌, Some, if◌then◌else◌}
use Rattle.std.proofs.lemmas.Bool.{cases_Bool, and_from}
use Rattle.bcj_parser_trees.specs.declared.names.Access.TheVariants as access
use Rattle.bcj_parser_trees.specs.declared.names.Mods.{Mods}
use Rattle.bcj_parser_trees.specs.declared.names.Param.{Param}
use Rattle.bcj_parser_trees.specs.declared.names.TypeName.{TypeName}
use Rattle.bcj_parser_trees.specs.Trees as source
use Rattle.bcj_parser_trees.specs.Trees.{PlainMember, PlainType, PlainUnit}
use Rattle.bcj_symbolic_trees.specs.declared.class_tree.MethodKind.TheVariants as kind
use Rattle.bcj_symbolic_trees.specs.Trees as tree
use Rattle.bcj_symbolic_trees.specs.Types.{PlainTy, class_type}
use Rattle.bcj_symbolic_trees.specs.Units.{PlainMethod, PlainPair}
use Rattle.bcj_symbolic_check.specs.Judgements.{Frame}
use Rattle.bcj_symbolic_check.specs.Classes as class_rule
use Rattle.bcj_symbolic_check.specs.Typing as typing
use Rattle.bcj_symbolic_check.specs.Typing.{Each, IsListed, Begins, IsResultType, void_result, value_result, HaveRules, method_named, first_locals, MethodFits}
use Rattle.bcj_decl_rules.specs.World.{Named, Method, World, world_of, param_types, is_private, kind_in, method_with, superclass_of}
use Rattle.bcj_decl_rules.specs.Subtypes.{Subtype}
use Rattle.bcj_decl_rules.specs.Faults.{is_static, is_abstract, is_restricted, in_method, interface_modifier, private_abstract, body_of_abstract}
use Rattle.bcj_typing_rules.specs.Context.{Context, no_finals}
use Rattle.bcj_typing_rules.specs.Statements.{Effects, RunAll}
use Rattle.bcj_typing_rules.specs.Members.{first_types, first_param, method_context, Made, method_record, MethodBecomes, with_a_body, without_body}
use Rattle.bcj_typing_soundness.specs.World.{IsKnown, IsKnownResult, no_result, a_result, WorldIsSound, AreSoundSteps, Covers}
use Rattle.bcj_typing_soundness.specs.Frames.{IsSoundContext, GoOn, AreRun}
use Rattle.bcj_typing_soundness.proofs.Statements.{each_body}
use Rattle.bcj_typing_soundness.proofs.Steps.{none_sound}
use Rattle.bcj_typing_soundness.proofs.Declared.{IsMemberOf, IsDeclaredType}
use Rattle.bcj_typing_soundness.proofs.Sound.{some_is, IsSoundSignature, member_method_sound}
use Rattle.bcj_typing_soundness.proofs.Contexts.{begins_on, values_known, IsFrameOf, body_sound, first_known, body_agrees, this_first}

-- ---- methods of a class

-- the frame of a method or constructor of the type, its class having these pairs
abbrev pub body_frame : PlainType → List PlainPair → PlainMethod → Frame
body_frame t pairs m =
    record { class = t.name; superclass = superclass_of t; pairs = pairs; locals = m.locals; has_this = class_rule.has_this m.kind; result = Some m.result }

-- a method or constructor that is well typed in its class, where the pairs of the class hold its steps
pub record IsMade (units : List PlainUnit) (t : PlainType) (made : Made) : Type 0 where
  pub fits : MethodFits t.interface t.name made.method
  pub sound : AreSoundSteps (world_of units) made.steps
  pub rules : (pairs : List PlainPair) → ((p : PlainPair) → IsListed p pairs → Subtype (world_of units) p.from p.to) → Covers pairs made.steps
      → HaveRules (body_frame t pairs made.method) false made.method.body

-- a result that is there is one of the symbolic typing
pub result_typed : {w : World} {t : PlainTy} → IsKnownResult w t → IsResultType t
result_typed no_result = void_result
result_typed (a_result k) = value_result k.value

-- ---- kinds

-- `this` is there where the method is not static
this_by_kind : (d : Method) → class_rule.has_this d.kind ≡ not (is_static d)
this_by_kind d =
    elim d.kind as (λ k. class_rule.has_this k ≡ not (is_static (record d { kind = k })))
    [ kind.Static ↦ refl | kind.Instance ↦ refl | kind.Constructor ↦ refl | kind.Abstract ↦ refl ]

-- and stands before the parameters
first_by_kind : (class : Named) (d : Method) → (if class_rule.has_this d.kind then class_type class ∷ d.params else d.params) ≡ first_types class (is_static d) d.params
first_by_kind class d =
    elim d.kind as (λ k. (if class_rule.has_this k then class_type class ∷ d.params else d.params) ≡ first_types class (is_static (record d { kind = k })) d.params)
    [ kind.Static ↦ refl | kind.Instance ↦ refl | kind.Constructor ↦ refl | kind.Abstract ↦ refl ]

-- also of an abstract method
abstract_first : (class : Named) (d : Method) → d.kind ≡ kind.Abstract → first_types class (is_static d) d.params ≡ class_type class ∷ d.params
abstract_first class d e = ap (λ k. first_types class (is_static (record d { kind = k })) d.params) e

-- an abstract method by its kind
abstract_is : (d : Method) → d.kind ≡ kind.Abstract → is_abstract d ≡ true
abstract_is d e = ap (λ k. is_abstract (record d { kind = k })) e

-- no method is a constructor
pub no_constructor : (i : Bool) (mods : Mods) → kind_in i mods ≡ kind.Constructor → ⊥
no_constructor true mods = λ e. cc
no_constructor false mods =
    elim mods.is_abstract as (λ a. elim a [ true ↦ kind.Abstract | false ↦ elim mods.is_static [ true ↦ kind.Static | false ↦ kind.Instance ] ] ≡ kind.Constructor → ⊥) [
      | true ↦ λ e. cc
      | false ↦ elim mods.is_static as (λ s. elim s [ true ↦ kind.Static | false ↦ kind.Instance ] ≡ kind.Constructor → ⊥) [ true ↦ λ e. cc | false ↦ λ e. cc ]
    ]

-- an abstract method of a class is written so
abstract_written : (mods : Mods) → kind_in false mods ≡ kind.Abstract → mods.is_abstract ≡ true
abstract_written mods =
    elim mods.is_abstract as (λ a. elim a [ true ↦ kind.Abstract | false ↦ elim mods.is_static [ true ↦ kind.Static | false ↦ kind.Instance ] ] ≡ kind.Abstract → a ≡ true) [
      | true ↦ λ e. refl
      | false ↦ elim mods.is_static as (λ s. elim s [ true ↦ kind.Static | false ↦ kind.Instance ] ≡ kind.Abstract → false ≡ true) [ true ↦ λ e. cc | false ↦ λ e. cc ]
    ]

-- a private member is restricted
pub private_restricted : (mods : Mods) → is_private mods ≡ true → is_restricted mods ≡ true
private_restricted mods =
    elim mods.access as (λ a. is_private (record mods { access = a }) ≡ true → is_restricted (record mods { access = a }) ≡ true)
    [ access.Open ↦ λ e. e | access.Public ↦ λ e. e | access.Protected ↦ λ e. refl | access.Private ↦ λ e. refl ]

-- one of two is true
pub either_true : (a b : Bool) → b ≡ true → (a || b) ≡ true
either_true true b h = refl
either_true false b h = h

-- ---- one method

module _ (units : List PlainUnit) (t : PlainType) (at : ℕ) (mods : Mods) (result : TypeName) (name : Named) (params : List Param) (throws : List Named) (body : source.PlainBody)
    (k : IsMemberOf units t (source.method_member at mods result name params throws body)) where
  -- the method that the member declares
  abbrev pub own_method : Method
  own_method = method_with t.interface t.name mods result name params

  -- its types are there
  pub own_signature : IsSoundSignature (world_of units) own_method
  own_signature = member_method_sound (source.method_member at mods result name params throws body) k own_method refl

  -- a private one stands in a class
  private_in_class : is_private mods ≡ true → t.interface ≡ false
  private_in_class h =
      elim (cases_Bool t.interface) [
        | inl it ↦ absurd (k.is.fine _ (in_method refl (interface_modifier it (either_true mods.is_static (is_restricted mods) (private_restricted mods h)))))
        | inr other ↦ other
      ]

  -- and is not abstract
  private_with_body : is_private mods ≡ true → own_method.kind ≡ kind.Abstract → ⊥
  private_with_body h e =
      let written : mods.is_abstract ≡ true = abstract_written mods (sym (ap (λ i. kind_in i mods) (private_in_class h)) ∙ e) in
      k.is.fine _ (in_method refl (private_abstract (and_from (is_private mods) mods.is_abstract h written)))

  -- the conditions on the method, whatever its body
  pub method_fits : (locals : List PlainTy) (statements : tree.PlainStmts) → Each (IsKnown (world_of units)) locals → GoOn (first_types t.name (is_static own_method) (param_types params)) locals
      → (own_method.kind ≡ kind.Abstract → (statements ≡ tree.no_stmts) × (locals ≡ class_type t.name ∷ param_types params))
      → MethodFits t.interface t.name (method_record own_method locals statements)
  method_fits locals statements known goes bare =
      record {
        named = method_named (no_constructor t.interface mods) k.is.formed.1 (result_typed own_signature.result);
        params = values_known own_signature.params;
        locals = values_known known;
        first = subst (λ ts. Begins ts locals) (sym (first_by_kind t.name own_method)) (begins_on (first_types t.name (is_static own_method) (param_types params)) locals goes);
        bare_if_abstract = bare;
        abstract_in_interface = λ i. ap (λ b. kind_in b mods) i;
        private_in_class = λ h. (private_in_class h, private_with_body h);
      }

module _ (units : List PlainUnit) (sound : WorldIsSound units) (before : List PlainType) (t : PlainType) (declared : IsDeclaredType units before t) where
  -- the frame of a method is one of its type
  is_method_frame : (d : Method) (pairs : List PlainPair) (locals : List PlainTy) (body : tree.PlainStmts) → ((p : PlainPair) → IsListed p pairs → Subtype (world_of units) p.from p.to)
      → IsFrameOf units t (is_static d) (body_frame t pairs (method_record d locals body))
  is_method_frame d pairs locals body below = record { class = refl; superclass = refl; this = this_by_kind d; pairs = below }

  -- a method with its body
  bodied_made : (at : ℕ) (mods : Mods) (result : TypeName) (name : Named) (params : List Param) (throws : List Named) (body : source.PlainStmts) (b : Effects)
      → IsMemberOf units t (source.method_member at mods result name params throws (source.with_body body))
      → RunAll (method_context units (method_with t.interface t.name mods result name params) params)
      (first_types t.name (is_static (method_with t.interface t.name mods result name params)) (param_types params)) body b
      → IsMade units t (record { method = method_record (method_with t.interface t.name mods result name params) b.types (tree.stmts_from b.trees); steps = b.steps })
  bodied_made at mods result name params throws body b k run =
      let d : Method = method_with t.interface t.name mods result name params in
      let g : IsSoundSignature (world_of units) d = own_signature units t at mods result name params throws (source.with_body body) k in
      let first : List PlainTy = first_types t.name (is_static d) (param_types params) in
      let c : Context = method_context units d params in
      let s : IsSoundContext c =
      body_sound units sound before t declared (is_static d) (Some d.result) no_finals (first_param (is_static d)) params g.params (λ r e. some_is (IsKnownResult (world_of units)) e g.result) in
      let r : AreRun c first b = each_body c first body b s k.is.formed.4 run in
      record {
        fits =
            method_fits units t at mods result name params throws (source.with_body body) k b.types (tree.stmts_from b.trees)
            (r.part.known (first_known units sound before t declared (is_static d) (param_types params) g.params)) r.part.goes_on
            (λ e. absurd (k.is.fine _ (in_method refl (body_of_abstract (abstract_is d e) refl))));
        sound = r.part.sound;
        rules = λ pairs below covers.
            let frame : Frame = body_frame t pairs (method_record d b.types (tree.stmts_from b.trees)) in
            let f : IsFrameOf units t (is_static d) frame = is_method_frame d pairs b.types (tree.stmts_from b.trees) below in
            r.rules frame
            (record {
              agrees = body_agrees units sound before t declared frame (is_static d) (Some d.result) no_finals params f r.part.goes_on;
              result = refl;
              this_first = this_first units sound before t declared frame (is_static d) (param_types params) f;
              locals = λ i s a. a;
              pairs = covers;
            });
      }

  -- a method without body
  bare_made : (at : ℕ) (mods : Mods) (result : TypeName) (name : Named) (params : List Param) (throws : List Named)
      → IsMemberOf units t (source.method_member at mods result name params throws source.no_body)
      → IsMade units t
      (record {
        method = method_record (method_with t.interface t.name mods result name params)
            (first_types t.name (is_static (method_with t.interface t.name mods result name params)) (param_types params)) tree.no_stmts;
        steps = [];
      })
  bare_made at mods result name params throws k =
      let d : Method = method_with t.interface t.name mods result name params in
      let g : IsSoundSignature (world_of units) d = own_signature units t at mods result name params throws source.no_body k in
      record {
        fits =
            method_fits units t at mods result name params throws source.no_body k (first_types t.name (is_static d) (param_types params)) tree.no_stmts
            (first_known units sound before t declared (is_static d) (param_types params) g.params) (λ i s a. a) (λ e. (refl, abstract_first t.name d e));
        sound = none_sound;
        rules = λ pairs below covers. typing.no_stmts;
      }

  -- each method
  pub method_made : (m : PlainMember) (made : Made) → IsMemberOf units t m → MethodBecomes units t m made → IsMade units t made
  method_made m made k (with_a_body {at = at} {mods = mods} {result = result} {name = name} {params = params} {throws = throws} {body = body} {m = d} {b = b} is run) =
      some_is
      (λ (d : Method). RunAll (method_context units d params) (first_types t.name (is_static d) (param_types params)) body b
      → IsMade units t (record { method = method_record d b.types (tree.stmts_from b.trees); steps = b.steps })) is
      (bodied_made at mods result name params throws body b k) run
  method_made m made k (without_body {at = at} {mods = mods} {result = result} {name = name} {params = params} {throws = throws} {m = d} is) =
      some_is (λ (d : Method). IsMade units t (record { method = method_record d (first_types t.name (is_static d) (param_types params)) tree.no_stmts; steps = [] })) is
      (bare_made at mods result name params throws k)

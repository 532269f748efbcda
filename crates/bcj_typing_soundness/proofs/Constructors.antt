-- Constructors are well typed, with their first calls and the initialisers of objects.
use Rattle.std.proofs.Common.{◌≡◌, refl, sym, subst, ◌∙◌, inl, inr, Bool, true, false, List, [], ◌∷◌, ◌++◌, Some, None, if◌then◌else◌}
use Rattle.std.specs.Str.{bytes_eq}
use Rattle.std.proofs.lemmas.Slice.Eq.{bytes_eq-Decides}
use Rattle.bcj_parser_trees.specs.declared.names.Param.{Param}
use Rattle.bcj_parser_trees.specs.Trees as source
use Rattle.bcj_parser_trees.specs.Trees.{PlainMember, PlainType, PlainUnit}
use Rattle.bcj_parser_wellformed.specs.WellFormed.{IsFormedFirst}
use Rattle.bcj_symbolic_trees.specs.Names.{object_name, constructor_name}
use Rattle.bcj_symbolic_trees.specs.Trees as tree
use Rattle.bcj_symbolic_trees.specs.Trees.{stmts_from}
use Rattle.bcj_symbolic_trees.specs.Types.{PlainTy, void_type, class_type, given}
use Rattle.bcj_symbolic_trees.specs.Units.{PlainPair}
use Rattle.bcj_symbolic_check.specs.Judgements.{Frame}
use Rattle.bcj_symbolic_check.specs.Typing as typing
use Rattle.bcj_symbolic_check.specs.Typing.{Each, each_of_none, each_of_more, IsListed, At, at_first, Step, same, IsSpecial, HasType, HaveTypes, HaveRules, IsConstructorRef, constructor_named, MethodFits}
use Rattle.bcj_decl_rules.specs.World.{Named, Method, World, world_of, has_type, param_types, is_private, constructor_with}
use Rattle.bcj_decl_rules.specs.Subtypes.{itself, typed}
use Rattle.bcj_decl_rules.specs.Methods.{Choice, one, none_applies, ambiguous, MostSpecific}
use Rattle.bcj_typing_rules.specs.Premises.{earliest_missing}
use Rattle.bcj_typing_rules.specs.Context.{Context, instance_finals, world_at}
use Rattle.bcj_typing_rules.specs.Expressions.{Typing, method_ref, types_in, trees_in, steps_in, argument_steps, class_step, choice_needs}
use Rattle.bcj_typing_rules.specs.Statements.{Effects, no_stmts}
use Rattle.bcj_typing_rules.specs.Members.{first_types, constructor_context, before_this, Added, called_class, call_added, written, unwritten, HasStart, has_start, with_initialisers, Made, constructor_made, no_effects, ConstructorBecomes, constructor_becomes}
use Rattle.bcj_typing_soundness.specs.World.{IsKnown, IsKnownResult, no_result, WorldIsSound, AreSoundSteps, Covers}
use Rattle.bcj_typing_soundness.specs.Frames.{IsSoundContext, Agrees, IsTyped, AreRun}
use Rattle.bcj_typing_soundness.proofs.Expressions.{each_argument}
use Rattle.bcj_typing_soundness.proofs.Statements.{each_body}
use Rattle.bcj_typing_soundness.proofs.Steps.{both_sound, covers_left, covers_right, uses_sound}
use Rattle.bcj_typing_soundness.proofs.Known.{superclass_there}
use Rattle.bcj_typing_soundness.proofs.Variables.{this_known, class_known, class_step_sound, class_steps}
use Rattle.bcj_typing_soundness.proofs.Calls.{IsChosen, chosen, is_constructor_ref, arguments_typed, steps_sound, arguments_sound}
use Rattle.bcj_typing_soundness.proofs.Declared.{IsMemberOf, IsDeclaredType}
use Rattle.bcj_typing_soundness.proofs.Sound.{some_is, IsSoundSignature, member_constructor_sound}
use Rattle.bcj_typing_soundness.proofs.Contexts.{begins_on, values_known, IsFrameOf, body_sound, first_known, body_agrees, this_first}
use Rattle.bcj_typing_soundness.proofs.Initialisers.{rules_both, IsAdded, nothing_is_added}
use Rattle.bcj_typing_soundness.proofs.Methods.{body_frame, IsMade}

-- ---- the first call

-- a first call in a constructor with this context
pub record IsStart (c : Context) (a : Added) : Type 0 where
  pub sound : AreSoundSteps (world_at c) a.steps
  pub rules : (frame : Frame) → Agrees frame c → frame.has_this ≡ true → Covers frame.pairs a.steps → HaveRules frame false (stmts_from a.trees)

-- the arguments know no `this`
before_agrees : {frame : Frame} {c : Context} → Agrees frame c → Agrees frame (before_this c)
before_agrees a = record { class = a.class; superclass = a.superclass; this = λ h. cc; locals = a.locals; pairs = a.pairs }

-- and their context is sound
before_sound : {c : Context} → IsSoundContext c → IsSoundContext (before_this c)
before_sound s = record { world = s.world; class = s.class; locals = s.locals; result = s.result }

module _ (c : Context) (sound : IsSoundContext c) where
  -- the class is there, a step leads to it, and it is the own one or the superclass
  record IsCalled (class : Named) : Type 0 where
    there : has_type (world_at c) class ≡ true
    step : AreSoundSteps (world_at c) (class_step c class)
    takes : (frame : Frame) → Agrees frame c → frame.has_this ≡ true → bytes_eq class object_name ≡ false → Covers frame.pairs (class_step c class) → IsSpecial frame class

  -- a class by another name is not Object
  no_object : (class : Named) → bytes_eq class object_name ≡ false → ¬ (class ≡ object_name)
  no_object class h e = let wrong : true ≡ false = sym ((bytes_eq-Decides class object_name).1 e) ∙ h in cc

  -- the class whose constructor is called first
  is_called : (to_super : Bool) (class : Named) → called_class c to_super ≡ Some class → IsCalled class
  is_called true class e = record {
    there = superclass_there c sound.world class e;
    step = class_step_sound c sound class e;
    takes = λ frame a h o covers. record {
      on_this = h;
      own_or_super = inr (a.superclass ∙ e);
      not_object = no_object class o;
      steps = subst (λ (x : Named). Step frame.pairs (given (class_type x)) (given (class_type class))) (sym a.class) (class_steps c sound class e covers);
    };
  }
  is_called false class e =
      some_is IsCalled e
      (record {
        there = sound.class;
        step = uses_sound (this_known c sound) (λ r. class_known c sound c.class sound.class) (typed itself);
        takes = λ frame a h o covers. record {
          on_this = h;
          own_or_super = inl (sym a.class);
          not_object = no_object c.class o;
          steps = subst (λ (x : Named). Step frame.pairs (given (class_type x)) (given (class_type c.class))) (sym a.class) same;
        };
      })

  -- the call, and no node where it is that of Object
  call_rules : (frame : Frame) (class : Named) (ts : List Typing) (m : Method) (b : Bool) → (b ≡ false → IsSpecial frame class) → IsConstructorRef (method_ref class m) → HaveTypes frame (trees_in ts) m.params
      → HaveRules frame false (stmts_from (if b then [] else tree.evaluate (tree.call_special (method_ref class m) (trees_in ts)) ∷ []))
  call_rules frame class ts m true s r h = typing.no_stmts
  call_rules frame class ts m false s r h = typing.more_stmts (typing.evaluate (typing.call_special (inr r) (s refl) h)) typing.no_stmts

  -- the first call of a method that is chosen
  call_start : (to_super : Bool) (class : Named) (ts : List Typing) (m : Choice) → called_class c to_super ≡ Some class → Each (IsTyped (before_this c)) ts
      → MostSpecific (world_at c) c.class class constructor_name (types_in ts) m → earliest_missing (choice_needs (λ m. []) m) ≡ None → IsStart c (call_added c class ts m)
  call_start to_super class ts none_applies e k s n = cc
  call_start to_super class ts ambiguous e k s n = cc
  call_start to_super class ts (one m) e k s n =
      let before : IsSoundContext (before_this c) = before_sound sound in
      let called : IsCalled class = is_called to_super class e in
      let x : IsChosen (world_at c) class constructor_name (types_in ts) m = chosen c sound.world class constructor_name (types_in ts) m s in
      let rest : List PlainPair = class_step c class ++ argument_steps ts m.params in
      record {
        sound =
            both_sound (steps_sound (before_this c) before ts k) (both_sound called.step (arguments_sound (before_this c) before ts k m.params x.sound.params x.fits));
        rules = λ frame a h covers.
            let behind : Covers frame.pairs rest = covers_right (steps_in ts) rest covers in
            call_rules frame class ts m (bytes_eq class object_name)
            (λ o. called.takes frame a h o (covers_left (class_step c class) (argument_steps ts m.params) behind))
            (is_constructor_ref c sound called.there x)
            (arguments_typed (before_this c) before (before_agrees a) ts k m.params x.fits (covers_left (steps_in ts) rest covers)
            (covers_right (class_step c class) (argument_steps ts m.params) behind));
      }

  -- each first call
  pub started : (first : source.PlainFirst) (a : Added) (to_super : Bool) → IsFormedFirst first → HasStart c first a to_super → IsStart c a
  started first a to_super formed (has_start (written {args = args} {class = class} {ts = ts} {m = m} k e s) n) =
      call_start to_super class ts m e (each_argument (before_this c) args ts (before_sound sound) formed k) s n
  started first a to_super formed (has_start (unwritten {class = class} {m = m} e s) n) = call_start true class [] m e each_of_none s n

-- ---- constructors

module _ (units : List PlainUnit) (sound : WorldIsSound units) (before : List PlainType) (t : PlainType) (declared : IsDeclaredType units before t) (class : t.interface ≡ false)
    (i : Added) (added : IsAdded units t false i) where
  -- the initialisers run behind a call of the superclass alone
  with_added : (to_super : Bool) → IsAdded units t false (with_initialisers to_super i)
  with_added true = added
  with_added false = nothing_is_added

  -- a constructor with its parameters, its first call and its statements
  constructor_is_made : (params : List Param) (hidden : Bool) (a : Added) (to_super : Bool) (b : Effects) → Each (IsKnown (world_of units)) (param_types params)
      → IsStart (constructor_context units t.name params) a → AreRun (constructor_context units t.name params) (first_types t.name false (param_types params)) b
      → IsMade units t (constructor_made t.name (param_types params) hidden b.types a (with_initialisers to_super i) b)
  constructor_is_made params hidden a to_super b known start run =
      let w : World = world_of units in
      let j : Added = with_initialisers to_super i in
      let made : Made = constructor_made t.name (param_types params) hidden b.types a j b in
      let first : List PlainTy = first_types t.name false (param_types params) in
      let put : IsAdded units t false j = with_added to_super in
      record {
        fits = record {
          named = constructor_named refl refl refl;
          params = values_known known;
          locals = values_known (run.part.known (first_known units sound before t declared false (param_types params) known));
          first = begins_on first b.types run.part.goes_on;
          bare_if_abstract = λ e. cc;
          abstract_in_interface = λ e. let wrong : true ≡ false = sym e ∙ class in cc;
          private_in_class = λ e. (class, λ f. cc);
        };
        sound = both_sound start.sound (both_sound put.sound run.part.sound);
        rules = λ pairs below covers.
            let frame : Frame = body_frame t pairs made.method in
            let f : IsFrameOf units t false frame = record { class = refl; superclass = refl; this = refl; pairs = below } in
            let agrees : Agrees frame (constructor_context units t.name params) =
            body_agrees units sound before t declared frame false (Some void_type) instance_finals params f run.part.goes_on in
            let behind : Covers pairs (j.steps ++ b.steps) = covers_right a.steps (j.steps ++ b.steps) covers in
            rules_both a.trees (j.trees ++ b.trees)
            (start.rules frame agrees refl (covers_left a.steps (j.steps ++ b.steps) covers))
            (rules_both j.trees b.trees
            (put.rules frame f (λ h. run.part.goes_on 0 (class_type t.name) at_first) (covers_left j.steps b.steps behind))
            (run.rules frame
            (record {
              agrees = agrees;
              result = refl;
              this_first = this_first units sound before t declared frame false (param_types params) f;
              locals = λ n s h. h;
              pairs = covers_right j.steps b.steps behind;
            })));
      }

  -- the context of a constructor is sound
  constructor_sound : (params : List Param) → Each (IsKnown (world_of units)) (param_types params) → IsSoundContext (constructor_context units t.name params)
  constructor_sound params known =
      body_sound units sound before t declared false (Some void_type) instance_finals 1 params known (λ r e. some_is (IsKnownResult (world_of units)) e no_result)

  -- a constructor that is written
  pub constructor_is : (m : PlainMember) (made : Made) → IsMemberOf units t m → ConstructorBecomes units t i m made → IsMade units t made
  constructor_is m made k (constructor_becomes {at = at} {mods = mods} {name = name} {params = params} {throws = throws} {first = first} {body = body} {a = a} {to_super = to_super} {b = b} start run) =
      let g : IsSoundSignature (world_of units) (constructor_with t.name (param_types params) (is_private mods)) =
      member_constructor_sound (source.constructor_member at mods name params throws first body) k (constructor_with t.name (param_types params) (is_private mods)) refl in
      let c : Context = constructor_context units t.name params in
      let s : IsSoundContext c = constructor_sound params g.params in
      constructor_is_made params (is_private mods) a to_super b g.params (started c s first a to_super k.is.formed.3 start)
      (each_body c (first_types t.name false (param_types params)) body b s k.is.formed.4 run)

  -- the constructor of a class that writes none
  pub default_is : (a : Added) → HasStart (constructor_context units t.name []) source.no_first a true
      → IsMade units t (constructor_made t.name [] false (first_types t.name false []) a i (no_effects (first_types t.name false [])))
  default_is a start =
      let c : Context = constructor_context units t.name [] in
      let s : IsSoundContext c = constructor_sound [] each_of_none in
      constructor_is_made [] false a true (no_effects (first_types t.name false [])) each_of_none (started c s source.no_first a true tt start)
      (each_body c (first_types t.name false []) source.no_stmts (no_effects (first_types t.name false [])) s tt no_stmts)

-- Calls are typed.
use Rattle.std.proofs.Common.{◌≡◌, refl, sym, ap, subst, ◌∙◌, inl, inr, zero, suc, Bool, true, false, cond, not, ◌||◌, List, [], ◌∷◌, ◌++◌, filter, Option, Some, None, arith}
use Rattle.std.specs.List.{Contains, AllZip}
use Rattle.std.specs.Option.{option_map_or}
use Rattle.std.specs.Str.{bytes_eq}
use Rattle.std.proofs.lemmas.Slice.Eq.{bytes_eq-Decides}
use Rattle.bcj_symbolic_trees.specs.Trees as tree
use Rattle.bcj_symbolic_trees.specs.Types.{PlainTy, class_type, PlainArg, given, null_arg}
use Rattle.bcj_symbolic_trees.specs.Units.{PlainPair}
use Rattle.bcj_symbolic_trees.specs.Names.{constructor_name}
use Rattle.bcj_names.specs.Identifiers.{is_identifier}
use Rattle.bcj_symbolic_check.specs.Judgements.{Frame}
use Rattle.bcj_symbolic_check.specs.Typing as typing
use Rattle.bcj_symbolic_check.specs.Typing.{Each, each_of_none, each_of_more, IsValueType, IsResultType, void_result, value_result, Step, same, HasType, HaveTypes, IsMethodRef, IsConstructorRef, IsSpecial}
use Rattle.bcj_decl_rules.specs.World.{Named, Method, Declared, World, type_named, has_type}
use Rattle.bcj_decl_rules.specs.Subtypes.{Fits}
use Rattle.bcj_decl_rules.specs.Members.{methods_of_type}
use Rattle.bcj_decl_rules.specs.Methods.{methods_named, candidates, Choice, one, none_applies, ambiguous, first, MostSpecific}
use Rattle.bcj_decl_rules.specs.Faults.{is_static, is_abstract}
use Rattle.bcj_typing_rules.specs.declared.kind.Kind.TheVariants as kind
use Rattle.bcj_typing_rules.specs.Premises.{need, earliest_missing}
use Rattle.bcj_typing_rules.specs.Context.{Context, world_at, has_this, superclass_at, is_interface}
use Rattle.bcj_typing_rules.specs.Casting.{uses}
use Rattle.bcj_typing_rules.specs.Expressions as rule
use Rattle.bcj_typing_rules.specs.Expressions.{Typing, method_ref, this_tree, types_in, trees_in, steps_in, argument_steps, choice_needs, choice_typing, own_call_needs, own_call, type_call_needs, type_call, behind_call_tree, behind_call, class_step, super_call_needs, super_method_call, new_needs, new_typing, class_of_value}
use Rattle.bcj_parser_wellformed.specs.WellFormed.{IsName}
use Rattle.bcj_typing_soundness.specs.World.{IsKnown, IsKnownResult, no_result, a_result, known_type, WorldIsSound, IsSoundMethod, AreSoundSteps, Covers}
use Rattle.bcj_typing_soundness.specs.Frames.{IsSoundContext, Agrees, IsTyped}
use Rattle.bcj_typing_soundness.proofs.Steps.{none_sound, both_sound, covers_left, covers_right, fits_step, uses_sound}
use Rattle.bcj_typing_soundness.proofs.Known.{superclass_there}
use Rattle.bcj_typing_soundness.proofs.Variables.{met, retyped, class_there, class_known, this_typed, class_step_sound, class_steps}

-- ---- the method that is chosen

behind_first : {A : Type 0} (x : A) (xs : List A) {y : A} → Contains xs y → Contains (x ∷ xs) y
behind_first x xs (k, l, e) = (suc k, omega (arith, l), e)

kept_by : {A : Type 0} (test : A → Bool) (x : A) (xs before : List A) (m : A) (behind : List A) (b : Bool) → test x ≡ b
    → ((others : List A) → filter test xs ≡ others ++ m ∷ behind → (test m ≡ true) × Contains xs m) → cond b (x ∷ filter test xs) (filter test xs) ≡ before ++ m ∷ behind
    → (test m ≡ true) × Contains (x ∷ xs) m
kept_by test x xs [] m behind true e rest h = let is : x ≡ m = cc in (subst (λ y. test y ≡ true) is e, (zero, omega arith, is))
kept_by test x xs (y ∷ ys) m behind true e rest h = let is : filter test xs ≡ ys ++ m ∷ behind = cc in let k = rest ys is in (k.0, behind_first x xs k.1)
kept_by test x xs before m behind false e rest h = let k = rest before h in (k.0, behind_first x xs k.1)

nothing_split : {A : Type 0} (before : List A) (m : A) (behind : List A) → [] ≡ before ++ m ∷ behind → ⊥
nothing_split [] m behind h = cc
nothing_split (y ∷ ys) m behind h = cc

-- what a filter leaves was there, and passes
kept : {A : Type 0} (test : A → Bool) (xs before : List A) (m : A) (behind : List A) → filter test xs ≡ before ++ m ∷ behind → (test m ≡ true) × Contains xs m
kept test [] before m behind h = absurd (nothing_split before m behind h)
kept test (x ∷ xs) before m behind h = kept_by test x xs before m behind (test x) refl (λ others. kept test xs others m behind) h

pub record IsChosen (w : World) (class name : Named) (args : List PlainArg) (m : Method) : Type 0 where
  pub sound : IsSoundMethod w class m
  pub named : m.name ≡ name
  pub fits : AllZip (Fits w) args m.params

chosen_in : (w : World) → ((class : Named) (t : Declared) (m : Method) → type_named w class ≡ Some t → Contains (methods_of_type w t) m → IsSoundMethod w class m) → (class name : Named) (o : Option Declared)
    → type_named w class ≡ o → (before behind : List Method) (m : Method) → option_map_or (λ t. methods_named name (methods_of_type w t)) o [] ≡ before ++ m ∷ behind
    → IsSoundMethod w class m × (m.name ≡ name)
chosen_in w sound class name None is before behind m h = absurd (nothing_split before m behind h)
chosen_in w sound class name (Some t) is before behind m h =
    let k = kept (λ n. bytes_eq n.name name) (methods_of_type w t) before m behind h in
    (sound class t m is k.1, (bytes_eq-Decides m.name name).0 k.0)

-- the one method that is chosen
pub chosen : (c : Context) → WorldIsSound c.units → (class name : Named) (args : List PlainArg) (m : Method) → MostSpecific (world_at c) c.class class name args (one m) → IsChosen (world_at c) class name args m
unfolding candidates
chosen c sound class name args m (first before behind is most others) =
    let k = chosen_in (world_at c) sound.methods class name (type_named (world_at c) class) refl before behind m is in
    record { sound = k.0; named = k.1; fits = most.applies.fits }

-- ---- references

each_of : {A : Type 0} {P Q : A → Type 0} {xs : List A} → ((x : A) → P x → Q x) → Each P xs → Each Q xs
each_of f each_of_none = each_of_none
each_of f (each_of_more {x = x} p rest) = each_of_more (f x p) (each_of f rest)

result_type : {w : World} {t : PlainTy} → IsKnownResult w t → IsResultType t
result_type no_result = void_result
result_type (a_result k) = value_result k.value

init_no_name : is_identifier constructor_name ≡ false
unfolding is_identifier
init_no_name = refl

module _ (c : Context) (sound : IsSoundContext c) where
  params_typed : {ps : List PlainTy} → Each (IsKnown (world_at c)) ps → Each IsValueType ps
  params_typed k = each_of (λ t h. h.value) k

  is_method_ref : {class name : Named} {args : List PlainArg} {m : Method} → has_type (world_at c) class ≡ true → IsName name → IsChosen (world_at c) class name args m → IsMethodRef (method_ref class m)
  is_method_ref {class} there n k =
      record {
        class = sound.world.named class there;
        name = subst IsName (sym k.named) n;
        params = params_typed k.sound.params;
        result = result_type k.sound.result;
      }

  pub is_constructor_ref : {class : Named} {args : List PlainArg} {m : Method} → has_type (world_at c) class ≡ true → IsChosen (world_at c) class constructor_name args m → IsConstructorRef (method_ref class m)
  is_constructor_ref {class} there k =
      record {
        class = sound.world.named class there;
        name = k.named;
        params = params_typed k.sound.params;
        result = k.sound.constructor k.named;
      }

  -- ---- arguments

  -- each argument steps to its parameter
  pub arguments_typed : {frame : Frame} → Agrees frame c → (ts : List Typing) → Each (IsTyped c) ts → (ps : List PlainTy) → AllZip (Fits (world_at c)) (types_in ts) ps → Covers frame.pairs (steps_in ts)
      → Covers frame.pairs (argument_steps ts ps) → HaveTypes frame (trees_in ts) ps
  arguments_typed a [] k [] z f g = typing.no_arguments
  arguments_typed a [] k (p ∷ ps) z f g = absurd z
  arguments_typed a (t ∷ ts) k [] z f g = absurd z
  arguments_typed {frame} a (t ∷ ts) (each_of_more x rest) (p ∷ ps) z f g =
      typing.more_arguments (x.has frame a (covers_left t.steps (steps_in ts) f)) (fits_step z.0 (covers_left (uses t.type p) (argument_steps ts ps) g))
      (arguments_typed a ts rest ps z.1 (covers_right t.steps (steps_in ts) f) (covers_right (uses t.type p) (argument_steps ts ps) g))

  -- the steps of the arguments
  pub steps_sound : (ts : List Typing) → Each (IsTyped c) ts → AreSoundSteps (world_at c) (steps_in ts)
  steps_sound [] k = none_sound
  steps_sound (t ∷ ts) (each_of_more x rest) = both_sound x.steps (steps_sound ts rest)

  -- those to the parameters
  pub arguments_sound : (ts : List Typing) → Each (IsTyped c) ts → (ps : List PlainTy) → Each (IsKnown (world_at c)) ps → AllZip (Fits (world_at c)) (types_in ts) ps
      → AreSoundSteps (world_at c) (argument_steps ts ps)
  arguments_sound [] k ps n z = none_sound
  arguments_sound (t ∷ ts) k [] n z = none_sound
  arguments_sound (t ∷ ts) (each_of_more x rest) (p ∷ ps) (each_of_more h more) z = both_sound (uses_sound x.known (λ r. h) z.0) (arguments_sound ts rest ps more z.1)

  -- ---- calls

  -- the parts of a call whose tree is typed
  called_typed : {class name : Named} {m : Method} {e : tree.PlainExpr} (ts : List Typing) (before : List PlainPair) → Each (IsTyped c) ts → IsChosen (world_at c) class name (types_in ts) m
      → AreSoundSteps (world_at c) before
      → ((frame : Frame) → Agrees frame c → Covers frame.pairs before → Covers frame.pairs (argument_steps ts m.params) → HasType frame e (given m.result))
      → IsTyped c (rule.called e m ts before)
  called_typed {m = m} ts before xs k s has =
      record {
        known = known_type k.sound.result;
        steps = both_sound s (arguments_sound ts xs m.params k.sound.params k.fits);
        has = λ frame a covers. has frame a (covers_left before (argument_steps ts m.params) covers) (covers_right before (argument_steps ts m.params) covers);
      }

  own_or_static : {frame : Frame} (m : Method) {es : tree.PlainExprs} → Agrees frame c → IsMethodRef (method_ref c.class m) → HaveTypes frame es m.params → (b : Bool) → (b || has_this c) ≡ true
      → HasType frame (cond b (tree.call_static (method_ref c.class m) es) (tree.call_virtual this_tree (method_ref c.class m) es)) (given m.result)
  own_or_static m a r args true h = typing.call_static r args
  own_or_static m a r args false h = typing.call_virtual r (this_typed c sound a h) same args

  -- a call by a simple name
  pub own_typed : (name : Named) (ts : List Typing) (m : Choice) → IsName name → Each (IsTyped c) ts → MostSpecific (world_at c) c.class c.class name (types_in ts) m → earliest_missing (choice_needs (own_call_needs c) m) ≡ None
      → IsTyped c (choice_typing (own_call c ts) m)
  own_typed name ts none_applies n xs k h = cc
  own_typed name ts ambiguous n xs k h = cc
  own_typed name ts (one m) n xs k h =
      let x = chosen c sound.world c.class name (types_in ts) m k in
      called_typed ts (steps_in ts) xs x (steps_sound ts xs)
      (λ frame a f g.
      own_or_static m a (is_method_ref sound.class n x) (arguments_typed a ts xs m.params x.fits f g) (is_static m) (met kind.Static (is_static m || has_this c) [] h).0)

  -- a call behind a type's name
  pub type_typed : (class name : Named) (ts : List Typing) (m : Choice) → has_type (world_at c) class ≡ true → IsName name → Each (IsTyped c) ts → MostSpecific (world_at c) c.class class name (types_in ts) m
      → earliest_missing (choice_needs type_call_needs m) ≡ None → IsTyped c (choice_typing (type_call class ts) m)
  type_typed class name ts none_applies there n xs k h = cc
  type_typed class name ts ambiguous there n xs k h = cc
  type_typed class name ts (one m) there n xs k h =
      let x = chosen c sound.world class name (types_in ts) m k in
      called_typed ts (steps_in ts) xs x (steps_sound ts xs)
      (λ frame a f g. typing.call_static (is_method_ref there n x) (arguments_typed a ts xs m.params x.fits f g))

  -- ---- behind an expression

  pub class_of : (s : PlainArg) (class : Named) → class_of_value s ≡ Some class → s ≡ given (class_type class)
  class_of (given (class_type x)) class h = let e : x ≡ class = cc in ap (λ n. given (class_type n)) e
  class_of null_arg class h = cc
  class_of (given _) class h = cc

  on_class : {frame : Frame} {e : tree.PlainExpr} (class : Named) (m : Method) {es : tree.PlainExprs} → IsMethodRef (method_ref class m) → HasType frame e (given (class_type class)) → HaveTypes frame es m.params → (b : Bool)
      → HasType frame (cond b (tree.call_interface e (method_ref class m) es) (tree.call_virtual e (method_ref class m) es)) (given m.result)
  on_class class m r h args true = typing.call_interface r h same args
  on_class class m r h args false = typing.call_virtual r h same args

  on_class_or_static : {frame : Frame} {e : tree.PlainExpr} (class : Named) (m : Method) {es : tree.PlainExprs} (on_interface : Bool) → IsMethodRef (method_ref class m) → HasType frame e (given (class_type class))
      → HaveTypes frame es m.params → (b : Bool)
      → HasType frame (cond b (tree.first_then e false (tree.call_static (method_ref class m) es))
      (cond on_interface (tree.call_interface e (method_ref class m) es) (tree.call_virtual e (method_ref class m) es))) (given m.result)
  on_class_or_static class m on_interface r h args true = typing.first_then h (λ e. cc) (typing.call_static r args)
  on_class_or_static class m on_interface r h args false = on_class class m r h args on_interface

  -- a call behind an expression
  pub behind_typed : (t : Typing) (class name : Named) (ts : List Typing) (m : Choice) → IsTyped c t → t.type ≡ given (class_type class) → IsName name → Each (IsTyped c) ts
      → MostSpecific (world_at c) c.class class name (types_in ts) m → earliest_missing (choice_needs (λ m. []) m) ≡ None → IsTyped c (choice_typing (behind_call c t class ts) m)
  behind_typed t class name ts none_applies y is n xs k h = cc
  behind_typed t class name ts ambiguous y is n xs k h = cc
  behind_typed t class name ts (one m) y is n xs k h =
      let x = chosen c sound.world class name (types_in ts) m k in
      called_typed ts (t.steps ++ steps_in ts) xs x (both_sound y.steps (steps_sound ts xs))
      (λ frame a f g.
      on_class_or_static class m (is_interface c class) (is_method_ref (class_there c sound y.known is) n x) (retyped c sound is (y.has frame a (covers_left t.steps (steps_in ts) f)))
      (arguments_typed a ts xs m.params x.fits (covers_right t.steps (steps_in ts) f) g) (is_static m))

  -- ---- behind `super`

  special : {frame : Frame} {class name : Named} {args : List PlainArg} {m : Method} → Agrees frame c → IsName name → IsChosen (world_at c) class name args m → superclass_at c ≡ Some class → has_this c ≡ true
      → Step frame.pairs (given (class_type c.class)) (given (class_type class)) → IsSpecial frame class
  special {frame} {class} {name} {m = m} a n k is h s =
      record {
        on_this = (a.this h).0;
        own_or_super = inr (a.superclass ∙ is);
        not_object = λ e.
            let named : is_identifier constructor_name ≡ true = subst IsName (sym k.named ∙ (k.sound.of_object e).0) n in
            let wrong : true ≡ false = sym named ∙ init_no_name in cc;
        steps = subst (λ (x : Named). Step frame.pairs (given (class_type x)) (given (class_type class))) (sym a.class) s;
      }

  special_or_static : {frame : Frame} (class : Named) (m : Method) {es : tree.PlainExprs} → IsMethodRef (method_ref class m) → IsSpecial frame class → HaveTypes frame es m.params → (b : Bool)
      → HasType frame (cond b (tree.call_static (method_ref class m) es) (tree.call_special (method_ref class m) es)) (given m.result)
  special_or_static class m r s args true = typing.call_static r args
  special_or_static class m r s args false = typing.call_special (inl r) s args

  -- a call behind `super`
  pub super_typed : (class name : Named) (ts : List Typing) (m : Choice) → superclass_at c ≡ Some class → IsName name → Each (IsTyped c) ts → MostSpecific (world_at c) c.class class name (types_in ts) m
      → earliest_missing (choice_needs (super_call_needs c) m) ≡ None → IsTyped c (choice_typing (super_method_call c class ts) m)
  super_typed class name ts none_applies is n xs k h = cc
  super_typed class name ts ambiguous is n xs k h = cc
  super_typed class name ts (one m) is n xs k h =
      let x = chosen c sound.world class name (types_in ts) m k in
      called_typed ts (steps_in ts ++ class_step c class) xs x (both_sound (steps_sound ts xs) (class_step_sound c sound class is))
      (λ frame a f g.
      special_or_static class m (is_method_ref (superclass_there c sound.world class is) n x)
      (special a n x is (met kind.Static (has_this c) (need kind.Abstract (not (is_abstract m)) ∷ []) h).0 (class_steps c sound class is (covers_right (steps_in ts) (class_step c class) f)))
      (arguments_typed a ts xs m.params x.fits (covers_left (steps_in ts) (class_step c class) f) g) (is_static m))

  -- ---- new objects

  -- a new object
  pub new_typed : (class : Named) (ts : List Typing) (m : Choice) → Each (IsTyped c) ts → MostSpecific (world_at c) c.class class constructor_name (types_in ts) m
      → earliest_missing (need kind.Name (has_type (world_at c) class) ∷ choice_needs (new_needs c class) m) ≡ None → IsTyped c (choice_typing (new_typing class ts) m)
  new_typed class ts none_applies xs k h = let wrong = (met kind.Name (has_type (world_at c) class) (choice_needs (new_needs c class) none_applies) h).1 in cc
  new_typed class ts ambiguous xs k h = let wrong = (met kind.Name (has_type (world_at c) class) (choice_needs (new_needs c class) ambiguous) h).1 in cc
  new_typed class ts (one m) xs k h =
      let there = (met kind.Name (has_type (world_at c) class) (choice_needs (new_needs c class) (one m)) h).0 in
      let x = chosen c sound.world class constructor_name (types_in ts) m k in
      record {
        known = known_type (a_result (class_known c sound class there));
        steps = both_sound (steps_sound ts xs) (arguments_sound ts xs m.params x.sound.params x.fits);
        has = λ frame a covers.
            typing.new_object (is_constructor_ref there x) (λ e. (x.sound.of_object e).1)
            (arguments_typed a ts xs m.params x.fits (covers_left (steps_in ts) (argument_steps ts m.params) covers) (covers_right (steps_in ts) (argument_steps ts m.params) covers));
      }

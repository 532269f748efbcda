-- Names, fields and constants are typed.
use Rattle.std.proofs.Common.{◌≡◌, refl, sym, ap, subst, ◌∙◌, inl, inr, Bool, true, false, cond, ◌||◌, List, [], ◌∷◌, Option, Some, None}
use Rattle.std.specs.List.{find}
use Rattle.std.specs.Str.{bytes_eq}
use Rattle.std.proofs.lemmas.Bool.{cases_Bool}
use Rattle.bcj_parser_trees.specs.Trees as source
use Rattle.bcj_symbolic_trees.specs.Trees as tree
use Rattle.bcj_symbolic_trees.specs.Types.{PlainTy, int_type, bool_type, void_type, class_type, array_type, PlainArg, given, null_arg}
use Rattle.bcj_symbolic_trees.specs.Units.{PlainPair}
use Rattle.bcj_symbolic_check.specs.Judgements.{Frame}
use Rattle.bcj_symbolic_check.specs.Typing as typing
use Rattle.bcj_symbolic_check.specs.Typing.{Each, each_of_none, each_of_more, Step, same, HasType, IsFieldRef, IsReferenceOrNull, reference, class_reference}
use Rattle.bcj_decl_rules.specs.declared.value.Value.{Value}
use Rattle.bcj_decl_rules.specs.World.{Named, Field, has_type}
use Rattle.bcj_decl_rules.specs.Members.{field_of}
use Rattle.bcj_typing_rules.specs.declared.kind.Kind.{Kind}
use Rattle.bcj_typing_rules.specs.declared.kind.Kind.TheVariants as kind
use Rattle.bcj_typing_rules.specs.Premises.{Need, need, earliest_missing}
use Rattle.bcj_typing_rules.specs.Context.{Local, Context, world_at, has_this, local_named, Meaning, a_local, a_field, no_variable, meaning_in, meaning_of, superclass_at, is_open, FieldWorth, constant_variable, no_constant_variable, Worth, a_constant, no_constant}
use Rattle.bcj_typing_rules.specs.Expressions as rule
use Rattle.bcj_typing_rules.specs.Expressions.{Typing, valued, value_tree, field_ref, this_tree, own_field_tree, name_needs, name_typing, field_needs, field_typing, type_field_needs, type_field_typing, behind_field_typing, behind_field_tree, MemberOf, of_class, array_size, no_member, member_of, class_step, super_field_needs, super_field_typing, FoundWorth, of_none, of_field, Composes}
use Rattle.bcj_typing_soundness.specs.World.{IsKnown, a_result, IsKnownArg, known_type, IsSoundField, AreSoundSteps, Covers}
use Rattle.bcj_typing_soundness.specs.Values.{IsInRange, an_int}
use Rattle.bcj_typing_soundness.specs.Frames.{IsSoundContext, IsHeld, Agrees, IsTyped}
use Rattle.bcj_typing_soundness.proofs.Steps.{none_sound, fits_step, uses_sound, known_given, known_reference}
use Rattle.bcj_typing_soundness.proofs.Constants.{constant_fits, field_fits}
use Rattle.bcj_typing_soundness.proofs.Worths.{HasKind, of_int, of_bool, field_kind, node_kind}
use Rattle.bcj_typing_soundness.proofs.Known.{known_class, superclass_there, superclass_fits}

-- ---- what is needed is met

pub met : (k : Kind) (b : Bool) (ns : List Need) → earliest_missing (need k b ∷ ns) ≡ None → (b ≡ true) × (earliest_missing ns ≡ None)
met k true ns h = (refl, h)
met k false ns h = cc

-- ---- constants

-- the tree of a value
pub value_typed : {frame : Frame} {v : Value} {s : PlainArg} → HasKind v s → IsInRange v → HasType frame (value_tree v) s
value_typed of_int (an_int f) = typing.int_value f
value_typed of_bool f = typing.bool_value

-- a constant node is its value
pub valued_typed : {c : Context} {e : source.PlainExpr} {needs : List Need} {t : Typing} {v : Option Value} → Composes c e needs t → IsTyped c t → Worth c e v → IsTyped c (valued v t)
valued_typed x k (no_constant n) = k
valued_typed {c} x k (a_constant h) =
    record {
      known = k.known;
      steps = k.steps;
      has = λ frame a covers. value_typed (node_kind c x h.constant h.of_fields) (constant_fits h.constant);
    }

-- ---- locals

found_each : {A : Type 0} {P : A → Type 0} (test : A → Bool) {xs : List A} (x : A) → Each P xs → find test xs ≡ Some x → P x
found_each test x each_of_none h = cc
found_each {P = P} test {xs = y ∷ ys} x (each_of_more p rest) h =
    elim (cases_Bool (test y)) [
      | inl e ↦ let is : Some y ≡ Some x = ap (λ b. cond b (Some y) (find test ys)) (sym e) ∙ h in let k : y ≡ x = cc in subst P k p
      | inr e ↦ found_each test x rest (ap (λ b. cond b (Some y) (find test ys)) (sym e) ∙ h)
    ]

local_meant : (o : Option Local) (f : Option Field) (l : Local) → meaning_in o f ≡ a_local l → o ≡ Some l
local_meant (Some k) f l h = cc
local_meant None None l h = cc
local_meant None (Some f) l h = cc

field_meant : (o : Option Local) (f : Option Field) (g : Field) → meaning_in o f ≡ a_field g → f ≡ Some g
field_meant (Some k) f g h = cc
field_meant None None g h = cc
field_meant None (Some f) g h = cc

module _ (c : Context) (sound : IsSoundContext c) where
  -- a local by its name
  pub local_held : {frame : Frame} (x : Named) (l : Local) → Agrees frame c → meaning_of c x ≡ a_local l → IsHeld frame l
  local_held x l a h = found_each (λ k. bytes_eq k.name x) l a.locals (local_meant (local_named c.locals x) (field_of (world_at c) c.class x) l h)

  pub local_known : (x : Named) (l : Local) → meaning_of c x ≡ a_local l → IsKnown (world_at c) l.ty
  local_known x l h = found_each (λ k. bytes_eq k.name x) l sound.locals (local_meant (local_named c.locals x) (field_of (world_at c) c.class x) l h)

  pub field_sound : (x : Named) (f : Field) → meaning_of c x ≡ a_field f → IsSoundField (world_at c) f
  field_sound x f h = sound.world.fields c.class x f (field_meant (local_named c.locals x) (field_of (world_at c) c.class x) f h)

  -- ---- references

  pub is_field_ref : (class : Named) (f : Field) → has_type (world_at c) class ≡ true → IsSoundField (world_at c) f → IsFieldRef (field_ref class f)
  is_field_ref class f h k = record { class = sound.world.named class h; name = k.name; ty = k.ty.value }

  pub class_known : (class : Named) → has_type (world_at c) class ≡ true → IsKnown (world_at c) (class_type class)
  class_known class h = known_class (sound.world.named class h) h

  pub field_result : (f : Field) → IsSoundField (world_at c) f → IsKnownArg (world_at c) (given f.ty)
  field_result f k = known_type (a_result k.ty)

  -- `this`
  pub this_typed : {frame : Frame} → Agrees frame c → has_this c ≡ true → HasType frame this_tree (given (class_type c.class))
  this_typed a h = typing.get_local (a.this h).1

  pub this_known : IsKnownArg (world_at c) (given (class_type c.class))
  this_known = known_type (a_result (class_known c.class sound.class))

  -- ---- fields

  this_or_static : {frame : Frame} (f : Field) → Agrees frame c → IsSoundField (world_at c) f → (b : Bool) → (b || has_this c) ≡ true
      → HasType frame (cond b (tree.get_static (field_ref c.class f)) (tree.get_field this_tree (field_ref c.class f))) (given f.ty)
  this_or_static f a k true h = typing.get_static (is_field_ref c.class f sound.class k)
  this_or_static f a k false h = typing.get_field (is_field_ref c.class f sound.class k) (this_typed a h) same

  own_typed : (f : Field) → IsSoundField (world_at c) f → (f.is_static || has_this c) ≡ true → IsTyped c (rule.typing (own_field_tree c f) (given f.ty) [])
  own_typed f k h =
      record { known = field_result f k; steps = none_sound; has = λ frame a covers. this_or_static f a k f.is_static h }

  name_means : (x : Named) (m : Meaning) → meaning_of c x ≡ m → earliest_missing (name_needs c m) ≡ None → IsTyped c (name_typing c m)
  name_means x (a_local l) is h =
      record { known = known_type (a_result (local_known x l is)); steps = none_sound; has = λ frame a covers. typing.get_local (local_held x l a is).0 }
  name_means x (a_field f) is h = own_typed f (field_sound x f is) (met kind.Static (f.is_static || has_this c) [] h).0
  name_means x no_variable is h = cc

  -- a simple name
  pub name_typed : (x : Named) → earliest_missing (name_needs c (meaning_of c x)) ≡ None → IsTyped c (name_typing c (meaning_of c x))
  name_typed x h = name_means x (meaning_of c x) refl h

  -- behind a type's name
  type_field_of : (class name : Named) → has_type (world_at c) class ≡ true → (o : Option Field) → field_of (world_at c) class name ≡ o → earliest_missing (field_needs (type_field_needs c) o) ≡ None
      → IsTyped c (field_typing (type_field_typing class) o)
  type_field_of class name there None is h = cc
  type_field_of class name there (Some f) is h =
      let k = sound.world.fields class name f is in
      record { known = field_result f k; steps = none_sound; has = λ frame a covers. typing.get_static (is_field_ref class f there k) }

  -- the whole of it
  pub type_field_typed : (class name : Named) → has_type (world_at c) class ≡ true → earliest_missing (field_needs (type_field_needs c) (field_of (world_at c) class name)) ≡ None
      → IsTyped c (field_typing (type_field_typing class) (field_of (world_at c) class name))
  type_field_typed class name there h = type_field_of class name there (field_of (world_at c) class name) refl h

  -- ---- behind an expression

  by_length : (b : Bool) (class : Named) → cond b array_size no_member ≡ of_class class → ⊥
  by_length true class h = cc
  by_length false class h = cc

  -- what has members of a class
  pub class_behind : (s : PlainArg) (name class : Named) → member_of s name ≡ of_class class → s ≡ given (class_type class)
  class_behind (given int_type) name class h = cc
  class_behind (given bool_type) name class h = cc
  class_behind (given void_type) name class h = cc
  class_behind (given (class_type x)) name class h = let e : x ≡ class = cc in ap (λ n. given (class_type n)) e
  class_behind (given (array_type t)) name class h = absurd (by_length (bytes_eq name rule.length_name) class h)
  class_behind null_arg name class h = cc

  -- what has a length
  pub array_behind : (s : PlainArg) (name : Named) → member_of s name ≡ array_size → (t : PlainTy) × (s ≡ given (array_type t))
  array_behind (given int_type) name h = cc
  array_behind (given bool_type) name h = cc
  array_behind (given void_type) name h = cc
  array_behind (given (class_type x)) name h = cc
  array_behind (given (array_type t)) name h = (t, refl)
  array_behind null_arg name h = cc

  pub retyped : {frame : Frame} {e : tree.PlainExpr} {s u : PlainArg} → s ≡ u → HasType frame e s → HasType frame e u
  retyped {frame} {e} is h = subst (λ (x : PlainArg). HasType frame e x) is h

  pub known_as : {s u : PlainArg} → s ≡ u → IsKnownArg (world_at c) s → IsKnownArg (world_at c) u
  known_as is h = subst (λ (x : PlainArg). IsKnownArg (world_at c) x) is h

  -- a value of a class type has a class that is there
  pub class_there : {s : PlainArg} {class : Named} → IsKnownArg (world_at c) s → s ≡ given (class_type class) → has_type (world_at c) class ≡ true
  class_there k is = (known_reference (known_given (known_as is k)) refl).named

  static_or_not : {frame : Frame} {e : tree.PlainExpr} (class : Named) (f : Field) → IsFieldRef (field_ref class f) → HasType frame e (given (class_type class)) → (b : Bool)
      → HasType frame (cond b (tree.first_then e false (tree.get_static (field_ref class f))) (tree.get_field e (field_ref class f))) (given f.ty)
  static_or_not class f r h true = typing.first_then h (λ e. cc) (typing.get_static r)
  static_or_not class f r h false = typing.get_field r h same

  behind_has : {frame : Frame} {e : tree.PlainExpr} (class : Named) (f : Field) (v : Option Value) → IsFieldRef (field_ref class f) → FieldWorth c f v → HasType frame e (given (class_type class))
      → HasType frame (behind_field_tree e class f v) (given f.ty)
  behind_has class f v r (constant_variable p) h =
      typing.first_then h (λ e. reference class_reference) (value_typed (field_kind p) (field_fits p))
  behind_has class f v r (no_constant_variable n) h = static_or_not class f r h f.is_static

  behind_field_of : {t : Typing} {v : Option Value} (class name : Named) → IsTyped c t → t.type ≡ given (class_type class) → (o : Option Field) → field_of (world_at c) class name ≡ o → FoundWorth c o v
      → (needs : Field → List Need) → earliest_missing (field_needs needs o) ≡ None → IsTyped c (field_typing (behind_field_typing t class v) o)
  behind_field_of class name x is None found w needs h = cc
  behind_field_of {t} {v} class name x is (Some f) found (of_field w) needs h =
      let k = sound.world.fields class name f found in
      let r = is_field_ref class f (class_there x.known is) k in
      record { known = field_result f k; steps = x.steps; has = λ frame a covers. behind_has class f v r w (retyped is (x.has frame a covers)) }

  -- a field behind an expression
  pub behind_field_typed : {t : Typing} {v : Option Value} (class name : Named) → IsTyped c t → member_of t.type name ≡ of_class class → FoundWorth c (field_of (world_at c) class name) v
      → (needs : Field → List Need) → earliest_missing (field_needs needs (field_of (world_at c) class name)) ≡ None
      → IsTyped c (field_typing (behind_field_typing t class v) (field_of (world_at c) class name))
  behind_field_typed {t} class name x m w needs h =
      behind_field_of class name x (class_behind t.type name class m) (field_of (world_at c) class name) refl w needs h

  -- ---- behind `super`

  pub class_step_sound : (class : Named) → superclass_at c ≡ Some class → AreSoundSteps (world_at c) (class_step c class)
  class_step_sound class h = uses_sound this_known (λ r. class_known class (superclass_there c sound.world class h)) (superclass_fits c class h)

  pub class_steps : {pairs : List PlainPair} (class : Named) → superclass_at c ≡ Some class → Covers pairs (class_step c class) → Step pairs (given (class_type c.class)) (given (class_type class))
  class_steps class h covers = fits_step (superclass_fits c class h) covers

  super_or_static : {frame : Frame} (class : Named) (f : Field) → IsFieldRef (field_ref class f) → Agrees frame c → has_this c ≡ true → Step frame.pairs (given (class_type c.class)) (given (class_type class))
      → (b : Bool) → HasType frame (cond b (tree.get_static (field_ref class f)) (tree.get_field this_tree (field_ref class f))) (given f.ty)
  super_or_static class f r a h s true = typing.get_static r
  super_or_static class f r a h s false = typing.get_field r (this_typed a h) s

  super_typed : (class : Named) (f : Field) (v : Option Value) → superclass_at c ≡ Some class → IsSoundField (world_at c) f → has_this c ≡ true → FieldWorth c f v → IsTyped c (super_field_typing c class v f)
  super_typed class f v is k h (constant_variable p) =
      record { known = field_result f k; steps = none_sound; has = λ frame a covers. value_typed (field_kind p) (field_fits p) }
  super_typed class f v is k h (no_constant_variable n) =
      record {
        known = field_result f k;
        steps = class_step_sound class is;
        has = λ frame a covers.
            super_or_static class f (is_field_ref class f (superclass_there c sound.world class is) k) a h (class_steps class is covers) f.is_static;
      }

  super_field_of : {v : Option Value} (class name : Named) → superclass_at c ≡ Some class → (o : Option Field) → field_of (world_at c) class name ≡ o → FoundWorth c o v
      → earliest_missing (field_needs (super_field_needs c) o) ≡ None → IsTyped c (field_typing (super_field_typing c class v) o)
  super_field_of class name is None found w h = cc
  super_field_of {v} class name is (Some f) found (of_field w) h =
      super_typed class f v is (sound.world.fields class name f found) (met kind.Static (has_this c) (need kind.Access (is_open c f) ∷ []) h).0 w

  -- a field behind `super`
  pub super_field_typed : {v : Option Value} (class name : Named) → superclass_at c ≡ Some class → FoundWorth c (field_of (world_at c) class name) v
      → earliest_missing (field_needs (super_field_needs c) (field_of (world_at c) class name)) ≡ None → IsTyped c (field_typing (super_field_typing c class v) (field_of (world_at c) class name))
  super_field_typed class name is w h = super_field_of class name is (field_of (world_at c) class name) refl w h

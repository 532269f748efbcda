-- Variables that are assigned, and the nodes that assign them, are typed.
use Rattle.std.proofs.Common.{◌≡◌, refl, sym, subst, pos, Bool, true, false, cond, ◌&&◌, ◌||◌, [], ◌++◌, Option, Some, None, is_some, lit<}
use Rattle.std.proofs.lemmas.Bool.{and_parts}
use Rattle.bcj_symbolic_trees.specs.declared.expression.BinaryOp.{BinaryOp}
use Rattle.bcj_symbolic_trees.specs.Trees as tree
use Rattle.bcj_symbolic_trees.specs.Types.{PlainTy, int_type, bool_type, void_type, class_type, array_type, PlainArg, given, null_arg}
use Rattle.bcj_symbolic_check.specs.Judgements.{Frame}
use Rattle.bcj_symbolic_check.specs.Typing as typing
use Rattle.bcj_symbolic_check.specs.Typing.{Step, same, IsValue, HasType, HasPlaceType, IsFieldRef, IsAssigning, arithmetic_assigns, Operates, on_numbers}
use Rattle.bcj_decl_rules.specs.World.{Named, Field, has_type}
use Rattle.bcj_decl_rules.specs.Members.{field_of}
use Rattle.bcj_typing_rules.specs.declared.kind.Kind.TheVariants as kind
use Rattle.bcj_typing_rules.specs.Premises.{earliest_missing}
use Rattle.bcj_typing_rules.specs.Context.{Local, Context, world_at, has_this, Meaning, a_local, a_field, no_variable, meaning_of, superclass_at, Way}
use Rattle.bcj_typing_rules.specs.Operators.{is_int}
use Rattle.bcj_typing_rules.specs.Expressions as rule
use Rattle.bcj_typing_rules.specs.Expressions.{Typing, Placing, placing, no_placing, field_ref, this_tree, name_needs, name_placing, field_needs, field_placing, type_field_place_needs, type_field_placing, behind_field_placing, own_field_place, of_class, member_of, class_step, super_place_needs, super_field_placing, element_type, element_or_void, set_place, behind, place_needs, step_operator, update}
use Rattle.bcj_typing_soundness.specs.World.{IsKnown, IsSoundField, AreSoundSteps, Covers}
use Rattle.bcj_typing_soundness.specs.Frames.{IsSoundContext, Agrees, IsTyped, IsFirst, nothing_first, first_typed, IsPlaced}
use Rattle.bcj_typing_soundness.proofs.Steps.{none_sound, both_sound, covers_left, covers_right, known_given, known_reference}
use Rattle.bcj_typing_soundness.proofs.Known.{known_int, known_component, superclass_there}
use Rattle.bcj_typing_soundness.proofs.Variables.{met, local_held, local_known, field_sound, is_field_ref, this_typed, class_behind, retyped, known_as, class_there, class_step_sound, class_steps}
use Rattle.bcj_typing_soundness.proofs.Operations.{int_of, Compounds}

-- ---- elements

-- what has elements is an array
pub element_is : (s : PlainArg) → is_some (element_type s) ≡ true → s ≡ given (array_type (element_or_void s))
element_is (given (array_type t)) h = refl
element_is (given int_type) h = cc
element_is (given bool_type) h = cc
element_is (given void_type) h = cc
element_is (given (class_type n)) h = cc
element_is null_arg h = cc

-- ---- what a place needs, whatever its node

-- the field that a place names, with what is set there
record IsPlace (frame : Frame) (p : tree.PlainPlace) (t : PlainTy) : Type 0 where
  place : HasPlaceType frame p t
  sets : (v : tree.PlainExpr) (s : PlainArg) → HasType frame v s → Step frame.pairs s (given t) → IsValue s → HasType frame (set_place p v) (given t)

module _ {frame : Frame} where
  static_is : (class : Named) (f : Field) → IsFieldRef (field_ref class f) → IsPlace frame (tree.static_place (field_ref class f)) f.ty
  static_is class f r = record { place = typing.static_place r; sets = λ v s h k n. typing.set_static r h k }

  field_is : {e : tree.PlainExpr} {r : PlainArg} (class : Named) (f : Field) → IsFieldRef (field_ref class f) → HasType frame e r → Step frame.pairs r (given (class_type class))
      → IsPlace frame (tree.field_place e (field_ref class f)) f.ty
  field_is class f r h s = record { place = typing.field_place r h s; sets = λ v u x k n. typing.set_field r h s x k }

  element_place_is : {a i : tree.PlainExpr} {t : PlainTy} → HasType frame a (given (array_type t)) → HasType frame i (given int_type) → IsPlace frame (tree.element_place a i) t
  element_place_is x y = record { place = typing.element_place x y; sets = λ v s h k n. typing.set_element x y h n k }

module _ (c : Context) (sound : IsSoundContext c) where
  -- a place that is one in each frame
  placed : {p : Placing} → IsKnown (world_at c) p.type → AreSoundSteps (world_at c) p.steps → ((frame : Frame) → Agrees frame c → Covers frame.pairs p.steps → IsFirst frame p.first)
      → ((frame : Frame) → Agrees frame c → Covers frame.pairs p.steps → IsPlace frame p.place p.type) → IsPlaced c p
  placed k s first place =
      record {
        known = k;
        steps = s;
        first = first;
        place = λ frame a covers h. (place frame a covers).place;
        sets = λ frame a covers h v s x k n. (place frame a covers).sets v s x k n;
      }

  -- ---- names

  local_is : {frame : Frame} (x : Named) (l : Local) → Agrees frame c → meaning_of c x ≡ a_local l → IsPlace frame (tree.local_place l.number) l.ty
  local_is x l a is =
      let held = local_held c sound x l a is in
      record { place = typing.local_place held.0; sets = λ v s h k n. typing.set_local held.0 held.1 h k }

  own_is : {frame : Frame} (f : Field) → Agrees frame c → IsSoundField (world_at c) f → (b : Bool) → (b || has_this c) ≡ true
      → IsPlace frame (cond b (tree.static_place (field_ref c.class f)) (tree.field_place this_tree (field_ref c.class f))) f.ty
  own_is f a k true h = static_is c.class f (is_field_ref c sound c.class f sound.class k)
  own_is f a k false h = field_is c.class f (is_field_ref c sound c.class f sound.class k) (this_typed c sound a h) same

  name_placed_as : (x : Named) (m : Meaning) → meaning_of c x ≡ m → earliest_missing (name_needs c m) ≡ None → IsPlaced c (name_placing c m)
  name_placed_as x (a_local l) is h = placed (local_known c sound x l is) none_sound (λ frame a covers. nothing_first) (λ frame a covers. local_is x l a is)
  name_placed_as x (a_field f) is h =
      let k = field_sound c sound x f is in
      placed k.ty none_sound (λ frame a covers. nothing_first) (λ frame a covers. own_is f a k f.is_static (met kind.Static (f.is_static || has_this c) [] h).0)
  name_placed_as x no_variable is h = cc

  -- a simple name
  pub name_placed : (x : Named) → earliest_missing (name_needs c (meaning_of c x)) ≡ None → IsPlaced c (name_placing c (meaning_of c x))
  name_placed x h = name_placed_as x (meaning_of c x) refl h

  -- ---- fields

  type_placed_as : (class name : Named) → has_type (world_at c) class ≡ true → (o : Option Field) → field_of (world_at c) class name ≡ o → earliest_missing (field_needs type_field_place_needs o) ≡ None
      → IsPlaced c (field_placing (type_field_placing c class) o)
  type_placed_as class name there None is h = cc
  type_placed_as class name there (Some f) is h =
      let k = sound.world.fields class name f is in
      placed k.ty none_sound (λ frame a covers. nothing_first) (λ frame a covers. static_is class f (is_field_ref c sound class f there k))

  -- a field behind a type's name
  pub type_placed : (class name : Named) → has_type (world_at c) class ≡ true → earliest_missing (field_needs type_field_place_needs (field_of (world_at c) class name)) ≡ None
      → IsPlaced c (field_placing (type_field_placing c class) (field_of (world_at c) class name))
  type_placed class name there h = type_placed_as class name there (field_of (world_at c) class name) refl h

  first_if : {frame : Frame} {e : tree.PlainExpr} {s : PlainArg} → HasType frame e s → (b : Bool) → IsFirst frame (cond b (Some e) None)
  first_if h true = first_typed h
  first_if h false = nothing_first

  static_or_field : {frame : Frame} {e : tree.PlainExpr} {r : PlainArg} (class : Named) (f : Field) → IsFieldRef (field_ref class f) → HasType frame e r → Step frame.pairs r (given (class_type class)) → (b : Bool)
      → IsPlace frame (cond b (tree.static_place (field_ref class f)) (tree.field_place e (field_ref class f))) f.ty
  static_or_field class f r h s true = static_is class f r
  static_or_field class f r h s false = field_is class f r h s

  behind_placed_as : (way : Way) (t : Typing) (class name : Named) → IsTyped c t → t.type ≡ given (class_type class) → (o : Option Field) → field_of (world_at c) class name ≡ o
      → earliest_missing (field_needs (λ f. []) o) ≡ None → IsPlaced c (field_placing (behind_field_placing c way t class) o)
  behind_placed_as way t class name x is None found h = cc
  behind_placed_as way t class name x is (Some f) found h =
      let k = sound.world.fields class name f found in
      let r = is_field_ref c sound class f (class_there c sound x.known is) k in
      placed k.ty x.steps (λ frame a covers. first_if (x.has frame a covers) f.is_static)
      (λ frame a covers. static_or_field class f r (retyped c sound is (x.has frame a covers)) same f.is_static)

  -- a field behind an expression
  pub behind_placed : (way : Way) (t : Typing) (class name : Named) → IsTyped c t → member_of t.type name ≡ of_class class → earliest_missing (field_needs (λ f. []) (field_of (world_at c) class name)) ≡ None
      → IsPlaced c (field_placing (behind_field_placing c way t class) (field_of (world_at c) class name))
  behind_placed way t class name x m h = behind_placed_as way t class name x (class_behind c sound t.type name class m) (field_of (world_at c) class name) refl h

  super_placed_as : (class name : Named) → superclass_at c ≡ Some class → (o : Option Field) → field_of (world_at c) class name ≡ o → earliest_missing (field_needs (super_place_needs c) o) ≡ None
      → IsPlaced c (field_placing (super_field_placing c class) o)
  super_placed_as class name is None found h = cc
  super_placed_as class name is (Some f) found h =
      let k = sound.world.fields class name f found in
      let r = is_field_ref c sound class f (superclass_there c sound.world class is) k in
      placed k.ty (class_step_sound c sound class is) (λ frame a covers. nothing_first)
      (λ frame a covers.
      static_or_field class f r (this_typed c sound a (met kind.Static (has_this c) [] h).0) (class_steps c sound class is covers) f.is_static)

  -- a field behind `super`
  pub super_placed : (class name : Named) → superclass_at c ≡ Some class → earliest_missing (field_needs (super_place_needs c) (field_of (world_at c) class name)) ≡ None
      → IsPlaced c (field_placing (super_field_placing c class) (field_of (world_at c) class name))
  super_placed class name is h = super_placed_as class name is (field_of (world_at c) class name) refl h

  -- an array's length is no place that may be assigned
  pub length_placed : IsPlaced c (record no_placing { type = int_type; assignable = false })
  length_placed =
      record {
        known = known_int;
        steps = none_sound;
        first = λ frame a covers. nothing_first;
        place = λ frame a covers h. cc;
        sets = λ frame a covers h v s x k n. cc;
      }

  -- ---- elements

  pub element_known : (s : Typing) → IsTyped c s → is_some (element_type s.type) ≡ true → IsKnown (world_at c) (element_or_void s.type)
  element_known s x h = known_component (known_reference (known_given (known_as c sound (element_is s.type h) x.known)) refl)

  -- an element
  pub element_placed : (s t : Typing) → IsTyped c s → IsTyped c t → (is_some (element_type s.type) && is_int t.type) ≡ true
      → IsPlaced c (record (placing (tree.element_place s.tree t.tree) (element_or_void s.type)) { steps = s.steps ++ t.steps })
  element_placed s t x y h =
      let p = and_parts (is_some (element_type s.type)) (is_int t.type) h in
      placed (element_known s x p.0) (both_sound x.steps y.steps) (λ frame a covers. nothing_first)
      (λ frame a covers.
      element_place_is (retyped c sound (element_is s.type p.0) (x.has frame a (covers_left s.steps t.steps covers))) (retyped c sound (int_of t.type p.1) (y.has frame a (covers_right s.steps t.steps covers))))

-- ---- assignments

step_operates : (plus : Bool) → IsAssigning (step_operator plus) × Operates (step_operator plus) (given int_type) (given int_type) int_type
step_operates true = (arithmetic_assigns refl, on_numbers refl)
step_operates false = (arithmetic_assigns refl, on_numbers refl)

module _ {frame : Frame} where
  pub behind_first : {first : Option tree.PlainExpr} {e : tree.PlainExpr} {t : PlainArg} → IsFirst frame first → HasType frame e t → HasType frame (behind first e) t
  behind_first nothing_first h = h
  behind_first (first_typed x) h = typing.first_then x (λ e. cc) h

  stepped_as : {p : tree.PlainPlace} {t : PlainTy} (plus post : Bool) → given t ≡ given int_type → HasPlaceType frame p t → HasType frame (tree.update_place p (step_operator plus) (tree.int_value (pos 1)) post) (given t)
  stepped_as {p} {t} plus post is h =
      let e : int_type ≡ t = cc in
      let P : PlainTy → Type 0 = λ u. HasPlaceType frame p u → HasType frame (tree.update_place p (step_operator plus) (tree.int_value (pos 1)) post) (given u) in
      subst P e (λ k. typing.update_place k (typing.int_value (record { sfits = lit< tt })) (step_operates plus).0 (step_operates plus).1) h

  -- `++` and `--`
  pub stepped : (p : Placing) (plus post : Bool) → is_int (given p.type) ≡ true → IsFirst frame p.first → HasPlaceType frame p.place p.type
      → HasType frame (update p (step_operator plus) (tree.int_value (pos 1)) post) (given p.type)
  stepped p plus post is first place = behind_first first (stepped_as plus post (int_of (given p.type) is) place)

  -- a compound assignment
  pub compound_typed : (o : Option BinaryOp) (p : Placing) (v : tree.PlainExpr) (s : PlainArg) → Compounds o p.type s → IsFirst frame p.first → HasPlaceType frame p.place p.type → HasType frame v s
      → HasType frame (rule.compound_tree o p v) (given p.type)
  compound_typed o p v s k first place h =
      subst (λ (n : Option BinaryOp). HasType frame (rule.compound_tree n p v) (given p.type)) (sym k.is_it)
      (behind_first first (typing.update_place place h k.assigns k.operates))

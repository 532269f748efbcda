-- Types that are there.
use Rattle.std.proofs.Common.{◌≡◌, refl, ap, subst, ℕ, zero, suc, ◌≤◌, Bool, true, false, cond, ◌&&◌, List, ◌++◌, Option, Some, None, arith, lit≤}
use Rattle.std.specs.List.{Contains, list_all}
use Rattle.std.specs.Option.{option_and_then, option_to_list}
use Rattle.std.proofs.lemmas.Bool.{and_parts}
use Rattle.bcj_parser_trees.specs.declared.names.Base.{Base}
use Rattle.bcj_parser_trees.specs.declared.names.TypeName.{TypeName}
use Rattle.bcj_parser_trees.specs.Trees as source
use Rattle.bcj_symbolic_trees.specs.Types.{PlainTy, int_type, bool_type, class_type, array_type, given}
use Rattle.bcj_symbolic_check.specs.Steps.{dimensions}
use Rattle.bcj_symbolic_check.specs.Limits.{max_dimensions}
use Rattle.bcj_symbolic_check.specs.Typing.{HasElement, int_element, bool_element, class_element, array_element}
use Rattle.bcj_decl_rules.specs.World.{Named, Declared, World, base_type, with_brackets, type_of, type_named, has_type}
use Rattle.bcj_decl_rules.specs.Subtypes.{same, through, or_object, Fits, typed, of_class}
use Rattle.bcj_decl_rules.specs.Faults.{class_names}
use Rattle.bcj_typing_rules.specs.Context.{Context, world_at, superclass_at, is_known, is_no_variable, meaning_of, type_before_dot}
use Rattle.bcj_typing_rules.specs.Expressions.{array_of, array_name}
use Rattle.bcj_parser_wellformed.specs.WellFormed.{IsName, IsValueBase, int_base, bool_base, named_base, IsTypeName, IsArrayName}
use Rattle.bcj_parser_wellformed.specs.WellFormed as formed
use Rattle.bcj_typing_soundness.specs.World.{names_type, IsKnown, a_result, IsKnownArg, known_type, WorldIsSound}

-- ---- types of values

pub known_int : {w : World} → IsKnown w int_type
known_int = record { value = record { element = int_element; flat = lit≤ tt }; named = refl }

pub known_bool : {w : World} → IsKnown w bool_type
known_bool = record { value = record { element = bool_element; flat = lit≤ tt }; named = refl }

pub int_result : {w : World} → IsKnownArg w (given int_type)
int_result = known_type (a_result known_int)

pub bool_result : {w : World} → IsKnownArg w (given bool_type)
bool_result = known_type (a_result known_bool)

pub known_class : {w : World} {name : Named} → IsName name → has_type w name ≡ true → IsKnown w (class_type name)
known_class n h = record { value = record { element = class_element n; flat = lit≤ tt }; named = h }

part_element : {t : PlainTy} → HasElement (array_type t) → HasElement t
part_element (array_element h) = h

-- the component of an array
pub known_component : {w : World} {t : PlainTy} → IsKnown w (array_type t) → IsKnown w t
known_component {w} {t} k =
    let flat : suc (dimensions t) ≤ max_dimensions = k.value.flat in
    record { value = record { element = part_element k.value.element; flat = omega (arith, flat) }; named = k.named }

-- ---- written types

record IsBaseKnown (w : World) (b : Base) : Type 0 where
  element : HasElement (base_type b)
  flat : dimensions (base_type b) ≡ 0
  named : names_type w (base_type b) ≡ true

base_known : {w : World} {b : Base} → IsValueBase b → list_all (has_type w) (class_names (record { base = b; dims = 0 })) ≡ true → IsBaseKnown w b
base_known int_base h = record { element = int_element; flat = refl; named = refl }
base_known bool_base h = record { element = bool_element; flat = refl; named = refl }
base_known {w} (named_base {name = name} n) h = record { element = class_element n; flat = refl; named = (and_parts (has_type w name) true h).0 }

brackets_element : {t : PlainTy} (n : ℕ) → HasElement t → HasElement (with_brackets n t)
brackets_element zero h = h
brackets_element (suc n) h = array_element (brackets_element n h)

brackets_flat : (t : PlainTy) (n : ℕ) → dimensions t ≡ 0 → dimensions (with_brackets n t) ≡ n
brackets_flat t zero h = h
brackets_flat t (suc n) h = ap suc (brackets_flat t n h)

brackets_named : (w : World) (t : PlainTy) (n : ℕ) → names_type w t ≡ true → names_type w (with_brackets n t) ≡ true
brackets_named w t zero h = h
brackets_named w t (suc n) h = brackets_named w t n h

brackets_known : {w : World} {b : Base} (n : ℕ) → n ≤ max_dimensions → IsBaseKnown w b → IsKnown w (with_brackets n (base_type b))
brackets_known {w} {b} n few k =
    record {
      value = record { element = brackets_element n k.element; flat = omega (arith, brackets_flat (base_type b) n k.flat, few) };
      named = brackets_named w (base_type b) n k.named;
    }

-- a written type whose names are those of types
pub written_known : {w : World} {ty : TypeName} → IsTypeName ty → list_all (has_type w) (class_names ty) ≡ true → IsKnown w (type_of ty)
written_known {w} {ty} k h = brackets_known ty.dims k.flat (base_known k.base h)

-- an array that is made
pub record IsArrayMade (w : World) (t : PlainTy) : Type 0 where
  pub component : PlainTy
  pub is_it : t ≡ array_type component
  pub known : IsKnown w (array_type component)

pub made_known : (c : Context) {b : Base} {n : ℕ} → IsArrayName b n → is_known c (array_name b n) ≡ true → IsArrayMade (world_at c) (array_of b n)
made_known c (formed.array_name {b = b} {n = n} k few) h =
    record { component = with_brackets n (base_type b); is_it = refl; known = brackets_known (suc n) few (base_known k h) }

-- ---- the type that a name before a dot is

if_some : (b : Bool) {A : Type 0} (x y : A) → cond b (Some x) None ≡ Some y → (b ≡ true) × (x ≡ y)
if_some true x y h = (refl, cc)
if_some false x y h = cc

pub before_there : (c : Context) (e : source.PlainExpr) (class : Named) → type_before_dot c e ≡ Some class → has_type (world_at c) class ≡ true
before_there c (source.simple_name at x) class h =
    let p = if_some (is_no_variable (meaning_of c x) && has_type (world_at c) x) x class h in
    subst (λ (n : Named). has_type (world_at c) n ≡ true) p.1 (and_parts (is_no_variable (meaning_of c x)) (has_type (world_at c) x) p.0).1
before_there c e class h = cc

-- ---- the superclass

-- the type of a name, and its superclass
record HasSuperclass (w : World) (name class : Named) : Type 0 where
  type : Declared
  is_it : type_named w name ≡ Some type
  names_it : type.superclass ≡ Some class

superclass_by : (w : World) (name class : Named) (o : Option Declared) → type_named w name ≡ o → option_and_then (λ t. t.superclass) o ≡ Some class → HasSuperclass w name class
superclass_by w name class None e h = cc
superclass_by w name class (Some t) e h = record { type = t; is_it = e; names_it = h }

superclass_in : (c : Context) (class : Named) → superclass_at c ≡ Some class → HasSuperclass (world_at c) c.class class
superclass_in c class h = superclass_by (world_at c) c.class class (type_named (world_at c) c.class) refl h

pub superclass_there : (c : Context) → WorldIsSound c.units → (class : Named) → superclass_at c ≡ Some class → has_type (world_at c) class ≡ true
superclass_there c sound class h = let s = superclass_in c class h in sound.superclass c.class class s.type s.is_it s.names_it

first_contained : (o : Option Named) (names : List Named) (class : Named) → o ≡ Some class → Contains (option_to_list o ++ names) class
first_contained None names class h = cc
first_contained (Some x) names class h = let e : x ≡ class = cc in (zero, omega arith, e)

-- a class steps to its superclass
pub superclass_fits : (c : Context) (class : Named) → superclass_at c ≡ Some class → Fits (world_at c) (given (class_type c.class)) (class_type class)
superclass_fits c class h =
    let s = superclass_in c class h in
    typed (of_class (through (record { type = s.type; is_it = s.is_it; names_it = first_contained s.type.superclass (or_object s.type.interface s.type.interfaces) class s.names_it }) same))

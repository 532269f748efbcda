-- The conditions on a class with its members, and the first node of a unit that has no rule.
use Rattle.std.specs.Prelude.{◌≡◌, ◌↔◌, ℕ, ◌+◌, ℤ, pos, negsuc, Bool, true, false, not, ◌&&◌, ◌||◌, nat_lt, min, List, [], ◌∷◌, ◌++◌, if◌then◌else◌, Option, Some, None, option_map, is_some}
use Rattle.std.specs.List.{list_all, list_any, position_from}
use Rattle.std.specs.Str.{bytes_eq}
use Rattle.bcj_symbolic_trees.specs.declared.class_tree.ClassHead.{ClassHead}
use Rattle.bcj_symbolic_trees.specs.declared.class_tree.MethodKind.{MethodKind}
use Rattle.bcj_symbolic_trees.specs.declared.class_tree.MethodKind.TheVariants as kind
use Rattle.bcj_symbolic_trees.specs.Names.{object_name}
use Rattle.bcj_symbolic_trees.specs.Types.{PlainTy, int_type, bool_type, class_type}
use Rattle.bcj_symbolic_trees.specs.Trees.{PlainStmts, no_stmts, more_stmts}
use Rattle.bcj_symbolic_trees.specs.Units.{PlainField, PlainMethod, PlainPair, PlainClass, PlainUnit}
use Rattle.bcj_symbolic_trees.specs.Same.{same_type, same_types}
use Rattle.bcj_names.specs.Identifiers.{is_identifier}
use Rattle.bcj_symbolic_check.specs.Limits.{max_types, max_place}
use Rattle.bcj_symbolic_check.specs.Steps.{is_void, is_value_type, is_result_type}
use Rattle.bcj_symbolic_check.specs.Judgements.{Frame, is_constructor_name, in_range, are_value_types}
use Rattle.bcj_symbolic_check.specs.Statements.{stmts_marks}

-- ---- heads

-- Object and the interfaces have no superclass, and every other class has one
unfoldable pub has_right_superclass : ClassHead → Bool
has_right_superclass h = if h.interface || bytes_eq h.name object_name then not (is_some h.superclass) else is_some h.superclass

unfoldable pub superclass_named : Option (List ℕ) → Bool
superclass_named None = true
superclass_named (Some name) = is_identifier name

unfoldable pub are_identifiers : List (List ℕ) → Bool
are_identifiers names = list_all is_identifier names

unfoldable pub head_holds : ClassHead → Bool
head_holds h = is_identifier h.name && (superclass_named h.superclass && (are_identifiers h.interfaces && has_right_superclass h))

-- ---- fields

abbrev pub is_truth_value : ℤ → Bool
is_truth_value (pos n) = nat_lt n 2
is_truth_value (negsuc n) = false

-- a constant is that of a static field, and that of a `boolean` is 0 or 1
unfoldable pub constant_fits : PlainTy → ℤ → Bool
constant_fits int_type n = in_range n
constant_fits bool_type n = is_truth_value n
constant_fits _ n = false

unfoldable pub constant_holds : PlainTy → Bool → Option ℤ → Bool
constant_holds ty is_static None = true
constant_holds ty is_static (Some n) = is_static && constant_fits ty n

-- a field of an interface isn't private (JLS 9.3)
unfoldable pub field_access_holds : Bool → PlainField → Bool
field_access_holds interface f = not (f.is_private && interface)

-- an interface has static fields alone
unfoldable pub field_holds : Bool → PlainField → Bool
field_holds interface f =
    is_identifier f.name
    && (is_value_type f.ty
    && ((not interface || f.is_static) && (field_access_holds interface f && constant_holds f.ty f.is_static f.constant)))

unfoldable pub same_field : PlainField → PlainField → Bool
same_field f g = bytes_eq f.name g.name && same_type f.ty g.ty

-- ---- methods

abbrev pub begins_with : List PlainTy → List PlainTy → Bool
begins_with [] ts = true
begins_with (s ∷ ss) [] = false
begins_with (s ∷ ss) (t ∷ ts) = same_type s t && begins_with ss ts

-- whether the first local is `this`; an abstract method has no body, but its locals are numbered as if it had one
abbrev pub has_this : MethodKind → Bool
has_this kind.Static = false
has_this _ = true

-- `this`, where there is one, and the parameters stand first
unfoldable pub locals_hold : List ℕ → Bool → List PlainTy → List PlainTy → Bool
locals_hold class this params locals = if this then begins_with (class_type class ∷ params) locals else begins_with params locals

abbrev pub is_empty : PlainStmts → Bool
is_empty no_stmts = true
is_empty (more_stmts s rest) = false

abbrev pub is_abstract : MethodKind → Bool
is_abstract kind.Abstract = true
is_abstract _ = false

abbrev pub is_constructor : MethodKind → Bool
is_constructor kind.Constructor = true
is_constructor _ = false

-- a constructor's name and result; of every other method an identifier and any result
unfoldable pub named_by_kind : PlainMethod → Bool
named_by_kind m = if is_constructor m.kind then is_constructor_name m.name && is_void m.result else is_identifier m.name && is_result_type m.result

-- the types behind the first are these
unfoldable pub are_behind_first : List PlainTy → List PlainTy → Bool
are_behind_first params [] = false
are_behind_first params (t ∷ ts) = same_types ts params

-- an abstract method has no body and no locals but `this` and the parameters
unfoldable pub body_by_kind : PlainMethod → Bool
body_by_kind m = not (is_abstract m.kind) || (is_empty m.body && are_behind_first m.params m.locals)

-- an abstract method and one of an interface aren't private (JLS 8.4.3, 9.4)
unfoldable pub method_access_holds : Bool → PlainMethod → Bool
method_access_holds interface m = not (m.is_private && (interface || is_abstract m.kind))

-- an interface has abstract methods alone
unfoldable pub method_holds : Bool → List ℕ → PlainMethod → Bool
method_holds interface class m =
    named_by_kind m
    && (are_value_types m.params
    && (are_value_types m.locals
    && (locals_hold class (has_this m.kind) m.params m.locals
    && (body_by_kind m && ((not interface || is_abstract m.kind) && method_access_holds interface m)))))

-- the name and the types that a descriptor has
unfoldable pub same_method : PlainMethod → PlainMethod → Bool
same_method m n = bytes_eq m.name n.name && (same_types m.params n.params && same_type m.result n.result)

unfoldable pub has_constructor : List PlainMethod → Bool
has_constructor [] = false
has_constructor (m ∷ rest) = is_constructor m.kind || has_constructor rest

-- constructors stand before the other methods
unfoldable pub constructors_first : List PlainMethod → Bool
constructors_first [] = true
constructors_first (m ∷ rest) = (is_constructor m.kind || not (has_constructor rest)) && constructors_first rest

-- ---- classes

-- no two fields are the same, no two methods are
unfoldable pub has_field : PlainField → List PlainField → Bool
has_field f fs = list_any (same_field f) fs

unfoldable pub fields_differ : List PlainField → Bool
fields_differ [] = true
fields_differ (f ∷ rest) = not (has_field f rest) && fields_differ rest

unfoldable pub has_method : PlainMethod → List PlainMethod → Bool
has_method m ms = list_any (same_method m) ms

unfoldable pub methods_differ : List PlainMethod → Bool
methods_differ [] = true
methods_differ (m ∷ rest) = not (has_method m rest) && methods_differ rest

unfoldable pub fields_hold : Bool → List PlainField → Bool
fields_hold interface fs = list_all (field_holds interface) fs

unfoldable pub methods_hold : Bool → List ℕ → List PlainMethod → Bool
methods_hold interface class ms = list_all (method_holds interface class) ms

unfoldable pub pair_holds : PlainPair → Bool
pair_holds p = is_value_type p.from && is_value_type p.to

unfoldable pub pairs_hold : List PlainPair → Bool
pairs_hold ps = list_all pair_holds ps

abbrev pub is_class_named : List ℕ → PlainClass → Bool
is_class_named name c = bytes_eq name c.head.name

-- one of the classes has this name
unfoldable pub has_class : List ℕ → List PlainClass → Bool
has_class name cs = list_any (is_class_named name) cs

unfoldable pub members_hold : PlainClass → Bool
members_hold c =
    fields_hold c.head.interface c.fields
    && (fields_differ c.fields
    && (are_value_types c.init.locals
    && (methods_hold c.head.interface c.head.name c.methods
    && (methods_differ c.methods && (constructors_first c.methods && pairs_hold c.pairs)))))

-- the class itself, which has this number and stands behind these
unfoldable pub class_holds : ℕ → List PlainClass → PlainClass → Bool
class_holds number before c = nat_lt number max_types && (not (has_class c.head.name before) && (head_holds c.head && members_hold c))

unfoldable pub init_frame : PlainClass → Frame
init_frame c = record {
  class = c.head.name;
  superclass = c.head.superclass;
  pairs = c.pairs;
  locals = c.init.locals;
  has_this = false;
  result = None;
}

unfoldable pub method_frame : PlainClass → PlainMethod → Frame
method_frame c m = record {
  class = c.head.name;
  superclass = c.head.superclass;
  pairs = c.pairs;
  locals = m.locals;
  has_this = has_this m.kind;
  result = Some m.result;
}

abbrev pub methods_marks : PlainClass → List PlainMethod → List Bool
methods_marks c [] = []
methods_marks c (m ∷ rest) = stmts_marks (method_frame c m) false m.body ++ methods_marks c rest

-- the nodes of a class in preorder, each with whether it has a rule: the class, its initialiser, its methods
unfoldable pub class_marks : ℕ → List PlainClass → PlainClass → List Bool
class_marks number before c =
    class_holds number before c ∷ (stmts_marks (init_frame c) false c.init.body ++ methods_marks c c.methods)

-- ---- units

pub record Fault : Type 0 where
  pub class : ℕ
  pub place : ℕ

-- a place stands at the last value of a u32
abbrev pub saturated : ℕ → ℕ
saturated n = min n max_place

-- the place of the first node without a rule
unfoldable pub first_fault : List Bool → Option ℕ
first_fault marks = option_map saturated (position_from not 0 marks)

abbrev pub fault_or : ℕ → Option ℕ → Option Fault → Option Fault
fault_or class (Some place) rest = Some (record { class = class; place = place })
fault_or class None rest = rest

unfoldable pub faults_from : ℕ → List PlainClass → List PlainClass → Option Fault
faults_from number before [] = None
faults_from number before (c ∷ rest) = fault_or number (first_fault (class_marks number before c)) (faults_from (number + 1) (before ++ c ∷ []) rest)

-- the first node without a rule, in the first class that has one
abbrev pub fault_of : PlainUnit → Option Fault
fault_of u = faults_from 0 [] u.classes

-- each node has a rule
abbrev pub IsWellTyped : PlainUnit → Type 0
IsWellTyped u = fault_of u ≡ None

-- each node of each class has a rule
abbrev pub EachHasRule : ℕ → List PlainClass → List PlainClass → Type 0
EachHasRule number before [] = Unit {0}
EachHasRule number before (c ∷ rest) = (list_all (λ holds. holds) (class_marks number before c) ≡ true) × EachHasRule (number + 1) (before ++ c ∷ []) rest

abbrev pub WellTypedLaw : Type 0
WellTypedLaw = (u : PlainUnit) → IsWellTyped u ↔ EachHasRule 0 [] u.classes

-- The typing of expressions (JLS 6.5, 13.1, 15). `Composes` has one case for each production: the parts have rules, and the node
-- needs what its list says and is then that symbolic tree with that type. `Types` says that the node has a rule, `TypesPlace` the
-- same of a variable that is assigned.
use Rattle.std.specs.Prelude.{◌≡◌, ℕ, zero, ℤ, pos, neg_ℤ, Bool, true, false, not, ◌&&◌, ◌||◌, List, [], ◌∷◌, ◌++◌, map, codes, Option, None, Some, if◌then◌else◌, Decides}
use Rattle.std.specs.List.{flat_map}
use Rattle.std.specs.Option.{is_some, option_map_or}
use Rattle.std.specs.Str.{bytes_eq}
use Rattle.bcj_parser_trees.specs.declared.names.Base.{Base}
use Rattle.bcj_parser_trees.specs.declared.names.TypeName.{TypeName}
use Rattle.bcj_parser_trees.specs.declared.expression.UnaryOp.{UnaryOp}
use Rattle.bcj_parser_trees.specs.declared.expression.UnaryOp.TheVariants as unop
use Rattle.bcj_parser_trees.specs.declared.expression.BinOp.{BinOp}
use Rattle.bcj_parser_trees.specs.Trees as source
use Rattle.bcj_symbolic_trees.specs.declared.expression.BinaryOp.{BinaryOp}
use Rattle.bcj_symbolic_trees.specs.declared.expression.BinaryOp.TheVariants as node_op
use Rattle.bcj_symbolic_trees.specs.Trees as tree
use Rattle.bcj_symbolic_trees.specs.Types.{PlainTy, int_type, bool_type, void_type, class_type, array_type, PlainArg, given, null_arg, PlainFieldRef, PlainMethodRef}
use Rattle.bcj_symbolic_trees.specs.Units.{PlainPair}
use Rattle.bcj_symbolic_trees.specs.Names.{constructor_name}
use Rattle.bcj_decl_rules.specs.declared.value.Value.{Value}
use Rattle.bcj_decl_rules.specs.declared.value.Value.TheVariants as value
use Rattle.bcj_decl_rules.specs.World.{Named, Field, Method, has_type, type_of, base_type, with_brackets}
use Rattle.bcj_decl_rules.specs.Subtypes.{is_reference, Fits}
use Rattle.bcj_decl_rules.specs.Members.{field_of}
use Rattle.bcj_decl_rules.specs.Methods.{Choice, one, none_applies, ambiguous, MostSpecific}
use Rattle.bcj_decl_rules.specs.Constants.{least_size, literal_value}
use Rattle.bcj_decl_rules.specs.Faults.{is_static, is_abstract}
use Rattle.bcj_decl_rules.specs.function.Constants.{spells_least}
use Rattle.bcj_typing_rules.specs.declared.kind.Kind.TheVariants as kind
use Rattle.bcj_typing_rules.specs.Premises.{Need, need, earliest_missing}
use Rattle.bcj_typing_rules.specs.Context.{Context, world_at, has_this, Meaning, a_local, a_field, no_variable, meaning_of, type_before_dot, is_known, superclass_at, is_interface, is_abstract_type, Worth, FieldWorth, is_open, Way, by_name, otherwise, way_behind, is_assignable}
use Rattle.bcj_typing_rules.specs.Operators.{is_int, is_bool, is_object, unary_takes, unary_gives, unary_tree, binary_takes, binary_gives, type_or_void, compares_objects, node_operator, binary_tree, compound_takes}
use Rattle.bcj_typing_rules.specs.Casting.{GoTogether, CastForm, of_same, of_supertype, of_other, no_cast, CastAs, Join, to_second, to_first, apart, Joins, uses, uses_between}

-- ---- what an expression is

-- the symbolic tree, the type, where a call without result has `void`, and the subtype steps that were used, in their order
pub record Typing : Type 0 where
  pub tree : tree.PlainExpr
  pub type : PlainArg
  pub steps : List PlainPair

abbrev pub typing : tree.PlainExpr → PlainArg → List PlainPair → Typing
typing e t steps = record { tree = e; type = t; steps = steps }

-- that of a node which lacks something; nothing hangs on it
abbrev pub no_typing : Typing
no_typing = typing tree.null_value (given void_type) []

-- A variable that is assigned: the expression that is evaluated first where the field is static and stands behind one, the place,
-- its type, the steps that were used, whether it may be assigned here, and whether it is open to the class.
pub record Placing : Type 0 where
  pub first : Option tree.PlainExpr
  pub place : tree.PlainPlace
  pub type : PlainTy
  pub steps : List PlainPair
  pub assignable : Bool
  pub open_here : Bool

abbrev pub placing : tree.PlainPlace → PlainTy → Placing
placing p t = record { first = None; place = p; type = t; steps = []; assignable = true; open_here = true }

abbrev pub no_placing : Placing
no_placing = placing (tree.local_place zero) void_type

-- ---- symbolic references (JLS 13.1): the qualifying type stands first

abbrev pub field_ref : Named → Field → PlainFieldRef
field_ref class f = record { class = class; name = f.name; ty = f.ty }

abbrev pub method_ref : Named → Method → PlainMethodRef
method_ref class m = record { class = class; name = m.name; params = m.params; result = m.result }

abbrev pub this_tree : tree.PlainExpr
this_tree = tree.get_local zero

-- ---- constants

abbrev pub value_tree : Value → tree.PlainExpr
value_tree (value.Int n) = tree.int_value n
value_tree (value.Bool b) = tree.bool_value b

-- a constant expression is its value (JLS 13.1, 15.28)
abbrev pub valued : Option Value → Typing → Typing
valued None t = t
valued (Some v) t = record t { tree = value_tree v }

-- ---- arguments

abbrev pub types_in : List Typing → List PlainArg
types_in = map (λ t. t.type)

abbrev pub trees_in : List Typing → tree.PlainExprs
trees_in ts = tree.exprs_from (map (λ t. t.tree) ts)

abbrev pub steps_in : List Typing → List PlainPair
steps_in = flat_map (λ t. t.steps)

-- each argument to its parameter
abbrev pub argument_steps : List Typing → List PlainTy → List PlainPair
argument_steps [] ps = []
argument_steps (t ∷ ts) [] = []
argument_steps (t ∷ ts) (p ∷ ps) = uses t.type p ++ argument_steps ts ps

-- ---- fields

-- what is needed of a field, where there is one of the name (JLS 6.5.6)
abbrev pub field_needs : (Field → List Need) → Option Field → List Need
field_needs needs None = need kind.Name false ∷ []
field_needs needs (Some f) = needs f

abbrev pub field_typing : (Field → Typing) → Option Field → Typing
field_typing reads None = no_typing
field_typing reads (Some f) = reads f

abbrev pub field_placing : (Field → Placing) → Option Field → Placing
field_placing reads None = no_placing
field_placing reads (Some f) = reads f

-- the constant value of the field that was found
pub data FoundWorth (c : Context) : Option Field → Option Value → Type 0 where
  of_none : FoundWorth c None None
  of_field : {f : Field} {v : Option Value} → FieldWorth c f v → FoundWorth c (Some f) v

-- a field needs an object, which a place without `this` hasn't (JLS 8.3.1.1, 15.14.1)
abbrev pub own_field_needs : Context → Field → List Need
own_field_needs c f = need kind.Static (f.is_static || has_this c) ∷ []

abbrev pub own_field_tree : Context → Field → tree.PlainExpr
own_field_tree c f = if f.is_static then tree.get_static (field_ref c.class f) else tree.get_field this_tree (field_ref c.class f)

abbrev pub own_field_place : Context → Field → tree.PlainPlace
own_field_place c f = if f.is_static then tree.static_place (field_ref c.class f) else tree.field_place this_tree (field_ref c.class f)

-- a simple name (JLS 6.5.6.1)
abbrev pub name_needs : Context → Meaning → List Need
name_needs c (a_local l) = []
name_needs c (a_field f) = own_field_needs c f
name_needs c no_variable = need kind.Name false ∷ []

abbrev pub name_typing : Context → Meaning → Typing
name_typing c (a_local l) = typing (tree.get_local l.number) (given l.ty) []
name_typing c (a_field f) = typing (own_field_tree c f) (given f.ty) []
name_typing c no_variable = no_typing

abbrev pub name_placing : Context → Meaning → Placing
name_placing c (a_local l) = placing (tree.local_place l.number) l.ty
name_placing c (a_field f) = record (placing (own_field_place c f) f.ty) { assignable = is_assignable c by_name f }
name_placing c no_variable = no_placing

-- a field behind a type's name (JLS 6.5.6.2)
abbrev pub type_field_needs : Context → Field → List Need
type_field_needs c f = need kind.Static f.is_static ∷ need kind.Access (is_open c f) ∷ []

abbrev pub type_field_place_needs : Field → List Need
type_field_place_needs f = need kind.Static f.is_static ∷ []

abbrev pub type_field_typing : Named → Field → Typing
type_field_typing class f = typing (tree.get_static (field_ref class f)) (given f.ty) []

abbrev pub type_field_placing : Context → Named → Field → Placing
type_field_placing c class f =
    record (placing (tree.static_place (field_ref class f)) f.ty) { assignable = is_assignable c otherwise f; open_here = is_open c f }

-- a field behind an expression (JLS 15.11.1): what a static field or a constant stands behind is evaluated before, and an object
-- whose field is a constant is tested for null
abbrev pub behind_field_tree : tree.PlainExpr → Named → Field → Option Value → tree.PlainExpr
behind_field_tree e class f (Some v) = tree.first_then e (not f.is_static) (value_tree v)
behind_field_tree e class f None =
    if f.is_static then tree.first_then e false (tree.get_static (field_ref class f)) else tree.get_field e (field_ref class f)

abbrev pub behind_field_typing : Typing → Named → Option Value → Field → Typing
behind_field_typing t class v f = typing (behind_field_tree t.tree class f v) (given f.ty) t.steps

abbrev pub behind_field_placing : Context → Way → Typing → Named → Field → Placing
behind_field_placing c way t class f =
    record {
      first = if f.is_static then Some t.tree else None;
      place = if f.is_static then tree.static_place (field_ref class f) else tree.field_place t.tree (field_ref class f);
      type = f.ty;
      steps = t.steps;
      assignable = is_assignable c (if f.is_static then otherwise else way) f;
      open_here = is_open c f;
    }

-- the length of an array (JLS 10.7)
abbrev pub length_name : Named
length_name = codes "length"

pub data MemberOf : Type 0 where
  array_size : MemberOf
  of_class : Named → MemberOf
  no_member : MemberOf

-- what a name behind a value is looked up in: a class or interface, or the one member of an array
abbrev pub member_of : PlainArg → Named → MemberOf
member_of (given (class_type class)) name = of_class class
member_of (given (array_type t)) name = if bytes_eq name length_name then array_size else no_member
member_of _ name = no_member

-- `super.x` (JLS 15.11.2), which steps to the type that the reference names
abbrev pub class_step : Context → Named → List PlainPair
class_step c class = uses (given (class_type c.class)) (class_type class)

abbrev pub super_field_needs : Context → Field → List Need
super_field_needs c f = need kind.Static (has_this c) ∷ need kind.Access (is_open c f) ∷ []

abbrev pub super_place_needs : Context → Field → List Need
super_place_needs c f = need kind.Static (has_this c) ∷ []

abbrev pub super_field_typing : Context → Named → Option Value → Field → Typing
super_field_typing c class (Some v) f = typing (value_tree v) (given f.ty) []
super_field_typing c class None f =
    typing
    (if f.is_static then tree.get_static (field_ref class f) else tree.get_field this_tree (field_ref class f))
    (given f.ty)
    (class_step c class)

abbrev pub super_field_placing : Context → Named → Field → Placing
super_field_placing c class f =
    record {
      first = None;
      place = if f.is_static then tree.static_place (field_ref class f) else tree.field_place this_tree (field_ref class f);
      type = f.ty;
      steps = class_step c class;
      assignable = is_assignable c otherwise f;
      open_here = is_open c f;
    }

-- ---- calls

-- what is needed of a choice, and of the method that it is (JLS 15.12.2, 15.12.3)
abbrev pub choice_needs : (Method → List Need) → Choice → List Need
choice_needs needs (one m) = needs m
choice_needs needs none_applies = need kind.Method false ∷ []
choice_needs needs ambiguous = need kind.Ambiguous false ∷ []

abbrev pub choice_typing : (Method → Typing) → Choice → Typing
choice_typing calls (one m) = calls m
choice_typing calls _ = no_typing

-- a call by a simple name (JLS 15.12.3)
abbrev pub own_call_needs : Context → Method → List Need
own_call_needs c m = need kind.Static (is_static m || has_this c) ∷ []

abbrev pub called : tree.PlainExpr → Method → List Typing → List PlainPair → Typing
called e m ts before = typing e (given m.result) (before ++ argument_steps ts m.params)

abbrev pub own_call_tree : Context → Method → List Typing → tree.PlainExpr
own_call_tree c m ts =
    if is_static m
    then tree.call_static (method_ref c.class m) (trees_in ts)
    else tree.call_virtual this_tree (method_ref c.class m) (trees_in ts)

abbrev pub own_call : Context → List Typing → Method → Typing
own_call c ts m = called (own_call_tree c m ts) m ts (steps_in ts)

-- a call behind a type's name
abbrev pub type_call_needs : Method → List Need
type_call_needs m = need kind.Static (is_static m) ∷ []

abbrev pub type_call : Named → List Typing → Method → Typing
type_call class ts m = called (tree.call_static (method_ref class m) (trees_in ts)) m ts (steps_in ts)

-- a call behind an expression
abbrev pub behind_call_tree : Bool → tree.PlainExpr → Named → List Typing → Method → tree.PlainExpr
behind_call_tree on_interface e class ts m =
    if is_static m
    then tree.first_then e false (tree.call_static (method_ref class m) (trees_in ts))
    else (if on_interface then tree.call_interface e (method_ref class m) (trees_in ts) else tree.call_virtual e (method_ref class m) (trees_in ts))

abbrev pub behind_call : Context → Typing → Named → List Typing → Method → Typing
behind_call c t class ts m = called (behind_call_tree (is_interface c class) t.tree class ts m) m ts (t.steps ++ steps_in ts)

-- a call behind `super`, of a method with a body
abbrev pub super_call_needs : Context → Method → List Need
super_call_needs c m = need kind.Static (has_this c) ∷ need kind.Abstract (not (is_abstract m)) ∷ []

abbrev pub super_call_tree : Named → List Typing → Method → tree.PlainExpr
super_call_tree class ts m =
    if is_static m then tree.call_static (method_ref class m) (trees_in ts) else tree.call_special (method_ref class m) (trees_in ts)

abbrev pub super_method_call : Context → Named → List Typing → Method → Typing
super_method_call c class ts m = called (super_call_tree class ts m) m ts (steps_in ts ++ class_step c class)

-- a new object, of a class that isn't abstract (JLS 15.9)
abbrev pub new_needs : Context → Named → Method → List Need
new_needs c class m = need kind.Abstract (not (is_abstract_type c class)) ∷ []

abbrev pub new_typing : Named → List Typing → Method → Typing
new_typing class ts m =
    typing (tree.new_object (method_ref class m) (trees_in ts)) (given (class_type class)) (steps_in ts ++ argument_steps ts m.params)

-- the class or interface whose methods a value has; that of null, of a number and of an array has none
abbrev pub class_of_value : PlainArg → Option Named
class_of_value (given (class_type class)) = Some class
class_of_value _ = None

-- ---- casts, choices, arrays

abbrev pub cast_tree : CastForm → PlainTy → tree.PlainExpr → tree.PlainExpr
cast_tree of_same t e = e
cast_tree of_supertype t e = tree.widen t e
cast_tree of_other t e = tree.cast t e
cast_tree no_cast t e = e

abbrev pub cast_steps : CastForm → PlainArg → PlainTy → List PlainPair
cast_steps of_supertype s t = uses s t
cast_steps _ s t = []

abbrev pub is_cast : CastForm → Bool
is_cast no_cast = false
is_cast _ = true

abbrev pub is_joined : Join → Bool
is_joined apart = false
is_joined _ = true

abbrev pub joined_type : Join → PlainArg → PlainArg → PlainArg
joined_type to_second s t = t
joined_type _ s t = s

abbrev pub joined_steps : Join → PlainArg → PlainArg → List PlainPair
joined_steps to_second s t = uses_between s t
joined_steps to_first s t = uses_between t s
joined_steps apart s t = []

abbrev pub element_type : PlainArg → Option PlainTy
element_type (given (array_type t)) = Some t
element_type _ = None

abbrev pub element_or_void : PlainArg → PlainTy
element_or_void t = type_or_void (element_type t)

abbrev pub array_of : Base → ℕ → PlainTy
array_of b dims = with_brackets dims (base_type b)

abbrev pub array_name : Base → ℕ → TypeName
array_name b dims = record { base = b; dims = dims }

-- ---- literals and assignments

abbrev pub literal_tree : Option ℤ → tree.PlainExpr
literal_tree n = option_map_or tree.int_value n tree.null_value

abbrev pub least_tree : tree.PlainExpr
least_tree = tree.int_value (neg_ℤ (pos least_size))

abbrev pub set_place : tree.PlainPlace → tree.PlainExpr → tree.PlainExpr
set_place (tree.local_place n) v = tree.set_local n v
set_place (tree.static_place f) v = tree.set_static f v
set_place (tree.field_place e f) v = tree.set_field e f v
set_place (tree.element_place a i) v = tree.set_element a i v

abbrev pub behind : Option tree.PlainExpr → tree.PlainExpr → tree.PlainExpr
behind None e = e
behind (Some first) e = tree.first_then first false e

-- an assignment of any form needs a variable that may be assigned, and is open
abbrev pub place_needs : Placing → List Need
place_needs p = need kind.Final p.assignable ∷ need kind.Access p.open_here ∷ []

abbrev pub step_operator : Bool → BinaryOp
step_operator true = node_op.Add
step_operator false = node_op.Sub

abbrev pub update : Placing → BinaryOp → tree.PlainExpr → Bool → tree.PlainExpr
update p o v post = behind p.first (tree.update_place p.place o v post)

abbrev pub compound_tree : Option BinaryOp → Placing → tree.PlainExpr → tree.PlainExpr
compound_tree None p v = v
compound_tree (Some o) p v = update p o v false

-- what the grammar has where a variable is assigned
abbrev pub is_place : source.PlainExpr → Bool
is_place (source.simple_name at x) = true
is_place (source.dot at e name) = true
is_place (source.super_field at name) = true
is_place (source.element at a i) = true
is_place _ = false

-- ---- the productions

mutual
  pub data Composes (c : Context) : source.PlainExpr → List Need → Typing → Type 0 where
    -- JLS 15.8
    int_literal : {at n : ℕ} {decimal : Bool} → Composes c (source.int_literal at n decimal) (need kind.Literal (is_some (literal_value n decimal)) ∷ [])
        (typing (literal_tree (literal_value n decimal)) (given int_type) [])
    bool_literal : {at : ℕ} {b : Bool} → Composes c (source.bool_literal at b) [] (typing (tree.bool_value b) (given bool_type) [])
    null_literal : {at : ℕ} → Composes c (source.null_literal at) [] (typing tree.null_value null_arg [])
    this_value : {at : ℕ} → Composes c (source.this_value at) (need kind.Static (has_this c) ∷ []) (typing this_tree (given (class_type c.class)) [])
    paren : {at : ℕ} {e : source.PlainExpr} {t : Typing} → Types c e t → Composes c (source.paren at e) [] t
    -- JLS 6.5.6, 15.11
    simple_name : {at : ℕ} {x : Named} → Composes c (source.simple_name at x) (name_needs c (meaning_of c x)) (name_typing c (meaning_of c x))
    field_of_type : {at : ℕ} {e : source.PlainExpr} {class name : Named} → type_before_dot c e ≡ Some class
        → Composes c (source.dot at e name) (field_needs (type_field_needs c) (field_of (world_at c) class name)) (field_typing (type_field_typing class) (field_of (world_at c) class name))
    field_of_value : {at : ℕ} {e : source.PlainExpr} {class name : Named} {t : Typing} {v : Option Value} → type_before_dot c e ≡ None → Types c e t
        → member_of t.type name ≡ of_class class → FoundWorth c (field_of (world_at c) class name) v
        → Composes c (source.dot at e name) (field_needs (λ f. need kind.Access (is_open c f) ∷ []) (field_of (world_at c) class name))
        (field_typing (behind_field_typing t class v) (field_of (world_at c) class name))
    length_of_array : {at : ℕ} {e : source.PlainExpr} {name : Named} {t : Typing} → type_before_dot c e ≡ None → Types c e t → member_of t.type name ≡ array_size
        → Composes c (source.dot at e name) [] (typing (tree.array_length t.tree) (given int_type) t.steps)
    field_of_nothing : {at : ℕ} {e : source.PlainExpr} {name : Named} {t : Typing} → type_before_dot c e ≡ None → Types c e t → member_of t.type name ≡ no_member
        → Composes c (source.dot at e name) (need kind.Name false ∷ []) no_typing
    super_field : {at : ℕ} {class name : Named} {v : Option Value} → superclass_at c ≡ Some class → FoundWorth c (field_of (world_at c) class name) v
        → Composes c (source.super_field at name) (field_needs (super_field_needs c) (field_of (world_at c) class name))
        (field_typing (super_field_typing c class v) (field_of (world_at c) class name))
    -- an interface has no superclass
    no_super_field : {at : ℕ} {name : Named} → superclass_at c ≡ None → Composes c (source.super_field at name) (need kind.Name false ∷ []) no_typing
    -- JLS 15.12
    call : {at : ℕ} {name : Named} {args : source.PlainExprs} {ts : List Typing} {m : Choice} → TypesAll c args ts
        → MostSpecific (world_at c) c.class c.class name (types_in ts) m → Composes c (source.call at name args) (choice_needs (own_call_needs c) m) (choice_typing (own_call c ts) m)
    call_of_type : {at : ℕ} {e : source.PlainExpr} {class name : Named} {args : source.PlainExprs} {ts : List Typing} {m : Choice} → type_before_dot c e ≡ Some class → TypesAll c args ts
        → MostSpecific (world_at c) c.class class name (types_in ts) m → Composes c (source.dot_call at e name args) (choice_needs type_call_needs m) (choice_typing (type_call class ts) m)
    call_of_value : {at : ℕ} {e : source.PlainExpr} {class name : Named} {args : source.PlainExprs} {t : Typing} {ts : List Typing} {m : Choice} → type_before_dot c e ≡ None → Types c e t
        → TypesAll c args ts → class_of_value t.type ≡ Some class → MostSpecific (world_at c) c.class class name (types_in ts) m
        → Composes c (source.dot_call at e name args) (choice_needs (λ m. []) m) (choice_typing (behind_call c t class ts) m)
    call_of_nothing : {at : ℕ} {e : source.PlainExpr} {name : Named} {args : source.PlainExprs} {t : Typing} {ts : List Typing} → type_before_dot c e ≡ None → Types c e t
        → TypesAll c args ts → class_of_value t.type ≡ None → Composes c (source.dot_call at e name args) (need kind.Method false ∷ []) no_typing
    super_call : {at : ℕ} {class name : Named} {args : source.PlainExprs} {ts : List Typing} {m : Choice} → superclass_at c ≡ Some class → TypesAll c args ts
        → MostSpecific (world_at c) c.class class name (types_in ts) m
        → Composes c (source.super_call at name args) (choice_needs (super_call_needs c) m) (choice_typing (super_method_call c class ts) m)
    no_super_call : {at : ℕ} {name : Named} {args : source.PlainExprs} {ts : List Typing} → superclass_at c ≡ None → TypesAll c args ts
        → Composes c (source.super_call at name args) (need kind.Method false ∷ []) no_typing
    -- JLS 15.9, 15.10
    new_object : {at : ℕ} {class : Named} {args : source.PlainExprs} {ts : List Typing} {m : Choice} → TypesAll c args ts
        → MostSpecific (world_at c) c.class class constructor_name (types_in ts) m
        → Composes c (source.new_object at class args) (need kind.Name (has_type (world_at c) class) ∷ choice_needs (new_needs c class) m) (choice_typing (new_typing class ts) m)
    new_array : {at dims : ℕ} {b : Base} {e : source.PlainExpr} {t : Typing} → Types c e t
        → Composes c (source.new_array at b e dims) (need kind.Name (is_known c (array_name b dims)) ∷ need kind.Operand (is_int t.type) ∷ [])
        (typing (tree.new_array (array_of b dims) t.tree) (given (array_of b dims)) t.steps)
    -- JLS 15.13
    element : {at : ℕ} {a i : source.PlainExpr} {s t : Typing} → Types c a s → Types c i t
        → Composes c (source.element at a i) (need kind.Operand (is_some (element_type s.type) && is_int t.type) ∷ [])
        (typing (tree.get_element s.tree t.tree) (given (element_or_void s.type)) (s.steps ++ t.steps))
    -- JLS 15.15; the least int is one literal with its sign (JLS 3.10.1)
    least : {at part_at : ℕ} → Composes c (source.unary at unop.Minus (source.int_literal part_at least_size true)) [] (typing least_tree (given int_type) [])
    unary : {at : ℕ} {o : UnaryOp} {e : source.PlainExpr} {t : Typing} → spells_least o e ≡ false → Types c e t
        → Composes c (source.unary at o e) (need kind.Operand (unary_takes o t.type) ∷ []) (typing (unary_tree o t.tree) (given (unary_gives o)) t.steps)
    -- JLS 15.14, 15.15
    step : {at : ℕ} {plus post : Bool} {e : source.PlainExpr} {p : Placing} → TypesPlace c e p
        → Composes c (source.step at plus post e) (need kind.Operand (is_int (given p.type)) ∷ place_needs p)
        (typing (update p (step_operator plus) (tree.int_value (pos 1)) post) (given p.type) p.steps)
    -- JLS 15.16
    cast : {at : ℕ} {ty : TypeName} {e : source.PlainExpr} {t : Typing} {form : CastForm} → Types c e t → CastAs (world_at c) t.type (type_of ty) form
        → Composes c (source.cast at ty e) (need kind.Name (is_known c ty) ∷ need kind.Cast (is_cast form) ∷ [])
        (typing (cast_tree form (type_of ty) t.tree) (given (type_of ty)) (t.steps ++ cast_steps form t.type (type_of ty)))
    -- JLS 15.17 to 15.24
    binary : {at : ℕ} {o : BinOp} {a b : source.PlainExpr} {s t : Typing} {together : Bool} → Types c a s → Types c b t
        → Decides together (compares_objects o s.type t.type ≡ true → GoTogether (world_at c) s.type t.type)
        → Composes c (source.binary at o a b) (need kind.Operand (binary_takes o s.type t.type) ∷ need kind.Cast together ∷ [])
        (typing (binary_tree o s.tree t.tree) (given (type_or_void (binary_gives o s.type t.type))) (s.steps ++ t.steps))
    -- JLS 15.20.2
    instance_of : {at : ℕ} {e : source.PlainExpr} {ty : TypeName} {t : Typing} {together : Bool} → Types c e t → Decides together (GoTogether (world_at c) t.type (given (type_of ty)))
        → Composes c (source.instance_of at e ty) (need kind.Name (is_known c ty) ∷ need kind.Operand (is_object t.type && is_reference (type_of ty)) ∷ need kind.Cast together ∷ [])
        (typing (tree.instance_of t.tree (type_of ty)) (given bool_type) t.steps)
    -- JLS 15.25
    conditional : {at : ℕ} {test a b : source.PlainExpr} {q s t : Typing} {j : Join} → Types c test q → Types c a s → Types c b t → Joins (world_at c) s.type t.type j
        → Composes c (source.conditional at test a b) (need kind.Operand (is_joined j) ∷ need kind.Condition (is_bool q.type) ∷ [])
        (typing (tree.conditional q.tree s.tree t.tree) (joined_type j s.type t.type) (q.steps ++ (s.steps ++ (t.steps ++ joined_steps j s.type t.type))))
    -- JLS 15.26.1
    assign : {at : ℕ} {place e : source.PlainExpr} {p : Placing} {t : Typing} {fits : Bool} → TypesPlace c place p → Types c e t → Decides fits (Fits (world_at c) t.type p.type)
        → Composes c (source.assign at None place e) (need kind.Assign fits ∷ place_needs p)
        (typing (behind p.first (set_place p.place t.tree)) (given p.type) (p.steps ++ (t.steps ++ uses t.type p.type)))
    -- JLS 15.26.2
    compound : {at : ℕ} {o : BinOp} {place e : source.PlainExpr} {p : Placing} {t : Typing} → TypesPlace c place p → Types c e t
        → Composes c (source.assign at (Some o) place e) (need kind.Operand (compound_takes o p.type t.type) ∷ place_needs p)
        (typing (compound_tree (node_operator o) p t.tree) (given p.type) (p.steps ++ t.steps))

  -- a node whose parts have rules and which lacks nothing; a constant is its value
  pub data Types (c : Context) : source.PlainExpr → Typing → Type 0 where
    types : {e : source.PlainExpr} {needs : List Need} {t : Typing} {v : Option Value} → Composes c e needs t → earliest_missing needs ≡ None → Worth c e v → Types c e (valued v t)

  -- arguments from left to right
  pub data TypesAll (c : Context) : source.PlainExprs → List Typing → Type 0 where
    no_arguments : TypesAll c source.no_exprs []
    more_arguments : {e : source.PlainExpr} {es : source.PlainExprs} {t : Typing} {ts : List Typing} → Types c e t → TypesAll c es ts → TypesAll c (source.more_exprs e es) (t ∷ ts)

  -- a variable that is assigned; that it may be and is open is needed by the whole
  pub data Places (c : Context) : source.PlainExpr → List Need → Placing → Type 0 where
    simple_place : {at : ℕ} {x : Named} → Places c (source.simple_name at x) (name_needs c (meaning_of c x)) (name_placing c (meaning_of c x))
    place_of_type : {at : ℕ} {e : source.PlainExpr} {class name : Named} → type_before_dot c e ≡ Some class
        → Places c (source.dot at e name) (field_needs type_field_place_needs (field_of (world_at c) class name)) (field_placing (type_field_placing c class) (field_of (world_at c) class name))
    place_of_value : {at : ℕ} {e : source.PlainExpr} {class name : Named} {t : Typing} → type_before_dot c e ≡ None → Types c e t → member_of t.type name ≡ of_class class
        → Places c (source.dot at e name) (field_needs (λ f. []) (field_of (world_at c) class name))
        (field_placing (behind_field_placing c (way_behind e) t class) (field_of (world_at c) class name))
    length_place : {at : ℕ} {e : source.PlainExpr} {name : Named} {t : Typing} → type_before_dot c e ≡ None → Types c e t → member_of t.type name ≡ array_size
        → Places c (source.dot at e name) [] (record no_placing { type = int_type; assignable = false })
    place_of_nothing : {at : ℕ} {e : source.PlainExpr} {name : Named} {t : Typing} → type_before_dot c e ≡ None → Types c e t → member_of t.type name ≡ no_member
        → Places c (source.dot at e name) (need kind.Name false ∷ []) no_placing
    super_place : {at : ℕ} {class name : Named} → superclass_at c ≡ Some class
        → Places c (source.super_field at name) (field_needs (super_place_needs c) (field_of (world_at c) class name))
        (field_placing (super_field_placing c class) (field_of (world_at c) class name))
    no_super_place : {at : ℕ} {name : Named} → superclass_at c ≡ None → Places c (source.super_field at name) (need kind.Name false ∷ []) no_placing
    element_place : {at : ℕ} {a i : source.PlainExpr} {s t : Typing} → Types c a s → Types c i t
        → Places c (source.element at a i) (need kind.Operand (is_some (element_type s.type) && is_int t.type) ∷ [])
        (record (placing (tree.element_place s.tree t.tree) (element_or_void s.type)) { steps = s.steps ++ t.steps })
    no_place : {e : source.PlainExpr} → is_place e ≡ false → Places c e (need kind.Name false ∷ []) no_placing

  pub data TypesPlace (c : Context) : source.PlainExpr → Placing → Type 0 where
    types_place : {e : source.PlainExpr} {needs : List Need} {p : Placing} → Places c e needs p → earliest_missing needs ≡ None → TypesPlace c e p

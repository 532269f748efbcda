-- The rule of each expression (after JLS 15 and JVMS 4.10.1). A node has a rule or not, and the type that it then gives. A
-- condition that speaks of the type of a part which has none counts as met.
use Rattle.std.specs.Prelude.{ℕ, ℤ, pos, negsuc, Bool, true, false, not, ◌&&◌, ◌||◌, ◌==◌, nat_lt, List, [], ◌∷◌, if◌then◌else◌, Option, Some, None, is_some, option_map, slice_get}
use Rattle.std.specs.List.{list_all}
use Rattle.std.specs.Str.{bytes_eq}
use Rattle.bcj_symbolic_trees.specs.declared.expression.UnaryOp.{UnaryOp}
use Rattle.bcj_symbolic_trees.specs.declared.expression.UnaryOp.TheVariants as unop
use Rattle.bcj_symbolic_trees.specs.declared.expression.BinaryOp.{BinaryOp}
use Rattle.bcj_symbolic_trees.specs.declared.expression.BinaryOp.TheVariants as op
use Rattle.bcj_symbolic_trees.specs.declared.expression.PrintKind.{PrintKind}
use Rattle.bcj_symbolic_trees.specs.declared.expression.PrintKind.TheVariants as print_kind
use Rattle.bcj_symbolic_trees.specs.Names.{object_name, print_stream_name, constructor_name}
use Rattle.bcj_symbolic_trees.specs.Types.{PlainTy, int_type, bool_type, void_type, class_type, array_type, PlainArg, given, null_arg, PlainFieldRef, PlainMethodRef}
use Rattle.bcj_symbolic_trees.specs.Units.{PlainPair}
use Rattle.bcj_symbolic_trees.specs.Trees.{PlainExpr, int_value, bool_value, null_value, get_local, set_local, get_static, set_static, get_field, set_field, get_element, set_element, array_length, update_place, unary, binary, and_also, or_else, conditional, new_object, new_array, call_static, call_virtual, call_interface, call_special, cast, widen, instance_of, first_then, print, PlainExprs, no_exprs, more_exprs, PlainPlace, local_place, static_place, field_place, element_place}
use Rattle.bcj_names.specs.Identifiers.{is_identifier}
use Rattle.bcj_symbolic_check.specs.Limits.{int_end}
use Rattle.bcj_symbolic_check.specs.Steps.{is_reference, is_void, is_array, is_value_type, is_result_type, is_type, is_object, throwable_type, steps_to}

-- what a body is typed in; a class initialiser has no result
pub record Frame : Type 0 where
  pub class : List ℕ
  pub superclass : Option (List ℕ)
  pub pairs : List PlainPair
  pub locals : List PlainTy
  pub has_this : Bool
  pub result : Option PlainTy

-- the type of a part, where it has one
abbrev pub Known : Type 0
Known = Option PlainArg

-- whether a node has a rule, and what it gives
pub record Judgement : Type 0 where
  pub holds : Bool
  pub gives : Known

abbrev pub judged : Bool → Known → Judgement
judged holds gives = record { holds = holds; gives = if holds then gives else None }

abbrev pub a_type : PlainTy → Known
a_type t = Some (given t)

-- a condition on the type of a part
abbrev pub is_met : (PlainArg → Bool) → Known → Bool
is_met test None = true
is_met test (Some t) = test t

abbrev pub is_int : PlainArg → Bool
is_int = is_type int_type

abbrev pub is_bool : PlainArg → Bool
is_bool = is_type bool_type

abbrev pub is_array_value : PlainArg → Bool
is_array_value (given t) = is_array t
is_array_value null_arg = false

abbrev pub is_value : PlainArg → Bool
is_value (given t) = not (is_void t)
is_value null_arg = true

-- the same of a part's type
unfoldable pub int_part : Known → Bool
int_part k = is_met is_int k

unfoldable pub bool_part : Known → Bool
bool_part k = is_met is_bool k

unfoldable pub object_part : Known → Bool
object_part k = is_met is_object k

unfoldable pub array_part : Known → Bool
array_part k = is_met is_array_value k

unfoldable pub value_part : Known → Bool
value_part k = is_met is_value k

-- a part of the first type steps to the second
unfoldable pub part_steps : List PlainPair → Known → Known → Bool
part_steps pairs None to = true
part_steps pairs (Some s) None = true
part_steps pairs (Some s) (Some t) = steps_to pairs s t

-- a part can be thrown
unfoldable pub is_thrown : List PlainPair → Known → Bool
is_thrown pairs k = part_steps pairs k (a_type throwable_type)

-- what an array's elements are
abbrev pub element_of : PlainArg → Known
element_of (given (array_type component)) = a_type component
element_of _ = None

unfoldable pub element_part : Known → Known
element_part None = None
element_part (Some t) = element_of t

unfoldable pub is_field_ref : PlainFieldRef → Bool
is_field_ref f = is_identifier f.class && (is_identifier f.name && is_value_type f.ty)

unfoldable pub are_value_types : List PlainTy → Bool
are_value_types ts = list_all is_value_type ts

unfoldable pub is_method_ref : PlainMethodRef → Bool
is_method_ref m = is_identifier m.class && (is_identifier m.name && (are_value_types m.params && is_result_type m.result))

unfoldable pub is_constructor_name : List ℕ → Bool
is_constructor_name name = bytes_eq name constructor_name

unfoldable pub is_constructor_ref : PlainMethodRef → Bool
is_constructor_ref m = is_identifier m.class && (is_constructor_name m.name && (are_value_types m.params && is_void m.result))

-- ---- operators

-- the groups of an operator's operands: `int`, `boolean`, and where said references
unfoldable pub in_group : Bool → PlainArg → Bool
in_group references t = is_int t || (is_bool t || (references && is_object t))

-- the types of two operands are in one group
unfoldable pub same_group : Bool → PlainArg → PlainArg → Bool
same_group references s t = (is_int s && is_int t) || ((is_bool s && is_bool t) || (references && (is_object s && is_object t)))

unfoldable pub takes_groups : Bool → Known → Known → Bool
takes_groups references None None = true
takes_groups references None (Some t) = in_group references t
takes_groups references (Some s) None = in_group references s
takes_groups references (Some s) (Some t) = same_group references s t

-- how an operator takes its operands: two numbers (JLS 15.17 to 15.20), two numbers or two truth values (JLS 15.22), or
-- two references besides (JLS 15.21)
unfoldable pub takes : BinaryOp → Known → Known → Bool
takes op.Or a b = takes_groups false a b
takes op.Xor a b = takes_groups false a b
takes op.And a b = takes_groups false a b
takes op.Eq a b = takes_groups true a b
takes op.Ne a b = takes_groups true a b
takes _ a b = int_part a && int_part b

unfoldable pub is_comparison : BinaryOp → Bool
is_comparison op.Eq = true
is_comparison op.Ne = true
is_comparison op.Lt = true
is_comparison op.Gt = true
is_comparison op.Le = true
is_comparison op.Ge = true
is_comparison _ = false

-- a comparison gives a truth value, and each other operator the type of its left operand, which is `int` where it takes numbers
unfoldable pub operator_gives : BinaryOp → Known → Known
operator_gives op.Or a = a
operator_gives op.Xor a = a
operator_gives op.And a = a
operator_gives op.Eq a = a_type bool_type
operator_gives op.Ne a = a_type bool_type
operator_gives op.Lt a = a_type bool_type
operator_gives op.Gt a = a_type bool_type
operator_gives op.Le a = a_type bool_type
operator_gives op.Ge a = a_type bool_type
operator_gives _ a = a_type int_type

unfoldable pub unary_takes : UnaryOp → Known → Bool
unary_takes unop.Not a = bool_part a
unary_takes _ a = int_part a

unfoldable pub unary_gives : UnaryOp → PlainTy
unary_gives unop.Not = bool_type
unary_gives _ = int_type

-- ---- arguments

unfoldable pub no_types : List PlainTy → Bool
no_types [] = true
no_types (t ∷ ts) = false

-- there are as many arguments as parameters, and each steps to its own
abbrev pub arguments_step : List PlainPair → List Known → List PlainTy → Bool
arguments_step pairs [] [] = true
arguments_step pairs (k ∷ ks) (t ∷ ts) = part_steps pairs k (a_type t) && arguments_step pairs ks ts
arguments_step pairs _ _ = false

abbrev pub print_takes : PrintKind → List Known → Bool
print_takes print_kind.Int (k ∷ []) = int_part k
print_takes print_kind.Bool (k ∷ []) = bool_part k
print_takes print_kind.Line [] = true
print_takes print_kind.Byte (k ∷ []) = int_part k
print_takes _ _ = false

-- the type of a choice of two values: the second's where the first steps to it, else the first's
unfoldable pub joined : List PlainPair → Known → Known → Known
joined pairs None b = b
joined pairs (Some s) None = None
joined pairs (Some s) (Some t) = if steps_to pairs s t then Some t else Some s

-- ---- the rule of each node, by the types of its parts

-- a value of `int`; `negsuc n` is -1 - n
unfoldable pub in_range : ℤ → Bool
in_range (pos n) = nat_lt n int_end
in_range (negsuc n) = nat_lt n int_end

unfoldable pub int_rule : ℤ → Judgement
int_rule n = judged (in_range n) (a_type int_type)

-- a local that there is
unfoldable pub local_rule : Known → Judgement
local_rule local = judged (is_some local) local

unfoldable pub local_store_rule : List PlainPair → Bool → Known → Known → Judgement
local_store_rule pairs hidden local value = judged (is_some local && (not hidden && part_steps pairs value local)) local

unfoldable pub static_rule : PlainFieldRef → Judgement
static_rule f = judged (is_field_ref f) (a_type f.ty)

unfoldable pub static_store_rule : List PlainPair → PlainFieldRef → Known → Judgement
static_store_rule pairs f value = judged (is_field_ref f && part_steps pairs value (a_type f.ty)) (a_type f.ty)

unfoldable pub field_rule : List PlainPair → PlainFieldRef → Known → Judgement
field_rule pairs f target = judged (is_field_ref f && part_steps pairs target (a_type (class_type f.class))) (a_type f.ty)

unfoldable pub field_store_rule : List PlainPair → PlainFieldRef → Known → Known → Judgement
field_store_rule pairs f target value =
    judged (is_field_ref f && (part_steps pairs target (a_type (class_type f.class)) && part_steps pairs value (a_type f.ty))) (a_type f.ty)

unfoldable pub element_rule : Known → Known → Judgement
element_rule array index = judged (array_part array && int_part index) (element_part array)

unfoldable pub element_store_rule : List PlainPair → Known → Known → Known → Judgement
element_store_rule pairs array index value =
    judged (array_part array && (int_part index && (value_part value && part_steps pairs value (element_part array)))) (element_part array)

unfoldable pub length_rule : Known → Judgement
length_rule array = judged (array_part array) (a_type int_type)

-- the place has a rule and this type
unfoldable pub update_rule : BinaryOp → Bool → Known → Known → Judgement
update_rule o holds place value = judged (holds && (not (is_comparison o) && takes o place value)) place

unfoldable pub unary_rule : UnaryOp → Known → Judgement
unary_rule o a = judged (unary_takes o a) (a_type (unary_gives o))

unfoldable pub binary_rule : BinaryOp → Known → Known → Judgement
binary_rule o a b = judged (takes o a b) (operator_gives o a)

unfoldable pub logic_rule : Known → Known → Judgement
logic_rule a b = judged (bool_part a && bool_part b) (a_type bool_type)

unfoldable pub choice_rule : List PlainPair → Known → Known → Known → Judgement
choice_rule pairs c a b =
    judged (bool_part c && (value_part a && (value_part b && (part_steps pairs a b || part_steps pairs b a)))) (joined pairs a b)

-- Object takes no arguments
unfoldable pub new_rule : PlainMethodRef → Bool → Judgement
new_rule m fits = judged (is_constructor_ref m && ((not (bytes_eq m.class object_name) || no_types m.params) && fits)) (a_type (class_type m.class))

unfoldable pub new_array_rule : PlainTy → Known → Judgement
new_array_rule t n = judged (is_array t && (is_value_type t && int_part n)) (a_type t)

unfoldable pub static_call_rule : PlainMethodRef → Bool → Judgement
static_call_rule m fits = judged (is_method_ref m && fits) (a_type m.result)

unfoldable pub call_rule : List PlainPair → PlainMethodRef → Known → Bool → Judgement
call_rule pairs m target fits = judged (is_method_ref m && (part_steps pairs target (a_type (class_type m.class)) && fits)) (a_type m.result)

unfoldable pub cast_rule : PlainTy → Known → Judgement
cast_rule t a = judged (is_reference t && (is_value_type t && object_part a)) (a_type t)

unfoldable pub widen_rule : List PlainPair → PlainTy → Known → Judgement
widen_rule pairs t a = judged (is_reference t && (is_value_type t && part_steps pairs a (a_type t))) (a_type t)

unfoldable pub instance_rule : PlainTy → Known → Judgement
instance_rule t a = judged (is_reference t && (is_value_type t && object_part a)) (a_type bool_type)

unfoldable pub then_rule : Bool → Known → Known → Judgement
then_rule null_test a b = judged (not null_test || object_part a) b

-- the local that holds `this`, where there is one (JVMS 2.6.1)
abbrev pub this_local : ℕ
this_local = 0

abbrev pub name_eq : Option (List ℕ) → List ℕ → Bool
name_eq None x = false
name_eq (Some y) x = bytes_eq y x

module _ (frame : Frame) where
  unfoldable pub is_this : ℕ → Bool
  is_this i = frame.has_this && i == this_local

  unfoldable pub local_known : ℕ → Known
  local_known i = option_map given (slice_get frame.locals i)

  -- a call on `this` of the class itself or of its superclass
  unfoldable pub is_special : PlainMethodRef → Bool
  is_special m =
      frame.has_this
      && ((bytes_eq m.class frame.class || name_eq frame.superclass m.class)
      && (not (bytes_eq m.class object_name) && part_steps frame.pairs (a_type (class_type frame.class)) (a_type (class_type m.class))))

  unfoldable pub special_rule : PlainMethodRef → Bool → Judgement
  special_rule m fits = judged ((is_method_ref m || is_constructor_ref m) && (is_special m && fits)) (a_type m.result)

  unfoldable pub print_rule : Bool → Judgement
  print_rule taken = judged (bytes_eq frame.class print_stream_name && taken) (a_type void_type)

  abbrev mutual
    pub judge : PlainExpr → Judgement
    judge (int_value n) = int_rule n
    judge (bool_value b) = judged true (a_type bool_type)
    judge null_value = judged true (Some null_arg)
    judge (get_local i) = local_rule (local_known i)
    judge (set_local i v) = local_store_rule frame.pairs (is_this i) (local_known i) (judge v).gives
    judge (get_static f) = static_rule f
    judge (set_static f v) = static_store_rule frame.pairs f (judge v).gives
    judge (get_field t f) = field_rule frame.pairs f (judge t).gives
    judge (set_field t f v) = field_store_rule frame.pairs f (judge t).gives (judge v).gives
    judge (get_element a i) = element_rule (judge a).gives (judge i).gives
    judge (set_element a i v) = element_store_rule frame.pairs (judge a).gives (judge i).gives (judge v).gives
    judge (array_length a) = length_rule (judge a).gives
    judge (update_place p o v post) = update_rule o (judge_place p).holds (judge_place p).gives (judge v).gives
    judge (unary o a) = unary_rule o (judge a).gives
    judge (binary o a b) = binary_rule o (judge a).gives (judge b).gives
    judge (and_also a b) = logic_rule (judge a).gives (judge b).gives
    judge (or_else a b) = logic_rule (judge a).gives (judge b).gives
    judge (conditional c a b) = choice_rule frame.pairs (judge c).gives (judge a).gives (judge b).gives
    judge (new_object m args) = new_rule m (arguments_step frame.pairs (sorts args) m.params)
    judge (new_array t n) = new_array_rule t (judge n).gives
    judge (call_static m args) = static_call_rule m (arguments_step frame.pairs (sorts args) m.params)
    judge (call_virtual t m args) = call_rule frame.pairs m (judge t).gives (arguments_step frame.pairs (sorts args) m.params)
    judge (call_interface t m args) = call_rule frame.pairs m (judge t).gives (arguments_step frame.pairs (sorts args) m.params)
    judge (call_special m args) = special_rule m (arguments_step frame.pairs (sorts args) m.params)
    judge (cast t a) = cast_rule t (judge a).gives
    judge (widen t a) = widen_rule frame.pairs t (judge a).gives
    judge (instance_of a t) = instance_rule t (judge a).gives
    judge (first_then a null_test b) = then_rule null_test (judge a).gives (judge b).gives
    judge (print k args) = print_rule (print_takes k (sorts args))

    pub judge_place : PlainPlace → Judgement
    judge_place (local_place i) = local_rule (local_known i)
    judge_place (static_place f) = static_rule f
    judge_place (field_place t f) = field_rule frame.pairs f (judge t).gives
    judge_place (element_place a i) = element_rule (judge a).gives (judge i).gives

    pub sorts : PlainExprs → List Known
    sorts no_exprs = []
    sorts (more_exprs e rest) = (judge e).gives ∷ sorts rest

  -- the type of an expression, where it has one
  abbrev pub sort : PlainExpr → Known
  sort e = (judge e).gives

-- The typing of units as a relation (after the verifier of JVMS 4.10.1, and JLS 14 and 15 for statements and operands). Each
-- kind of node has one rule, whose premises type its parts: a tree of which some part has no type is typed by none. The laws
-- that the function of `Judgements`, `Statements` and `Classes` decides it stand in bcj_symbolic_soundness.
use Rattle.std.specs.Prelude.{◌≡◌, ◌⊎◌, ℕ, zero, suc, ◌<◌, ◌≤◌, ℤ, pos, FitsSigned, Bool, true, false, List, [], ◌∷◌, ◌++◌, length, codes, Option, Some, None, if◌then◌else◌}
use Rattle.std.specs.Int.{w32}
use Rattle.std.proofs.Common.{refl, inr, lit<, lit≤}
use Rattle.bcj_symbolic_trees.specs.declared.expression.UnaryOp.{UnaryOp}
use Rattle.bcj_symbolic_trees.specs.declared.expression.UnaryOp.TheVariants as unop
use Rattle.bcj_symbolic_trees.specs.declared.expression.BinaryOp.{BinaryOp}
use Rattle.bcj_symbolic_trees.specs.declared.expression.BinaryOp.TheVariants as op
use Rattle.bcj_symbolic_trees.specs.declared.expression.PrintKind.{PrintKind}
use Rattle.bcj_symbolic_trees.specs.declared.expression.PrintKind.TheVariants as print_kind
use Rattle.bcj_symbolic_trees.specs.declared.class_tree.ClassHead.{ClassHead}
use Rattle.bcj_symbolic_trees.specs.declared.class_tree.MethodKind.TheVariants as kind
use Rattle.bcj_symbolic_trees.specs.Names.{object_name, print_stream_name, constructor_name}
use Rattle.bcj_symbolic_trees.specs.Types.{PlainTy, int_type, bool_type, void_type, class_type, array_type, PlainArg, given, null_arg, PlainFieldRef, PlainMethodRef}
use Rattle.bcj_symbolic_trees.specs.Units.{PlainField, PlainPair, PlainMethod, PlainClass, PlainUnit}
use Rattle.bcj_symbolic_trees.specs.Trees as tree
use Rattle.bcj_symbolic_trees.specs.Trees.{PlainExpr, PlainExprs, PlainPlace, PlainStmt, PlainStmts, PlainCatches}
use Rattle.bcj_names.specs.Identifiers.{is_identifier, is_reserved, reserved_words}
use Rattle.bcj_symbolic_check.specs.Limits.{max_types, max_dimensions}
use Rattle.bcj_symbolic_check.specs.Steps.{dimensions, object_type, throwable_type}
use Rattle.bcj_symbolic_check.specs.Judgements.{Frame, this_local}
use Rattle.bcj_symbolic_check.specs.Classes.{has_this, init_frame, method_frame}

-- ---- lists

-- each item is so
pub data Each {A : Type 0} (P : A → Type 0) : List A → Type 0 where
  each_of_none : Each P []
  each_of_more : {x : A} {xs : List A} → P x → Each P xs → Each P (x ∷ xs)

-- no two items are alike
pub data Differ {A : Type 0} (Alike : A → A → Type 0) : List A → Type 0 where
  none_differ : Differ Alike []
  more_differ : {x : A} {xs : List A} → Each (λ y. ¬ Alike x y) xs → Differ Alike xs → Differ Alike (x ∷ xs)

-- a list that begins with another one
pub data Begins {A : Type 0} : List A → List A → Type 0 where
  begins_at_all : {xs : List A} → Begins [] xs
  begins_longer : {x : A} {ys xs : List A} → Begins ys xs → Begins (x ∷ ys) (x ∷ xs)

-- ---- types

-- a class or an array
pub data IsReference : PlainTy → Type 0 where
  class_reference : {name : List ℕ} → IsReference (class_type name)
  array_reference : {component : PlainTy} → IsReference (array_type component)

-- the same of the type of a value, where that of null counts as one
pub data IsReferenceOrNull : PlainArg → Type 0 where
  reference : {t : PlainTy} → IsReference t → IsReferenceOrNull (given t)
  null_reference : IsReferenceOrNull null_arg

-- the type of a value, as each but `void` is
pub data IsValue : PlainArg → Type 0 where
  number_value : IsValue (given int_type)
  truth_value : IsValue (given bool_type)
  reference_value : {s : PlainArg} → IsReferenceOrNull s → IsValue s

-- what stands behind the brackets is `int`, `boolean` or a class by its name
pub data HasElement : PlainTy → Type 0 where
  int_element : HasElement int_type
  bool_element : HasElement bool_type
  class_element : {name : List ℕ} → is_identifier name ≡ true → HasElement (class_type name)
  array_element : {component : PlainTy} → HasElement component → HasElement (array_type component)

-- a type of values
pub record IsValueType (t : PlainTy) : Type 0 where
  pub element : HasElement t
  pub flat : dimensions t ≤ max_dimensions

-- types of values, each of them
abbrev pub AreValueTypes : List PlainTy → Type 0
AreValueTypes ts = Each IsValueType ts

-- a type of results, which `void` is too
pub data IsResultType : PlainTy → Type 0 where
  void_result : IsResultType void_type
  value_result : {t : PlainTy} → IsValueType t → IsResultType t

-- a pair of a list
pub data IsListed : PlainPair → List PlainPair → Type 0 where
  listed_first : {p : PlainPair} {ps : List PlainPair} → IsListed p (p ∷ ps)
  listed_behind : {p q : PlainPair} {ps : List PlainPair} → IsListed p ps → IsListed p (q ∷ ps)

-- the steps from one type to another that a class takes whose pairs these are
pub data Step (pairs : List PlainPair) : PlainArg → PlainArg → Type 0 where
  same : {t : PlainArg} → Step pairs t t
  from_null : {t : PlainTy} → IsReference t → Step pairs null_arg (given t)
  to_object : {s : PlainTy} → IsReference s → Step pairs (given s) (given object_type)
  listed : {p : PlainPair} → IsListed p pairs → Step pairs (given p.from) (given p.to)

-- ---- what a reference names (JVMS 4.2.2)

-- a field by its class, its name and its type
pub record IsFieldRef (f : PlainFieldRef) : Type 0 where
  pub class : is_identifier f.class ≡ true
  pub name : is_identifier f.name ≡ true
  pub ty : IsValueType f.ty

-- a method by its class, its name and the types of its descriptor
pub record IsMethodRef (m : PlainMethodRef) : Type 0 where
  pub class : is_identifier m.class ≡ true
  pub name : is_identifier m.name ≡ true
  pub params : AreValueTypes m.params
  pub result : IsResultType m.result

-- a constructor, which has no result
pub record IsConstructorRef (m : PlainMethodRef) : Type 0 where
  pub class : is_identifier m.class ≡ true
  pub name : m.name ≡ constructor_name
  pub params : AreValueTypes m.params
  pub result : m.result ≡ void_type

-- ---- operators

-- `-` and `~` take a number, `!` a truth value, and each gives what it takes (JLS 15.15)
pub data UnaryTakes : UnaryOp → PlainTy → Type 0 where
  minus : UnaryTakes unop.Minus int_type
  flip : UnaryTakes unop.Flip int_type
  «not» : UnaryTakes unop.Not bool_type

-- operators that take operands of the same types (JLS 15.17 to 15.22)
pub data OperatorGroup : Type 0 where
  arithmetic_group : OperatorGroup
  bitwise_group : OperatorGroup
  ordering_group : OperatorGroup
  equality_group : OperatorGroup

-- the group of an operator
abbrev pub group_of : BinaryOp → OperatorGroup
group_of op.Or = bitwise_group
group_of op.Xor = bitwise_group
group_of op.And = bitwise_group
group_of op.Eq = equality_group
group_of op.Ne = equality_group
group_of op.Lt = ordering_group
group_of op.Gt = ordering_group
group_of op.Le = ordering_group
group_of op.Ge = ordering_group
group_of op.Shl = arithmetic_group
group_of op.Shr = arithmetic_group
group_of op.Ushr = arithmetic_group
group_of op.Add = arithmetic_group
group_of op.Sub = arithmetic_group
group_of op.Mul = arithmetic_group
group_of op.Div = arithmetic_group
group_of op.Rem = arithmetic_group

-- the types of the operands, and that of the result
pub data Operates : BinaryOp → PlainArg → PlainArg → PlainTy → Type 0 where
  -- JLS 15.17 to 15.19
  on_numbers : {o : BinaryOp} → group_of o ≡ arithmetic_group → Operates o (given int_type) (given int_type) int_type
  -- JLS 15.22
  on_bits : {o : BinaryOp} → group_of o ≡ bitwise_group → Operates o (given int_type) (given int_type) int_type
  on_truth_values : {o : BinaryOp} → group_of o ≡ bitwise_group → Operates o (given bool_type) (given bool_type) bool_type
  -- JLS 15.20.1
  orders_numbers : {o : BinaryOp} → group_of o ≡ ordering_group → Operates o (given int_type) (given int_type) bool_type
  -- JLS 15.21
  equates_numbers : {o : BinaryOp} → group_of o ≡ equality_group → Operates o (given int_type) (given int_type) bool_type
  equates_truth_values : {o : BinaryOp} → group_of o ≡ equality_group → Operates o (given bool_type) (given bool_type) bool_type
  equates_references : {o : BinaryOp} {s t : PlainArg} → group_of o ≡ equality_group → IsReferenceOrNull s → IsReferenceOrNull t → Operates o s t bool_type

-- what a compound assignment takes (JLS 15.26.2)
pub data IsAssigning : BinaryOp → Type 0 where
  arithmetic_assigns : {o : BinaryOp} → group_of o ≡ arithmetic_group → IsAssigning o
  bitwise_assigns : {o : BinaryOp} → group_of o ≡ bitwise_group → IsAssigning o

-- the type of a choice of two values: the second's where the first steps to it, else the first's where the second does
pub data Joined (pairs : List PlainPair) : PlainArg → PlainArg → PlainArg → Type 0 where
  to_second : {s t : PlainArg} → Step pairs s t → Joined pairs s t t
  to_first : {s t : PlainArg} → ¬ Step pairs s t → Step pairs t s → Joined pairs s t s

-- ---- locals

-- the type of the local with this number
pub data At : List PlainTy → ℕ → PlainTy → Type 0 where
  at_first : {t : PlainTy} {ts : List PlainTy} → At (t ∷ ts) zero t
  at_next : {s t : PlainTy} {ts : List PlainTy} {i : ℕ} → At ts i t → At (s ∷ ts) (suc i) t

-- the local that holds `this`, where there is one
abbrev pub IsThis : Frame → ℕ → Type 0
IsThis frame i = (frame.has_this ≡ true) × (i ≡ this_local)

-- what a call on `this` names: the class itself or its superclass (JVMS 4.10.1.9, `invokespecial`)
pub record IsSpecial (frame : Frame) (class : List ℕ) : Type 0 where
  pub on_this : frame.has_this ≡ true
  pub own_or_super : (class ≡ frame.class) ⊎ (frame.superclass ≡ Some class)
  pub not_object : ¬ (class ≡ object_name)
  pub steps : Step frame.pairs (given (class_type frame.class)) (given (class_type class))

-- ---- expressions

mutual
  -- the type of an expression. A call without a result has the type `void`, and is no argument, target or value: `void` steps
  -- to itself alone, which no class has as the type of a variable or in a pair
  pub data HasType (frame : Frame) : PlainExpr → PlainArg → Type 0 where
    int_value : {n : ℤ} → FitsSigned w32 n → HasType frame (tree.int_value n) (given int_type)
    bool_value : {b : Bool} → HasType frame (tree.bool_value b) (given bool_type)
    null_value : HasType frame tree.null_value null_arg
    get_local : {i : ℕ} {t : PlainTy} → At frame.locals i t → HasType frame (tree.get_local i) (given t)
    set_local : {i : ℕ} {t : PlainTy} {v : PlainExpr} {s : PlainArg} → At frame.locals i t → ¬ IsThis frame i → HasType frame v s → Step frame.pairs s (given t)
        → HasType frame (tree.set_local i v) (given t)
    get_static : {f : PlainFieldRef} → IsFieldRef f → HasType frame (tree.get_static f) (given f.ty)
    set_static : {f : PlainFieldRef} {v : PlainExpr} {s : PlainArg} → IsFieldRef f → HasType frame v s → Step frame.pairs s (given f.ty)
        → HasType frame (tree.set_static f v) (given f.ty)
    get_field : {e : PlainExpr} {f : PlainFieldRef} {s : PlainArg} → IsFieldRef f → HasType frame e s → Step frame.pairs s (given (class_type f.class))
        → HasType frame (tree.get_field e f) (given f.ty)
    set_field : {e v : PlainExpr} {f : PlainFieldRef} {r s : PlainArg} → IsFieldRef f → HasType frame e r → Step frame.pairs r (given (class_type f.class))
        → HasType frame v s → Step frame.pairs s (given f.ty) → HasType frame (tree.set_field e f v) (given f.ty)
    get_element : {a i : PlainExpr} {t : PlainTy} → HasType frame a (given (array_type t)) → HasType frame i (given int_type) → HasType frame (tree.get_element a i) (given t)
    set_element : {a i v : PlainExpr} {t : PlainTy} {s : PlainArg} → HasType frame a (given (array_type t)) → HasType frame i (given int_type)
        → HasType frame v s → IsValue s → Step frame.pairs s (given t) → HasType frame (tree.set_element a i v) (given t)
    array_length : {a : PlainExpr} {t : PlainTy} → HasType frame a (given (array_type t)) → HasType frame (tree.array_length a) (given int_type)
    update_place : {p : PlainPlace} {o : BinaryOp} {v : PlainExpr} {post : Bool} {s : PlainArg} {t : PlainTy} → HasPlaceType frame p t → HasType frame v s
        → IsAssigning o → Operates o (given t) s t → HasType frame (tree.update_place p o v post) (given t)
    unary : {o : UnaryOp} {a : PlainExpr} {t : PlainTy} → UnaryTakes o t → HasType frame a (given t) → HasType frame (tree.unary o a) (given t)
    binary : {o : BinaryOp} {a b : PlainExpr} {r s : PlainArg} {t : PlainTy} → HasType frame a r → HasType frame b s → Operates o r s t → HasType frame (tree.binary o a b) (given t)
    and_also : {a b : PlainExpr} → HasType frame a (given bool_type) → HasType frame b (given bool_type) → HasType frame (tree.and_also a b) (given bool_type)
    or_else : {a b : PlainExpr} → HasType frame a (given bool_type) → HasType frame b (given bool_type) → HasType frame (tree.or_else a b) (given bool_type)
    conditional : {c a b : PlainExpr} {r s t : PlainArg} → HasType frame c (given bool_type) → HasType frame a r → IsValue r
        → HasType frame b s → IsValue s → Joined frame.pairs r s t → HasType frame (tree.conditional c a b) t
    -- the constructor of Object takes nothing
    new_object : {m : PlainMethodRef} {es : PlainExprs} → IsConstructorRef m → (m.class ≡ object_name → m.params ≡ []) → HaveTypes frame es m.params
        → HasType frame (tree.new_object m es) (given (class_type m.class))
    new_array : {t : PlainTy} {n : PlainExpr} → IsValueType (array_type t) → HasType frame n (given int_type) → HasType frame (tree.new_array (array_type t) n) (given (array_type t))
    call_static : {m : PlainMethodRef} {es : PlainExprs} → IsMethodRef m → HaveTypes frame es m.params → HasType frame (tree.call_static m es) (given m.result)
    call_virtual : {e : PlainExpr} {m : PlainMethodRef} {es : PlainExprs} {s : PlainArg} → IsMethodRef m → HasType frame e s → Step frame.pairs s (given (class_type m.class))
        → HaveTypes frame es m.params → HasType frame (tree.call_virtual e m es) (given m.result)
    call_interface : {e : PlainExpr} {m : PlainMethodRef} {es : PlainExprs} {s : PlainArg} → IsMethodRef m → HasType frame e s → Step frame.pairs s (given (class_type m.class))
        → HaveTypes frame es m.params → HasType frame (tree.call_interface e m es) (given m.result)
    -- of a method or a constructor
    call_special : {m : PlainMethodRef} {es : PlainExprs} → IsMethodRef m ⊎ IsConstructorRef m → IsSpecial frame m.class → HaveTypes frame es m.params
        → HasType frame (tree.call_special m es) (given m.result)
    cast : {t : PlainTy} {a : PlainExpr} {s : PlainArg} → IsReference t → IsValueType t → HasType frame a s → IsReferenceOrNull s → HasType frame (tree.cast t a) (given t)
    widen : {t : PlainTy} {a : PlainExpr} {s : PlainArg} → IsReference t → IsValueType t → HasType frame a s → Step frame.pairs s (given t) → HasType frame (tree.widen t a) (given t)
    instance_of : {a : PlainExpr} {t : PlainTy} {s : PlainArg} → IsReference t → IsValueType t → HasType frame a s → IsReferenceOrNull s
        → HasType frame (tree.instance_of a t) (given bool_type)
    first_then : {a b : PlainExpr} {null_test : Bool} {s t : PlainArg} → HasType frame a s → (null_test ≡ true → IsReferenceOrNull s) → HasType frame b t
        → HasType frame (tree.first_then a null_test b) t
    -- the boot class of that name alone prints
    print : {k : PrintKind} {es : PlainExprs} → frame.class ≡ print_stream_name → ArePrinted frame k es → HasType frame (tree.print k es) (given void_type)

  -- each argument steps to its parameter, and there are as many of both
  pub data HaveTypes (frame : Frame) : PlainExprs → List PlainTy → Type 0 where
    no_arguments : HaveTypes frame tree.no_exprs []
    more_arguments : {e : PlainExpr} {es : PlainExprs} {s : PlainArg} {t : PlainTy} {ts : List PlainTy} → HasType frame e s → Step frame.pairs s (given t) → HaveTypes frame es ts
        → HaveTypes frame (tree.more_exprs e es) (t ∷ ts)

  -- the type of the variable that an update reads and writes
  pub data HasPlaceType (frame : Frame) : PlainPlace → PlainTy → Type 0 where
    local_place : {i : ℕ} {t : PlainTy} → At frame.locals i t → HasPlaceType frame (tree.local_place i) t
    static_place : {f : PlainFieldRef} → IsFieldRef f → HasPlaceType frame (tree.static_place f) f.ty
    field_place : {e : PlainExpr} {f : PlainFieldRef} {s : PlainArg} → IsFieldRef f → HasType frame e s → Step frame.pairs s (given (class_type f.class))
        → HasPlaceType frame (tree.field_place e f) f.ty
    element_place : {a i : PlainExpr} {t : PlainTy} → HasType frame a (given (array_type t)) → HasType frame i (given int_type) → HasPlaceType frame (tree.element_place a i) t

  -- what is printed as a number, as a truth value, as a line's end and as one byte
  pub data ArePrinted (frame : Frame) : PrintKind → PlainExprs → Type 0 where
    print_int : {e : PlainExpr} → HasType frame e (given int_type) → ArePrinted frame print_kind.Int (tree.more_exprs e tree.no_exprs)
    print_bool : {e : PlainExpr} → HasType frame e (given bool_type) → ArePrinted frame print_kind.Bool (tree.more_exprs e tree.no_exprs)
    print_line : ArePrinted frame print_kind.Line tree.no_exprs
    print_byte : {e : PlainExpr} → HasType frame e (given int_type) → ArePrinted frame print_kind.Byte (tree.more_exprs e tree.no_exprs)

-- ---- statements

-- each has some type
pub data EachHasType (frame : Frame) : PlainExprs → Type 0 where
  none_typed : EachHasType frame tree.no_exprs
  more_typed : {e : PlainExpr} {es : PlainExprs} {t : PlainArg} → HasType frame e t → EachHasType frame es → EachHasType frame (tree.more_exprs e es)

mutual
  -- a statement has a rule where it stands, in a loop or not
  pub data HasRule (frame : Frame) : Bool → PlainStmt → Type 0 where
    evaluate : {looped : Bool} {e : PlainExpr} {t : PlainArg} → HasType frame e t → HasRule frame looped (tree.evaluate e)
    if_else : {looped : Bool} {c : PlainExpr} {a b : PlainStmt} → HasType frame c (given bool_type) → HasRule frame looped a → HasRule frame looped b
        → HasRule frame looped (tree.if_else c a b)
    -- behind the body of a `do` nothing is evaluated
    loop : {looped test_last : Bool} {c : PlainExpr} {body : PlainStmt} {update : PlainExprs} → HasType frame c (given bool_type) → HasRule frame true body
        → (test_last ≡ true → update ≡ tree.no_exprs) → EachHasType frame update → HasRule frame looped (tree.loop test_last c body update)
    break_loop : HasRule frame true tree.break_loop
    continue_loop : HasRule frame true tree.continue_loop
    return_nothing : {looped : Bool} → frame.result ≡ Some void_type → HasRule frame looped (tree.return_with tree.absent)
    return_value : {looped : Bool} {e : PlainExpr} {s : PlainArg} {t : PlainTy} → frame.result ≡ Some t → IsValue (given t) → HasType frame e s → Step frame.pairs s (given t)
        → HasRule frame looped (tree.return_with (tree.present e))
    throw : {looped : Bool} {e : PlainExpr} {s : PlainArg} → HasType frame e s → Step frame.pairs s (given throwable_type) → HasRule frame looped (tree.throw e)
    try_catch : {looped : Bool} {body : PlainStmts} {catches : PlainCatches} → HaveRules frame looped body → CatchesHaveRules frame looped catches
        → HasRule frame looped (tree.try_catch body catches)
    block : {looped : Bool} {body : PlainStmts} → HaveRules frame looped body → HasRule frame looped (tree.block body)

  -- a list of statements
  pub data HaveRules (frame : Frame) : Bool → PlainStmts → Type 0 where
    no_stmts : {looped : Bool} → HaveRules frame looped tree.no_stmts
    more_stmts : {looped : Bool} {s : PlainStmt} {rest : PlainStmts} → HasRule frame looped s → HaveRules frame looped rest → HaveRules frame looped (tree.more_stmts s rest)

  -- a class below Throwable is caught, into a local that takes its objects
  pub data CatchesHaveRules (frame : Frame) : Bool → PlainCatches → Type 0 where
    no_catches : {looped : Bool} → CatchesHaveRules frame looped tree.no_catches
    more_catches : {looped : Bool} {class : List ℕ} {i : ℕ} {t : PlainTy} {body : PlainStmts} {rest : PlainCatches} → is_identifier class ≡ true
        → Step frame.pairs (given (class_type class)) (given throwable_type) → At frame.locals i t → ¬ IsThis frame i → Step frame.pairs (given (class_type class)) (given t)
        → HaveRules frame looped body → CatchesHaveRules frame looped rest → CatchesHaveRules frame looped (tree.more_catches class i body rest)

-- ---- heads (JLS 8.1, 9.1)

-- Object and the interfaces have no superclass, and every other class has one by its name
pub data HasRightSuperclass (h : ClassHead) : Type 0 where
  topmost : (h.interface ≡ true) ⊎ (h.name ≡ object_name) → h.superclass ≡ None → HasRightSuperclass h
  below : (name : List ℕ) → h.interface ≡ false → ¬ (h.name ≡ object_name) → h.superclass ≡ Some name → is_identifier name ≡ true → HasRightSuperclass h

-- the head of a class or an interface
pub record HeadFits (h : ClassHead) : Type 0 where
  pub name : is_identifier h.name ≡ true
  pub superclass : HasRightSuperclass h
  pub interfaces : Each (λ name. is_identifier name ≡ true) h.interfaces

-- ---- fields (JLS 8.3, 9.3)

-- a constant is that of a static field of type `int` or `boolean`, and that of a `boolean` is 0 or 1
pub data ConstantFits : PlainTy → Bool → Option ℤ → Type 0 where
  no_constant : {t : PlainTy} {is_static : Bool} → ConstantFits t is_static None
  int_constant : {n : ℤ} → FitsSigned w32 n → ConstantFits int_type true (Some n)
  false_constant : ConstantFits bool_type true (Some (pos 0))
  true_constant : ConstantFits bool_type true (Some (pos 1))

-- a field of a class or an interface
pub record FieldFits (interface : Bool) (f : PlainField) : Type 0 where
  pub name : is_identifier f.name ≡ true
  pub ty : IsValueType f.ty
  pub static_in_interface : interface ≡ true → f.is_static ≡ true
  pub private_in_class : f.is_private ≡ true → interface ≡ false
  pub constant : ConstantFits f.ty f.is_static f.constant

-- the same name and the same type
abbrev pub SameField : PlainField → PlainField → Type 0
SameField f g = (f.name ≡ g.name) × (f.ty ≡ g.ty)

-- ---- methods (JLS 8.4, 8.8, 9.4)

-- the name and the result of a constructor (JVMS 2.9), and those of every other method
pub data NamedByKind (m : PlainMethod) : Type 0 where
  constructor_named : m.kind ≡ kind.Constructor → m.name ≡ constructor_name → m.result ≡ void_type → NamedByKind m
  method_named : ¬ (m.kind ≡ kind.Constructor) → is_identifier m.name ≡ true → IsResultType m.result → NamedByKind m

-- `this`, where there is one, and the parameters
abbrev pub first_locals : List ℕ → PlainMethod → List PlainTy
first_locals class m = if has_this m.kind then class_type class ∷ m.params else m.params

-- a method or constructor of a class or an interface
pub record MethodFits (interface : Bool) (class : List ℕ) (m : PlainMethod) : Type 0 where
  pub named : NamedByKind m
  pub params : AreValueTypes m.params
  pub locals : AreValueTypes m.locals
  pub first : Begins (first_locals class m) m.locals
  pub bare_if_abstract : m.kind ≡ kind.Abstract → (m.body ≡ tree.no_stmts) × (m.locals ≡ class_type class ∷ m.params)
  pub abstract_in_interface : interface ≡ true → m.kind ≡ kind.Abstract
  pub private_in_class : m.is_private ≡ true → (interface ≡ false) × ¬ (m.kind ≡ kind.Abstract)

-- the same name and the same descriptor
pub record SameMethod (m n : PlainMethod) : Type 0 where
  pub name : m.name ≡ n.name
  pub params : m.params ≡ n.params
  pub result : m.result ≡ n.result

-- constructors stand before the other methods
pub data ConstructorsFirst : List PlainMethod → Type 0 where
  constructor_first : {m : PlainMethod} {ms : List PlainMethod} → m.kind ≡ kind.Constructor → ConstructorsFirst ms → ConstructorsFirst (m ∷ ms)
  methods_behind : {ms : List PlainMethod} → Each (λ m. ¬ (m.kind ≡ kind.Constructor)) ms → ConstructorsFirst ms

-- ---- classes and units

-- a pair is of two types of values
pub record PairFits (p : PlainPair) : Type 0 where
  pub from : IsValueType p.from
  pub to : IsValueType p.to

-- the head and the members of a class that stands behind these in its unit
pub record ClassFits (before : List PlainClass) (c : PlainClass) : Type 0 where
  pub few : length before < max_types
  pub named_once : Each (λ b. ¬ (c.head.name ≡ b.head.name)) before
  pub head : HeadFits c.head
  pub fields : Each (FieldFits c.head.interface) c.fields
  pub fields_differ : Differ SameField c.fields
  pub init_locals : AreValueTypes c.init.locals
  pub methods : Each (MethodFits c.head.interface c.head.name) c.methods
  pub methods_differ : Differ SameMethod c.methods
  pub constructors_first : ConstructorsFirst c.methods
  pub pairs : Each PairFits c.pairs

-- the same with its bodies
pub record WellTypedClass (before : List PlainClass) (c : PlainClass) : Type 0 where
  pub fits : ClassFits before c
  pub init : HaveRules (init_frame c) false c.init.body
  pub methods : Each (λ m. HaveRules (method_frame c m) false m.body) c.methods

-- classes that stand behind others of their unit
pub data WellTypedBehind : List PlainClass → List PlainClass → Type 0 where
  no_classes : {before : List PlainClass} → WellTypedBehind before []
  more_classes : {before rest : List PlainClass} {c : PlainClass} → WellTypedClass before c → WellTypedBehind (before ++ c ∷ []) rest → WellTypedBehind before (c ∷ rest)

-- each class of the unit is well typed
abbrev pub WellTyped : PlainUnit → Type 0
WellTyped u = WellTypedBehind [] u.classes

-- ---- rows

-- in a method of class A with an `int` parameter n and the result `int`
abbrev row_frame : Frame
row_frame = record {
  class = codes "A";
  superclass = Some object_name;
  pairs = [];
  locals = class_type (codes "A") ∷ int_type ∷ [];
  has_this = true;
  result = Some int_type;
}

abbrev row_this : PlainExpr
row_this = tree.get_local 0

abbrev row_n : PlainExpr
row_n = tree.get_local 1

-- the field `int f` of A
abbrev row_field : PlainFieldRef
row_field = record { class = codes "A"; name = codes "f"; ty = int_type }

row_field_named : IsFieldRef row_field
unfolding is_identifier is_reserved reserved_words
row_field_named = record { class = refl; name = refl; ty = record { element = int_element; flat = lit≤ tt } }

-- `if (n < 0) throw null; this.f = n + 1; return this.f;`
pub body_row : HaveRules row_frame false
    (tree.more_stmts (tree.if_else (tree.binary op.Lt row_n (tree.int_value (pos 0))) (tree.throw tree.null_value) (tree.block tree.no_stmts))
    (tree.more_stmts (tree.evaluate (tree.set_field row_this row_field (tree.binary op.Add row_n (tree.int_value (pos 1)))))
    (tree.more_stmts (tree.return_with (tree.present (tree.get_field row_this row_field))) tree.no_stmts)))
body_row =
    more_stmts
    (if_else (binary (get_local (at_next at_first)) (int_value (record { sfits = lit< tt })) (orders_numbers refl)) (throw null_value (from_null class_reference)) (block no_stmts))
    (more_stmts
    (evaluate
    (set_field row_field_named (get_local at_first) same
    (binary (get_local (at_next at_first)) (int_value (record { sfits = lit< tt })) (on_numbers refl)) same))
    (more_stmts (return_value refl number_value (get_field row_field_named (get_local at_first) same) same) no_stmts))

-- `return !n;`
pub not_row : ¬ HaveRules row_frame false (tree.more_stmts (tree.return_with (tree.present (tree.unary unop.Not row_n))) tree.no_stmts)
not_row (more_stmts (return_value is n (unary u (get_local (at_next at_first))) k) rest) = elim u [ ]

-- `break;` outside a loop
pub break_row : ¬ HasRule row_frame false tree.break_loop
break_row h = elim h [ ]

-- `this = null`
pub this_row : (t : PlainArg) → ¬ HasType row_frame (tree.set_local 0 tree.null_value) t
this_row t (set_local l n v k) = n (refl, refl)

-- the length of null
pub length_row : (t : PlainArg) → ¬ HasType row_frame (tree.array_length tree.null_value) t
length_row t (array_length a) = elim a [ ]

-- Object without members
abbrev row_object : PlainClass
row_object = record {
  head = record { name = object_name; interface = false; is_abstract = false; superclass = None; interfaces = [] };
  fields = [];
  init = record { locals = []; body = tree.no_stmts };
  methods = [];
  pairs = [];
}

-- Object alone
pub object_row : WellTyped (record { classes = row_object ∷ [] })
unfolding is_identifier is_reserved reserved_words
object_row =
    more_classes
    (record {
      fits = record {
        few = lit< tt;
        named_once = each_of_none;
        head = record { name = refl; superclass = topmost (inr refl) refl; interfaces = each_of_none };
        fields = each_of_none;
        fields_differ = none_differ;
        init_locals = each_of_none;
        methods = each_of_none;
        methods_differ = none_differ;
        constructors_first = methods_behind each_of_none;
        pairs = each_of_none;
      };
      init = no_stmts;
      methods = each_of_none;
    })
    no_classes

-- a class of a name that one before it has
pub twice_row : (c : PlainClass) → ¬ WellTyped (record { classes = c ∷ c ∷ [] })
twice_row c (more_classes x (more_classes y none)) = once y.fits.named_once
  where
    once : ¬ Each (λ b. ¬ (c.head.name ≡ b.head.name)) (c ∷ [])
    once (each_of_more n rest) = n refl

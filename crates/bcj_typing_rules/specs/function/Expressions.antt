-- The typing of expressions as a function: the typing, or the place and the kind of the first fault. It asks of the world what `Answers`
-- has.
use Rattle.std.specs.Prelude.{◌≡◌, ◌↔◌, ℕ, pos, Bool, true, false, ◌&&◌, ◌||◌, List, [], ◌∷◌, ◌++◌, Option, None, Some, if◌then◌else◌, Decides}
use Rattle.std.specs.Option.{is_some, option_and_then}
use Rattle.bcj_parser_trees.specs.Trees as source
use Rattle.bcj_parser_trees.specs.declared.expression.UnaryOp.{UnaryOp}
use Rattle.bcj_parser_trees.specs.declared.expression.BinOp.{BinOp}
use Rattle.bcj_symbolic_trees.specs.Trees as tree
use Rattle.bcj_symbolic_trees.specs.Types.{PlainTy, int_type, bool_type, class_type, array_type, PlainArg, given, null_arg}
use Rattle.bcj_symbolic_trees.specs.Same.{same_type}
use Rattle.bcj_symbolic_trees.specs.Names.{constructor_name}
use Rattle.bcj_decl_rules.specs.declared.value.Value.{Value}
use Rattle.bcj_decl_rules.specs.World.{Named, Field, world_of, has_type, type_of}
use Rattle.bcj_decl_rules.specs.Subtypes.{is_reference, Subtype}
use Rattle.bcj_decl_rules.specs.Members.{field_of}
use Rattle.bcj_decl_rules.specs.Methods.{Choice, MostSpecific}
use Rattle.bcj_decl_rules.specs.Constants.{literal_value, IsConstant, IsConstantField}
use Rattle.bcj_decl_rules.specs.function.Constants.{Known, value_in, spells_least}
use Rattle.bcj_typing_rules.specs.declared.kind.Kind.{Kind}
use Rattle.bcj_typing_rules.specs.declared.kind.Kind.TheVariants as kind
use Rattle.bcj_typing_rules.specs.Premises.{Need, need, earliest_missing}
use Rattle.bcj_typing_rules.specs.Context.{Context, world_at, has_this, meaning_of, type_before_dot, is_known, superclass_at, is_interface, names_no_local, is_open, way_behind}
use Rattle.bcj_typing_rules.specs.Operators.{is_int, is_bool, is_object, is_value, unary_takes, unary_gives, unary_tree, binary_takes, binary_gives, type_or_void, compares_objects, node_operator, binary_tree, compound_takes}
use Rattle.bcj_typing_rules.specs.Casting.{CastForm, of_same, of_supertype, of_other, no_cast, Join, to_second, to_first, apart, uses}
use Rattle.bcj_typing_rules.specs.Expressions.{Typing, typing, no_typing, Placing, placing, no_placing, this_tree, valued, types_in, field_needs, field_typing, field_placing, name_needs, name_typing, name_placing, type_field_needs, type_field_place_needs, type_field_typing, type_field_placing, behind_field_typing, behind_field_placing, MemberOf, array_size, of_class, no_member, member_of, super_field_needs, super_place_needs, super_field_typing, super_field_placing, choice_needs, choice_typing, own_call_needs, own_call, type_call_needs, type_call, behind_call, super_call_needs, super_method_call, new_needs, new_typing, class_of_value, cast_tree, cast_steps, is_cast, is_joined, joined_type, joined_steps, element_type, element_or_void, array_of, array_name, literal_tree, least_tree, set_place, behind, place_needs, step_operator, update, compound_tree}
use Rattle.bcj_typing_rules.specs.Faults.{expr_at}

-- a result, or the first fault
pub data Outcome (A : Type 0) : Type 0 where
  result : A → Outcome A
  fault : ℕ → Kind → Outcome A

-- the first fault decides
abbrev pub and_then : {A B : Type 0} → Outcome A → (A → Outcome B) → Outcome B
and_then (result x) f = f x
and_then (fault at k) f = fault at k

abbrev pub settled : {A : Type 0} → ℕ → Option Kind → A → Outcome A
settled at None x = result x
settled at (Some k) x = fault at k

-- what the world answers: whether one type is a subtype of another, which method a type calls on another, and the values of constant fields
pub record Answers : Type 0 where
  pub subtype : PlainTy → PlainTy → Bool
  pub choose : Named → Named → Named → List PlainArg → Choice
  pub constant : Known

module _ (a : Answers) where
  abbrev pub fits : PlainArg → PlainTy → Bool
  fits (given s) t = a.subtype s t
  fits null_arg t = is_reference t

  abbrev pub is_null : PlainArg → Bool
  is_null null_arg = true
  is_null (given t) = false

  abbrev pub steps : PlainArg → PlainArg → Bool
  steps s (given t) = fits s t
  steps s null_arg = is_null s

  abbrev pub join_of : PlainArg → PlainArg → Join
  join_of s t = if steps s t then (if is_value s then to_second else apart) else (if steps t s then to_first else apart)

  -- one way or the other
  abbrev pub either_way : PlainTy → PlainTy → Bool
  either_way s t = (is_reference s && a.subtype s t) || (is_reference t && a.subtype t s)

  module _ (c : Context) where
    abbrev pub castable : PlainTy → PlainTy → Bool
    castable (class_type s) (class_type t) = either_way (class_type s) (class_type t) || (is_interface c t || is_interface c s)
    castable (array_type s) (array_type t) = either_way (array_type s) (array_type t) || castable s t
    castable s t = either_way s t

    abbrev pub go_together : PlainArg → PlainArg → Bool
    go_together (given s) (given t) = castable s t
    go_together null_arg t = is_object t
    go_together s null_arg = is_object s

    abbrev pub is_same : PlainArg → PlainTy → Bool
    is_same (given s) t = same_type s t
    is_same null_arg t = false

    abbrev pub cast_form : PlainArg → PlainTy → CastForm
    cast_form s t =
        if is_same s t then of_same else (if fits s t then of_supertype else (if go_together s (given t) then of_other else no_cast))

    -- the value of an expression as a constant
    abbrev pub value_here : source.PlainExpr → Option Value
    value_here e = if names_no_local c e then value_in (world_at c) a.constant c.class e else None

    abbrev pub found_value : Option Field → Option Value
    found_value f = option_and_then a.constant f

    abbrev pub chosen : Named → Named → List Typing → Choice
    chosen class name ts = a.choose c.class class name (types_in ts)

    -- a node whose parts have rules
    abbrev pub whole : source.PlainExpr → List Need → Typing → Outcome Typing
    whole e needs t = settled (expr_at e) (earliest_missing needs) (valued (value_here e) t)

    abbrev pub whole_place : source.PlainExpr → List Need → Placing → Outcome Placing
    whole_place e needs p = settled (expr_at e) (earliest_missing needs) p

    -- ---- nodes by their parts

    abbrev pub field_in_class : source.PlainExpr → Named → Typing → Named → Outcome Typing
    field_in_class e name t class =
        let f : Option Field = field_of (world_at c) class name in
        whole e (field_needs (λ g. need kind.Access (is_open c g) ∷ []) f) (field_typing (behind_field_typing t class (found_value f)) f)

    abbrev pub field_behind : source.PlainExpr → Named → Typing → MemberOf → Outcome Typing
    field_behind e name t array_size = whole e [] (typing (tree.array_length t.tree) (given int_type) t.steps)
    field_behind e name t (of_class class) = field_in_class e name t class
    field_behind e name t no_member = whole e (need kind.Name false ∷ []) no_typing

    abbrev pub field_of_named : source.PlainExpr → Named → Named → Outcome Typing
    field_of_named e name class =
        whole e (field_needs (type_field_needs c) (field_of (world_at c) class name)) (field_typing (type_field_typing class) (field_of (world_at c) class name))

    abbrev pub super_read : source.PlainExpr → Named → Option Named → Outcome Typing
    super_read e name None = whole e (need kind.Name false ∷ []) no_typing
    super_read e name (Some class) =
        let f : Option Field = field_of (world_at c) class name in
        whole e (field_needs (super_field_needs c) f) (field_typing (super_field_typing c class (found_value f)) f)

    abbrev pub call_simple : source.PlainExpr → Named → List Typing → Outcome Typing
    call_simple e name ts =
        let m : Choice = chosen c.class name ts in
        whole e (choice_needs (own_call_needs c) m) (choice_typing (own_call c ts) m)

    abbrev pub call_named : source.PlainExpr → Named → Named → List Typing → Outcome Typing
    call_named e class name ts =
        let m : Choice = chosen class name ts in
        whole e (choice_needs type_call_needs m) (choice_typing (type_call class ts) m)

    abbrev pub call_behind : source.PlainExpr → Named → Typing → List Typing → Option Named → Outcome Typing
    call_behind e name t ts None = whole e (need kind.Method false ∷ []) no_typing
    call_behind e name t ts (Some class) =
        let m : Choice = chosen class name ts in
        whole e (choice_needs (λ n. []) m) (choice_typing (behind_call c t class ts) m)

    abbrev pub call_super : source.PlainExpr → Named → List Typing → Option Named → Outcome Typing
    call_super e name ts None = whole e (need kind.Method false ∷ []) no_typing
    call_super e name ts (Some class) =
        let m : Choice = chosen class name ts in
        whole e (choice_needs (super_call_needs c) m) (choice_typing (super_method_call c class ts) m)

    abbrev pub new_of : source.PlainExpr → Named → List Typing → Outcome Typing
    new_of e class ts =
        let m : Choice = chosen class constructor_name ts in
        whole e (need kind.Name (has_type (world_at c) class) ∷ choice_needs (new_needs c class) m) (choice_typing (new_typing class ts) m)

    abbrev pub together : BinOp → PlainArg → PlainArg → Bool
    together o s t = if compares_objects o s t then go_together s t else true

    abbrev pub assigned : source.PlainExpr → Option BinOp → Placing → Typing → Outcome Typing
    assigned e None p t =
        whole e (need kind.Assign (fits t.type p.type) ∷ place_needs p)
        (typing (behind p.first (set_place p.place t.tree)) (given p.type) (p.steps ++ (t.steps ++ uses t.type p.type)))
    assigned e (Some o) p t =
        whole e (need kind.Operand (compound_takes o p.type t.type) ∷ place_needs p)
        (typing (compound_tree (node_operator o) p t.tree) (given p.type) (p.steps ++ t.steps))

    abbrev pub place_behind : source.PlainExpr → source.PlainExpr → Named → Typing → MemberOf → Outcome Placing
    place_behind e target name t array_size = whole_place e [] (record no_placing { type = int_type; assignable = false })
    place_behind e target name t (of_class class) =
        let f : Option Field = field_of (world_at c) class name in
        whole_place e (field_needs (λ g. []) f) (field_placing (behind_field_placing c (way_behind target) t class) f)
    place_behind e target name t no_member = whole_place e (need kind.Name false ∷ []) no_placing

    abbrev pub place_of_named : source.PlainExpr → Named → Named → Outcome Placing
    place_of_named e name class =
        let f : Option Field = field_of (world_at c) class name in
        whole_place e (field_needs type_field_place_needs f) (field_placing (type_field_placing c class) f)

    abbrev pub super_place : source.PlainExpr → Named → Option Named → Outcome Placing
    super_place e name None = whole_place e (need kind.Name false ∷ []) no_placing
    super_place e name (Some class) =
        let f : Option Field = field_of (world_at c) class name in
        whole_place e (field_needs (super_place_needs c) f) (field_placing (super_field_placing c class) f)

    -- a name before a dot may be that of a type, and is no part then
    abbrev pub dot_of : ℕ → source.PlainExpr → Named → Outcome Typing → Option Named → Outcome Typing
    dot_of at e name part (Some class) = field_of_named (source.dot at e name) name class
    dot_of at e name part None = and_then part (λ t. field_behind (source.dot at e name) name t (member_of t.type name))

    abbrev pub dot_place_of : ℕ → source.PlainExpr → Named → Outcome Typing → Option Named → Outcome Placing
    dot_place_of at e name part (Some class) = place_of_named (source.dot at e name) name class
    dot_place_of at e name part None = and_then part (λ t. place_behind (source.dot at e name) e name t (member_of t.type name))

    abbrev pub dot_call_of : ℕ → source.PlainExpr → Named → source.PlainExprs → Outcome Typing → Outcome (List Typing) → Option Named → Outcome Typing
    dot_call_of at e name args part parts (Some class) = and_then parts (λ ts. call_named (source.dot_call at e name args) class name ts)
    dot_call_of at e name args part parts None =
        and_then part (λ t. and_then parts (λ ts. call_behind (source.dot_call at e name args) name t ts (class_of_value t.type)))

    -- a literal with its sign is one literal
    abbrev pub unary_of : ℕ → UnaryOp → source.PlainExpr → Outcome Typing → Bool → Outcome Typing
    unary_of at o e part true = whole (source.unary at o e) [] (typing least_tree (given int_type) [])
    unary_of at o e part false =
        and_then part
        (λ t. whole (source.unary at o e) (need kind.Operand (unary_takes o t.type) ∷ []) (typing (unary_tree o t.tree) (given (unary_gives o)) t.steps))

    -- ---- expressions

    abbrev mutual
      pub type_expr : source.PlainExpr → Outcome Typing
      type_expr (source.int_literal at n decimal) =
          whole (source.int_literal at n decimal) (need kind.Literal (is_some (literal_value n decimal)) ∷ []) (typing (literal_tree (literal_value n decimal)) (given int_type) [])
      type_expr (source.bool_literal at b) = whole (source.bool_literal at b) [] (typing (tree.bool_value b) (given bool_type) [])
      type_expr (source.null_literal at) = whole (source.null_literal at) [] (typing tree.null_value null_arg [])
      type_expr (source.this_value at) = whole (source.this_value at) (need kind.Static (has_this c) ∷ []) (typing this_tree (given (class_type c.class)) [])
      type_expr (source.simple_name at x) = whole (source.simple_name at x) (name_needs c (meaning_of c x)) (name_typing c (meaning_of c x))
      type_expr (source.paren at e) = and_then (type_expr e) (λ t. whole (source.paren at e) [] t)
      type_expr (source.dot at e name) = dot_of at e name (type_expr e) (type_before_dot c e)
      type_expr (source.super_field at name) = super_read (source.super_field at name) name (superclass_at c)
      type_expr (source.call at name args) = and_then (type_exprs args) (λ ts. call_simple (source.call at name args) name ts)
      type_expr (source.dot_call at e name args) = dot_call_of at e name args (type_expr e) (type_exprs args) (type_before_dot c e)
      type_expr (source.super_call at name args) = and_then (type_exprs args) (λ ts. call_super (source.super_call at name args) name ts (superclass_at c))
      type_expr (source.new_object at class args) = and_then (type_exprs args) (λ ts. new_of (source.new_object at class args) class ts)
      type_expr (source.new_array at b e dims) =
          and_then (type_expr e)
          (λ t.
          whole (source.new_array at b e dims) (need kind.Name (is_known c (array_name b dims)) ∷ need kind.Operand (is_int t.type) ∷ [])
          (typing (tree.new_array (array_of b dims) t.tree) (given (array_of b dims)) t.steps))
      type_expr (source.element at x i) =
          and_then (type_expr x)
          (λ s.
          and_then (type_expr i)
          (λ t.
          whole (source.element at x i) (need kind.Operand (is_some (element_type s.type) && is_int t.type) ∷ [])
          (typing (tree.get_element s.tree t.tree) (given (element_or_void s.type)) (s.steps ++ t.steps))))
      type_expr (source.unary at o e) = unary_of at o e (type_expr e) (spells_least o e)
      type_expr (source.step at plus post e) =
          and_then (type_place e)
          (λ p.
          whole (source.step at plus post e) (need kind.Operand (is_int (given p.type)) ∷ place_needs p)
          (typing (update p (step_operator plus) (tree.int_value (pos 1)) post) (given p.type) p.steps))
      type_expr (source.cast at ty e) =
          and_then (type_expr e)
          (λ t.
          whole (source.cast at ty e) (need kind.Name (is_known c ty) ∷ need kind.Cast (is_cast (cast_form t.type (type_of ty))) ∷ [])
          (typing (cast_tree (cast_form t.type (type_of ty)) (type_of ty) t.tree) (given (type_of ty)) (t.steps ++ cast_steps (cast_form t.type (type_of ty)) t.type (type_of ty))))
      type_expr (source.binary at o x y) =
          and_then (type_expr x)
          (λ s.
          and_then (type_expr y)
          (λ t.
          whole (source.binary at o x y) (need kind.Operand (binary_takes o s.type t.type) ∷ need kind.Cast (together o s.type t.type) ∷ [])
          (typing (binary_tree o s.tree t.tree) (given (type_or_void (binary_gives o s.type t.type))) (s.steps ++ t.steps))))
      type_expr (source.instance_of at e ty) =
          and_then (type_expr e)
          (λ t.
          whole (source.instance_of at e ty)
          (need kind.Name (is_known c ty) ∷ need kind.Operand (is_object t.type && is_reference (type_of ty)) ∷ need kind.Cast (go_together t.type (given (type_of ty))) ∷ [])
          (typing (tree.instance_of t.tree (type_of ty)) (given bool_type) t.steps))
      type_expr (source.conditional at test x y) =
          and_then (type_expr test)
          (λ q.
          and_then (type_expr x)
          (λ s.
          and_then (type_expr y)
          (λ t.
          whole (source.conditional at test x y) (need kind.Operand (is_joined (join_of s.type t.type)) ∷ need kind.Condition (is_bool q.type) ∷ [])
          (typing (tree.conditional q.tree s.tree t.tree) (joined_type (join_of s.type t.type) s.type t.type)
          (q.steps ++ (s.steps ++ (t.steps ++ joined_steps (join_of s.type t.type) s.type t.type)))))))
      type_expr (source.assign at o place e) = and_then (type_place place) (λ p. and_then (type_expr e) (λ t. assigned (source.assign at o place e) o p t))

      pub type_exprs : source.PlainExprs → Outcome (List Typing)
      type_exprs source.no_exprs = result []
      type_exprs (source.more_exprs e es) = and_then (type_expr e) (λ t. and_then (type_exprs es) (λ ts. result (t ∷ ts)))

      -- a variable that is assigned; the grammar has no other expression there
      pub type_place : source.PlainExpr → Outcome Placing
      type_place (source.simple_name at x) = whole_place (source.simple_name at x) (name_needs c (meaning_of c x)) (name_placing c (meaning_of c x))
      type_place (source.dot at e name) = dot_place_of at e name (type_expr e) (type_before_dot c e)
      type_place (source.super_field at name) = super_place (source.super_field at name) name (superclass_at c)
      type_place (source.element at x i) =
          and_then (type_expr x)
          (λ s.
          and_then (type_expr i)
          (λ t.
          whole_place (source.element at x i) (need kind.Operand (is_some (element_type s.type) && is_int t.type) ∷ [])
          (record (placing (tree.element_place s.tree t.tree) (element_or_void s.type)) { steps = s.steps ++ t.steps })))
      type_place e = whole_place e (need kind.Name false ∷ []) no_placing

-- the answers are those of the world of the units
pub record AreRight (units : List source.PlainUnit) (a : Answers) : Type 0 where
  pub subtype : (s t : PlainTy) → Decides (a.subtype s t) (Subtype (world_of units) s t)
  pub choose : (from class name : Named) (args : List PlainArg) → MostSpecific (world_of units) from class name args (a.choose from class name args)
  pub constant : (f : Field) (v : Value) → (a.constant f ≡ Some v) ↔ IsConstantField units f v
  pub value : (from : Named) (e : source.PlainExpr) (v : Value) → (value_in (world_of units) a.constant from e ≡ Some v) ↔ IsConstant units from e v

-- a choice of the world is the one that is answered
pub record AreOnly (units : List source.PlainUnit) (a : Answers) : Type 0 where
  pub choose : (from class name : Named) (args : List PlainArg) (m : Choice) → MostSpecific (world_of units) from class name args m → a.choose from class name args ≡ m

-- The typing of members, types and units as a function: what they become, or the place and the kind of the first fault.
use Rattle.std.specs.Prelude.{ℕ, Bool, true, false, List, [], ◌∷◌, ◌++◌, Option, None, Some, if◌then◌else◌, slice_get}
use Rattle.std.specs.List.{filter_map}
use Rattle.bcj_parser_trees.specs.declared.names.Param.{Param}
use Rattle.bcj_parser_trees.specs.Trees as source
use Rattle.bcj_symbolic_trees.specs.Trees as tree
use Rattle.bcj_symbolic_trees.specs.Types.{PlainTy}
use Rattle.bcj_symbolic_trees.specs.Units.{PlainField, PlainClass, PlainUnit}
use Rattle.bcj_symbolic_trees.specs.Names.{constructor_name}
use Rattle.bcj_decl_rules.specs.declared.value.Value.{Value}
use Rattle.bcj_decl_rules.specs.World.{Named, Field, Method, field_with, method_with, param_types, is_private}
use Rattle.bcj_decl_rules.specs.Methods.{Choice}
use Rattle.bcj_decl_rules.specs.Faults.{is_static}
use Rattle.bcj_typing_rules.specs.declared.kind.Kind.TheVariants as kind
use Rattle.bcj_typing_rules.specs.Premises.{need, earliest_missing}
use Rattle.bcj_typing_rules.specs.Context.{Context, superclass_at}
use Rattle.bcj_typing_rules.specs.Casting.{uses}
use Rattle.bcj_typing_rules.specs.Expressions.{Typing, choice_needs}
use Rattle.bcj_typing_rules.specs.Statements.{Effects, block_of}
use Rattle.bcj_typing_rules.specs.Members.{Added, nothing_added, Part, Made, initialiser_context, method_context, constructor_context, before_this, first_types, field_record, start_value, set_own, unless_constant, called_class, call_added, with_initialisers, constructor_made, no_effects, constructor_members, method_record, class_from}
use Rattle.bcj_typing_rules.specs.function.Expressions.{Outcome, result, fault, and_then, settled, Answers, fits, chosen, type_expr, type_exprs}
use Rattle.bcj_typing_rules.specs.function.Statements.{run_all}

-- A member that has rules: a field with its value as a constant and with what its initialiser adds, where it has one; a block of the
-- class initialiser; a method; and a constructor with whether it is private, its parameters, its first call, whether that is the
-- superclass's, and its body.
pub data TypedMember : Type 0 where
  typed_field : Field → Option Value → Option Added → TypedMember
  typed_block : Effects → TypedMember
  typed_method : Made → TypedMember
  typed_constructor : Bool → List PlainTy → Added → Bool → Effects → TypedMember

-- ---- what members become

-- the types of the locals of the class initialiser behind a member
abbrev pub types_behind : List PlainTy → TypedMember → List PlainTy
types_behind types (typed_block b) = b.types
types_behind types _ = types

abbrev pub types_through : List PlainTy → List TypedMember → List PlainTy
types_through types [] = types
types_through types (m ∷ ms) = types_through (types_behind types m) ms

abbrev pub both_added : Added → Added → Added
both_added a b = record { trees = a.trees ++ b.trees; steps = a.steps ++ b.steps }

-- what a member adds to the class initialiser
abbrev pub static_of : TypedMember → Added
static_of (typed_field f v (Some a)) = if f.is_static then unless_constant v a else nothing_added
static_of (typed_block b) = record { trees = block_of b.trees ∷ []; steps = b.steps }
static_of _ = nothing_added

abbrev pub static_added : List TypedMember → Added
static_added [] = nothing_added
static_added (m ∷ ms) = both_added (static_of m) (static_added ms)

-- what a member adds where an object is made
abbrev pub instance_of : TypedMember → Added
instance_of (typed_field f v (Some a)) = if f.is_static then nothing_added else a
instance_of _ = nothing_added

abbrev pub instance_added : List TypedMember → Added
instance_added [] = nothing_added
instance_added (m ∷ ms) = both_added (instance_of m) (instance_added ms)

abbrev pub field_made : TypedMember → Option PlainField
field_made (typed_field f v a) = Some (field_record f (start_value f.is_static v))
field_made _ = None

abbrev pub method_made : TypedMember → Option Made
method_made (typed_method m) = Some m
method_made _ = None

-- a constructor of the class with the initialisers of its objects
abbrev pub constructor_of : Named → Added → TypedMember → Option Made
constructor_of class i (typed_constructor hidden params first to_super b) =
    Some (constructor_made class params hidden b.types first (with_initialisers to_super i) b)
constructor_of class i _ = None

-- the constructor that a class has where it writes none
abbrev pub default_made : Named → Added → Option Added → List Made
default_made class i None = []
default_made class i (Some first) =
    constructor_made class [] false (first_types class false []) first i (no_effects (first_types class false [])) ∷ []

abbrev pub constructors_made : Named → Added → Option Added → List TypedMember → List Made
constructors_made class i default ms = default_made class i default ++ filter_map (constructor_of class i) ms

abbrev pub initialiser_made : List TypedMember → Part
initialiser_made ms = record { types = types_through [] ms; trees = (static_added ms).trees; steps = (static_added ms).steps }

-- the class of a type by its members and the first call of the constructor that it doesn't write
abbrev pub class_of : source.PlainType → List TypedMember → Option Added → PlainClass
class_of t ms default =
    class_from t (filter_map field_made ms) (initialiser_made ms)
    (constructors_made t.name (instance_added ms) default ms ++ filter_map method_made ms)

module _ (a : Answers) (units : List source.PlainUnit) where
  -- ---- members

  -- what the initialiser of a field adds; the first byte is that of the field
  abbrev pub type_initialiser : ℕ → Field → source.PlainExpr → Outcome Added
  type_initialiser at f e =
      and_then (type_expr a (initialiser_context units f.class f.is_static) e)
      (λ v.
      settled at (earliest_missing (need kind.Assign (fits a v.type f.ty) ∷ []))
      (record { trees = tree.evaluate (set_own f v.tree) ∷ []; steps = v.steps ++ uses v.type f.ty }))

  abbrev pub type_field : ℕ → Field → source.PlainOption → Outcome TypedMember
  type_field at f source.absent = result (typed_field f (a.constant f) None)
  type_field at f (source.present e) = and_then (type_initialiser at f e) (λ i. result (typed_field f (a.constant f) (Some i)))

  abbrev pub type_method : Method → List Param → source.PlainBody → Outcome TypedMember
  type_method m params source.no_body =
      result (typed_method (record { method = method_record m (first_types m.class (is_static m) (param_types params)) tree.no_stmts; steps = [] }))
  type_method m params (source.with_body body) =
      and_then (run_all a (method_context units m params) (first_types m.class (is_static m) (param_types params)) body)
      (λ b. result (typed_method (record { method = method_record m b.types (tree.stmts_from b.trees); steps = b.steps })))

  -- the call of a constructor of a class, where there is one, at a first byte
  abbrev pub type_first : Context → ℕ → List Typing → Option Named → Outcome Added
  type_first c at ts None = fault at kind.Method
  type_first c at ts (Some class) =
      let m : Choice = chosen a c class constructor_name ts in
      settled at (earliest_missing (choice_needs (λ n. []) m)) (call_added c class ts m)

  -- the statements of a constructor stand behind a first call that is written, and before one that isn't
  abbrev pub type_constructor : Context → List PlainTy → Bool → ℕ → source.PlainFirst → source.PlainStmts → Outcome TypedMember
  type_constructor c params hidden at source.no_first body =
      and_then (run_all a c (first_types c.class false params) body)
      (λ b. and_then (type_first c at [] (superclass_at c)) (λ first. result (typed_constructor hidden params first true b)))
  type_constructor c params hidden at (source.first_call first_at to_super args) body =
      and_then (type_exprs a (before_this c) args)
      (λ ts.
      and_then (type_first c first_at ts (called_class c to_super))
      (λ first.
      and_then (run_all a c (first_types c.class false params) body) (λ b. result (typed_constructor hidden params first to_super b))))

  -- the types of the locals of the class initialiser stand before the member
  abbrev pub type_member : source.PlainType → List PlainTy → source.PlainMember → Outcome TypedMember
  type_member t types (source.field_member at mods ty name init) = type_field at (field_with t.interface t.name mods ty name) init
  type_member t types (source.static_member at body) =
      and_then (run_all a (initialiser_context units t.name true) types body) (λ b. result (typed_block b))
  type_member t types (source.method_member at mods ret name params throws body) =
      type_method (method_with t.interface t.name mods ret name params) params body
  type_member t types (source.constructor_member at mods name params throws first body) =
      type_constructor (constructor_context units t.name params) (param_types params) (is_private mods) at first body

  -- in text order
  abbrev pub type_members : source.PlainType → List PlainTy → List source.PlainMember → Outcome (List TypedMember)
  type_members t types [] = result []
  type_members t types (m ∷ ms) =
      and_then (type_member t types m) (λ x. and_then (type_members t (types_behind types x) ms) (λ xs. result (x ∷ xs)))

  -- ---- the initialisers of objects alone

  abbrev pub type_instance : source.PlainType → source.PlainMember → Outcome Added
  type_instance t (source.field_member at mods ty name (source.present e)) =
      let f : Field = field_with t.interface t.name mods ty name in
      if f.is_static then result nothing_added else type_initialiser at f e
  type_instance t _ = result nothing_added

  abbrev pub type_initialisers : source.PlainType → List source.PlainMember → Outcome Added
  type_initialisers t [] = result nothing_added
  type_initialisers t (m ∷ ms) = and_then (type_instance t m) (λ x. and_then (type_initialisers t ms) (λ r. result (both_added x r)))

  -- ---- types and units

  -- the first call of the constructor that a class has where it writes none
  abbrev pub start_unless : source.PlainType → List source.PlainMember → Outcome (Option Added)
  start_unless t [] =
      let c : Context = constructor_context units t.name [] in
      and_then (type_first c t.at [] (superclass_at c)) (λ first. result (Some first))
  start_unless t (m ∷ ms) = result None

  abbrev pub default_start : source.PlainType → Outcome (Option Added)
  default_start t = if t.interface then result None else start_unless t (constructor_members t)

  abbrev pub type_class : source.PlainType → Outcome PlainClass
  type_class t = and_then (type_members t [] t.members) (λ ms. and_then (default_start t) (λ d. result (class_of t ms d)))

  abbrev pub type_types : List source.PlainType → Outcome (List PlainClass)
  type_types [] = result []
  type_types (t ∷ ts) = and_then (type_class t) (λ x. and_then (type_types ts) (λ xs. result (x ∷ xs)))

  -- a number past the last unit has no types
  abbrev pub types_of_unit : Option source.PlainUnit → source.PlainUnit
  types_of_unit None = []
  types_of_unit (Some unit) = unit

  abbrev pub type_unit : ℕ → Outcome PlainUnit
  type_unit own = and_then (type_types (types_of_unit (slice_get units own))) (λ xs. result (record { classes = xs }))
